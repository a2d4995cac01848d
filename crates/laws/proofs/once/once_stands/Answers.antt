use Rattle.laws.proofs.OnceRuns.{once_law}
use Rattle.laws.proofs.once.once_stands.Goals as goal

pub returns : goal.returns
returns c = once_law
