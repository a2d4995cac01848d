use Rattle.laws.proofs.OnceRuns.{counts_law}
use Rattle.laws.proofs.once.counts_stand.Goals as goal

pub returns : goal.returns
returns c = counts_law
