use Rattle.laws.proofs.Outcomes.{conflicts_law}
use Rattle.laws.proofs.conflicts.conflicts_stand.Goals as goal

pub returns : goal.returns
returns c = conflicts_law
