use Rattle.laws.proofs.LongerRuns.{longer_law}
use Rattle.laws.proofs.longer.longer_from_shorter.Goals as goal

pub returns : goal.returns
returns c = longer_law
