use Rattle.laws.proofs.Limits.{never_full_law}
use Rattle.laws.proofs.never_full.never_full_stands.Goals as goal

pub returns : goal.returns
returns c = never_full_law
