use Rattle.laws.proofs.Runs.{bindings_law}
use Rattle.laws.proofs.bindings.bindings_stand.Goals as goal

pub returns : goal.returns
returns c = bindings_law
