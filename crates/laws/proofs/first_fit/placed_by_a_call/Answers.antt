use Rattle.laws.proofs.PlacedByACall.{placed_by_a_call}
use Rattle.laws.proofs.first_fit.placed_by_a_call.Goals as goal

pub returns : goal.returns
returns c = placed_by_a_call
