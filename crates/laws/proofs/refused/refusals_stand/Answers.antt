use Rattle.laws.proofs.RefusedExactly.{refused_exactly}
use Rattle.laws.proofs.refused.refusals_stand.Goals as goal

pub returns : goal.returns
returns c = refused_exactly
