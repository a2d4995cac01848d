use Rattle.laws.proofs.FirstFit.{first_fit}
use Rattle.laws.proofs.first_fit.first_fit_stands.Goals as goal

pub returns : goal.returns
returns c = first_fit
