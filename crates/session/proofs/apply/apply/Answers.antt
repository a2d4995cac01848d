use Rattle.std.proofs.Common.{rules}
use Rattle.session.proofs.Laws.{applied}
use Rattle.session.proofs.apply.apply.Goals as goal

pub returns-clause-lawful : goal.returns-clause-lawful
returns-clause-lawful g c = applied _ _ _ _ (search rules) (search rules)
