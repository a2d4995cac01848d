use Rattle.std.proofs.Common.{ap, rules, tests}
use Rattle.stores.specs.Pairs.{Pairs}
use Rattle.store_demo.proofs.over.asked_slots.Goals as goal

pub returns : goal.returns
returns g c = let none = ap (λ (p : Pairs g.row.K.Denot). p.get c.args.key) c.new-store.ensures.empty in search (rules, tests)
