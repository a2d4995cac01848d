use Rattle.std.proofs.Common.{Some, sym, ap, ◌∙◌, rules}
use Rattle.std.proofs.lemmas.List.{get_or_default}
use Rattle.hash_store.specs.declared.slot.Slot.TheVariants.{Empty}
use Rattle.hash_store.specs.Slots.{number_in}
use Rattle.hash_store.proofs.Kept.{held_here, held_none, only}
use Rattle.hash_store.proofs.hash.methods.HashStoreStore.get.Goals as goal

pub returns-in-Full : goal.returns-in-Full
returns-in-Full g c =
    let s = c.args.self.now in
    let xs = s.slots.now in
    let i = c.in_ok-i.i in
    let t = c.in_ok-i.ensures in
    let e = g.K.PartialEq.eq in
    let hash = g.K.Key.hash in
    ap (λ z. Some (number_in z)) (sym c.in-Full.is ∙ get_or_default xs i _ Empty t.within)
    ∙ sym (held_here e hash c.args.key xs i t.place (only e hash g.met.K.Eq.laws c.args.key xs i s.different t.place))

pub returns-in_err-i : goal.returns-in_err-i
returns-in_err-i g c = let none = held_none g.K.PartialEq.eq g.K.Key.hash c.args.key c.args.self.now.slots.now c.in_err-i.ensures.place in search rules
