use Rattle.std.proofs.Common.{get_or, refl, ◌∙◌, arith}
use Rattle.std.proofs.lemmas.List.{length-set}
use Rattle.hash_store.specs.declared.slot.Slot.TheVariants.{Empty, Deleted}
use Rattle.hash_store.proofs.Slotted.{matches_full}
use Rattle.hash_store.proofs.Kept.{taken_some, taken_less, settled_deleted, unlike_deleted, drop_held, drop_none}
use Rattle.hash_store.proofs.hash.methods.HashStoreStore.remove.Goals as goal

pub overflow_sub-self : goal.overflow_sub-self
overflow_sub-self g c =
    let s = c.args.self.now in
    let xs = s.slots.now in
    omega (arith, taken_some xs c.in-Some.i (matches_full g.K.PartialEq.eq (g.K.Key.hash c.args.key) c.args.key (get_or xs c.in-Some.i Empty) c.in-Some.ensures.place))

pub invariant_of-self : goal.invariant_of-self
invariant_of-self g c =
    let s = c.args.self.now in
    let xs = s.slots.now in
    let i = c.in-Some.i in
    let t = c.in-Some.ensures in
    let size = length-set xs i Deleted in
    let less = taken_less xs i Deleted t.within (matches_full g.K.PartialEq.eq (g.K.Key.hash c.args.key) c.args.key (get_or xs i Empty) t.place) refl in
    record { enough = omega arith; counted = omega arith; settled = settled_deleted xs i t.within s.settled; different = unlike_deleted xs i t.within g.K.PartialEq.eq g.met.K.Eq.laws s.different }

pub returns-in-Some : goal.returns-in-Some
returns-in-Some g c =
    let s = c.args.self.now in
    let xs = s.slots.now in
    let t = c.in-Some.ensures in
    let m = g.met.K.Key in
    record {
      after = c.close.ensures.after ∙ drop_held g.K.PartialEq.eq g.K.Key.hash g.met.K.Eq.laws m.hashes c.args.key s.count xs c.in-Some.i t.within s.different t.place;
      places = c.close.ensures.places ∙ length-set xs c.in-Some.i Deleted;
    }

pub returns-in_default : goal.returns-in_default
returns-in_default g c =
    let s = c.args.self.now in
    let m = g.met.K.Key in
    record { after = drop_none g.K.PartialEq.eq g.K.Key.hash g.met.K.Eq.laws m.hashes c.args.key s.count s.slots.now c.in_default.ensures.place; places = refl }
