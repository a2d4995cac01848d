use Rattle.std.proofs.Common.{ap, ◌∙◌, arith}
use Rattle.std.proofs.lemmas.List.{length-set}
use Rattle.hash_store.specs.declared.slot.Slot.TheVariants.{Empty}
use Rattle.hash_store.specs.Slots.{is_full}
use Rattle.hash_store.proofs.Kept.{taken_same, unlike_emptied}
use Rattle.hash_store.proofs.Moved.{moved_taken, moved_settled, moved_unlike, moved_strain, moved_hashed, moved_free, emptied_settled, emptied_hashed}
use Rattle.hash_store.proofs.hash.HashStore.close.Goals as goal

-- Each answer cites another lemma of the move: what they share is the names of its arguments.

pub invariant_of-self : goal.invariant_of-self
invariant_of-self g c =
    let s = c.loop-at.self in
    let xs = s.slots.now in
    let ys = c.swap.new.self in
    let at = c.in-Some.at in
    let hole = c.loop-at.hole in
    let t = c.in-Some.ensures in
    let inv = c.loop-at.invariant in
    let w = c.swap.ensures in
    let size = w.len in
    let same = moved_taken xs ys at hole t.within inv.1 t.full inv.2 w.after in
    record {
      enough = omega arith;
      counted = omega arith;
      settled = moved_settled xs ys at hole t.within inv.1 t.full inv.2 w.after t.nearer s.settled;
      different = moved_unlike xs ys at hole t.within inv.1 t.full inv.2 w.after g.K.PartialEq.eq g.met.K.Eq.laws s.different;
    }

pub loop-at-smaller : goal.loop-at-smaller
loop-at-smaller g c =
    let xs = c.loop-at.self.slots.now in
    let t = c.in-Some.ensures in
    let inv = c.loop-at.invariant in
    moved_strain xs c.swap.new.self c.in-Some.at c.loop-at.hole t.within inv.1 t.full inv.2 c.swap.ensures.after t.nearer

pub loop-at-preserved : goal.loop-at-preserved
loop-at-preserved g c =
    let s = c.loop-at.self in
    let xs = s.slots.now in
    let ys = c.swap.new.self in
    let at = c.in-Some.at in
    let hole = c.loop-at.hole in
    let t = c.in-Some.ensures in
    let inv = c.loop-at.invariant in
    let w = c.swap.ensures in
    let size = w.len in (
      size ∙ inv.0,
      omega (arith, size, t.within),
      moved_free xs ys at hole t.within inv.1 t.full inv.2 w.after t.nearer,
      moved_hashed xs ys at hole t.within inv.1 t.full inv.2 w.after g.K.PartialEq.eq g.met.K.Eq.laws s.different g.K.Key.hash s.count ∙ inv.3,
    )

pub invariant_of-self-2 : goal.invariant_of-self-2
invariant_of-self-2 g c =
    let s = c.loop-at.self in
    let xs = s.slots.now in
    let hole = c.loop-at.hole in
    let inv = c.loop-at.invariant in
    let size = length-set xs hole Empty in
    let same = taken_same xs hole Empty inv.1 (ap is_full inv.2) in
    record { enough = omega arith; counted = omega arith; settled = emptied_settled xs hole inv.1 c.in_default.ensures.nearer s.settled; different = unlike_emptied xs hole inv.1 g.K.PartialEq.eq g.met.K.Eq.laws s.different }

pub returns : goal.returns
returns g c =
    let s = c.loop-at.self in
    let xs = s.slots.now in
    let hole = c.loop-at.hole in
    let inv = c.loop-at.invariant in
    record { after = emptied_hashed xs hole inv.1 g.K.PartialEq.eq g.K.Key.hash s.count (ap is_full inv.2) ∙ inv.3; places = length-set xs hole Empty ∙ inv.0 }
