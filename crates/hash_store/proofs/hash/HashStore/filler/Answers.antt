use Rattle.std.proofs.Common.{◌≡◌, ◌%◌, ◌<◌, true, length, get_or, sym, ap, ◌∙◌, subst, arith}
use Rattle.std.proofs.lemmas.List.{get_or_default}
use Rattle.std.proofs.lemmas.Bool.{both_ways}
use Rattle.hash_store.specs.declared.slot.Slot.TheVariants.{Empty}
use Rattle.hash_store.specs.Slots.{is_empty, is_full, hash_in, spot, steps}
use Rattle.hash_store.proofs.Moved.{stopped_unpassed, waits_more, nearer}
use Rattle.hash_store.proofs.Ring.{spot_below, spot_spot}
use Rattle.hash_store.proofs.hash.HashStore.filler.Goals as goal
use Rattle.hash_store.proofs.hash.HashStore.filler.Goals.{in-Full+else-step-distance, in-Deleted}

pub returns-in-Empty-clause-nearer : goal.returns-in-Empty-clause-nearer
returns-in-Empty-clause-nearer g c =
    let xs = c.args.self.now.slots.now in
    let inv = c.loop-step.invariant in
    let at = c.loop-step.at in
    let read = get_or_default xs at _ Empty inv.0 in
    stopped_unpassed xs c.args.hole c.requires c.loop-step.step at (inv.1 c.loop-step-test.true) inv.2 (ap is_empty (sym read ∙ c.in-Empty.is)) c.args.self.now.settled

pub returns-then-step-distance-clause-nearer : goal.returns-then-step-distance-clause-nearer
returns-then-step-distance-clause-nearer g c =
    let xs = c.args.self.now.slots.now in
    let inv = c.loop-step.invariant in
    let at = c.loop-step.at in
    let read = get_or_default xs at _ Empty inv.0 in
    let far = c.distance.ensures ∙ ap (λ z. steps (length xs) (z % length xs) at) (ap hash_in (sym c.in-Full.is ∙ read)) in
    nearer xs c.args.hole c.requires c.loop-step.step at (inv.1 c.loop-step-test.true) inv.2 (omega arith) c.loop-step-test.true inv.0 (omega (arith, far, c.if-step-distance.true))

pub loop-step-preserved : goal.loop-step-preserved
loop-step-preserved g c =
    let xs = c.args.self.now.slots.now in
    let n = length xs in
    let inv = c.loop-step.invariant in
    let at = c.loop-step.at in
    let step = c.loop-step.step in
    let here = inv.1 c.loop-step-test.true in
    let read = get_or_default xs at _ Empty inv.0 in
    let late : is_full (get_or xs at Empty) ≡ true → steps n (hash_in (get_or xs at Empty) % n) at < step =
    elim c.match-self-at.branch [
      | in-Full+else-step-distance w ↦ λ _. let far = w.distance.ensures ∙ ap (λ z. steps n (z % n) at) (ap hash_in (sym w.in-Full.is ∙ read)) in omega (arith, far, w.if-step-distance.false)
      | in-Deleted w ↦ λ f. absurd (both_ways (is_full (get_or xs at Empty)) (ap is_full (sym read ∙ w.in-Deleted.is)) f)
    ] in
    let next = c.behind-at-in-loop-step.ensures in (
      subst (λ z. z < n) (sym next) (spot_below n at inv.0 1 (omega (arith, c.args.self.now.enough))),
      (λ l. next ∙ ap (λ z. spot n z 1) here ∙ spot_spot n c.args.hole c.requires step 1 (omega (arith, l))),
      waits_more xs c.args.hole c.requires step at here inv.2 late,
    )
