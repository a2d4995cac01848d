use Rattle.std.proofs.Common.{◌≡◌, ℕ, ◌%◌, ◌<◌, true, false, length, get_or, sym, ap, ◌∙◌, subst, below_more, mod-lt, arith}
use Rattle.std.proofs.lemmas.List.{get_or_read}
use Rattle.hash_store.specs.declared.slot.Slot.TheVariants.{Empty}
use Rattle.hash_store.specs.Slots.{is_empty, matches, spot}
use Rattle.hash_store.proofs.Ring.{spot_below, spot_spot}
use Rattle.hash_store.proofs.Slotted.{went_round, stopped, past_end}
use Rattle.hash_store.proofs.hash.HashStore.place.Goals as goal

pub returns-then-is_empty-clause-place : goal.returns-then-is_empty-clause-place
returns-then-is_empty-clause-place g c =
    let s = c.args.self.now in
    let xs = s.slots.now in
    let e = g.K.PartialEq.eq in
    let h = c.hash_number-hash in
    let k = c.args.key in
    let inv = c.loop-step.invariant in
    let in' : h.result % length xs < length xs = mod-lt h.result (omega (arith, s.enough)) in
    let slot = c.index-slots-at in
    let read = get_or_read xs c.loop-step.at slot.result inv.0 slot.is Empty in
    let here = subst (λ z. is_empty (get_or xs z Empty) ≡ true) (inv.1 c.loop-step-test.true) (ap is_empty (sym read) ∙ sym c.is_empty.ensures ∙ c.if-is_empty.true) in
    subst (λ z. (j : ℕ) → matches e z k (get_or xs j Empty) ≡ false) h.ensures
    (stopped e xs h.result k c.loop-step._step in' c.loop-step-test.true s.settled inv.2 here)

pub loop-step-preserved : goal.loop-step-preserved
loop-step-preserved g c =
    let s = c.args.self.now in
    let xs = s.slots.now in
    let n = length xs in
    let e = g.K.PartialEq.eq in
    let h = c.hash_number-hash in
    let k = c.args.key in
    let inv = c.loop-step.invariant in
    let step = c.loop-step._step in
    let home = h.result % n in
    let in' : home < n = mod-lt h.result (omega (arith, s.enough)) in
    let here = inv.1 c.loop-step-test.true in
    let slot = c.index-slots-at in
    let read = get_or_read xs c.loop-step.at slot.result inv.0 slot.is Empty in
    let other : matches e h.result k (get_or xs (spot n home step) Empty) ≡ false = subst (λ z. matches e h.result k (get_or xs z Empty) ≡ false) here (ap (matches e h.result k) (sym read) ∙ sym c.holds.ensures ∙ c.if-holds.false) in (
      subst (λ z. z < n) (sym c.behind-at.ensures) (spot_below n c.loop-step.at inv.0 1 (omega (arith, s.enough))),
      (λ l. c.behind-at.ensures ∙ ap (λ z. spot n z 1) here ∙ spot_spot n home in' step 1 (omega (arith, l))),
      below_more (λ t. matches e h.result k (get_or xs (spot n home t) Empty) ≡ false) step inv.2 other,
    )

pub returns-clause-place : goal.returns-clause-place
returns-clause-place g c =
    let s = c.args.self.now in
    let xs = s.slots.now in
    let e = g.K.PartialEq.eq in
    let h = c.hash_number-hash in
    let k = c.args.key in
    let in' : h.result % length xs < length xs = mod-lt h.result (omega (arith, s.enough)) in
    subst (λ z. (j : ℕ) → matches e z k (get_or xs j Empty) ≡ false) h.ensures
    (past_end e xs h.result k (went_round xs (λ z. matches e h.result k z ≡ false) (h.result % length xs) in' (λ t l. c.loop-step.invariant.2 t (omega (arith, l)))))
