use Rattle.std.proofs.Common.{◌≡◌, ◌%◌, ◌<◌, true, length, get_or, sym, ap, ◌∙◌, subst, below_more, mod-lt, arith}
use Rattle.std.proofs.lemmas.List.{get_or_read}
use Rattle.hash_store.specs.declared.slot.Slot.TheVariants.{Empty}
use Rattle.hash_store.specs.Slots.{is_full, spot, steps}
use Rattle.hash_store.proofs.Ring.{spot_below, spot_spot, steps_spot}
use Rattle.hash_store.proofs.Slotted.{went_round}
use Rattle.hash_store.proofs.hash.HashStore.room.Goals as goal

pub returns-then-not-is_full-clause-way : goal.returns-then-not-is_full-clause-way
returns-then-not-is_full-clause-way g c =
    let s = c.args.self.now in
    let xs = s.slots.now in
    let n = length xs in
    let inv = c.loop-turn.invariant in
    let home = c.args.hash % n in
    let in' : home < n = mod-lt c.args.hash (omega (arith, s.enough)) in
    let far : steps n home c.loop-turn.at ≡ c.loop-turn._turn = ap (steps n home) (inv.1 c.loop-turn-test.true) ∙ steps_spot n home in' c.loop-turn._turn c.loop-turn-test.true in
    λ t l. inv.2 t (omega (arith, far, l))

pub loop-turn-preserved : goal.loop-turn-preserved
loop-turn-preserved g c =
    let s = c.args.self.now in
    let xs = s.slots.now in
    let n = length xs in
    let inv = c.loop-turn.invariant in
    let turn = c.loop-turn._turn in
    let home = c.args.hash % n in
    let in' : home < n = mod-lt c.args.hash (omega (arith, s.enough)) in
    let here = inv.1 c.loop-turn-test.true in
    let next = c.behind-at.ensures in
    let slot = c.index-slots-at in
    let read = get_or_read xs c.loop-turn.at slot.result inv.0 slot.is Empty in
    let taken : is_full (get_or xs (spot n home turn) Empty) ≡ true = subst (λ z. is_full (get_or xs z Empty) ≡ true) here (ap is_full (sym read) ∙ sym c.is_full.ensures ∙ c.if-not-is_full.false) in (
      subst (λ z. z < n) (sym next) (spot_below n c.loop-turn.at inv.0 1 (omega (arith, s.enough))),
      (λ l. next ∙ ap (λ z. spot n z 1) here ∙ spot_spot n home in' turn 1 (omega (arith, l))),
      below_more (λ t. is_full (get_or xs (spot n home t) Empty) ≡ true) turn inv.2 taken,
    )

pub returns-clause-way : goal.returns-clause-way
returns-clause-way g c =
    let s = c.args.self.now in
    let xs = s.slots.now in
    let home = c.args.hash % length xs in
    let in' : home < length xs = mod-lt c.args.hash (omega (arith, s.enough)) in
    went_round xs (λ z. is_full z ≡ true) home in' (λ t l. c.loop-turn.invariant.2 t (omega (arith, l)))
