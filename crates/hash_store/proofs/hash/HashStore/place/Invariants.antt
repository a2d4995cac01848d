use Rattle.std.proofs.Common.{◌≡◌, ℕ, ◌<◌, false, length, get_or}
use Rattle.hash_store.specs.declared.slot.Slot.TheVariants.{Empty}
use Rattle.hash_store.specs.Slots.{matches, spot}
use Rattle.hash_store.proofs.hash.HashStore.place.Given as goal

-- so many steps behind the home, and the slots so far hold another key, or none
abbrev pub invariant-loop-step : goal.invariant-loop-step
invariant-loop-step g l =
    let xs = l.self.slots.now in
    (l.at < length xs)
    × (l._step < length xs → l.at ≡ spot (length xs) l.home l._step)
    × ((s : ℕ) → s < l._step → matches g.K.PartialEq.eq l.hash l.key (get_or xs (spot (length xs) l.home s) Empty) ≡ false)
