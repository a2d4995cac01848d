use Rattle.std.proofs.Common.{◌≡◌, ℕ, ◌%◌, ◌<◌, true, length, get_or}
use Rattle.hash_store.specs.declared.slot.Slot.TheVariants.{Empty}
use Rattle.hash_store.specs.Slots.{is_full, spot}
use Rattle.hash_store.proofs.hash.HashStore.room.Given as goal

-- so many steps behind the home, and the slots so far are full
abbrev pub invariant-loop-turn : goal.invariant-loop-turn
invariant-loop-turn g l =
    let xs = l.self.slots.now in
    (l.at < length xs)
    × (l._turn < length xs → l.at ≡ spot (length xs) (l.hash % length xs) l._turn)
    × ((t : ℕ) → t < l._turn → is_full (get_or xs (spot (length xs) (l.hash % length xs) t) Empty) ≡ true)
