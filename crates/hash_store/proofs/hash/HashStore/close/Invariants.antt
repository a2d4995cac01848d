use Rattle.std.proofs.Common.{◌≡◌, ◌<◌, length, get_or}
use Rattle.hash_store.specs.declared.slot.Slot.TheVariants.{Empty, Deleted}
use Rattle.hash_store.specs.Slots.{hashed}
use Rattle.hash_store.proofs.Moved.{strain}
use Rattle.hash_store.proofs.hash.HashStore.close.Given as goal

abbrev pub invariant-loop-at : goal.invariant-loop-at
invariant-loop-at g l =
    (length l.self.slots.now ≡ length l.initial.self.slots.now)
    × (l.hole < length l.self.slots.now)
    × (get_or l.self.slots.now l.hole Empty ≡ Deleted)
    × (hashed g.K.PartialEq.eq g.K.Key.hash l.self.count l.self.slots.now ≡ hashed g.K.PartialEq.eq g.K.Key.hash l.initial.self.count l.initial.self.slots.now)

-- pairs come nearer to their homes
abbrev pub decreases-loop-at : goal.decreases-loop-at
decreases-loop-at g l = strain (length l.self.slots.now) 0 l.self.slots.now
