use Rattle.std.proofs.Common.{◌≡◌, ◌<◌, length}
use Rattle.hash_store.specs.Slots.{spot}
use Rattle.hash_store.proofs.Moved.{Waits}
use Rattle.hash_store.proofs.hash.HashStore.filler.Given as goal

-- so many steps behind the hole; and a pair whose way leads past the hole has yet to be looked at
abbrev pub invariant-loop-step : goal.invariant-loop-step
invariant-loop-step g l =
    let n = length l.self.slots.now in
    (l.at < n) × (l.step < n → l.at ≡ spot n l.hole l.step) × Waits l.self.slots.now l.hole l.step
