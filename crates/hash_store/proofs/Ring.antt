-- Places in a ring of n: t steps behind home, and how many steps behind home a place is.
use Rattle.std.proofs.Common.{◌≡◌, ℕ, ◌+◌, ◌<◌, ◌≤◌, arith}
use Rattle.std.proofs.lemmas.Bool.Decides.{nat_tests}
use Rattle.hash_store.specs.Slots.{spot, steps}

module _ (n home : ℕ) (in' : home < n) where
  pub spot_below : (t : ℕ) → t < n → spot n home t < n
  spot_below t h = grind (arith, nat_tests)

  pub steps_below : (j : ℕ) → j < n → steps n home j < n
  steps_below j h = grind (arith, nat_tests)

  pub spot_steps : (j : ℕ) → j < n → spot n home (steps n home j) ≡ j
  spot_steps j h = grind (arith, nat_tests)

  pub steps_spot : (t : ℕ) → t < n → steps n home (spot n home t) ≡ t
  steps_spot t h = grind (arith, nat_tests)

  -- a way of t steps and then of s more
  pub spot_spot : (t s : ℕ) → t + s < n → spot n (spot n home t) s ≡ spot n home (t + s)
  spot_spot t s h = grind (arith, nat_tests)

  -- a way to j that leads past i has two parts
  pub steps_past : (i j t : ℕ) → j < n → t < steps n home j → spot n home t ≡ i → t + steps n i j ≡ steps n home j
  steps_past i j t b h p = grind (arith, nat_tests)

  pub steps_parts : (i j : ℕ) → i < n → j < n → steps n i j ≤ steps n home j → steps n home i + steps n i j ≡ steps n home j
  steps_parts i j a b h = grind (arith, nat_tests)
