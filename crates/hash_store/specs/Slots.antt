-- What the slots of a hashed store mean.
use Rattle.std.specs.Prelude.{◌≡◌, ℕ, ◌+◌, ◌-◌, ◌%◌, ◌<◌, ◌≤◌, Bool, true, false, cond, ◌&&◌, List, [], ◌∷◌, length, Some, None, Option, ◌==◌, nat_lt, slice_index_or}
use Rattle.std.proofs.Common.{arith}
use Rattle.hash_store.specs.declared.slot.Slot.{Slot}
use Rattle.hash_store.specs.declared.slot.Slot.TheVariants.{Empty, Deleted, Full}
use Rattle.stores.specs.Pairs.{Pairs}

abbrev pub is_empty : {K : Type 0} → Slot K → Bool
is_empty Empty = true
is_empty Deleted = false
is_empty (Full k h n) = false

abbrev pub is_full : {K : Type 0} → Slot K → Bool
is_full Empty = false
is_full Deleted = false
is_full (Full k h n) = true

-- Whether the slot holds the pair of q, whose hash number is g.
abbrev pub matches : {K : Type 0} → (K → K → Bool) → ℕ → K → Slot K → Bool
matches e g q Empty = false
matches e g q Deleted = false
matches e g q (Full k h n) = g == h && e q k

abbrev pub number_in : {K : Type 0} → Slot K → ℕ
number_in Empty = 0
number_in Deleted = 0
number_in (Full k h n) = n

abbrev pub hash_in : {K : Type 0} → Slot K → ℕ
hash_in Empty = 0
hash_in Deleted = 0
hash_in (Full k h n) = h

-- The number of the first slot that holds q.
abbrev pub held_by : {K : Type 0} → (K → K → Bool) → (K → ℕ) → List (Slot K) → K → Option ℕ
held_by e hash [] q = None
held_by e hash (x ∷ xs) q = cond (matches e (hash q) q x) (Some (number_in x)) (held_by e hash xs q)

-- How many slots are full.
abbrev pub taken : {K : Type 0} → List (Slot K) → ℕ
taken [] = 0
taken (x ∷ xs) = cond (is_full x) 1 0 + taken xs

-- The slot t steps behind home, of n in a ring; and how many steps j is behind home.
abbrev pub spot : ℕ → ℕ → ℕ → ℕ
spot n home t = cond (nat_lt (home + t) n) (home + t) (home + t - n)

abbrev pub steps : ℕ → ℕ → ℕ → ℕ
steps n home j = cond (nat_lt j home) (j + n - home) (j - home)

-- No empty slot lies between a pair's home, the slot that its hash number names, and the pair.
abbrev pub Settled : {K : Type 0} → List (Slot K) → Type 0
Settled xs = (j t : ℕ) → (is_full (slice_index_or xs j Empty) ≡ true) × (t < steps (length xs) (hash_in (slice_index_or xs j Empty) % length xs) j) → is_empty (slice_index_or xs (spot (length xs) (hash_in (slice_index_or xs j Empty) % length xs) t) Empty) ≡ false

-- The way from a pair's home to the pair leads past no such slot.
abbrev pub Unpassed : {K : Type 0} → List (Slot K) → ℕ → Type 0
Unpassed xs i = (j t : ℕ) → (is_full (slice_index_or xs j Empty) ≡ true) × (t < steps (length xs) (hash_in (slice_index_or xs j Empty) % length xs) j) × (spot (length xs) (hash_in (slice_index_or xs j Empty) % length xs) t ≡ i) → ⊥

-- A pair that is moved from slot j to slot i comes nearer to its home.
abbrev pub Nearer : {K : Type 0} → List (Slot K) → ℕ → ℕ → Type 0
Nearer xs i j = steps (length xs) (hash_in (slice_index_or xs j Empty) % length xs) i < steps (length xs) (hash_in (slice_index_or xs j Empty) % length xs) j

-- Two slots hold the same key.
abbrev pub Alike : {K : Type 0} → (K → K → Bool) → Slot K → Slot K → Type 0
Alike e Empty y = ⊥
Alike e Deleted y = ⊥
Alike e (Full k h n) Empty = ⊥
Alike e (Full k h n) Deleted = ⊥
Alike e (Full k h n) (Full l m o) = (h ≡ m) × (e k l ≡ true)

-- No two slots hold the same key.
abbrev pub Unlike : {K : Type 0} → (K → K → Bool) → List (Slot K) → Type 0
Unlike e xs = (i j : ℕ) → (i < j) × Alike e (slice_index_or xs i Empty) (slice_index_or xs j Empty) → ⊥

-- The pairs that n full slots stand for.
abbrev pub hashed : {K : Type 0} → (K → K → Bool) → (K → ℕ) → ℕ → List (Slot K) → Pairs K
hashed e hash n xs = record { get = held_by e hash xs; size = n }

-- No more slots are full than there are.
pub taken_within : {K : Type 0} (xs : List (Slot K)) → taken xs ≤ length xs
taken_within [] = omega arith
taken_within (Empty ∷ xs) = let h = taken_within xs in omega arith
taken_within (Deleted ∷ xs) = let h = taken_within xs in omega arith
taken_within (Full k h n ∷ xs) = let h = taken_within xs in omega arith

pub bounded : {K : Type 0} (n : ℕ) (xs : List (Slot K)) → n ≡ taken xs → n ≤ length xs
bounded n xs e = let h = taken_within xs in omega arith
