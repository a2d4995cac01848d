-- What a store means: a set of pairs of a key and a number, one for each key.
use Rattle.std.specs.Prelude.{ℕ, suc, pred, ◌≤◌, Bool, cond, not, ◌&&◌, is_some, Some, None, Option, ◌==◌}

-- the number of each key, if it has one, and how many pairs there are
pub record Pairs (K : Type 0) : Type 0 where
  pub get : K → Option ℕ
  pub size : ℕ

abbrev pub no_pairs : {K : Type 0} → Pairs K
no_pairs = record { get = λ _. None; size = 0 }

-- the pair of k and v in the place of k's pair, or added
abbrev pub put : {K : Type 0} → (K → K → Bool) → Pairs K → K → ℕ → Pairs K
put same p k v = record { get = λ q. cond (same q k) (Some v) (p.get q); size = cond (is_some (p.get k)) p.size (suc p.size) }

-- without k's pair, if there is one
abbrev pub drop_pair : {K : Type 0} → (K → K → Bool) → Pairs K → K → Pairs K
drop_pair same p k = record { get = λ q. cond (same q k) None (p.get q); size = cond (is_some (p.get k)) (pred p.size) p.size }

-- k is new, and no place is left
abbrev pub full : {K : Type 0} → Pairs K → ℕ → K → Bool
full p capacity k = not (is_some (p.get k)) && p.size == capacity

-- every store has places for so many pairs at least
abbrev pub least_capacity : ℕ
least_capacity = 512

-- how many pairs a store holds at most
pub record Bounds (size capacity : ℕ) : Type 0 where
  pub enough : least_capacity ≤ capacity
  pub within : size ≤ capacity
