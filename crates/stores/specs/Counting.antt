-- The size of a set of pairs is the number of its keys.
use Rattle.std.specs.Prelude.{◌≡◌, ℕ, Bool, true, false, not, ◌&&◌, ◌||◌, List, [], ◌∷◌, length, is_some}
use Rattle.stores.specs.Pairs.{Pairs, no_pairs, put, drop_pair}

abbrev pub among : {K : Type 0} → (K → K → Bool) → K → List K → Bool
among same q [] = false
among same q (k ∷ ks) = same q k || among same q ks

-- no two of the keys are the same
abbrev pub different : {K : Type 0} → (K → K → Bool) → List K → Bool
different same [] = true
different same (k ∷ ks) = not (among same k ks) && different same ks

-- some different keys, as many as the size says, are exactly those that have a number
pub record Counted {K : Type 0} (same : K → K → Bool) (p : Pairs K) : Type 0 where
  pub keys : List K
  pub apart : different same keys ≡ true
  pub total : length keys ≡ p.size
  pub exactly : (q : K) → is_some (p.get q) ≡ among same q keys

-- so it is at first, and so it stays
pub record CountingStands {K : Type 0} (same : K → K → Bool) : Type 0 where
  pub at_first : Counted same no_pairs
  pub after_put : (p : Pairs K) (k : K) (v : ℕ) → Counted same p → Counted same (put same p k v)
  pub after_drop : (p : Pairs K) (k : K) → Counted same p → Counted same (drop_pair same p k)
