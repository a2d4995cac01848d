-- Pairs that are the same, and pairs that find room in a store.
use Rattle.std.proofs.Common.{◌≡◌, ℕ, zero, suc, pred, ◌+◌, ◌<◌, ◌≤◌, Bool, true, false, cond, not, eqb, is_some, Ok, Err, Result, sym, ap, arith}
use Rattle.std.proofs.lemmas.Bool.{and_right, ne_eqb}
use Rattle.tables.specs.declared.refusal.Refusal.{Refusal}
use Rattle.tables.specs.declared.refusal.Refusal.TheVariants.{StoreFull}
use Rattle.stores.specs.Pairs.{Pairs, put, drop_pair, full}

-- pairs that give the same for each key, and are as many, are one
pub same_pairs : {K : Type 0} {p q : Pairs K} → ((k : K) → p.get k ≡ q.get k) → p.size ≡ q.size → p ≡ q
same_pairs get size = λ i. record { get = λ k. get k i; size = size i }

module _ {K : Type 0} (same : K → K → Bool) (p : Pairs K) (k : K) (v : ℕ) where
  -- a store with room does not refuse
  pub has_room : (capacity : ℕ) → p.size < capacity → full p capacity k ≡ false
  has_room capacity h = and_right (not (is_some (p.get k))) (eqb p.size capacity) (ne_eqb p.size capacity (λ e. omega arith))

  pub put_room : (capacity : ℕ) → p.size < capacity → cond (full p capacity k) p (put same p k v) ≡ put same p k v
  put_room capacity h = ap (λ b. cond b p (put same p k v)) (has_room capacity h)

  -- a pair more, at the most
  pub put_size : (put same p k v).size ≤ p.size + 1
  put_size = by (is_some (p.get k))
    where
      by : (b : Bool) → cond b p.size (suc p.size) ≤ p.size + 1
      by true = omega arith
      by false = omega arith

  -- no pair more
  pub drop_size : (drop_pair same p k).size ≤ p.size
  drop_size = by (is_some (p.get k)) p.size
    where
      by : (b : Bool) (n : ℕ) → cond b (pred n) n ≤ n
      by true zero = omega arith
      by true (suc n) = omega arith
      by false n = omega arith

-- what an insertion answers and leaves, by the test whether the store is full
pub by_test : {K : Type 0} (same : K → K → Bool) (p : Pairs K) (k : K) (v capacity : ℕ) (b : Bool) → full p capacity k ≡ b
    → (◌≡◌ {A = Result (Unit {0}) Refusal} (cond b (Err StoreFull) (Ok tt)) (cond (full p capacity k) (Err StoreFull) (Ok tt))) × (cond b p (put same p k v) ≡ cond (full p capacity k) p (put same p k v))
by_test same p k v capacity b f = (ap (λ t. cond t (Err StoreFull) (Ok tt)) (sym f), ap (λ t. cond t p (put same p k v)) (sym f))
