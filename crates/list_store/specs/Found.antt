-- What a list of entries means, read from the first on.
use Rattle.std.specs.Prelude.{◌≡◌, ℕ, Bool, false, cond, List, [], ◌∷◌, take, Some, None, Option, AllPairs}
use Rattle.list_store.specs.declared.entry.Entry.{Entry}
use Rattle.stores.specs.Pairs.{Pairs}

-- The number of the first entry whose key is the same as q.
abbrev pub found : {K : Type 0} → (K → K → Bool) → List (Entry K) → K → Option ℕ
found e [] q = None
found e (x ∷ xs) q = cond (e q x.key) (Some x.number) (found e xs q)

-- No two of the first n entries have the same key.
abbrev pub Apart : {K : Type 0} → (K → K → Bool) → List (Entry K) → ℕ → Type 0
Apart e xs n = AllPairs (λ x y. e x.key y.key ≡ false) (take n xs)

-- The pairs that the first n entries stand for.
abbrev pub listed : {K : Type 0} → (K → K → Bool) → ℕ → List (Entry K) → Pairs K
listed e n xs = record { get = found e (take n xs); size = n }
