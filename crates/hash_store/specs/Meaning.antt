-- What a hashed store means.
use Rattle.std.specs.Prelude.{ℕ, Bool, length}
use Rattle.std.specs.declared.cmp.PartialEq as PartialEq
use Rattle.stores.specs.declared.key.Key as Key
use Rattle.stores.specs.Pairs.{Pairs}
use Rattle.hash_store.specs.declared.hash.HashStore.{HashStore}
use Rattle.hash_store.specs.Slots.{hashed}

abbrev pub pairs_of : {K : Type 0} {g : Key.Ghosts K} {q : PartialEq.Ghosts K} → (K → K → Bool) → (K → ℕ) → HashStore K g q → Pairs K
pairs_of same hash s = hashed same hash s.count s.slots.now

abbrev pub capacity_of : {K : Type 0} {g : Key.Ghosts K} {q : PartialEq.Ghosts K} → HashStore K g q → ℕ
capacity_of s = length s.slots.now
