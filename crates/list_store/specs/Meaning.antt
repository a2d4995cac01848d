-- What a list store means.
use Rattle.std.specs.Prelude.{ℕ, Bool, length}
use Rattle.std.specs.declared.cmp.PartialEq as PartialEq
use Rattle.stores.specs.declared.key.Key as Key
use Rattle.stores.specs.Pairs.{Pairs}
use Rattle.list_store.specs.declared.list.ListStore.{ListStore}
use Rattle.list_store.specs.Found.{listed}

abbrev pub pairs_of : {K : Type 0} {g : Key.Ghosts K} {q : PartialEq.Ghosts K} → (K → K → Bool) → ListStore K g q → Pairs K
pairs_of same s = listed same s.count s.entries.now

abbrev pub capacity_of : {K : Type 0} {g : Key.Ghosts K} {q : PartialEq.Ghosts K} → ListStore K g q → ℕ
capacity_of s = length s.entries.now
