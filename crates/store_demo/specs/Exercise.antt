-- What an exercise leaves in a store.
use Rattle.std.specs.Prelude.{Bool}
use Rattle.stores.specs.Pairs.{Pairs, no_pairs, put, drop_pair}

abbrev pub exercised : {K : Type 0} → (K → K → Bool) → K → K → Pairs K
exercised same kept removed = drop_pair same (put same (put same no_pairs kept 1) removed 2) removed
