-- The two types of keys: when keys are the same, and their hash numbers.
use Rattle.std.specs.Prelude.{◌≡◌, ℕ, ◌+◌, ◌*◌, ◌/◌, ◌%◌, ◌^◌, Bool, true, ◌&&◌, ◌==◌, bit_xor}
use Rattle.tables.specs.declared.id.Name.{Name}
use Rattle.stores.specs.declared.key.ScopeAndName.{ScopeAndName}

abbrev pub same_scope_and_name : ScopeAndName → ScopeAndName → Bool
same_scope_and_name x y = x.scope.0 == y.scope.0 && x.name.0 == y.name.0

abbrev pub same_name : Name → Name → Bool
same_name x y = x.0 == y.0

-- a number with its upper bits mixed into its lower ones
abbrev pub folded : ℕ → ℕ → ℕ
folded k x = bit_xor x (x / 2 ^ k)

-- neighbours are sent far apart
abbrev pub scrambled : ℕ → ℕ
scrambled x = folded 15 (folded 16 x * 0xc2b2_ae35 % 2 ^ 32)

abbrev pub hash_of_scope_and_name : ScopeAndName → ℕ
hash_of_scope_and_name x = scrambled ((x.scope.0 * 0x85eb_ca6b + x.name.0 * 0x9e37_79b1) % 2 ^ 32)

abbrev pub hash_of_name : Name → ℕ
hash_of_name x = scrambled (x.0 * 0x9e37_79b1 % 2 ^ 32)

-- the test says exactly whether two keys are equal
pub record IsEquality {K : Type 0} (same : K → K → Bool) : Type 0 where
  pub equal : (x y : K) → same x y ≡ true → x ≡ y
  pub alike : (x y : K) → x ≡ y → same x y ≡ true
