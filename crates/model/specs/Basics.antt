-- Small functions on options, lists and ids. Ids in formulas are plain numbers; in rows and keys they have their types.
use Rattle.std.specs.Prelude.{ℕ, Bool, true, false, cond, List, [], ◌∷◌, Some, None, Option}
pub use Rattle.tables.specs.Ids.{the_scope, the_symbol, the_reference, the_node, the_name, scope_flags, symbol_flags, reference_flags, scope_number, symbol_number}
use Rattle.stores.specs.declared.key.ScopeAndName.{ScopeAndName}

abbrev pub maybe : {X Y : Type 0} → Option X → Y → (X → Y) → Y
maybe None d f = d
maybe (Some x) d f = f x

-- the key of a name in a scope
abbrev pub place : ℕ → ℕ → ScopeAndName
place s n = record { scope = the_scope s; name = the_name n }

-- a list up to the first that passes, with it
abbrev pub until : (ℕ → Bool) → List ℕ → List ℕ
until test [] = []
until test (x ∷ xs) = x ∷ cond (test x) [] (until test xs)

-- those before the first that passes
abbrev pub before : (ℕ → Bool) → List ℕ → List ℕ
before test [] = []
before test (x ∷ xs) = cond (test x) [] (x ∷ before test xs)

-- the first that passes, or the other
abbrev pub first : (ℕ → Bool) → ℕ → List ℕ → ℕ
first test other [] = other
first test other (x ∷ xs) = cond (test x) x (first test other xs)

abbrev pub any : (ℕ → Bool) → List ℕ → Bool
any test [] = false
any test (x ∷ xs) = cond (test x) true (any test xs)
