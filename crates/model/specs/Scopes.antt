-- Scopes and their chains.
use Rattle.std.specs.Prelude.{ℕ, zero, suc, Bool, not, ◌&&◌, List, [], ◌∷◌, Option, nat_eq}
use Rattle.tables.specs.Flags.{meets, VarScope, StrictMode, Function, Arrow, TsConditional}
use Rattle.tables.specs.declared.row.ScopeRow.{ScopeRow}
use Rattle.model.specs.Basics.{maybe, scope_number, before, first, any}
use Rattle.model.specs.State.{scope_row}

abbrev pub parent_of : List ScopeRow → ℕ → Option ℕ
parent_of rows s = scope_number (scope_row rows s).parent

abbrev pub flags_in : List ScopeRow → ℕ → ℕ
flags_in rows s = (scope_row rows s).flags.0

abbrev pub is_var : List ScopeRow → ℕ → Bool
is_var rows s = meets (flags_in rows s) VarScope

abbrev pub is_strict : List ScopeRow → ℕ → Bool
is_strict rows s = meets (flags_in rows s) StrictMode

-- a function that has `arguments` of its own
abbrev pub is_plain_function : List ScopeRow → ℕ → Bool
is_plain_function rows s = meets (flags_in rows s) Function && not (meets (flags_in rows s) Arrow)

-- a scope and its ancestors to the root, as far as the fuel goes
abbrev pub climb : List ScopeRow → ℕ → ℕ → List ℕ
climb rows zero s = []
climb rows (suc fuel) s = s ∷ maybe (parent_of rows s) [] (climb rows fuel)

-- its own number is fuel enough, since a parent has a lower number than its child
unfoldable pub chain : List ScopeRow → ℕ → List ℕ
chain rows s = climb rows (suc s) s

-- the nearest var scope, and the scopes on the way to it
unfoldable pub target : List ScopeRow → ℕ → ℕ
target rows s = first (is_var rows) 0 (chain rows s)

unfoldable pub passed : List ScopeRow → ℕ → List ℕ
passed rows s = before (is_var rows) (chain rows s)

-- the nearest conditional type, or the scope itself
unfoldable pub conditional_scope : List ScopeRow → ℕ → ℕ
conditional_scope rows s = first (λ p. meets (flags_in rows p) TsConditional) s (chain rows s)

-- whether a scope is `here` or below it
unfoldable pub is_below : List ScopeRow → ℕ → ℕ → Bool
is_below rows here s = any (nat_eq here) (chain rows s)
