-- The scopes are a tree: a parent has a lower number than its child.
use Rattle.std.specs.Prelude.{◌≡◌, ℕ, ◌<◌, List, Some, Option, slice_index_or}
use Rattle.tables.specs.declared.row.ScopeRow.{ScopeRow}
use Rattle.tables.specs.Ids.{scope_number}
use Rattle.tables.specs.EmptyRows.{no_scope}

abbrev pub parent_at : List ScopeRow → ℕ → Option ℕ
parent_at rows s = scope_number (slice_index_or rows s no_scope).parent

abbrev pub Tree : List ScopeRow → Type 0
Tree rows = (s p : ℕ) → parent_at rows s ≡ Some p → p < s
