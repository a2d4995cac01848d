-- The room for a declaration.
use Rattle.std.specs.Prelude.{ℕ, ◌+◌, ◌<◌, ◌≤◌, length}
use Rattle.tables.specs.Limits.{most_symbols, most_redeclarations, most_conflicts}
use Rattle.stores.specs.Pairs.{least_capacity}
use Rattle.model.specs.State.{Names}

-- beside the names there is room for one more symbol and binding, for a redeclaration, which may write the symbol itself down too, and
-- for a conflict in each of so many scopes
pub record Fits (nm : Names) (scopes : ℕ) : Type 0 where
  pub symbols : length nm.symbols < most_symbols
  pub redeclarations : length nm.redeclarations + 2 ≤ most_redeclarations
  pub conflicts : length nm.conflicts + scopes ≤ most_conflicts
  pub bindings : nm.bindings.size < least_capacity
