-- The state of the reference machine.
use Rattle.std.specs.Prelude.{ℕ, ◌+◌, cond, List, [], ◌∷◌, None, slice_index_or}
use Rattle.tables.specs.Flags.{meets, Top, StrictMode}
use Rattle.tables.specs.declared.row.ScopeRow.{ScopeRow}
use Rattle.tables.specs.declared.row.SymbolRow.{SymbolRow}
use Rattle.tables.specs.declared.row.ReferenceRow.{ReferenceRow}
use Rattle.tables.specs.declared.row.Redeclaration.{Redeclaration}
use Rattle.tables.specs.declared.row.Conflict.{Conflict}
use Rattle.tables.specs.declared.row.UnresolvedReference.{UnresolvedReference}
use Rattle.tables.specs.declared.row.ResolvedReference.{ResolvedReference}
use Rattle.tables.specs.declared.row.RootReference.{RootReference}
use Rattle.tables.specs.declared.id.Name.{Name}
pub use Rattle.tables.specs.EmptyRows.{no_scope, no_symbol, no_reference}
use Rattle.stores.specs.Pairs.{Pairs, no_pairs}
use Rattle.stores.specs.declared.key.ScopeAndName.{ScopeAndName}
use Rattle.model.specs.Basics.{the_node, scope_flags}
use Rattle.model.specs.Kinds.{StrictRoot}

-- what declarations make: bindings and hoisted variables lead from a scope and a name to a symbol's number
pub record Names : Type 0 where
  pub symbols : List SymbolRow
  pub bindings : Pairs ScopeAndName
  pub hoisting : Pairs ScopeAndName
  pub redeclarations : List Redeclaration
  pub conflicts : List Conflict

-- what references make: `roots` leads from a name to the number of its root unresolved list
pub record Uses : Type 0 where
  pub references : List ReferenceRow
  pub pending : List UnresolvedReference
  pub resolved : List ResolvedReference
  pub root : List RootReference
  pub roots : Pairs Name

pub record Machine : Type 0 where
  pub setting : ℕ
  pub current : ℕ
  pub scopes : List ScopeRow
  pub names : Names
  pub uses : Uses

abbrev pub no_names : Names
no_names = record { symbols = []; bindings = no_pairs; hoisting = no_pairs; redeclarations = []; conflicts = [] }

abbrev pub no_uses : Uses
no_uses = record { references = []; pending = []; resolved = []; root = []; roots = no_pairs }

abbrev pub root_row : ℕ → ScopeRow
root_row setting = record { parent = None; node = the_node 0; flags = scope_flags (Top + cond (meets setting StrictRoot) StrictMode 0) }

-- under a setting, with the root alone
abbrev pub fresh : ℕ → Machine
fresh s = record { setting = s; current = 0; scopes = root_row s ∷ []; names = no_names; uses = no_uses }

-- An id that leads to no row reads as an empty row. No run comes upon one.

abbrev pub scope_row : List ScopeRow → ℕ → ScopeRow
scope_row rows s = slice_index_or rows s no_scope

abbrev pub symbol_row : Names → ℕ → SymbolRow
symbol_row nm s = slice_index_or nm.symbols s no_symbol

abbrev pub reference_row : Uses → ℕ → ReferenceRow
reference_row us r = slice_index_or us.references r no_reference

-- the flags of a symbol and of a reference
abbrev pub flags_of : Names → ℕ → ℕ
flags_of nm s = (symbol_row nm s).flags.0

abbrev pub use_flags : Uses → ℕ → ℕ
use_flags us r = (reference_row us r).flags.0
