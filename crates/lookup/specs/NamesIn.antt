-- The names that the tables and stores of a declaration stand for.
use Rattle.tables.specs.declared.id.SymbolId.{SymbolId}
use Rattle.stores.specs.Pairs.{Pairs}
use Rattle.stores.specs.declared.key.ScopeAndName.{ScopeAndName}
use Rattle.model.specs.State.{Names}
use Rattle.model.specs.Declaring.{Declared}
use Rattle.model.specs.View.{names_of, declared}
use Rattle.lookup.specs.declared.name_tables.NameTables.{NameTables}

-- by the meaning of either store, which is given: a struct with no ghost field has no ghosts of its bounds
abbrev pub names_in : {B H : Type 0} → (B → Pairs ScopeAndName) → (H → Pairs ScopeAndName) → NameTables B H → Names
names_in bindings hoisting t = names_of t.scoping (bindings t.bindings) (hoisting t.hoisting)

-- and the symbol of a declaration that made them
abbrev pub declared_in : {B H : Type 0} → (B → Pairs ScopeAndName) → (H → Pairs ScopeAndName) → NameTables B H → SymbolId → Declared
declared_in bindings hoisting t s = declared t.scoping (bindings t.bindings) (hoisting t.hoisting) s
