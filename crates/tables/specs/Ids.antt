-- Ids and flags from plain numbers, and back.
use Rattle.std.specs.Prelude.{ℕ, Some, None, Option}
use Rattle.tables.specs.declared.id.ScopeId.{ScopeId}
use Rattle.tables.specs.declared.id.SymbolId.{SymbolId}
use Rattle.tables.specs.declared.id.ReferenceId.{ReferenceId}
use Rattle.tables.specs.declared.id.NodeId.{NodeId}
use Rattle.tables.specs.declared.id.Name.{Name}
use Rattle.tables.specs.declared.flags.ScopeFlags.{ScopeFlags}
use Rattle.tables.specs.declared.flags.SymbolFlags.{SymbolFlags}
use Rattle.tables.specs.declared.flags.ReferenceFlags.{ReferenceFlags}

abbrev pub the_scope : ℕ → ScopeId
the_scope n = record { 0 = n }

abbrev pub the_symbol : ℕ → SymbolId
the_symbol n = record { 0 = n }

abbrev pub the_reference : ℕ → ReferenceId
the_reference n = record { 0 = n }

abbrev pub the_node : ℕ → NodeId
the_node n = record { 0 = n }

abbrev pub the_name : ℕ → Name
the_name n = record { 0 = n }

abbrev pub scope_flags : ℕ → ScopeFlags
scope_flags n = record { 0 = n }

abbrev pub symbol_flags : ℕ → SymbolFlags
symbol_flags n = record { 0 = n }

abbrev pub reference_flags : ℕ → ReferenceFlags
reference_flags n = record { 0 = n }

abbrev pub scope_number : Option ScopeId → Option ℕ
scope_number None = None
scope_number (Some s) = Some s.0

abbrev pub symbol_number : Option SymbolId → Option ℕ
symbol_number None = None
symbol_number (Some s) = Some s.0
