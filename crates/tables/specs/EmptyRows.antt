-- How an absent row reads where a reader asks for no refusal.
use Rattle.std.specs.Prelude.{None}
use Rattle.tables.specs.declared.row.ScopeRow.{ScopeRow}
use Rattle.tables.specs.declared.row.SymbolRow.{SymbolRow}
use Rattle.tables.specs.declared.row.ReferenceRow.{ReferenceRow}
use Rattle.tables.specs.Ids.{the_node, the_name, the_scope, scope_flags, symbol_flags, reference_flags}

abbrev pub no_scope : ScopeRow
no_scope = record { parent = None; node = the_node 0; flags = scope_flags 0 }

abbrev pub no_symbol : SymbolRow
no_symbol = record { name = the_name 0; start = 0; end = 0; flags = symbol_flags 0; scope = the_scope 0; node = the_node 0 }

abbrev pub no_reference : ReferenceRow
no_reference = record { node = the_node 0; flags = reference_flags 0; symbol = None }
