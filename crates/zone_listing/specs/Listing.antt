-- The lines of a listing, as their bytes.
use Rattle.std.specs.Prelude.{ℕ, List, ◌++◌, Some, None, Ok, Err, codes, decimal, Option}
use Rattle.tables.specs.Refusals.{number_of}
use Rattle.model.specs.Basics.{scope_number, symbol_number}
use Rattle.tables.specs.declared.id.ScopeId.{ScopeId}
use Rattle.tables.specs.declared.id.SymbolId.{SymbolId}
use Rattle.tables.specs.declared.id.ReferenceId.{ReferenceId}
use Rattle.tables.specs.declared.row.ScopeRow.{ScopeRow}
use Rattle.tables.specs.declared.row.SymbolRow.{SymbolRow}
use Rattle.tables.specs.declared.row.ReferenceRow.{ReferenceRow}
use Rattle.tables.specs.declared.row.Redeclaration.{Redeclaration}
use Rattle.tables.specs.declared.row.Conflict.{Conflict}
use Rattle.tables.specs.declared.row.UnresolvedReference.{UnresolvedReference}
use Rattle.tables.specs.declared.row.ResolvedReference.{ResolvedReference}
use Rattle.model.specs.declared.call.Granted.TheVariants.{Scope, Symbol, Reference, Counted}
use Rattle.model.specs.Calls.{Answer}
use Rattle.zone_listing.specs.declared.entries.PairTable.{PairTable}
use Rattle.zone_listing.specs.declared.entries.PairTable.TheVariants.{Bindings, Hoisting}
use Rattle.zone_listing.specs.declared.entries.PairLine.{PairLine}
use Rattle.zone_listing.specs.declared.entries.EntryLine.{EntryLine}
use Rattle.zone_listing.specs.declared.entries.RootLine.{RootLine}
use Rattle.zone_listing.specs.declared.rows.CurrentLine.{CurrentLine}
use Rattle.zone_listing.specs.declared.rows.RowLine.{RowLine}

abbrev pub answer_line : Answer → List ℕ
answer_line (Ok (Scope s)) = codes "scope " ++ decimal s.0
answer_line (Ok (Symbol s)) = codes "symbol " ++ decimal s.0
answer_line (Ok (Reference r)) = codes "reference " ++ decimal r.0
answer_line (Ok (Counted c)) = codes "counts resolved " ++ (decimal c.resolved ++ (codes " root " ++ (decimal c.root ++ (codes " pending " ++ decimal c.pending))))
answer_line (Err n) = codes "refused " ++ decimal (number_of n)

-- a number, or `-` where there is none
abbrev pub number_or_dash : Option ℕ → List ℕ
number_or_dash None = codes "-"
number_or_dash (Some n) = decimal n

abbrev pub current_line : CurrentLine → List ℕ
current_line x = codes "current " ++ decimal x.0.0

abbrev pub scope_line : RowLine ScopeId ScopeRow → List ℕ
scope_line x =
    codes "scope " ++ (decimal x.id.0 ++ (codes " parent " ++ (number_or_dash (scope_number x.row.parent) ++ (codes " node " ++ (decimal x.row.node.0 ++ (codes " flags " ++ decimal x.row.flags.0))))))

abbrev pub symbol_line : RowLine SymbolId SymbolRow → List ℕ
symbol_line x =
    codes "symbol " ++ (decimal x.id.0 ++ (codes " name " ++ (decimal x.row.name.0 ++ (codes " start " ++ (decimal x.row.start ++ (codes " end " ++ (decimal x.row.end
    ++ (codes " flags " ++ (decimal x.row.flags.0 ++ (codes " scope " ++ (decimal x.row.scope.0 ++ (codes " node " ++ decimal x.row.node.0))))))))))))

abbrev pub reference_line : RowLine ReferenceId ReferenceRow → List ℕ
reference_line x =
    codes "reference " ++ (decimal x.id.0 ++ (codes " node " ++ (decimal x.row.node.0 ++ (codes " flags " ++ (decimal x.row.flags.0 ++ (codes " symbol " ++ number_or_dash (symbol_number x.row.symbol)))))))

abbrev pub table_word : PairTable → List ℕ
table_word Bindings = codes "binding"
table_word Hoisting = codes "hoisting"

abbrev pub pair_line : PairLine → List ℕ
pair_line x = table_word x.table ++ (codes " " ++ (decimal x.key.scope.0 ++ (codes " " ++ (decimal x.key.name.0 ++ (codes " " ++ decimal x.symbol.0)))))

abbrev pub redeclaration_line : EntryLine Redeclaration → List ℕ
redeclaration_line x =
    codes "redeclaration " ++ (decimal x.entry.symbol.0 ++ (codes " " ++ (decimal x.index ++ (codes " start " ++ (decimal x.entry.start ++ (codes " end " ++ (decimal x.entry.end
    ++ (codes " node " ++ (decimal x.entry.node.0 ++ (codes " flags " ++ decimal x.entry.flags.0))))))))))

abbrev pub conflict_line : EntryLine Conflict → List ℕ
conflict_line x =
    codes "conflict " ++ (decimal x.index ++ (codes " name " ++ (decimal x.entry.name.0 ++ (codes " first " ++ (decimal x.entry.first_start ++ (codes " " ++ (decimal x.entry.first_end
    ++ (codes " second " ++ (decimal x.entry.second_start ++ (codes " " ++ decimal x.entry.second_end))))))))))

abbrev pub pending_line : EntryLine UnresolvedReference → List ℕ
pending_line x =
    codes "pending " ++ (decimal x.index ++ (codes " name " ++ (decimal x.entry.name.0 ++ (codes " reference " ++ (decimal x.entry.reference.0 ++ (codes " scope " ++ decimal x.entry.scope.0))))))

abbrev pub resolved_line : EntryLine ResolvedReference → List ℕ
resolved_line x = codes "resolved " ++ (decimal x.entry.symbol.0 ++ (codes " " ++ (decimal x.index ++ (codes " reference " ++ decimal x.entry.reference.0))))

abbrev pub root_line : RootLine → List ℕ
root_line x = codes "root " ++ (decimal x.name.0 ++ (codes " " ++ (decimal x.index ++ (codes " reference " ++ decimal x.reference.0))))
