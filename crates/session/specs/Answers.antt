-- The result of each call, as an answer.
use Rattle.std.specs.Prelude.{Ok, Err, Result}
use Rattle.tables.specs.declared.id.ScopeId.{ScopeId}
use Rattle.tables.specs.declared.id.SymbolId.{SymbolId}
use Rattle.tables.specs.declared.id.ReferenceId.{ReferenceId}
use Rattle.tables.specs.declared.refusal.Refusal.{Refusal}
use Rattle.model.specs.declared.call.Counts.{Counts}
use Rattle.model.specs.declared.call.Granted.{Granted}
use Rattle.model.specs.declared.call.Granted.TheVariants.{Scope, Symbol, Reference, Counted}
use Rattle.model.specs.Calls.{Answer}

-- a value as what is granted, and a refusal as it is
abbrev pub answer_by : {X : Type 0} → (X → Granted) → Result X Refusal → Answer
answer_by grant (Ok x) = Ok (grant x)
answer_by grant (Err e) = Err e

abbrev pub by_scope : Result ScopeId Refusal → Answer
by_scope = answer_by Scope

abbrev pub by_symbol : Result SymbolId Refusal → Answer
by_symbol = answer_by Symbol

abbrev pub by_reference : Result ReferenceId Refusal → Answer
by_reference = answer_by Reference

abbrev pub by_counts : Result Counts Refusal → Answer
by_counts = answer_by Counted
