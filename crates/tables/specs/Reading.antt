-- What reads answer beside whole rows.
use Rattle.std.specs.Prelude.{ℕ, cond, Some, None, Ok, Err, Option, Result, nat_le}
use Rattle.tables.specs.declared.refusal.Refusal.{Refusal}
use Rattle.tables.specs.declared.refusal.Refusal.TheVariants.{Absent}
use Rattle.tables.specs.declared.row.SymbolRow.{SymbolRow}
use Rattle.tables.specs.declared.span.Span.{Span}

-- an answer by something that is refused if it is absent
abbrev pub if_there : {X A : Type 0} → Option X → (X → Result A Refusal) → Result A Refusal
if_there None f = Err Absent
if_there (Some x) f = f x

-- where a span that was asked for starts and ends
abbrev pub span_ends : Result Span Refusal → Result (ℕ × ℕ) Refusal
span_ends (Ok s) = Ok (s.start, s.end)
span_ends (Err e) = Err e

-- where a symbol starts and ends; refused if it would end before it starts, which no run writes
abbrev pub symbol_ends : SymbolRow → Result (ℕ × ℕ) Refusal
symbol_ends row = cond (nat_le row.start row.end) (Ok (row.start, row.end)) (Err Absent)
