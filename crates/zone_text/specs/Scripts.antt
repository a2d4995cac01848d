-- What a whole operation list says.
use Rattle.std.specs.Prelude.{◌≡◌, ℕ, ◌+◌, Bool, true, false, cond, List, [], ◌∷◌, ◌++◌, Some, None, Ok, Err, vec_items, Option, Result}
use Rattle.model.specs.Basics.{maybe}
use Rattle.model.specs.declared.call.Call.{Call}
use Rattle.zone_text.specs.declared.operation.LineError.{LineError}
use Rattle.zone_text.specs.declared.operation.LineError.TheVariants.{SettingNotFirst}
use Rattle.zone_text.specs.declared.operation.Operation.{Operation}
use Rattle.zone_text.specs.declared.operation.Operation.TheVariants.{Setting, Run}
use Rattle.zone_text.specs.declared.script.BadLine.{BadLine}
use Rattle.zone_text.specs.declared.script.ParseError.{ParseError}
use Rattle.zone_text.specs.declared.script.ParseError.TheVariants.{Line, NoMemory}
use Rattle.zone_text.specs.declared.script.Script.{Script}
use Rattle.zone_text.specs.Fields.{and_then}
use Rattle.zone_text.specs.Lines.{line_meaning}
use Rattle.zone_text.specs.Pieces.{lines}

-- the setting's bits, if there is a setting, and the calls in order
pub record Content : Type 0 where
  pub setting : Option ℕ
  pub calls : List Call

abbrev pub content : Script → Content
content s = record { setting = s.setting; calls = vec_items s.calls }

abbrev pub nothing : Content
nothing = record { setting = None; calls = [] }

abbrev pub is_empty : List Call → Bool
is_empty [] = true
is_empty (c ∷ cs) = false

-- an operation goes to the end; a setting has to be the first of all
abbrev pub added : Content → Operation → Result Content LineError
added s (Setting bits) = maybe s.setting (cond (is_empty s.calls) (Ok (record { setting = Some bits; calls = [] })) (Err SettingNotFirst)) (λ _. Err SettingNotFirst)
added s (Run c) = Ok (record { setting = s.setting; calls = s.calls ++ c ∷ [] })

abbrev pub at_line : {X : Type 0} → ℕ → Result X LineError → Result X BadLine
at_line n (Ok x) = Ok x
at_line n (Err e) = Err (record { number = n; error = e })

-- with the operation of one more line, if it has one
abbrev pub with_line : ℕ → Content → List ℕ → Result Content BadLine
with_line n s line = at_line n (and_then (line_meaning line) (λ o. maybe o (Ok s) (added s)))

-- with the operations of more lines, of which the first is line n; the first bad line decides
abbrev pub with_lines : ℕ → Content → List (List ℕ) → Result Content BadLine
with_lines n s [] = Ok s
with_lines n s (l ∷ ls) = and_then (with_line n s l) (λ t. with_lines (n + 1) t ls)

abbrev pub text_meaning : List ℕ → Result Content BadLine
text_meaning text = with_lines 1 nothing (lines text)

-- an error tells the bad line, or that memory was wanting
abbrev pub Tells : ParseError → Result Content BadLine → Type 0
Tells (Line bad) r = r ≡ Err bad
Tells NoMemory r = Unit {0}
