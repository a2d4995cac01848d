-- Texts and what they say, by computing the definitions.
use Rattle.std.specs.Prelude.{◌≡◌, ℕ, ◌-◌, ◌^◌, List, [], ◌∷◌, ◌++◌, Some, None, Ok, Err, codes, Result}
use Rattle.model.specs.Basics.{the_scope, the_node, the_name, scope_flags, reference_flags}
use Rattle.model.specs.declared.call.Call.TheVariants.{EnterScope, LeaveScope, Bind, DeclareReference, ResolveReferences, ResolveAllReferences}
use Rattle.zone_text.specs.declared.operation.LineError.{LineError}
use Rattle.zone_text.specs.declared.operation.LineError.TheVariants.{UnknownWord, TooFewNumbers, TooManyWords, NotANumber, NumberTooLarge, SettingNotFirst}
use Rattle.zone_text.specs.declared.operation.Operation.TheVariants.{Run}
use Rattle.zone_text.specs.declared.script.BadLine.{BadLine}
use Rattle.zone_text.specs.Lines.{line_meaning}
use Rattle.zone_text.specs.Scripts.{Content, nothing, text_meaning}

abbrev pub bad : ℕ → LineError → Result Content BadLine
bad n e = Err (record { number = n; error = e })

-- a line, ended by a newline
abbrev pub ended_line : List ℕ → List ℕ → List ℕ
ended_line line rest = line ++ 10 ∷ rest

pub record Examples : Type 0 where
  pub empty : text_meaning [] ≡ Ok nothing
  pub blank : line_meaning (codes "   # enter 4 1") ≡ Ok None
  pub enter : line_meaning (codes "enter 4 1") ≡ Ok (Some (Run (EnterScope (record { flags = scope_flags 4; node = the_node 1 }))))
  pub bind : line_meaning (codes " bind 3 1 7 05 6 8# const") ≡ Ok (Some (Run (Bind (record { kind = 3; modifiers = 1; name = the_name 7; start = 5; end = 6; node = the_node 8 }))))
  pub reference : line_meaning (codes "reference 7 2 1 9") ≡ Ok (Some (Run (DeclareReference (record { name = the_name 7; scope = the_scope 2; flags = reference_flags 1; node = the_node 9 }))))
  pub resolve : line_meaning (codes "resolve 4294967295") ≡ Ok (Some (Run (ResolveReferences (2 ^ 32 - 1))))
  pub too_large : line_meaning (codes "resolve 4294967296") ≡ Err NumberTooLarge
  pub wide_flags : line_meaning (codes "enter 65536 1") ≡ Err NumberTooLarge
  pub no_number : line_meaning (codes "resolve -1") ≡ Err NotANumber
  pub too_few : line_meaning (codes "enter 4") ≡ Err TooFewNumbers
  pub too_many : line_meaning (codes "leave 1") ≡ Err TooManyWords
  pub unknown : line_meaning (codes "leaves") ≡ Err UnknownWord
  pub list : text_meaning (ended_line (codes "setting 3" ++ 13 ∷ []) (ended_line (codes "leave") (codes "resolve-all"))) ≡ Ok (record { setting = Some 3; calls = LeaveScope ∷ ResolveAllReferences ∷ [] })
  pub second_bad : text_meaning (ended_line (codes "leave") (ended_line (codes "exit") (codes "enter"))) ≡ bad 2 UnknownWord
  pub late_setting : text_meaning (ended_line (codes "leave") (ended_line [] (codes "setting 0"))) ≡ bad 3 SettingNotFirst
