-- What a line of an operation list says.
use Rattle.std.specs.Prelude.{ℕ, cond, List, [], ◌∷◌, Some, None, Ok, Err, codes, Option, Result}
use Rattle.std.specs.Str.{bytes_eq}
use Rattle.model.specs.Basics.{maybe, the_scope, the_node, the_name, scope_flags, reference_flags}
use Rattle.model.specs.declared.call.Call.TheVariants.{EnterScope, LeaveScope, DeclareReference, ResolveReferences, ResolveAllReferences}
use Rattle.model.specs.declared.call.Call.TheVariants as call
use Rattle.zone_text.specs.declared.operation.LineError.{LineError}
use Rattle.zone_text.specs.declared.operation.LineError.TheVariants.{UnknownWord}
use Rattle.zone_text.specs.declared.operation.Operation.{Operation}
use Rattle.zone_text.specs.declared.operation.Operation.TheVariants.{Setting, Run}
use Rattle.zone_text.specs.declared.verb.Verb.{Verb}
use Rattle.zone_text.specs.declared.verb.Verb.TheVariants.{Set, Enter, Leave, Bind, Refer, Resolve, ResolveAll}
use Rattle.zone_text.specs.Pieces.{words, uncommented}
use Rattle.zone_text.specs.Numbers.{most_8, most_16, most_32}
use Rattle.zone_text.specs.Fields.{and_then, with_number, ended}

abbrev pub verb_of : List ℕ → Option Verb
verb_of w =
    cond (bytes_eq w (codes "setting")) (Some Set)
    (cond (bytes_eq w (codes "enter")) (Some Enter)
    (cond (bytes_eq w (codes "leave")) (Some Leave)
    (cond (bytes_eq w (codes "bind")) (Some Bind)
    (cond (bytes_eq w (codes "reference")) (Some Refer)
    (cond (bytes_eq w (codes "resolve")) (Some Resolve)
    (cond (bytes_eq w (codes "resolve-all")) (Some ResolveAll) None))))))

-- what the words behind each verb say
abbrev pub operation_of : Verb → List (List ℕ) → Result Operation LineError
operation_of Set ws = with_number most_8 ws (λ bits ws. ended ws (Setting bits))
operation_of Enter ws = with_number most_16 ws (λ flags ws. with_number most_32 ws (λ node ws. ended ws (Run (EnterScope (record { flags = scope_flags flags; node = the_node node })))))
operation_of Leave ws = ended ws (Run LeaveScope)
operation_of Bind ws =
    with_number most_8 ws (λ kind ws. with_number most_8 ws (λ modifiers ws. with_number most_32 ws (λ name ws. with_number most_32 ws (λ start ws. with_number most_32 ws (λ end ws. with_number most_32 ws (λ node ws.
    ended ws (Run (call.Bind (record { kind = kind; modifiers = modifiers; name = the_name name; start = start; end = end; node = the_node node })))))))))
operation_of Refer ws =
    with_number most_32 ws (λ name ws. with_number most_32 ws (λ scope ws. with_number most_8 ws (λ flags ws. with_number most_32 ws (λ node ws.
    ended ws (Run (DeclareReference (record { name = the_name name; scope = the_scope scope; flags = reference_flags flags; node = the_node node })))))))
operation_of Resolve ws = with_number most_32 ws (λ start ws. ended ws (Run (ResolveReferences start)))
operation_of ResolveAll ws = ended ws (Run ResolveAllReferences)

abbrev pub words_meaning : List (List ℕ) → Result (Option Operation) LineError
words_meaning [] = Ok None
words_meaning (w ∷ ws) = maybe (verb_of w) (Err UnknownWord) (λ v. and_then (operation_of v ws) (λ o. Ok (Some o)))

-- none where the line is blank or has a comment alone
abbrev pub line_meaning : List ℕ → Result (Option Operation) LineError
line_meaning line = words_meaning (words (uncommented line))
