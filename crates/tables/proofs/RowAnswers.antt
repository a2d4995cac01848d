-- What the answer to a reading call tells of the row.
use Rattle.std.proofs.Common.{◌≡◌, ℕ, ◌<◌, List, length, Some, None, Err, Option, Result, get_or, refl, ◌∙◌, subst, arith, unwrap_or}
use Rattle.std.proofs.lemmas.Option.{slice_get_cases, unwrap_or-slice_get}
use Rattle.std.specs.List.{slice_get}
use Rattle.std.specs.Option.{UnwrapsOrElse}
use Rattle.tables.specs.declared.refusal.Refusal.{Refusal}
use Rattle.tables.specs.Contents.{row_answer}

row_absent : {X : Type 0} (o : Option X) (r : Refusal) → ◌≡◌ {A = Result X Refusal} (Err r) (row_answer o) → o ≡ None
row_absent None r q = refl
row_absent (Some y) r q = let z : ◌≡◌ {A = ℕ} 0 1 = cc in absurd (omega arith)

pub row_there : {X : Type 0} (xs : List X) (k : ℕ) (r : Refusal) → k < length xs → ◌≡◌ {A = Result X Refusal} (Err r) (row_answer (slice_get xs k)) → ⊥
row_there xs k r h q = let e = row_absent (slice_get xs k) r q in grind (arith, slice_get_cases)

unwrapped : {X : Type 0} (o : Option X) (IsDefault : X → Type 0) (r d : X) → (IsDefault r → r ≡ d) → UnwrapsOrElse o IsDefault r → r ≡ unwrap_or o d
unwrapped None IsDefault r d f u = f u
unwrapped (Some x) IsDefault r d f u = u

-- a row that is read, or the default one
pub row_or : {X : Type 0} (xs : List X) (i : ℕ) (o : Option X) (IsDefault : X → Type 0) (r d : X) → o ≡ slice_get xs i → (IsDefault r → r ≡ d) → UnwrapsOrElse o IsDefault r → r ≡ get_or xs i d
row_or xs i o IsDefault r d e f u = unwrapped (slice_get xs i) IsDefault r d f (subst (λ q. UnwrapsOrElse q IsDefault r) e u) ∙ unwrap_or-slice_get xs i d
