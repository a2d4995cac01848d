-- How the calls keep what the type of a builder keeps.
use Rattle.std.proofs.Common.{◌≡◌, ℕ, ◌<◌, [], ◌∷◌, ◌++◌, length, List, sym, ◌∙◌, subst, arith}
use Rattle.std.proofs.lemmas.List.{length_push}
use Rattle.tables.specs.Contents.{Contents, with_scopes, with_references, with_pending}
use Rattle.tables.specs.Limits.{most_references}
use Rattle.tables.specs.declared.id.Name.{Name}
use Rattle.tables.specs.declared.row.ScopeRow.{ScopeRow}
use Rattle.tables.specs.declared.row.ReferenceRow.{ReferenceRow}
use Rattle.tables.specs.declared.row.UnresolvedReference.{UnresolvedReference}
use Rattle.stores.specs.Pairs.{Pairs}
use Rattle.model.specs.View.{uses_of, beside_uses}
use Rattle.builder.specs.Kept.{Kept}
use Rattle.builder.proofs.KeptUses.{KeptIn, waits_push}

pub kept_scopes : (n m : ℕ) (t : Contents) (xs : List ScopeRow) → Kept n t → m < length xs → Kept m (with_scopes t xs)
kept_scopes n m t xs k h = record { here = h; waits = k.waits; counted = k.counted; few = k.few }

-- a reference more, and its pending entry
pub kept_referred : (n : ℕ) (t : Contents) (row : ReferenceRow) (e : UnresolvedReference) → e.reference.0 ≡ length t.references → length t.references < most_references → Kept n t
    → Kept n (with_pending (with_references t (t.references ++ row ∷ [])) (t.pending ++ e ∷ []))
kept_referred n t row e is room k =
    let l = length_push t.references row in
    let m = length_push t.pending e in
    let c = k.counted in
    record { here = k.here; waits = waits_push _ t.pending e (λ j x q. let b = k.waits j x q in omega arith) (omega arith); counted = omega arith; few = omega arith }

pub kept_resolved : (n : ℕ) (old new : Contents) (roots lists : Pairs Name) → Kept n old → beside_uses new ≡ beside_uses old → KeptIn (uses_of old roots) (uses_of new lists) → Kept n new
kept_resolved n old new roots lists k rest i =
    record { here = subst (λ (x : Contents). n < length x.scopes) (sym rest) k.here; waits = i.waits k.waits; counted = i.total ∙ k.counted ∙ sym i.references; few = (let a = i.references in let b = k.few in omega arith) }
