-- What resolving leaves as it was: how many references there are, how many entries in the three lists together,
-- and that every pending entry is of a reference that is there.
use Rattle.std.proofs.Common.{◌≡◌, ℕ, zero, suc, ◌+◌, ◌<◌, List, [], ◌∷◌, ◌++◌, length, take, drop, Some, sym, refl, ap, ◌∙◌, subst, arith, length-append}
use Rattle.std.specs.List.{slice_get}
use Rattle.std.proofs.lemmas.List.{length_push, get_or_append_left, get_or_push, take-append-drop}
use Rattle.std.proofs.lemmas.Option.{slice_get_within, get_or_from_slice_get, slice_get-get_or}
use Rattle.tables.specs.declared.row.ScopeRow.{ScopeRow}
use Rattle.tables.specs.declared.row.UnresolvedReference.{UnresolvedReference}
use Rattle.model.specs.State.{Names, Uses}
use Rattle.model.specs.Resolving.{Fate as ModelFate, resolve_to, list_at_root, stay, deferred, keep_pending, settle, settle_all, resolve_here, resolve_end}
use Rattle.model.proofs.Growth.{entries, grown}

-- each entry is of one of the first n references
abbrev pub RefersBelow : ℕ → List UnresolvedReference → Type 0
RefersBelow n ps = (k : ℕ) (e : UnresolvedReference) → slice_get ps k ≡ Some e → e.reference.0 < n

pub waits_push : (n : ℕ) (ps : List UnresolvedReference) (p : UnresolvedReference) → RefersBelow n ps → p.reference.0 < n → RefersBelow n (ps ++ p ∷ [])
waits_push n ps p h l k e q = grind (arith, h k e, length_push ps p, get_or_from_slice_get (ps ++ p ∷ []) k e e q, slice_get_within (ps ++ p ∷ []) k e q, slice_get-get_or ps k e, get_or_append_left ps (p ∷ []) e k, get_or_push ps p e k)

waits_take : (n : ℕ) (ps : List UnresolvedReference) (j : ℕ) → RefersBelow n ps → RefersBelow n (take j ps)
waits_take n [] zero h k e q = h k e q
waits_take n [] (suc j) h k e q = h k e q
waits_take n (p ∷ ps) zero h k e q = let z : ◌≡◌ {A = ℕ} 0 1 = cc in absurd (omega arith)
waits_take n (p ∷ ps) (suc j) h zero e q = h zero e q
waits_take n (p ∷ ps) (suc j) h (suc k) e q = waits_take n ps j (λ i y r. h (suc i) y r) k e q

waits_drop : (n : ℕ) (ps : List UnresolvedReference) (j : ℕ) → RefersBelow n ps → RefersBelow n (drop j ps)
waits_drop n ps zero h k e q = h k e q
waits_drop n [] (suc j) h k e q = h k e q
waits_drop n (p ∷ ps) (suc j) h k e q = waits_drop n ps j (λ i y r. h (suc i) y r) k e q

waits_settle : (n : ℕ) (nm : Names) (us : Uses) (e : UnresolvedReference) (f : ModelFate) → RefersBelow n us.pending → e.reference.0 < n → RefersBelow n (settle nm us e f).pending
unfolding settle
waits_settle n nm us e (resolve_to s) h l = h
waits_settle n nm us e list_at_root h l = h
waits_settle n nm us e (stay s) h l = waits_push n us.pending (deferred e s) h l

module _ (nm : Names) (fate : Uses → UnresolvedReference → ModelFate) where
  waits_all : (n : ℕ) (us : Uses) (es : List UnresolvedReference) → RefersBelow n us.pending → RefersBelow n es → RefersBelow n (settle_all nm fate us es).pending
  unfolding settle_all
  waits_all n us [] h l = h
  waits_all n us (e ∷ es) h l = waits_all n (settle nm us e (fate us e)) es (waits_settle n nm us e (fate us e) h (l 0 e refl)) (λ k x q. l (suc k) x q)

  references_all : (us : Uses) (es : List UnresolvedReference) → length (settle_all nm fate us es).references ≡ length us.references
  unfolding settle_all
  references_all us [] = refl
  references_all us (e ∷ es) = references_all (settle nm us e (fate us e)) es ∙ (grown nm us e (fate us e)).references

  entries_all : (us : Uses) (es : List UnresolvedReference) → entries (settle_all nm fate us es) ≡ entries us + length es
  unfolding settle_all
  entries_all us [] = omega arith
  entries_all us (e ∷ es) =
      let r = entries_all (settle nm us e (fate us e)) es in
      let g = (grown nm us e (fate us e)).total in
      omega arith

pub record KeptIn (us v : Uses) : Type 0 where
  pub references : length v.references ≡ length us.references
  pub total : entries v ≡ entries us
  pub waits : RefersBelow (length us.references) us.pending → RefersBelow (length v.references) v.pending

kept_in : (nm : Names) (fate : Uses → UnresolvedReference → ModelFate) (us : Uses) (start : ℕ) →
    KeptIn us (settle_all nm fate (keep_pending us (take start us.pending)) (drop start us.pending))
kept_in nm fate us start =
    let front = keep_pending us (take start us.pending) in
    let rest = drop start us.pending in
    let r = references_all nm fate front rest in
    let t = entries_all nm fate front rest in
    let a = ap length (take-append-drop start us.pending) in
    let b = length-append (take start us.pending) rest in
    record {
      references = r;
      total = omega arith;
      waits = λ h.
          subst (λ (n : ℕ). RefersBelow n (settle_all nm fate front rest).pending) (sym r)
          (waits_all nm fate (length us.references) front rest (waits_take _ us.pending start h) (waits_drop _ us.pending start h));
    }

pub kept_as : (us v w : Uses) → v ≡ w → KeptIn us w → KeptIn us v
kept_as us v w q = subst (KeptIn us) (sym q)

pub resolve_here_keeps : (rows : List ScopeRow) (here : ℕ) (nm : Names) (start : ℕ) (us : Uses) → KeptIn us (resolve_here rows here nm start us)
unfolding resolve_here
resolve_here_keeps rows here nm start us = kept_in nm _ us start

pub resolve_end_keeps : (rows : List ScopeRow) (nm : Names) (us : Uses) → KeptIn us (resolve_end rows nm us)
unfolding resolve_end
resolve_end_keeps rows nm us = kept_in nm _ us 0
