-- What a call that settles pending entries makes of them, one after the other.
use Rattle.std.proofs.Common.{◌≡◌, ℕ, ◌<◌, ◌⊎◌, List, [], ◌∷◌, ◌++◌, length, Some, sym, refl, ap, ◌∙◌, subst, inl, inr, ⊎_elim, append_assoc, append-nil, arith, get_or-set_other, get_or-set_same}
use mathlib.Core.List.Memᴰ
use Rattle.std.proofs.lemmas.Bool.{cases_lt}
use Rattle.std.specs.List.{AllByRecursion}
use Rattle.tables.specs.declared.id.Name.{Name}
use Rattle.tables.specs.declared.id.ReferenceId.{ReferenceId}
use Rattle.tables.specs.declared.row.ReferenceRow.{ReferenceRow}
use Rattle.tables.specs.declared.row.UnresolvedReference.{UnresolvedReference}
use Rattle.tables.specs.declared.row.ResolvedReference.{ResolvedReference}
use Rattle.tables.specs.declared.row.RootReference.{RootReference}
use Rattle.model.specs.Basics.{the_symbol}
use Rattle.model.specs.State.{Machine, Uses, no_reference, reference_row, use_flags, flags_of}
use Rattle.model.specs.Resolving.{Fate, resolve_to, list_at_root, stay, settle, settle_all, resolved_row, resolved_flags, list_number, deferred as put_off}
use Rattle.laws.specs.FirstFit.{◌∈◌, FirstServing, NoneServing, PassedUp, ResolvedAs, RootListedAs, DeferredAs, Settled, no_more, resolved, root_listed, outside, deferred}
use Rattle.laws.specs.OnceLaw.{of_pending}
use Rattle.laws.proofs.Numbering.{listed_here, listed_still}
use Rattle.laws.proofs.Weights.{one_here}
use Rattle.laws.proofs.Single.{times_there, Single, settle_single, settle_rows}

-- who is next is not among the others, and has a row
pub apart : (us : Uses) (e : UnresolvedReference) (es : List UnresolvedReference) → Single us (e ∷ es) → (x : UnresolvedReference) → x ∈ es → x.reference.0 ≡ e.reference.0 → ⊥
apart us e es o x h q =
    let a = o.once e.reference.0 in
    let b = times_there of_pending e.reference.0 es x h q in
    let c = one_here e.reference.0 in
    omega arith

pub lies : (us : Uses) (e : UnresolvedReference) (es : List UnresolvedReference) → Single us (e ∷ es) → e.reference.0 < length us.references
lies us e es o =
    ⊎_elim (λ l. l)
    (λ l. let a = o.none_past e.reference.0 l in let c = one_here e.reference.0 in absurd (omega arith))
    (cases_lt e.reference.0 (length us.references))

module _ (m : Machine) (Looks : ℕ → Type 0) where
  -- a fate that the tables bear out
  abbrev pub Right : UnresolvedReference → Fate → Type 0
  Right e (resolve_to k) = (t : ℕ) × FirstServing m e e.scope.0 t k × Looks t
  Right e list_at_root = (t : ℕ) × NoneServing m e e.scope.0 t × Looks t
  Right e (stay p) = (Looks p → ⊥) × ((e.scope.0 ≡ p) ⊎ PassedUp m e m.current p e.scope.0)

  -- each that is resolved comes from an entry, and so with the others
  pub resolved_from : {us : Uses} {es ps : List UnresolvedReference} {js : List ResolvedReference} {ks : List RootReference}
      → Settled m Looks us es ps js ks → (j : ResolvedReference) → j ∈ js → (e : UnresolvedReference) × (e ∈ es) × ResolvedAs m Looks us e j
  resolved_from no_more j h = absurd (Memᴰ.not-nil h)
  resolved_from {us = us} (resolved {e = e} a d) j h =
      ⊎_elim
      (λ q. (e, Memᴰ.head refl, subst (ResolvedAs m Looks us e) (sym q) a))
      (λ k. let r = resolved_from d j k in (r.0, Memᴰ.tail r.1, r.2))
      (Memᴰ.cases_cons h)
  resolved_from (root_listed a d) j h = let r = resolved_from d j h in (r.0, Memᴰ.tail r.1, r.2)
  resolved_from (outside a d) j h = let r = resolved_from d j h in (r.0, Memᴰ.tail r.1, r.2)
  resolved_from (deferred a d) j h = let r = resolved_from d j h in (r.0, Memᴰ.tail r.1, r.2)

  pub listed_from : {us : Uses} {es ps : List UnresolvedReference} {js : List ResolvedReference} {ks : List RootReference}
      → Settled m Looks us es ps js ks → (k : RootReference) → k ∈ ks → (e : UnresolvedReference) × (e ∈ es) × RootListedAs m Looks us e k
  listed_from no_more k h = absurd (Memᴰ.not-nil h)
  listed_from {us = us} (root_listed {e = e} a d) k h =
      ⊎_elim
      (λ q. (e, Memᴰ.head refl, subst (RootListedAs m Looks us e) (sym q) a))
      (λ l. let r = listed_from d k l in (r.0, Memᴰ.tail r.1, r.2))
      (Memᴰ.cases_cons h)
  listed_from (resolved a d) k h = let r = listed_from d k h in (r.0, Memᴰ.tail r.1, r.2)
  listed_from (outside a d) k h = let r = listed_from d k h in (r.0, Memᴰ.tail r.1, r.2)
  listed_from (deferred a d) k h = let r = listed_from d k h in (r.0, Memᴰ.tail r.1, r.2)

  pub left_from : {us : Uses} {es ps : List UnresolvedReference} {js : List ResolvedReference} {ks : List RootReference}
      → Settled m Looks us es ps js ks → (p : UnresolvedReference) → p ∈ ps → (e : UnresolvedReference) × (e ∈ es) × ((p ≡ e) ⊎ DeferredAs m e p)
  left_from no_more p h = absurd (Memᴰ.not-nil h)
  left_from (resolved a d) p h = let r = left_from d p h in (r.0, Memᴰ.tail r.1, r.2)
  left_from (root_listed a d) p h = let r = left_from d p h in (r.0, Memᴰ.tail r.1, r.2)
  left_from (outside {e = e} a d) p h =
      ⊎_elim
      (λ q. (e, Memᴰ.head refl, inl q))
      (λ l. let r = left_from d p l in (r.0, Memᴰ.tail r.1, r.2))
      (Memᴰ.cases_cons h)
  left_from (deferred {e = e} a d) p h =
      ⊎_elim
      (λ q. (e, Memᴰ.head refl, inr (subst (DeferredAs m e) (sym q) a)))
      (λ l. let r = left_from d p l in (r.0, Memᴰ.tail r.1, r.2))
      (Memᴰ.cases_cons h)

  -- from us to us' the entries es were settled
  pub record Walked (us : Uses) (es : List UnresolvedReference) (us' : Uses) : Type 0 where
    pub left : List UnresolvedReference
    pub now_resolved : List ResolvedReference
    pub now_listed : List RootReference
    pub pending_is : us'.pending ≡ us.pending ++ left
    pub resolved_is : us'.resolved ≡ us.resolved ++ now_resolved
    pub root_is : us'.root ≡ us.root ++ now_listed
    pub each : Settled m Looks us' es left now_resolved now_listed
    pub other_rows : (r : ℕ) → ((j : ResolvedReference) → j ∈ now_resolved → j.reference.0 ≡ r → ⊥) → reference_row us' r ≡ reference_row us r
    pub same_count : length us'.references ≡ length us.references
    pub lists_stay : (n : Name) (k : ℕ) → us.roots.get n ≡ Some k → us'.roots.get n ≡ Some k
    pub none_left : (p : UnresolvedReference) → p ∈ left → Looks p.scope.0 → ⊥

  -- one entry, and then the others
  step : (us us' : Uses) (e : UnresolvedReference) (es : List UnresolvedReference) (f : Fate) → Right e f → Single us (e ∷ es)
      → reference_row us e.reference.0 ≡ reference_row m.uses e.reference.0 → Walked (settle m.names us e f) es us' → Walked us (e ∷ es) us'
  unfolding settle
  step us us' e es (resolve_to k) a o same w =
      let j : ResolvedReference = record { symbol = the_symbol k; reference = e.reference } in
      let r = e.reference.0 in
      let row : reference_row us' r ≡ resolved_row (reference_row m.uses r) (resolved_flags (use_flags m.uses r) (flags_of m.names k)) k =
      w.other_rows r (λ i h q. let x = resolved_from w.each i h in apart us e es o x.0 x.1 (ap (λ (z : ReferenceId). z.0) x.2.same_reference ∙ q))
      ∙ get_or-set_same us.references r _ no_reference (lies us e es o)
      ∙ ap (λ (x : ReferenceRow). resolved_row x (resolved_flags x.flags.0 (flags_of m.names k)) k) same in
      record {
        left = w.left;
        now_resolved = j ∷ w.now_resolved;
        now_listed = w.now_listed;
        pending_is = w.pending_is;
        resolved_is = w.resolved_is ∙ append_assoc us.resolved (j ∷ []) w.now_resolved;
        root_is = w.root_is;
        each = resolved (record { same_reference = refl; place_of = a.0; first = a.1; looked = a.2; row = row }) w.each;
        other_rows = λ i n. w.other_rows i (λ x h q. n x (Memᴰ.tail h) q) ∙ get_or-set_other us.references r i _ no_reference (λ q. n j (Memᴰ.head refl) (sym q));
        same_count = w.same_count ∙ settle_rows m.names us e (resolve_to k);
        lists_stay = w.lists_stay;
        none_left = w.none_left;
      }
  step us us' e es list_at_root a o same w =
      let k : RootReference = record { list = list_number us.roots e.name.0; reference = e.reference } in
      record {
        left = w.left;
        now_resolved = w.now_resolved;
        now_listed = k ∷ w.now_listed;
        pending_is = w.pending_is;
        resolved_is = w.resolved_is;
        root_is = w.root_is ∙ append_assoc us.root (k ∷ []) w.now_listed;
        each = root_listed (record { same_reference = refl; last = a.0; none = a.1; looked = a.2; list_of_name = w.lists_stay e.name (list_number us.roots e.name.0) (listed_here us.roots e.name.0) }) w.each;
        other_rows = w.other_rows;
        same_count = w.same_count;
        lists_stay = λ n i h. w.lists_stay n i (listed_still us.roots e.name.0 n.0 i h);
        none_left = w.none_left;
      }
  step us us' e es (stay p) a o same w =
      let x : UnresolvedReference = put_off e p in
      record {
        left = x ∷ w.left;
        now_resolved = w.now_resolved;
        now_listed = w.now_listed;
        pending_is = w.pending_is ∙ append_assoc us.pending (x ∷ []) w.left;
        resolved_is = w.resolved_is;
        root_is = w.root_is;
        each = ⊎_elim
            (λ (q : e.scope.0 ≡ p). subst (λ (y : UnresolvedReference). Settled m Looks us' (e ∷ es) (y ∷ w.left) w.now_resolved w.now_listed) (ap (put_off e) q)
            (outside (subst (λ n. Looks n → ⊥) (sym q) a.0) w.each))
            (λ q. deferred (record { same_name = refl; same_reference = refl; passed = q }) w.each)
            a.1;
        other_rows = w.other_rows;
        same_count = w.same_count;
        lists_stay = w.lists_stay;
        none_left = λ y h. ⊎_elim (λ q l. a.0 (subst (λ (z : UnresolvedReference). Looks z.scope.0) q l)) (λ t. w.none_left y t) (Memᴰ.cases_cons h);
      }

  module _ (fate : Uses → UnresolvedReference → Fate) (by_flags : (us us' : Uses) (e : UnresolvedReference) → use_flags us e.reference.0 ≡ use_flags us' e.reference.0 → fate us e ≡ fate us' e) where
    -- the rows of what is yet to be settled are those at the call's entry
    abbrev SameRows : Uses → List UnresolvedReference → Type 0
    SameRows us es = AllByRecursion (λ (e : UnresolvedReference). reference_row us e.reference.0 ≡ reference_row m.uses e.reference.0) es

    settle_same : (us : Uses) (e : UnresolvedReference) (f : Fate) (es : List UnresolvedReference) → ((x : UnresolvedReference) → x ∈ es → x.reference.0 ≡ e.reference.0 → ⊥) → SameRows us es → SameRows (settle m.names us e f) es
    unfolding settle
    settle_same us e f [] a h = tt
    settle_same us e (resolve_to s) (x ∷ es) a h =
        (get_or-set_other us.references e.reference.0 x.reference.0 _ no_reference (a x (Memᴰ.head refl)) ∙ h.0, settle_same us e (resolve_to s) es (λ y k. a y (Memᴰ.tail k)) h.1)
    settle_same us e list_at_root (x ∷ es) a h = h
    settle_same us e (stay s) (x ∷ es) a h = h

    pub walk : (es : List UnresolvedReference) (us : Uses) → Single us es → SameRows us es → AllByRecursion (λ (e : UnresolvedReference). Right e (fate m.uses e)) es → Walked us es (settle_all m.names fate us es)
    unfolding settle_all
    walk [] us o h rights =
        record {
          left = [];
          now_resolved = [];
          now_listed = [];
          pending_is = sym (append-nil us.pending);
          resolved_is = sym (append-nil us.resolved);
          root_is = sym (append-nil us.root);
          each = no_more;
          other_rows = λ r n. refl;
          same_count = refl;
          lists_stay = λ n k e. e;
          none_left = λ p k. absurd (Memᴰ.not-nil k);
        }
    walk (e ∷ es) us o h rights =
        let f = fate us e in
        step us (settle_all m.names fate (settle m.names us e f) es) e es f
        (subst (Right e) (sym (by_flags us m.uses e (ap (λ (x : ReferenceRow). x.flags.0) h.0))) rights.0) o h.0
        (walk es (settle m.names us e f) (settle_single m.names us e es f o) (settle_same us e f es (apart us e es o) h.1) rights.1)
