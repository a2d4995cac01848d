-- What the calls keep of the references.
use Rattle.std.proofs.Common.{◌≡◌, ℕ, suc, ◌+◌, ◌<◌, ◌≤◌, cond, ◌⊎◌, List, [], ◌∷◌, ◌++◌, length, get_or, take, drop, Some, None, Option, sym, refl, ap, ◌∙◌, subst, inl, inr, ⊎_elim, arith, length-append, length-set, take-append-drop, get_or-set_other, get_or-set_same}
use Rattle.std.proofs.lemmas.Option.{none-some, same_Some}
use lib.ListN.{get_or-append, get_or-eq_default}
use lib.Seq.{get_or-append_seam}
use Rattle.std.proofs.lemmas.Bool.{cases_Bool, cond_both, cases_eq, cases_lt, cond-true, cond-false}
use Rattle.std.proofs.ByRecursion.{All-push, All-weaker, All-take, All-drop}
use Rattle.std.specs.List.{AllByRecursion}
use Rattle.tables.specs.declared.row.ScopeRow.{ScopeRow}
use Rattle.tables.specs.declared.row.ReferenceRow.{ReferenceRow}
use Rattle.tables.specs.declared.row.UnresolvedReference.{UnresolvedReference}
use Rattle.tables.specs.declared.row.ResolvedReference.{ResolvedReference}
use Rattle.tables.specs.declared.row.RootReference.{RootReference}
use Rattle.model.specs.declared.call.NewReference.{NewReference}
use Rattle.model.specs.Basics.{maybe, symbol_number, the_name, the_symbol, the_reference}
use Rattle.model.specs.State.{Names, Uses, no_reference, symbol_row, use_flags}
use Rattle.model.specs.Scopes.{is_below}
use Rattle.model.specs.Declaring.{binding}
use Rattle.model.specs.Resolving.{Fate, resolve_to, list_at_root, stay, settle, settle_all, resolve_end, resolve_here, keep_pending, deferred, list_number, fate_at_end, fate_here, search, serving_in, serves, lookup_chain, chain_up_to, has_ended}
use Rattle.model.specs.Calls.{refer}
use Rattle.laws.specs.OnceLaw.{total, sum_of, of_pending, of_resolved, of_root, weight, one, resolved_to, NumbersRight}
use Rattle.laws.proofs.Basics.{option_cases, maybe_both}
use Rattle.laws.proofs.Growing.{Grown}
use Rattle.laws.proofs.Numbering.{listing, listed_here, listed_still, numbers_listing}
use Rattle.laws.proofs.Weights.{sum_append, settle_weight, one_here, total_one_le, none_there}

-- the reference was accepted, under this name
abbrev pub Named : List ℕ → ℕ → ℕ → Type 0
Named names r n = (r < length names) × (n ≡ get_or names r 0)

pub named_more : (names more : List ℕ) (r n : ℕ) → Named names r n → Named (names ++ more) r n
named_more names more r n h = let l = h.0 in (simp length-append (omega arith), h.1 ∙ sym (get_or-append names more 0 r h.0))

-- a symbol of this name is there
abbrev pub IsNamed : Names → ℕ → ℕ → Type 0
IsNamed nm n s = (s < length nm.symbols) × ((symbol_row nm s).name.0 ≡ n)

-- it is in the list of the name that it was accepted under
abbrev pub RootNamed : List ℕ → Uses → RootReference → Type 0
RootNamed names us k = (k.reference.0 < length names) × (us.roots.get (the_name (get_or names k.reference.0 0)) ≡ Some k.list)

-- the lists, while the entries es wait to be settled
pub record Ordered (names : List ℕ) (nm : Names) (us : Uses) (es : List UnresolvedReference) : Type 0 where
  pub weighed : (w : ℕ → ℕ) → weight w us + sum_of of_pending w es ≡ total w (length us.references)
  pub rows : length us.references ≡ length names
  pub pending_named : AllByRecursion (λ (e : UnresolvedReference). Named names e.reference.0 e.name.0) us.pending
  pub waiting_named : AllByRecursion (λ (e : UnresolvedReference). Named names e.reference.0 e.name.0) es
  pub root_named : AllByRecursion (RootNamed names us) us.root
  pub root_numbers : NumbersRight us.roots us.root
  pub resolved_rows : AllByRecursion (λ (j : ResolvedReference). resolved_to us j.reference.0 ≡ Some j.symbol.0) us.resolved
  pub pending_rows : AllByRecursion (λ (e : UnresolvedReference). resolved_to us e.reference.0 ≡ None) us.pending
  pub waiting_rows : AllByRecursion (λ (e : UnresolvedReference). resolved_to us e.reference.0 ≡ None) es
  pub root_rows : AllByRecursion (λ (k : RootReference). resolved_to us k.reference.0 ≡ None) us.root
  pub resolved_there : AllByRecursion (λ (j : ResolvedReference). (j.symbol.0 < length nm.symbols) × Named names j.reference.0 (symbol_row nm j.symbol.0).name.0) us.resolved

module _ (names : List ℕ) (nm : Names) where
  -- the entry that is settled next is in no list, and does not wait twice
  module _ (us : Uses) (e : UnresolvedReference) (es : List UnresolvedReference) (o : Ordered names nm us (e ∷ es)) where
    weighs : weight (one e.reference.0) us + (1 + sum_of of_pending (one e.reference.0) es) ≤ 1
    weighs =
        let a = o.weighed (one e.reference.0) in
        let b = one_here e.reference.0 in
        let c = total_one_le e.reference.0 (length us.references) in
        omega arith

    -- rows of other references stay, when it is resolved
    stays : (s : ℕ) → {X : Type 0} (col : X → ℕ) (val : X → Option ℕ) (xs : List X) → sum_of col (one e.reference.0) xs ≡ 0
        → AllByRecursion (λ x. resolved_to us (col x) ≡ val x) xs → AllByRecursion (λ x. resolved_to (settle nm us e (resolve_to s)) (col x) ≡ val x) xs
    unfolding settle
    stays s {X} col val xs z h = go xs (none_there col e.reference.0 xs z) h
      where
        go : (ys : List X) → AllByRecursion (λ y. col y ≡ e.reference.0 → ⊥) ys → AllByRecursion (λ x. resolved_to us (col x) ≡ val x) ys → AllByRecursion (λ x. resolved_to (settle nm us e (resolve_to s)) (col x) ≡ val x) ys
        go [] a k = tt
        go (y ∷ ys) a k = (ap (λ (r : ReferenceRow). symbol_number r.symbol) (get_or-set_other us.references e.reference.0 (col y) _ no_reference a.0) ∙ k.0, go ys a.1 k.1)

  pub settle_ordered : (us : Uses) (e : UnresolvedReference) (es : List UnresolvedReference) (f : Fate) → ((s : ℕ) → f ≡ resolve_to s → IsNamed nm e.name.0 s)
      → Ordered names nm us (e ∷ es) → Ordered names nm (settle nm us e f) es
  unfolding settle
  settle_ordered us e es (resolve_to s) ok o =
      let n = o.waiting_named.0 in
      let w = weighs us e es o in
      let row : ResolvedReference = record { symbol = the_symbol s; reference = e.reference } in
      record {
        weighed = λ w. let a = o.weighed w in let b = settle_weight w nm us e (resolve_to s) in simp length-set (omega arith);
        rows = simp length-set o.rows;
        pending_named = o.pending_named;
        waiting_named = o.waiting_named.1;
        root_named = o.root_named;
        root_numbers = o.root_numbers;
        resolved_rows = All-push _ us.resolved row
            (stays us e es o s of_resolved (λ (j : ResolvedReference). Some j.symbol.0) us.resolved (omega arith) o.resolved_rows)
            (let l : e.reference.0 < length us.references = (let a = n.0 in let b = o.rows in omega arith) in
            ap (λ (r : ReferenceRow). symbol_number r.symbol) (get_or-set_same us.references e.reference.0 _ no_reference l));
        pending_rows = stays us e es o s of_pending (λ x. None) us.pending (omega arith) o.pending_rows;
        waiting_rows = stays us e es o s of_pending (λ x. None) es (omega arith) o.waiting_rows.1;
        root_rows = stays us e es o s of_root (λ x. None) us.root (omega arith) o.root_rows;
        resolved_there = All-push _ us.resolved row o.resolved_there ((ok s refl).0, (n.0, (ok s refl).1 ∙ n.1));
      }
  settle_ordered us e es list_at_root ok o =
      let n = o.waiting_named.0 in
      let row = listing (list_number us.roots e.name.0) e.reference in
      record {
        weighed = λ w. let a = o.weighed w in let b = settle_weight w nm us e list_at_root in omega arith;
        rows = o.rows;
        pending_named = o.pending_named;
        waiting_named = o.waiting_named.1;
        root_named = All-push _ us.root row
            (All-weaker _ _ (λ k h. (h.0, listed_still us.roots e.name.0 _ k.list h.1)) us.root o.root_named)
            (n.0, subst (λ x. (settle nm us e list_at_root).roots.get (the_name x) ≡ Some (list_number us.roots e.name.0)) n.1 (listed_here us.roots e.name.0));
        root_numbers = numbers_listing us.roots e.name.0 us.root e.reference o.root_numbers;
        pending_rows = o.pending_rows;
        waiting_rows = o.waiting_rows.1;
        root_rows = All-push _ us.root row o.root_rows o.waiting_rows.0;
        resolved_rows = o.resolved_rows;
        resolved_there = o.resolved_there;
      }
  settle_ordered us e es (stay s) ok o =
      record {
        weighed = λ w. let a = o.weighed w in let b = settle_weight w nm us e (stay s) in omega arith;
        rows = o.rows;
        pending_named = All-push _ us.pending (deferred e s) o.pending_named o.waiting_named.0;
        waiting_named = o.waiting_named.1;
        root_named = o.root_named;
        root_numbers = o.root_numbers;
        pending_rows = All-push _ us.pending (deferred e s) o.pending_rows o.waiting_rows.0;
        waiting_rows = o.waiting_rows.1;
        root_rows = o.root_rows;
        resolved_rows = o.resolved_rows;
        resolved_there = o.resolved_there;
      }

  pub settle_all_ordered : (fate : Uses → UnresolvedReference → Fate) → ((us : Uses) (e : UnresolvedReference) (s : ℕ) → fate us e ≡ resolve_to s → IsNamed nm e.name.0 s)
      → (es : List UnresolvedReference) (us : Uses) → Ordered names nm us es → Ordered names nm (settle_all nm fate us es) []
  unfolding settle_all
  settle_all_ordered fate ok [] us o = o
  settle_all_ordered fate ok (e ∷ es) us o = settle_all_ordered fate ok es (settle nm us e (fate us e)) (settle_ordered us e es (fate us e) (ok us e) o)

  -- some entries are taken out of the pending list, to be settled
  pub taken_ordered : (us : Uses) (start : ℕ) → Ordered names nm us [] → Ordered names nm (keep_pending us (take start us.pending)) (drop start us.pending)
  taken_ordered us start o =
      record {
        weighed = λ w. let a = o.weighed w in
            let b = ap (sum_of of_pending w) (take-append-drop start us.pending) in
            let c = sum_append of_pending w (take start us.pending) (drop start us.pending) in omega arith;
        rows = o.rows;
        pending_named = All-take _ start us.pending o.pending_named;
        waiting_named = All-drop _ start us.pending o.pending_named;
        root_named = o.root_named;
        root_numbers = o.root_numbers;
        pending_rows = All-take _ start us.pending o.pending_rows;
        waiting_rows = All-drop _ start us.pending o.pending_rows;
        root_rows = o.root_rows;
        resolved_rows = o.resolved_rows;
        resolved_there = o.resolved_there;
      }

-- a search ends at a binding of the name
search_ends : (nm : Names) (name flags s : ℕ) (ps : List ℕ) → search nm name flags ps ≡ Some s → (p : ℕ) × (binding nm p name ≡ Some s)
unfolding search
search_ends nm name flags s [] e = absurd (none-some s e)
search_ends nm name flags s (p ∷ ps) e =
    option_cases (serving_in nm name flags p) ((p : ℕ) × (binding nm p name ≡ Some s))
    (λ q. search_ends nm name flags s ps (sym (ap (λ o. maybe o (search nm name flags ps) Some) q) ∙ e))
    (λ k q. (
      p,
      option_cases (binding nm p name) (binding nm p name ≡ Some s)
          (λ b. absurd (none-some k (sym (ap (λ o. maybe o None (λ s. cond (serves nm name flags s) (Some s) None)) b) ∙ q)))
          (λ j b. b ∙ ap Some (that j k (sym (ap (λ o. maybe o None (λ s. cond (serves nm name flags s) (Some s) None)) b) ∙ q) ∙ same_Some k s (sym (ap (λ o. maybe o (search nm name flags ps) Some) q) ∙ e))),
    ))
  where
    that : (j k : ℕ) → cond (serves nm name flags j) (Some j) None ≡ Some k → j ≡ k
    that j k h = ⊎_elim (λ t. same_Some j k (sym (cond-true (serves nm name flags j) (Some j) None t) ∙ h))
        (λ t. absurd (none-some k (sym (cond-false (serves nm name flags j) (Some j) None t) ∙ h)))
        (cases_Bool (serves nm name flags j))

abbrev resolves_to : Fate → Option ℕ
resolves_to (resolve_to s) = Some s
resolves_to list_at_root = None
resolves_to (stay s) = None

module _ (rows : List ScopeRow) (nm : Names) (leads : (p n k : ℕ) → binding nm p n ≡ Some k → IsNamed nm n k) where
  -- what a fate resolves to is there, under the name
  abbrev Ok : ℕ → Fate → Type 0
  Ok n f = (s : ℕ) → f ≡ resolve_to s → IsNamed nm n s

  no_symbol_ok : (n : ℕ) (f : Fate) → resolves_to f ≡ None → Ok n f
  no_symbol_ok n f q s h = absurd (none-some s (sym q ∙ ap resolves_to h))

  found_ok : (name flags k : ℕ) (ps : List ℕ) → search nm name flags ps ≡ Some k → Ok name (resolve_to k)
  found_ok name flags k ps f s h =
      let b = search_ends nm name flags k ps f in
      subst (λ x. IsNamed nm name x) (same_Some k s (ap resolves_to h)) (leads b.0 name k b.1)

  here_ok : (here parent : ℕ) (us : Uses) (e : UnresolvedReference) → Ok e.name.0 (fate_here rows here parent nm us e)
  unfolding fate_here
  here_ok here parent us e =
      let flags = use_flags us e.reference.0 in
      let O : Fate → Type 0 = Ok e.name.0 in
      cond_both (is_below rows here e.scope.0) _ _ O
      (λ _. maybe_both (search nm e.name.0 flags (chain_up_to rows here e.name.0 flags e.scope.0)) _ _ O
      (λ _. cond_both (has_ended rows here e.name.0 flags e.scope.0) list_at_root (stay parent) O (λ _. no_symbol_ok e.name.0 list_at_root refl) (λ _. no_symbol_ok e.name.0 (stay parent) refl))
      (λ s f. found_ok e.name.0 flags s _ f))
      (λ _. no_symbol_ok e.name.0 (stay e.scope.0) refl)

  end_ok : (us : Uses) (e : UnresolvedReference) → Ok e.name.0 (fate_at_end rows nm us e)
  unfolding fate_at_end
  end_ok us e =
      let flags = use_flags us e.reference.0 in
      maybe_both (search nm e.name.0 flags (lookup_chain rows e.name.0 flags e.scope.0)) list_at_root resolve_to (Ok e.name.0)
      (λ _. no_symbol_ok e.name.0 list_at_root refl) (λ s f. found_ok e.name.0 flags s _ f)

  module _ (names : List ℕ) (us : Uses) (o : Ordered names nm us []) where
    pub resolve_here_ordered : (here start : ℕ) → Ordered names nm (resolve_here rows here nm start us) []
    unfolding resolve_here
    resolve_here_ordered here start =
        settle_all_ordered names nm _ (here_ok here _) (drop start us.pending) _ (taken_ordered names nm us start o)

    pub resolve_end_ordered : Ordered names nm (resolve_end rows nm us) []
    unfolding resolve_end
    resolve_end_ordered = settle_all_ordered names nm _ end_ok us.pending _ (taken_ordered names nm us 0 o)

pub refer_ordered : (names : List ℕ) (nm : Names) (us : Uses) (r : NewReference) → Ordered names nm us [] → Ordered (names ++ r.name.0 ∷ []) nm (refer r us) []
refer_ordered names nm us r o =
    let x : ReferenceRow = record { node = r.node; flags = r.flags; symbol = None } in
    let n = r.name.0 in
    let e : UnresolvedReference = record { name = r.name; reference = the_reference (length us.references); scope = r.scope } in
    let one_more : length (us.references ++ x ∷ []) ≡ suc (length us.references) = simp length-append (omega arith) in
    record {
      weighed = λ w. let a = o.weighed w in
          let b = ap (total w) one_more in
          let c = sum_append of_pending w us.pending (e ∷ []) in omega arith;
      rows = one_more ∙ ap suc o.rows ∙ sym (simp length-append (omega arith));
      pending_named = All-push _ us.pending e
          (All-weaker _ _ (λ e h. named_more names (n ∷ []) e.reference.0 e.name.0 h) us.pending o.pending_named)
          (let r = o.rows in simp length-append (omega arith), sym (ap (λ k. get_or (names ++ n ∷ []) k 0) o.rows ∙ get_or-append_seam names n [] 0));
      waiting_named = tt;
      root_named = All-weaker _ _
          (λ k h. let m = named_more names (n ∷ []) k.reference.0 _ (h.0, refl) in (m.0, subst (λ y. us.roots.get (the_name y) ≡ Some k.list) m.1 h.1))
          us.root o.root_named;
      root_numbers = o.root_numbers;
      resolved_rows = All-weaker _ _ (λ j h. kept_row j.reference.0 (Some j.symbol.0) h (inl (j.symbol.0, refl))) us.resolved o.resolved_rows;
      pending_rows = All-push _ us.pending e
          (All-weaker _ _ (λ e h. kept_row e.reference.0 None h (inr refl)) us.pending o.pending_rows)
          (ap (λ (y : ReferenceRow). symbol_number y.symbol) (get_or-append_seam us.references x [] no_reference));
      waiting_rows = tt;
      root_rows = All-weaker _ _ (λ k h. kept_row k.reference.0 None h (inr refl)) us.root o.root_rows;
      resolved_there = All-weaker _ _ (λ j h. (h.0, named_more names (n ∷ []) j.reference.0 _ h.1)) us.resolved o.resolved_there;
    }
  where
    -- a row more leaves the others' symbols as they are: the new one has none
    kept_row : (k : ℕ) (v : Option ℕ) → resolved_to us k ≡ v → ((s : ℕ) × (v ≡ Some s)) ⊎ (v ≡ None) → resolved_to (refer r us) k ≡ v
    kept_row k v h c =
        let x : ReferenceRow = record { node = r.node; flags = r.flags; symbol = None } in
        ⊎_elim
        (λ l. ap (λ (y : ReferenceRow). symbol_number y.symbol) (get_or-append us.references (x ∷ []) no_reference k l) ∙ h)
        (λ (l : length us.references ≤ k).
        let gone : resolved_to us k ≡ None = ap (λ (y : ReferenceRow). symbol_number y.symbol) (get_or-eq_default us.references no_reference l) in
        ⊎_elim
        (λ s. absurd (none-some s.0 (sym gone ∙ h ∙ s.1)))
        (λ (n : v ≡ None). ⊎_elim
        (λ (q : k ≡ length us.references). ap (λ i. resolved_to (refer r us) i) q ∙ ap (λ (y : ReferenceRow). symbol_number y.symbol) (get_or-append_seam us.references x [] no_reference) ∙ sym n)
        (λ (q : k ≡ length us.references → ⊥). (let m : length (us.references ++ x ∷ []) ≤ k = simp length-append (omega arith) in ap (λ (y : ReferenceRow). symbol_number y.symbol) (get_or-eq_default (us.references ++ x ∷ []) no_reference m)) ∙ sym n)
        (cases_eq k (length us.references)))
        c)
        (cases_lt k (length us.references))

-- more symbols
pub ordered_more : (names : List ℕ) (s h : ℕ) (nm nm' : Names) (us : Uses) → Grown s h nm nm' → Ordered names nm us [] → Ordered names nm' us []
ordered_more names s h nm nm' us g o =
    record {
      weighed = o.weighed;
      rows = o.rows;
      pending_named = o.pending_named;
      waiting_named = tt;
      root_named = o.root_named;
      root_numbers = o.root_numbers;
      resolved_rows = o.resolved_rows;
      pending_rows = o.pending_rows;
      waiting_rows = tt;
      root_rows = o.root_rows;
      resolved_there = All-weaker _ _ (λ j h. let a = h.0 in let b = g.longer in (omega arith, (h.1.0, g.same_names j.symbol.0 h.0 ∙ h.1.1))) us.resolved o.resolved_there;
    }
