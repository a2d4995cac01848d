-- First fit, for every call of every run.
use Rattle.std.proofs.Common.{◌≡◌, ℕ, suc, cond, not, ◌&&◌, eqb, ltb, ◌⊎◌, List, [], ◌∷◌, length, take, drop, Some, None, sym, refl, ap, ◌∙◌, subst, inl, inr, ⊎_elim, arith}
use mathlib.Core.List.{Memᴰ}
use lib.Seq.{drop-length, take-length}
use Rattle.std.proofs.lemmas.Bool.{cases_Bool, cond_both, true≢false, eqb-true, eq-eqb}
use Rattle.std.proofs.lemmas.Bool.Decides.{nat_tests}
use Rattle.std.specs.List.{AllByRecursion}
use Rattle.std.proofs.lemmas.Option.{none-some}
use Rattle.tables.specs.declared.refusal.Refusal.TheVariants.{AtRoot, StartPastPending}
use Rattle.tables.specs.declared.row.ScopeRow.{ScopeRow}
use Rattle.tables.specs.declared.row.UnresolvedReference.{UnresolvedReference}
use Rattle.model.specs.declared.call.Call.{Call}
use Rattle.model.specs.declared.call.Call.TheVariants.{EnterScope, LeaveScope, Bind, DeclareReference, ResolveReferences}
use Rattle.model.specs.Basics.{maybe}
use Rattle.model.specs.State.{Machine, Names, Uses, fresh, use_flags}
use Rattle.model.specs.Scopes.{parent_of, chain, is_below}
use Rattle.model.specs.Resolving.{resolve_to, list_at_root, stay, settle_all, keep_pending, search, lookup_chain, chain_up_to, has_ended, fate_here, fate_at_end, resolve_here, resolve_end}
use Rattle.model.specs.Calls.{refusal, granted, after, answer, run, with_uses}
use Rattle.laws.specs.FirstFit.{Granted, Below, Settles, FirstFitRight, FirstFit}
use Rattle.laws.proofs.Basics.{maybe_both, option_cases}
use Rattle.laws.proofs.Granting.{granted_after, after_keeps, refused_answers, refused_after, refused_by_answer}
use Rattle.laws.proofs.Runs.{Good, run_good, fresh_good}
use Rattle.laws.proofs.Searching.{first_from, none_from, part_first, part_ended, part_passed, below_is, below_high}
use Rattle.laws.proofs.Single.{KeptSingle, taken_single, run_single, fresh_single}
use Rattle.laws.proofs.Settling.{Right, Walked, walk}

-- the fates depend on the flags of the entry's own reference alone
here_by_flags : (rows : List ScopeRow) (here parent : ℕ) (nm : Names) (us us' : Uses) (e : UnresolvedReference)
    → use_flags us e.reference.0 ≡ use_flags us' e.reference.0 → fate_here rows here parent nm us e ≡ fate_here rows here parent nm us' e
unfolding fate_here
here_by_flags rows here parent nm us us' e h =
    ap (λ flags. cond (is_below rows here e.scope.0)
    (maybe (search nm e.name.0 flags (chain_up_to rows here e.name.0 flags e.scope.0)) (cond (has_ended rows here e.name.0 flags e.scope.0) list_at_root (stay parent)) resolve_to)
    (stay e.scope.0)) h

end_by_flags : (rows : List ScopeRow) (nm : Names) (us us' : Uses) (e : UnresolvedReference)
    → use_flags us e.reference.0 ≡ use_flags us' e.reference.0 → fate_at_end rows nm us e ≡ fate_at_end rows nm us' e
unfolding fate_at_end
end_by_flags rows nm us us' e h =
    ap (λ flags. maybe (search nm e.name.0 flags (lookup_chain rows e.name.0 flags e.scope.0)) list_at_root resolve_to) h

all_of : {X : Type 0} (P : X → Type 0) → ((x : X) → P x) → (xs : List X) → AllByRecursion P xs
all_of P h [] = tt
all_of P h (x ∷ xs) = (h x, all_of P h xs)

-- granted and refused, by the answer
is_granted : (m : Machine) (c : Call) → Granted m c → refusal m c ≡ None
is_granted m c g = option_cases (refusal m c) (refusal m c ≡ None) (λ h. h) (λ r h. absurd (g r (refused_answers m c r h)))

pub granted_is : (m : Machine) (c : Call) → refusal m c ≡ None → Granted m c
granted_is m c h r e = none-some r (sym h ∙ refused_by_answer m c r e)

pub after_granted : (m : Machine) (c : Call) → Granted m c → after m c ≡ granted m c
after_granted m c g = granted_after m c (is_granted m c g)

module _ (m : Machine) (good : Good m) (single : KeptSingle m) where
  abbrev rows : List ScopeRow
  rows = m.scopes

  here_right : (parent : ℕ) → parent_of rows m.current ≡ Some parent → (e : UnresolvedReference) → Right m (Below m m.current) e (fate_here rows m.current parent m.names m.uses e)
  unfolding fate_here lookup_chain chain is_below has_ended
  here_right parent up e =
      let here = m.current in
      let s = e.scope.0 in
      let lower = good.tree.lower here parent up in
      cond_both (is_below rows here s) _ _ (Right m (Below m here) e)
      (λ b. maybe_both (search m.names e.name.0 (use_flags m.uses e.reference.0) (chain_up_to rows here e.name.0 (use_flags m.uses e.reference.0) s)) _ _ (Right m (Below m here) e)
      (λ n. cond_both (has_ended rows here e.name.0 (use_flags m.uses e.reference.0) s) _ _ (Right m (Below m here) e)
      (λ t. part_ended m e here (suc s) s b n t)
      (λ t. (λ w. let h = below_high m e here good.tree parent w in omega arith, inr (part_passed m e here parent (suc s) s up b n t))))
      (λ k h. part_first m e here (suc s) s k b h))
      (λ b. (λ w. true≢false (sym (below_is m e here good.tree s w) ∙ b), inl refl))

  end_right : (e : UnresolvedReference) → Right m (λ _. Unit) e (fate_at_end rows m.names m.uses e)
  unfolding fate_at_end lookup_chain chain
  end_right e =
      let s = e.scope.0 in
      maybe_both (search m.names e.name.0 (use_flags m.uses e.reference.0) (lookup_chain rows e.name.0 (use_flags m.uses e.reference.0) s)) _ _ (Right m (λ _. Unit) e)
      (λ n. let r = none_from m e good.tree (suc s) s (omega arith) n in (r.0, r.1, tt))
      (λ k h. let r = first_from m e (suc s) s k h in (r.0, r.1, tt))

  walked : (Looks : ℕ → Type 0) (start : ℕ) (us : Uses) → Walked m Looks (keep_pending m.uses (take start m.uses.pending)) (drop start m.uses.pending) us → Settles m Looks start us
  walked Looks start us w =
      record {
        left = w.left;
        now_resolved = w.now_resolved;
        now_listed = w.now_listed;
        pending_is = w.pending_is;
        resolved_is = w.resolved_is;
        root_is = w.root_is;
        each = w.each;
        other_rows = w.other_rows;
        same_count = w.same_count;
        lists_stay = w.lists_stay;
        none_left = w.none_left;
      }

  -- where an entry is to be settled, the current scope has a parent
  has_parent : (start : ℕ) → refusal m (ResolveReferences start) ≡ None → (drop start m.uses.pending ≡ []) ⊎ ((p : ℕ) × (parent_of rows m.current ≡ Some p))
  unfolding refusal
  has_parent start allowed =
      let pending = m.uses.pending in
      let Goal : Type 0 = (drop start pending ≡ []) ⊎ ((p : ℕ) × (parent_of rows m.current ≡ Some p)) in
      option_cases (parent_of rows m.current) Goal
      (λ n. let root : m.current ≡ 0 = good.tree.only_root m.current good.here n in
      ⊎_elim (λ t. inl (ap (λ k. drop k pending) (eqb-true start _ t) ∙ drop-length pending))
      (λ t. absurd (none-some AtRoot (sym allowed ∙ ap (λ b. cond (b && not (eqb start (length pending))) (Some AtRoot) (cond (ltb (length pending) start) (Some StartPastPending) None)) (eq-eqb m.current 0 root)
      ∙ ap (λ b. cond (not b) (Some AtRoot) (cond (ltb (length pending) start) (Some StartPastPending) None)) t)))
      (cases_Bool (eqb start (length pending))))
      (λ p n. inr (p, n))

  abbrev parent : ℕ
  parent = maybe (parent_of rows m.current) 0 (λ p. p)

  rights : (start : ℕ) → refusal m (ResolveReferences start) ≡ None
      → AllByRecursion (λ (e : UnresolvedReference). Right m (Below m m.current) e (fate_here rows m.current parent m.names m.uses e)) (drop start m.uses.pending)
  rights start allowed =
      let P : UnresolvedReference → Type 0 = λ e. Right m (Below m m.current) e (fate_here rows m.current parent m.names m.uses e) in
      ⊎_elim
      (λ none. subst (AllByRecursion P) (sym none) tt)
      (λ q. let up : parent_of rows m.current ≡ Some parent = q.1 ∙ ap (λ o. Some (maybe o 0 (λ p. p))) (sym q.1) in all_of P (here_right parent up) (drop start m.uses.pending))
      (has_parent start allowed)

  scope_settles : (start : ℕ) → refusal m (ResolveReferences start) ≡ None → Settles m (Below m m.current) start (resolve_here rows m.current m.names start m.uses)
  unfolding resolve_here
  scope_settles start allowed =
      walked (Below m m.current) start _
      (walk m (Below m m.current) (fate_here rows m.current parent m.names) (here_by_flags rows m.current parent m.names) (drop start m.uses.pending) _
      (taken_single m.uses start single) (all_of _ (λ e. refl) (drop start m.uses.pending)) (rights start allowed))

  end_settles : Settles m (λ _. Unit) 0 (resolve_end rows m.names m.uses)
  unfolding resolve_end
  end_settles =
      walked (λ _. Unit) 0 _
      (walk m (λ _. Unit) (fate_at_end rows m.names) (end_by_flags rows m.names) m.uses.pending _
      (taken_single m.uses 0 single) (all_of _ (λ e. refl) m.uses.pending) (all_of _ end_right m.uses.pending))

  -- nothing is left where the call looked everywhere
  none_at_all : (ps : List UnresolvedReference) → ((p : UnresolvedReference) → Memᴰ p ps → Unit {0} → ⊥) → ps ≡ []
  none_at_all [] h = refl
  none_at_all (p ∷ ps) h = absurd (h p (Memᴰ.head refl) tt)

  untouched : (c : Call) → (granted m c).uses ≡ m.uses → (after m c).uses ≡ m.uses
  untouched c h = after_keeps m c (λ (x : Machine). x.uses ≡ m.uses) (λ _. h) refl

  none_to_settle : Granted m (ResolveReferences (length m.uses.pending)) × (after m (ResolveReferences (length m.uses.pending)) ≡ m)
  unfolding refusal answer granted resolve_here settle_all
  none_to_settle =
      let pending = m.uses.pending in
      let c = ResolveReferences (length pending) in
      let allowed : refusal m c ≡ None = grind (arith, nat_tests) in
      let g : Granted m c = granted_is m c allowed in (
        g,
        after_granted m c g
            ∙ ap (λ es. with_uses m (settle_all m.names (fate_here rows m.current parent m.names) (keep_pending m.uses (take (length pending) pending)) es)) (drop-length pending)
            ∙ ap (λ ps. with_uses m (keep_pending m.uses ps)) (take-length pending),
      )

  pub first_fit_right : FirstFitRight m
  unfolding granted refusal after
  first_fit_right =
      record {
        resolve_in_scope = λ start g. subst (λ (x : Machine). Settles m (Below m m.current) start x.uses) (sym (after_granted m (ResolveReferences start) g)) (scope_settles start (is_granted m (ResolveReferences start) g));
        resolve_all = end_settles;
        all_settled = end_settles.pending_is ∙ none_at_all end_settles.left end_settles.none_left;
        none_to_resolve = none_to_settle;
        declare_reference = λ r g. ap (λ (x : Machine). x.uses) (after_granted m (DeclareReference r) g);
        enter_scope = λ s. untouched (EnterScope s) refl;
        leave_scope = untouched LeaveScope refl;
        bind = λ d. untouched (Bind d) refl;
        refused = λ c r e. refused_after m c r (refused_by_answer m c r e);
      }

pub first_fit : FirstFit
first_fit setting cs = first_fit_right (run (fresh setting) cs) (run_good cs (fresh setting) (fresh_good setting)) (run_single cs (fresh setting) (fresh_single setting))
