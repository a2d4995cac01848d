-- The law on early errors, over runs.
use Rattle.std.proofs.Common.{◌≡◌, ℕ, false, not, eqb, ◌≢◌, List, [], ◌∷◌, ◌++◌, sym, refl, ap, ◌∙◌, subst, inl, inr, ⊎_elim, append_assoc, append-nil, not-suc-le-zero, arith}
use Rattle.std.proofs.lemmas.Bool.{cases_Bool, cond-true, cond-false}
use Rattle.std.specs.List.{AllByRecursion}
use Rattle.std.proofs.lemmas.Option.{none-some}
use Rattle.tables.specs.Flags.{meets, VarScope}
use Rattle.tables.specs.declared.row.ScopeRow.{ScopeRow}
use Rattle.model.specs.declared.call.Call.{Call}
use Rattle.model.specs.declared.call.Call.TheVariants.{EnterScope, LeaveScope, Bind, DeclareReference, ResolveReferences, ResolveAllReferences}
use Rattle.model.specs.declared.call.Declaration.{Declaration}
use Rattle.model.specs.State.{Names, Machine, fresh, flags_of}
use Rattle.model.specs.Scopes.{flags_in}
use Rattle.model.specs.Declaring.{Told}
use Rattle.model.specs.Calls.{bound, granted, after, answer, run, child, handed, parent_here}
use Rattle.laws.specs.Conflicts.{Again, Outcome, stopped, united, made, was_granted, is_bind}
use Rattle.laws.specs.EarlyErrors.{Granted, granted_by, declarations, OfFour, EarlyErrors}
use Rattle.laws.proofs.Basics.{eval_apart}
use Rattle.laws.proofs.Tree.{Tree, Kept, kept_push, kept_set}
use Rattle.laws.proofs.Runs.{Good, fresh_good, after_good}
use Rattle.laws.proofs.Forms.{form, Ranged, after_ranged, fresh_ranged}
use Rattle.laws.proofs.Granting.{granted_after, after_keeps}
use Rattle.laws.proofs.Outcomes.{form_outcome, granted_no_refusal, after_refused, other_names}
use Rattle.laws.proofs.Ways.{var_inside, way_kept}
use Rattle.laws.proofs.Early.{Early, snoc_not_nil, more_error, four_step}

-- scopes that come to be

kept_self : (rows : List ScopeRow) → Kept rows rows
kept_self rows = record { parents = λ s h. refl; vars = λ s h. refl; grown = omega arith }

granted_kept : (m : Machine) (c : Call) → Kept m.scopes (granted m c).scopes
unfolding granted
granted_kept m (EnterScope s) = kept_push m.scopes (child m.scopes m.current s)
granted_kept m LeaveScope =
    let p = parent_here m in
    kept_set m.scopes p (handed m.scopes m.current p) refl (ap (λ b. not (eqb b 0)) (eval_apart VarScope refl (flags_in m.scopes p) (flags_in m.scopes m.current)))
granted_kept m (Bind d) = kept_self m.scopes
granted_kept m (DeclareReference r) = kept_self m.scopes
granted_kept m (ResolveReferences start) = kept_self m.scopes
granted_kept m ResolveAllReferences = kept_self m.scopes

after_kept : (m : Machine) (c : Call) → Kept m.scopes (after m c).scopes
after_kept m c = after_keeps m c (λ x. Kept m.scopes x.scopes) (λ _. granted_kept m c) (kept_self m.scopes)

early_kept : (rows rows' : List ScopeRow) (nm : Names) (ds : List Granted) → Tree rows → Kept rows rows' → Early rows nm ds → Early rows' nm ds
early_kept rows rows' nm ds tree kept e =
    ⊎_elim
    (λ c. let b = c.base in
    inl (record {
      base = record {
        quiet = b.quiet;
        plain = b.plain;
        bindings = λ s n k q. ⊎_elim (λ o. inl o) (λ o. inr (o.0, kept.vars s (var_inside rows s o.1) ∙ o.1, o.2)) (b.bindings s n k q);
        hoists = b.hoists;
      };
      no_error = c.no_error;
      lexicals = c.lexicals;
      vars = c.vars;
      upward = λ p q n o w. c.upward p q n o (way_kept rows rows' tree kept q p (c.inside p n o) w);
      inside = λ s n o. let l = c.inside s n o in let l2 = kept.grown in omega arith;
    }))
    (λ o. inr o)
    e

-- conflicts that come to be stay

again_grows : (d : Told) (old new : Names) (k f : ℕ) → Again d old new k f → old.conflicts ≢ [] → new.conflicts ≢ []
again_grows d old new k f a some none =
    ⊎_elim (λ e. snoc_not_nil old.conflicts _ (sym (a.clashes e) ∙ none))
    (λ e. some (sym (a.agrees e) ∙ none))
    (cases_Bool (meets (flags_of old k) d.excludes))

outcome_grows : (m : Machine) (d : Declaration) (new : Names) → Outcome m d new → m.names.conflicts ≢ [] → new.conflicts ≢ []
outcome_grows m d new (stopped k v s a) some = again_grows _ m.names new k _ a some
outcome_grows m d new (united t k c at b a) some = again_grows _ m.names new k _ a some
outcome_grows m d new (made t scope at upon s a) some = λ none. some (sym a.no_conflict ∙ none)

-- one call

bind_early : (m : Machine) (d : Declaration) (ds : List Granted) → Good m → Ranged m.names → AllByRecursion OfFour (granted_by m (Bind d)) → Early m.scopes m.names ds
    → Early (after m (Bind d)).scopes (after m (Bind d)).names (ds ++ granted_by m (Bind d))
unfolding granted
bind_early m d ds good g four e =
    ⊎_elim (λ yes.
    let it = cond-true (was_granted (answer m (Bind d))) (x ∷ []) [] yes in
    let four' : AllByRecursion OfFour (x ∷ []) = subst (AllByRecursion OfFour) it four in
    subst (λ ys. Early (after m (Bind d)).scopes (after m (Bind d)).names (ds ++ ys)) (sym it)
    (subst (λ (y : Machine). Early y.scopes y.names (ds ++ x ∷ [])) (sym (granted_after m (Bind d) (granted_no_refusal m (Bind d) yes)))
    (⊎_elim
    (λ c. four_step m d good g ds c four'.0 (form m d good))
    (λ bad. inr (
      outcome_grows m d (bound m d).names (form_outcome m d good.sound g good (bound m d) (form m d good)) bad.0,
      (bad.1.0, bad.1.1, more_error ds (x ∷ []) bad.1.0 bad.1.1 bad.1.2),
    ))
    e)))
    (λ no_grant.
    subst (λ ys. Early (after m (Bind d)).scopes (after m (Bind d)).names (ds ++ ys)) (sym (cond-false (was_granted (answer m (Bind d))) (x ∷ []) [] no_grant))
    (subst (λ (y : Machine). Early y.scopes y.names (ds ++ [])) (sym (after_refused m (Bind d) no_grant)) (subst (Early m.scopes m.names) (sym (append-nil ds)) e)))
    (cases_Bool (was_granted (answer m (Bind d))))
  where
    x : Granted
    x = record { kind = d.kind; name = d.name.0; scope = m.current; scopes = m.scopes }

other_early : (m : Machine) (c : Call) (ds : List Granted) → Good m → is_bind c ≡ false → Early m.scopes m.names ds → Early (after m c).scopes (after m c).names (ds ++ [])
other_early m c ds good other e =
    subst (Early (after m c).scopes (after m c).names) (sym (append-nil ds))
    (subst (λ y. Early (after m c).scopes y ds) (sym (other_names m c other)) (early_kept m.scopes (after m c).scopes m.names ds good.tree (after_kept m c) e))

after_early : (m : Machine) (c : Call) (ds : List Granted) → Good m → Ranged m.names → AllByRecursion OfFour (granted_by m c) → Early m.scopes m.names ds
    → Early (after m c).scopes (after m c).names (ds ++ granted_by m c)
after_early m (EnterScope s) ds good g four e = other_early m (EnterScope s) ds good refl e
after_early m LeaveScope ds good g four e = other_early m LeaveScope ds good refl e
after_early m (Bind d) ds good g four e = bind_early m d ds good g four e
after_early m (DeclareReference r) ds good g four e = other_early m (DeclareReference r) ds good refl e
after_early m (ResolveReferences start) ds good g four e = other_early m (ResolveReferences start) ds good refl e
after_early m ResolveAllReferences ds good g four e = other_early m ResolveAllReferences ds good refl e

-- and all calls

all_first : {X : Type 0} (P : X → Type 0) (xs ys : List X) → AllByRecursion P (xs ++ ys) → AllByRecursion P xs
all_first P [] ys h = tt
all_first P (x ∷ xs) ys h = (h.0, all_first P xs ys h.1)

all_rest : {X : Type 0} (P : X → Type 0) (xs ys : List X) → AllByRecursion P (xs ++ ys) → AllByRecursion P ys
all_rest P [] ys h = h
all_rest P (x ∷ xs) ys h = all_rest P xs ys h.1

run_early : (cs : List Call) (m : Machine) (ds : List Granted) → Good m → Ranged m.names → AllByRecursion OfFour (declarations m cs) → Early m.scopes m.names ds
    → Early (run m cs).scopes (run m cs).names (ds ++ declarations m cs)
run_early [] m ds good g four e = subst (Early m.scopes m.names) (sym (append-nil ds)) e
run_early (c ∷ cs) m ds good g four e =
    let now_by = granted_by m c in
    let later = declarations (after m c) cs in
    subst (Early (run m (c ∷ cs)).scopes (run m (c ∷ cs)).names) (append_assoc ds now_by later)
    (run_early cs (after m c) (ds ++ now_by) (after_good m c good) (after_ranged m c good g) (all_rest OfFour now_by later four) (after_early m c ds good g (all_first OfFour now_by later four) e))

fresh_early : (setting : ℕ) → Early (fresh setting).scopes (fresh setting).names []
fresh_early setting =
    inl (record {
      base = record { quiet = refl; plain = λ k l. absurd (not-suc-le-zero l); bindings = λ s n k e. absurd (none-some k e); hoists = λ s n k e. absurd (none-some k e) };
      no_error = λ s n e. ⊎_elim (λ t. t) (λ b. b.0) e;
      lexicals = λ s n o. absurd o;
      vars = λ s n o. absurd o;
      upward = λ p q n o w. absurd o;
      inside = λ s n o. absurd o;
    })

pub early_errors_law : EarlyErrors
early_errors_law setting cs four =
    let e = run_early cs (fresh setting) [] (fresh_good setting) (fresh_ranged setting) four (fresh_early setting) in
    record {
      no_conflict = λ none s n error. ⊎_elim (λ c. c.no_error s n error) (λ bad. bad.0 none) e;
      no_error = λ none. ⊎_elim (λ c. c.base.quiet) (λ bad. absurd (none bad.1.0 bad.1.1 bad.1.2)) e;
      conflict_shows = λ some. ⊎_elim (λ c. absurd (some c.base.quiet)) (λ bad. bad.1) e;
    }
