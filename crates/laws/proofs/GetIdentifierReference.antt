-- References to plain values are looked up as by GetIdentifierReference.
use Rattle.std.proofs.Common.{◌≡◌, ℕ, ◌+◌, ◌<◌, true, false, ◌&&◌, ◌||◌, eqb, ltb, List, [], ◌∷◌, ◌++◌, Some, None, sym, refl, ap, ◌∙◌, subst, inl, inr, ⊎_elim, arith}
use Rattle.std.proofs.lemmas.Bool.{true≢false, eq-eqb, ne_eqb, cond-true}
use Rattle.std.proofs.lemmas.Option.{none-some}
use Rattle.tables.specs.Flags.{meets, ValueUse, ValueAsType, ByValue}
use Rattle.tables.specs.declared.id.ReferenceId.{ReferenceId}
use Rattle.tables.specs.declared.refusal.Refusal.TheVariants.{UnknownKind}
use Rattle.tables.specs.declared.row.UnresolvedReference.{UnresolvedReference}
use Rattle.model.specs.declared.call.Declaration.{Declaration}
use Rattle.model.specs.declared.call.Call.{Call}
use Rattle.model.specs.declared.call.Call.TheVariants.{EnterScope, LeaveScope, Bind, DeclareReference, ResolveReferences, ResolveAllReferences}
use Rattle.model.specs.Kinds.{TypeScript, manner}
use Rattle.model.specs.State.{Machine, fresh, flags_of}
use Rattle.model.specs.Scopes.{parent_of, is_strict, is_var}
use Rattle.model.specs.Declaring.{binding}
use Rattle.model.specs.Resolving.{can_resolve}
use Rattle.model.specs.Calls.{refusal, granted, after, run, told}
use Rattle.laws.specs.FirstFit.{◌∈◌, Granted, LooksIn, ResolvedAs, RootListedAs, DeferredAs, flags_now, MeansArguments, NothingAt, FirstServing, serves_here, serves_above, NoneServing, none_last, none_above, PassedUp, passed_last, passed_above}
use Rattle.laws.specs.GetIdentifierReference.{HasBinding, GetIdentifierReference, unresolvable, has_binding, ask_outer, UnboundUpTo, at_last, on_the_way, PlainValue, LookedUp, GetIdentifierReferenceLaw}
use Rattle.laws.specs.OnceLaw.{of_pending}
use Rattle.laws.proofs.Basics.{option_cases}
use Rattle.laws.proofs.Granting.{after_keeps}
use Rattle.laws.proofs.Runs.{Good, run_good, fresh_good}
use Rattle.laws.proofs.Single.{times_there, times_same, KeptSingle, run_single, fresh_single}
use Rattle.laws.proofs.FirstFit.{granted_is}
use Rattle.laws.proofs.PlacedByACall.{unplaced, one_call}
use Rattle.laws.proofs.Valued.{Valued, declare_valued, includes_value}

-- no declaration of kind 0 is granted
kind_known : (m : Machine) (d : Declaration) → refusal m (Bind d) ≡ None → d.kind ≡ 0 → ⊥
unfolding refusal
kind_known m d h z =
    none-some UnknownKind (sym h ∙ cond-true (eqb d.kind 0 || ltb 18 d.kind) (Some UnknownKind) _ (ap (λ b. b || ltb 18 d.kind) (eq-eqb d.kind 0 z)))

module _ (name : ℕ) where
  -- the declarations of the name, from m on
  abbrev OnlyValuesFrom : Machine → List Call → Type 0
  OnlyValuesFrom m cs = (before rest : List Call) (d : Declaration) → cs ≡ before ++ Bind d ∷ rest → Granted (run m before) (Bind d) → d.name.0 ≡ name → d.kind < 11

  granted_valued : (m : Machine) (c : Call) → ((d : Declaration) → c ≡ Bind d → d.name.0 ≡ name → (d.kind ≡ 0 → ⊥) × (d.kind < 11)) → Valued name m.names → Valued name (granted m c).names
  unfolding granted
  granted_valued m (EnterScope x) h v = v
  granted_valued m LeaveScope h v = v
  granted_valued m (Bind d) h v =
      declare_valued name (told m d) (λ q. let k = h d refl q in includes_value d.kind d.modifiers k.0 k.1)
      (manner d.kind d.modifiers (meets m.setting TypeScript) (is_strict m.scopes m.current) (is_var m.scopes m.current)) m.scopes m.current m.names v
  granted_valued m (DeclareReference r) h v = v
  granted_valued m (ResolveReferences start) h v = v
  granted_valued m ResolveAllReferences h v = v

  after_valued : (m : Machine) (c : Call) (cs : List Call) → OnlyValuesFrom m (c ∷ cs) → Valued name m.names → Valued name (after m c).names
  after_valued m c cs only v =
      after_keeps m c (λ (x : Machine). Valued name x.names)
      (λ h. granted_valued m c (λ d q n. let h2 : refusal m (Bind d) ≡ None = subst (λ x. refusal m x ≡ None) q h in
      (kind_known m d h2, only [] cs d (ap (λ x. x ∷ cs) q) (granted_is m (Bind d) h2) n)) v)
      v

  run_valued : (cs : List Call) (m : Machine) → OnlyValuesFrom m cs → Valued name m.names → Valued name (run m cs).names
  run_valued [] m only v = v
  run_valued (c ∷ cs) m only v = run_valued cs (after m c) (λ before rest d q g n. only (c ∷ before) rest d (ap (λ xs. c ∷ xs) q) g n) (after_valued m c cs only v)

-- a plain value can resolve to what has a flag of those
value_can : (flags symbol : ℕ) → PlainValue flags → meets symbol ByValue ≡ true → can_resolve flags symbol ≡ true
value_can flags symbol p h =
    ⊎_elim (λ q. ap (λ f. can_resolve f symbol) q ∙ ap (λ b. (b || false) || false) h)
    (λ r. ⊎_elim (λ q. ap (λ f. can_resolve f symbol) q ∙ ap (λ b. (b || false) || false) h) (λ q. ap (λ f. can_resolve f symbol) q ∙ ap (λ b. (b || false) || false) h) r) p

module _ (m : Machine) (good : Good m) (single : KeptSingle m) (e : UnresolvedReference) (waits : e ∈ m.uses.pending)
    (plain : PlainValue (flags_now m e)) (named : e.name.0 ≡ 0 → ⊥) (valued : Valued e.name.0 m.names) where
  abbrev name : ℕ
  name = e.name.0

  no_arguments : MeansArguments m e → ⊥
  no_arguments h = true≢false (sym (sym (ap (λ b. b && meets (flags_now m e) (ValueUse + ValueAsType)) (ne_eqb name 0 named)) ∙ h))

  -- where nothing serves nothing is bound
  unbound : (s : ℕ) → NothingAt m e s → HasBinding m s name → ⊥
  unbound s n b =
      let i = good.sound.leads s name b.0 b.1 in
      n b.0 (record { bound = b.1; can = value_can (flags_now m e) (flags_of m.names b.0) plain (valued.by_value b.0 i.there i.its_name); no_expression = λ a. absurd (no_arguments a) })

  found : {s t k : ℕ} → FirstServing m e s t k → GetIdentifierReference m name (Some s) (Some t) × (binding m.names t name ≡ Some k)
  found {k = k} (serves_here a) = (has_binding (k, a.bound), a.bound)
  found {t = t} (serves_above n g f) =
      let r = found f in
      (ask_outer (unbound _ n) (subst (λ o. GetIdentifierReference m name o (Some t)) (sym g.parent) r.0), r.1)

  not_found : {s t : ℕ} → NoneServing m e s t → GetIdentifierReference m name (Some s) None
  not_found {s = s} (none_last n l) =
      ask_outer (unbound s n) (option_cases (parent_of m.scopes s) (GetIdentifierReference m name (parent_of m.scopes s) None)
      (λ q. subst (λ o. GetIdentifierReference m name o None) (sym q) unresolvable)
      (λ p q. absurd (l p (record { parent = q; no_end = λ a. absurd (no_arguments a) }))))
  not_found {s = s} (none_above n g f) = ask_outer (unbound s n) (subst (λ o. GetIdentifierReference m name o None) (sym g.parent) (not_found f))

  passed_by : {p s : ℕ} → PassedUp m e m.current p s → UnboundUpTo m name m.current s × (parent_of m.scopes m.current ≡ Some p)
  passed_by (passed_last n g) = (at_last (unbound _ n), g.parent)
  passed_by (passed_above {s = s} n g f) = let r = passed_by f in (on_the_way (unbound s n) g.parent r.0, r.1)

  -- an entry of the same reference is the same
  the_same : (x : UnresolvedReference) → x ∈ m.uses.pending → x.reference ≡ e.reference → x ≡ e
  the_same x h q =
      let a = single.once e.reference.0 in
      times_same of_pending e.reference.0 m.uses.pending x e (omega arith) h waits (ap (λ (r : ReferenceId). r.0) q) refl

  pub looked_up : (c : Call) → LookedUp m c e
  looked_up c =
      let one = one_call m good single c in
      record {
        resolved = λ j h q. ⊎_elim
            (λ k. absurd ((unplaced m single e waits j.reference (sym q)).not_resolved j k refl))
            (λ r. let f = subst (λ x. ResolvedAs m (LooksIn m c) (after m c).uses x j) (the_same r.entry r.waited (r.fits.same_reference ∙ q)) r.fits in let g = found f.first in (f.place_of, g.0, g.1))
            (one.resolved j h);
        root_listed = λ k h q. ⊎_elim
            (λ l. absurd ((unplaced m single e waits k.reference (sym q)).not_listed k l refl))
            (λ r. let f = subst (λ x. RootListedAs m (LooksIn m c) (after m c).uses x k) (the_same r.entry r.waited (r.fits.same_reference ∙ q)) r.fits in not_found f.none)
            (one.listed k h);
        pending = λ p h q. ⊎_elim
            (λ k. inl (the_same p k q))
            (λ r. ⊎_elim
            (λ l. let a = single.none_past p.reference.0 (omega arith) in
            let b = times_there of_pending p.reference.0 m.uses.pending e waits (ap (λ (x : ReferenceId). x.0) (sym q)) in absurd (omega arith))
            (λ t. let f = subst (λ x. DeferredAs m x p) (the_same t.0 t.1 (sym t.2.same_reference ∙ q)) t.2 in inr (passed_by f.passed))
            r)
            (one.pending p h);
      }

pub get_identifier_reference_law : GetIdentifierReferenceLaw
get_identifier_reference_law setting cs c e waits plain named only =
    let m = run (fresh setting) cs in
    looked_up m (run_good cs (fresh setting) (fresh_good setting)) (run_single cs (fresh setting) (fresh_single setting)) e waits plain named
    (run_valued e.name.0 cs (fresh setting) only (record { by_value = λ k l q. absurd (omega arith) })) c
