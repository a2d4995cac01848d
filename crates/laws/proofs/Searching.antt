-- What a search along the lookup chain says of the bindings.
use Rattle.std.proofs.Common.{◌≡◌, ℕ, zero, suc, ◌<◌, ◌≤◌, Bool, true, false, cond, not, ◌&&◌, eqb, List, [], ◌∷◌, Some, None, Option, sym, refl, ap, ◌∙◌, subst, not-suc-le-zero, ⊎_elim, arith}
use Rattle.std.proofs.lemmas.Option.{none-some, same_Some}
use Rattle.std.proofs.lemmas.Bool.{cases_Bool, eqb-true, eq-eqb, true≢false, cond_both, cond-true, cond-false}
use Rattle.tables.specs.Flags.{meets, FunctionExpression}
use Rattle.tables.specs.declared.row.ScopeRow.{ScopeRow}
use Rattle.tables.specs.declared.row.UnresolvedReference.{UnresolvedReference}
use Rattle.model.specs.Basics.{maybe, until, any}
use Rattle.model.specs.State.{Machine, flags_of}
use Rattle.model.specs.Scopes.{parent_of, climb, chain, is_below, is_plain_function}
use Rattle.model.specs.Declaring.{binding}
use Rattle.model.specs.Resolving.{search, serving_in, serves, can_resolve, of_arguments, ends_at}
use Rattle.laws.specs.FirstFit.{flags_now, ServesAt, NothingAt, GoesOn, FirstServing, serves_here, serves_above, NoneServing, none_last, none_above, PassedUp, passed_last, passed_above, Below, itself, child_of}
use Rattle.laws.proofs.Basics.{option_cases}
use Rattle.model.proofs.Chains.{at_chain_more}
use Rattle.laws.proofs.Tree.{Tree}

-- tests as facts
not_both : (a b : Bool) → (a && b) ≡ false → a ≡ true → b ≡ false
not_both a b h k = grind arith

serving_parts : (a b c : Bool) → (a && not (b && c)) ≡ true → (a ≡ true) × (b ≡ true → c ≡ false)
serving_parts false b c h = absurd (true≢false (sym h))
serving_parts true b true h = (refl, λ k. absurd (true≢false (sym (sym (ap (λ x. not (x && true)) k) ∙ h))))
serving_parts true b false h = (refl, λ k. refl)

serving_made : (a b c : Bool) → a ≡ true → (b ≡ true → c ≡ false) → (a && not (b && c)) ≡ true
serving_made a b c h k = grind arith

module _ (m : Machine) (e : UnresolvedReference) where
  abbrev rows : List ScopeRow
  rows = m.scopes

  abbrev flags : ℕ
  flags = flags_now m e

  abbrev name : ℕ
  name = e.name.0

  abbrev look : ℕ → Option ℕ
  look s = serving_in m.names name flags s

  abbrev searched : List ℕ → Option ℕ
  searched ps = search m.names name flags ps

  abbrev ends : ℕ → Bool
  ends = ends_at rows name flags

  abbrev good : ℕ → Bool
  good = serves m.names name flags

  abbrev tried : ℕ → Option ℕ
  tried k = cond (good k) (Some k) None

  serves_some : (s k : ℕ) → look s ≡ Some k → ServesAt m e s k
  serves_some s k h =
      option_cases (binding m.names s name) (ServesAt m e s k)
      (λ b. absurd (none-some k (sym (ap (λ o. maybe o None tried) b) ∙ h)))
      (λ j b. let t : tried j ≡ Some k = sym (ap (λ o. maybe o None tried) b) ∙ h in
      ⊎_elim (λ y. let jk : j ≡ k = same_Some j k (sym (cond-true (good j) (Some j) None y) ∙ t) in
      let parts = serving_parts (can_resolve flags (flags_of m.names k)) (of_arguments name flags) (meets (flags_of m.names k) FunctionExpression) (sym (ap good jk) ∙ y) in
      record { bound = b ∙ ap Some jk; can = parts.0; no_expression = parts.1 })
      (λ y. absurd (none-some k (sym (cond-false (good j) (Some j) None y) ∙ t)))
      (cases_Bool (good j)))

  serves_none : (s : ℕ) → look s ≡ None → NothingAt m e s
  serves_none s h k f =
      none-some k (sym h ∙ ap (λ o. maybe o None tried) f.bound
      ∙ cond-true (good k) (Some k) None (serving_made (can_resolve flags (flags_of m.names k)) (of_arguments name flags) (meets (flags_of m.names k) FunctionExpression) f.can f.no_expression))

  goes_on : (s p : ℕ) → parent_of rows s ≡ Some p → ends s ≡ false → GoesOn m e s p
  goes_on s p n t = record { parent = n; no_end = not_both (of_arguments name flags) (is_plain_function rows s) t }

  ended : (s p : ℕ) → ends s ≡ true → GoesOn m e s p → ⊥
  ended s p t g =
      ⊎_elim (λ a. true≢false (sym t ∙ ap (λ b. b && is_plain_function rows s) a ∙ g.no_end a))
      (λ a. true≢false (sym t ∙ ap (λ b. b && is_plain_function rows s) a))
      (cases_Bool (of_arguments name flags))

  -- a search at a list that begins with s
  search_cons : (s : ℕ) (ps : List ℕ) (P : Option ℕ → Type 0) → ((k : ℕ) → look s ≡ Some k → P (Some k)) → (look s ≡ None → P (searched ps)) → P (searched (s ∷ ps))
  unfolding search
  search_cons s ps P a b = go (look s) refl
    where
      go : (o : Option ℕ) → look s ≡ o → P (maybe o (searched ps) Some)
      go None q = b q
      go (Some k) q = a k q

  -- the rest of the chain after s
  abbrev rest : ℕ → ℕ → List ℕ
  rest f s = maybe (parent_of rows s) [] (climb rows f)

  no_some : (k : ℕ) → searched [] ≡ Some k → ⊥
  unfolding search
  no_some k h = none-some k h

  -- along the whole chain
  pub first_from : (f s k : ℕ) → searched (until ends (climb rows f s)) ≡ Some k → (t : ℕ) × FirstServing m e s t k
  first_from zero s k h = absurd (no_some k h)
  first_from (suc f) s k h =
      let Goal : Type 0 = (t : ℕ) × FirstServing m e s t k in
      search_cons s (cond (ends s) [] (until ends (rest f s))) (λ o. o ≡ Some k → Goal)
      (λ j q e2. (s, serves_here (serves_some s k (q ∙ e2))))
      (λ q e2. ⊎_elim (λ t. absurd (no_some k (sym (ap searched (cond-true (ends s) [] _ t)) ∙ e2)))
      (λ t. option_cases (parent_of rows s) Goal
      (λ n. absurd (no_some k (sym (ap searched (cond-false (ends s) [] _ t) ∙ ap (λ o. searched (until ends (maybe o [] (climb rows f)))) n) ∙ e2)))
      (λ p n. let r : (t : ℕ) × FirstServing m e p t k = first_from f p k (sym (ap searched (cond-false (ends s) [] _ t) ∙ ap (λ o. searched (until ends (maybe o [] (climb rows f)))) n) ∙ e2) in
      (r.0, serves_above (serves_none s q) (goes_on s p n t) r.1)))
      (cases_Bool (ends s)))
      h

  module _ (tree : Tree rows) where
    pub none_from : (f s : ℕ) → s < f → searched (until ends (climb rows f s)) ≡ None → (t : ℕ) × NoneServing m e s t
    none_from zero s l h = absurd (not-suc-le-zero l)
    none_from (suc f) s l h =
        let Goal : Type 0 = (t : ℕ) × NoneServing m e s t in
        search_cons s (cond (ends s) [] (until ends (rest f s))) (λ o. o ≡ None → Goal)
        (λ j q e2. absurd (none-some j (sym e2)))
        (λ q e2. ⊎_elim (λ t. (s, none_last (serves_none s q) (λ p g. ended s p t g)))
        (λ t. option_cases (parent_of rows s) Goal
        (λ n. (s, none_last (serves_none s q) (λ p g. none-some p (sym n ∙ g.parent))))
        (λ p n. let lo : p < s = tree.lower s p n in
        let r : (t : ℕ) × NoneServing m e p t = none_from f p (omega arith) (sym (ap searched (cond-false (ends s) [] _ t) ∙ ap (λ o. searched (until ends (maybe o [] (climb rows f)))) n) ∙ e2) in
        (r.0, none_above (serves_none s q) (goes_on s p n t) r.1)))
        (cases_Bool (ends s)))
        h

  -- along the chain up to the scope here
  module _ (here : ℕ) where
    abbrev stop : ℕ → Bool
    stop = eqb here

    -- here lies on the chain of a scope below it
    abbrev reaches : ℕ → ℕ → Bool
    reaches f s = any stop (climb rows f s)

    reaches_on : (f s p : ℕ) → stop s ≡ false → parent_of rows s ≡ Some p → reaches (suc f) s ≡ reaches f p
    reaches_on f s p u n = cond-false (stop s) true _ u ∙ ap (λ o. any stop (maybe o [] (climb rows f))) n

    reaches_not : (f s : ℕ) → stop s ≡ false → parent_of rows s ≡ None → reaches (suc f) s ≡ true → ⊥
    reaches_not f s u n b = true≢false (sym b ∙ cond-false (stop s) true _ u ∙ ap (λ o. any stop (maybe o [] (climb rows f))) n)

    pub below_from : (f s : ℕ) → reaches f s ≡ true → Below m here s
    below_from zero s b = absurd (true≢false (sym b))
    below_from (suc f) s b =
        ⊎_elim (λ u. subst (Below m here) (eqb-true here s u) itself)
        (λ u. option_cases (parent_of rows s) (Below m here s)
        (λ n. absurd (reaches_not f s u n b))
        (λ p n. child_of n (below_from f p (sym (reaches_on f s p u n) ∙ b))))
        (cases_Bool (stop s))

    -- what is searched after s
    abbrev tail : ℕ → ℕ → List ℕ
    tail f s = cond (stop s) [] (until stop (cond (ends s) [] (until ends (rest f s))))

    -- it is the part of the parent
    tail_on : (f s p : ℕ) → stop s ≡ false → ends s ≡ false → parent_of rows s ≡ Some p → tail f s ≡ until stop (until ends (climb rows f p))
    tail_on f s p h t n =
        cond-false (stop s) [] _ h ∙ ap (until stop) (cond-false (ends s) [] _ t) ∙ ap (λ o. until stop (until ends (maybe o [] (climb rows f)))) n

    pub part_first : (f s k : ℕ) → reaches f s ≡ true → searched (until stop (until ends (climb rows f s))) ≡ Some k → (t : ℕ) × FirstServing m e s t k × Below m here t
    part_first zero s k b h = absurd (no_some k h)
    part_first (suc f) s k b h =
        let Goal : Type 0 = (t : ℕ) × FirstServing m e s t k × Below m here t in
        search_cons s (tail f s) (λ o. o ≡ Some k → Goal)
        (λ j q e2. (s, serves_here (serves_some s k (q ∙ e2)), below_from (suc f) s b))
        (λ q e2. ⊎_elim (λ t. absurd (no_some k (sym (ap searched (cond-true (stop s) [] _ t)) ∙ e2)))
        (λ u. ⊎_elim (λ t. absurd (no_some k (sym (ap searched (cond-false (stop s) [] _ u ∙ ap (until stop) (cond-true (ends s) [] _ t))) ∙ e2)))
        (λ t. option_cases (parent_of rows s) Goal
        (λ n. absurd (reaches_not f s u n b))
        (λ p n. let r : (t : ℕ) × FirstServing m e p t k × Below m here t = part_first f p k (sym (reaches_on f s p u n) ∙ b) (sym (ap searched (tail_on f s p u t n)) ∙ e2) in
        (r.0, serves_above (serves_none s q) (goes_on s p n t) r.1, r.2)))
        (cases_Bool (ends s)))
        (cases_Bool (stop s)))
        h

    -- whether the chain has ended, after s
    abbrev over : ℕ → ℕ → Bool
    over f s = any ends (cond (stop s) [] (until stop (rest f s)))

    over_on : (f s p : ℕ) → stop s ≡ false → parent_of rows s ≡ Some p → over f s ≡ any ends (until stop (climb rows f p))
    over_on f s p h n = ap (any ends) (cond-false (stop s) [] _ h ∙ ap (λ o. until stop (maybe o [] (climb rows f))) n)

    pub part_ended : (f s : ℕ) → reaches f s ≡ true → searched (until stop (until ends (climb rows f s))) ≡ None → any ends (until stop (climb rows f s)) ≡ true
        → (t : ℕ) × NoneServing m e s t × Below m here t
    part_ended zero s b h a = absurd (true≢false (sym b))
    part_ended (suc f) s b h a =
        let Goal : Type 0 = (t : ℕ) × NoneServing m e s t × Below m here t in
        search_cons s (tail f s) (λ o. o ≡ None → Goal)
        (λ j q e2. absurd (none-some j (sym e2)))
        (λ q e2. ⊎_elim (λ t. (s, none_last (serves_none s q) (λ p g. ended s p t g), below_from (suc f) s b))
        (λ t. let a2 : over f s ≡ true = sym (cond-false (ends s) true _ t) ∙ a in
        ⊎_elim (λ u. absurd (true≢false (sym a2 ∙ ap (any ends) (cond-true (stop s) [] _ u))))
        (λ u. option_cases (parent_of rows s) Goal
        (λ n. absurd (reaches_not f s u n b))
        (λ p n. let r : (t : ℕ) × NoneServing m e p t × Below m here t =
        part_ended f p (sym (reaches_on f s p u n) ∙ b) (sym (ap searched (tail_on f s p u t n)) ∙ e2) (sym (over_on f s p u n) ∙ a2) in
        (r.0, none_above (serves_none s q) (goes_on s p n t) r.1, r.2)))
        (cases_Bool (stop s)))
        (cases_Bool (ends s)))
        h

    pub part_passed : (p f s : ℕ) → parent_of rows here ≡ Some p → reaches f s ≡ true → searched (until stop (until ends (climb rows f s))) ≡ None
        → any ends (until stop (climb rows f s)) ≡ false → PassedUp m e here p s
    part_passed p zero s up b h a = absurd (true≢false (sym b))
    part_passed p (suc f) s up b h a =
        search_cons s (tail f s) (λ o. o ≡ None → PassedUp m e here p s)
        (λ j q e2. absurd (none-some j (sym e2)))
        (λ q e2. ⊎_elim (λ t. absurd (true≢false (sym (cond-true (ends s) true _ t) ∙ a)))
        (λ t. let a2 : over f s ≡ false = sym (cond-false (ends s) true _ t) ∙ a in
        ⊎_elim (λ u. let hs : here ≡ s = eqb-true here s u in
        subst (PassedUp m e here p) hs (passed_last (subst (NothingAt m e) (sym hs) (serves_none s q)) (goes_on here p up (ap ends hs ∙ t))))
        (λ u. option_cases (parent_of rows s) (PassedUp m e here p s)
        (λ n. absurd (reaches_not f s u n b))
        (λ p' n. passed_above (serves_none s q) (goes_on s p' n t)
        (part_passed p f p' up (sym (reaches_on f s p' u n) ∙ b) (sym (ap searched (tail_on f s p' u t n)) ∙ e2) (sym (over_on f s p' u n) ∙ a2))))
        (cases_Bool (stop s)))
        (cases_Bool (ends s)))
        h

    -- a scope below here has it on its chain
    pub below_is : Tree rows → (s : ℕ) → Below m here s → is_below rows here s ≡ true
    unfolding is_below chain
    below_is tree s itself = cond-true (eqb s s) true _ (eq-eqb s s refl)
    below_is tree s (child_of {p = p} n b) =
        at_chain_more rows tree.lower (any (eqb here)) s p n
        ∙ cond_both (eqb here s) true (is_below rows here p) (λ x. x ≡ true) (λ _. refl) (λ _. below_is tree p b)

    -- and has a number as high at least
    pub below_high : Tree rows → (s : ℕ) → Below m here s → here ≤ s
    below_high tree s itself = omega arith
    below_high tree s (child_of {p = p} n b) = let l = tree.lower s p n in let h = below_high tree p b in omega arith
