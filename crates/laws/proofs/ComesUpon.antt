-- The symbol that a declaration comes upon: there is at most one, and the tables say which.
use Rattle.std.proofs.Common.{◌≡◌, ℕ, zero, suc, ◌<◌, false, ◌⊎◌, List, Some, None, Option, sym, refl, ap, ◌∙◌, subst, inl, inr, ⊎_elim, not-suc-le-zero, arith}
use Rattle.std.proofs.lemmas.Option.{none-some, same_Some}
use Rattle.std.proofs.lemmas.Bool.{cases_Bool, true≢false, cond-true, cond-false}
use Rattle.tables.specs.Flags.{meets, TsConditional, FunctionExpression}
use Rattle.tables.specs.declared.row.ScopeRow.{ScopeRow}
use Rattle.model.specs.declared.call.Declaration.{Declaration}
use Rattle.model.specs.Basics.{maybe, first}
use Rattle.model.specs.State.{Names, Machine, flags_of}
use Rattle.model.specs.Scopes.{parent_of, flags_in, chain}
use Rattle.model.specs.Declaring.{binding, hoisted, found, not_expression}
use Rattle.laws.specs.Conflicts.{LeadsTo, Beside, Nearest, Nowhere, StoppedBy, Reaches, Var, Infer, MadeIn, ComesUpon, ToldApart, by_binding, by_hoisting, itself, above, at_top, nor_above, stopped_here, stopped_above, reached, passes, var_scope, conditional, no_conditional, current_scope, on_the_way, in_scope}
use Rattle.laws.proofs.Basics.{option_cases}
use Rattle.model.proofs.Chains.{at_chain_more, at_chain_top}
use Rattle.laws.proofs.Tree.{Tree}

-- what stands beside a name in a scope
module _ (nm : Names) (s n : ℕ) where
  abbrev led : Option ℕ
  led = maybe (binding nm s n) (hoisted nm s n) Some

  led_by : (k : ℕ) → LeadsTo nm s n k → led ≡ Some k
  led_by k (by_binding e) = ap (λ o. maybe o (hoisted nm s n) Some) e
  led_by k (by_hoisting e h) = ap (λ o. maybe o (hoisted nm s n) Some) e ∙ h

  leads_from : (k : ℕ) → led ≡ Some k → LeadsTo nm s n k
  leads_from k e =
      option_cases (binding nm s n) (LeadsTo nm s n k)
      (λ b. by_hoisting b (sym (ap (λ o. maybe o (hoisted nm s n) Some) b) ∙ e))
      (λ j b. by_binding (b ∙ sym (ap (λ o. maybe o (hoisted nm s n) Some) b) ∙ e))

  pub beside_found : (k : ℕ) → Beside nm s n k → found nm s n ≡ Some k
  unfolding found
  beside_found k b = ap (λ o. maybe o None (not_expression nm)) (led_by k b.leads) ∙ cond-false (meets (flags_of nm k) FunctionExpression) None (Some k) b.no_expression

  pub found_beside : (k : ℕ) → found nm s n ≡ Some k → Beside nm s n k
  unfolding found
  found_beside k e =
      option_cases led (Beside nm s n k)
      (λ z. absurd (none-some k (sym (ap (λ o. maybe o None (not_expression nm)) z) ∙ e)))
      (λ j z. let q : not_expression nm j ≡ Some k = sym (ap (λ o. maybe o None (not_expression nm)) z) ∙ e in
      ⊎_elim (λ t. absurd (none-some k (sym (cond-true (meets (flags_of nm j) FunctionExpression) None (Some j) t) ∙ q)))
      (λ t. let jk : j ≡ k = same_Some j k (sym (cond-false (meets (flags_of nm j) FunctionExpression) None (Some j) t) ∙ q) in
      record { leads = leads_from k (z ∙ ap Some jk); no_expression = subst (λ x. meets (flags_of nm x) FunctionExpression ≡ false) jk t })
      (cases_Bool (meets (flags_of nm j) FunctionExpression)))

  pub none_beside : found nm s n ≡ None → (k : ℕ) → Beside nm s n k → ⊥
  none_beside e k b = none-some k (sym e ∙ beside_found k b)

  pub one_beside : (k j : ℕ) → Beside nm s n k → Beside nm s n j → k ≡ j
  one_beside k j b c = same_Some k j (sym (beside_found k b) ∙ beside_found j c)

-- the ways of a var
module _ (rows : List ScopeRow) (nm : Names) (name : ℕ) where
  one_stop : (k j s : ℕ) → StoppedBy rows nm name k s → StoppedBy rows nm name j s → k ≡ j
  one_stop k j s (stopped_here _ v b val) (stopped_here _ v' b' val') = one_beside nm s name k j b b'
  one_stop k j s (stopped_here _ v b val) (stopped_above _ p v' lacks e r) = absurd (true≢false (sym val ∙ lacks k b))
  one_stop k j s (stopped_above _ p v lacks e r) (stopped_here _ v' b val) = absurd (true≢false (sym val ∙ lacks j b))
  one_stop k j s (stopped_above _ p v lacks e r) (stopped_above _ p' v' lacks' e' r') = one_stop k j p r (subst (StoppedBy rows nm name j) (same_Some p' p (sym e' ∙ e)) r')

  no_reach : (k t s : ℕ) → StoppedBy rows nm name k s → Reaches rows nm name t s → ⊥
  no_reach k t s (stopped_here _ v b val) (reached v') = true≢false (sym v' ∙ v)
  no_reach k t s (stopped_here _ v b val) (passes _ p v' lacks e r) = true≢false (sym val ∙ lacks k b)
  no_reach k t s (stopped_above _ p v lacks e r) (reached v') = true≢false (sym v' ∙ v)
  no_reach k t s (stopped_above _ p v lacks e r) (passes _ p' v' lacks' e' r') = no_reach k t p r (subst (Reaches rows nm name t) (same_Some p' p (sym e' ∙ e)) r')

  one_reach : (t u s : ℕ) → Reaches rows nm name t s → Reaches rows nm name u s → t ≡ u
  one_reach t u s (reached v) (reached v') = refl
  one_reach t u s (reached v) (passes _ p v' lacks e r) = absurd (true≢false (sym v ∙ v'))
  one_reach t u s (passes _ p v lacks e r) (reached v') = absurd (true≢false (sym v' ∙ v))
  one_reach t u s (passes _ p v lacks e r) (passes _ p' v' lacks' e' r') = one_reach t u p r (subst (Reaches rows nm name u) (same_Some p' p (sym e' ∙ e)) r')

-- the nearest scope with a flag of a set
module _ (rows : List ScopeRow) (set : ℕ) where
  one_nearest : (t u s : ℕ) → Nearest rows set t s → Nearest rows set u s → t ≡ u
  one_nearest t u s (itself v) (itself v') = refl
  one_nearest t u s (itself v) (above _ p v' e r) = absurd (true≢false (sym v ∙ v'))
  one_nearest t u s (above _ p v e r) (itself v') = absurd (true≢false (sym v' ∙ v))
  one_nearest t u s (above _ p v e r) (above _ p' v' e' r') = one_nearest t u p r (subst (Nearest rows set u) (same_Some p' p (sym e' ∙ e)) r')

  not_nowhere : (t s : ℕ) → Nearest rows set t s → Nowhere rows set s → ⊥
  not_nowhere t s (itself v) (at_top _ v' e) = true≢false (sym v ∙ v')
  not_nowhere t s (itself v) (nor_above _ p v' e r) = true≢false (sym v ∙ v')
  not_nowhere t s (above _ p v e r) (at_top _ v' e') = none-some p (sym e' ∙ e)
  not_nowhere t s (above _ p v e r) (nor_above _ p' v' e' r') = not_nowhere t p r (subst (Nowhere rows set) (same_Some p' p (sym e' ∙ e)) r')

  module _ (tree : Tree rows) where
    -- the first of the chain, or another if there is none
    pub first_of_chain : (other f s : ℕ) → s < f
        → (Nearest rows set (first (λ p. meets (flags_in rows p) set) other (chain rows s)) s) ⊎ (Nowhere rows set s × (first (λ p. meets (flags_in rows p) set) other (chain rows s) ≡ other))
    first_of_chain other zero s h = absurd (not-suc-le-zero h)
    first_of_chain other (suc f) s h =
        option_cases (parent_of rows s) (Result s)
        (λ e. subst (λ c. Of c s) (sym (at_chain_top rows tree.lower (λ c. c) s e))
        (⊎_elim (λ v. inl (subst (λ t. Nearest rows set t s) (sym (cond-true (meets (flags_in rows s) set) s other v)) (itself v)))
        (λ v. inr (at_top s v e, cond-false (meets (flags_in rows s) set) s other v))
        (cases_Bool (meets (flags_in rows s) set))))
        (λ p e. let l : p < s = tree.lower s p e in
        subst (λ c. Of c s) (sym (at_chain_more rows tree.lower (λ c. c) s p e))
        (⊎_elim (λ v. inl (subst (λ t. Nearest rows set t s) (sym (cond-true (meets (flags_in rows s) set) s _ v)) (itself v)))
        (λ v. let up = sym (cond-false (meets (flags_in rows s) set) s (first (λ q. meets (flags_in rows q) set) other (chain rows p)) v) in
        ⊎_elim
        (λ n. inl (subst (λ t. Nearest rows set t s) up (above s p v e n)))
        (λ n. inr (nor_above s p v e n.0, sym up ∙ n.1))
        (first_of_chain other f p (omega arith)))
        (cases_Bool (meets (flags_in rows s) set))))
      where
        Of : List ℕ → ℕ → Type 0
        Of c x = (Nearest rows set (first (λ p. meets (flags_in rows p) set) other c) x) ⊎ (Nowhere rows set x × (first (λ p. meets (flags_in rows p) set) other c ≡ other))

        Result : ℕ → Type 0
        Result x = Of (chain rows x) x

-- the tables tell apart what becomes of a declaration
module _ (m : Machine) (d : Declaration) where
  var_not_infer : d.kind ≡ Var → d.kind ≡ Infer → ⊥
  var_not_infer p q = let z : ◌≡◌ {A = ℕ} 1 18 = sym p ∙ q in omega arith

  var_made : (t : ℕ) → d.kind ≡ Var → MadeIn m d t → Reaches m.scopes m.names d.name.0 t m.current
  var_made t k (var_scope _ r) = r
  var_made t k (conditional k' n) = absurd (var_not_infer k k')
  var_made t k (no_conditional k' n e) = absurd (var_not_infer k k')
  var_made t k (current_scope k' k'' e) = absurd (k' k)

  one_made : (s t : ℕ) → MadeIn m d s → MadeIn m d t → s ≡ t
  one_made s t (var_scope k r) y = one_reach m.scopes m.names d.name.0 s t m.current r (var_made t k y)
  one_made s t (conditional k n) (var_scope k' r) = absurd (var_not_infer k' k)
  one_made s t (conditional k n) (conditional k' n') = one_nearest m.scopes TsConditional s t m.current n n'
  one_made s t (conditional k n) (no_conditional k' n' e) = absurd (not_nowhere m.scopes TsConditional s m.current n n')
  one_made s t (conditional k n) (current_scope v k' e) = absurd (k' k)
  one_made s t (no_conditional k n e) (var_scope k' r) = absurd (var_not_infer k' k)
  one_made s t (no_conditional k n e) (conditional k' n') = absurd (not_nowhere m.scopes TsConditional t m.current n' n)
  one_made s t (no_conditional k n e) (no_conditional k' n' e') = e ∙ sym e'
  one_made s t (no_conditional k n e) (current_scope v k' e') = absurd (k' k)
  one_made s t (current_scope v k e) (var_scope k' r) = absurd (v k')
  one_made s t (current_scope v k e) (conditional k' n) = absurd (k k')
  one_made s t (current_scope v k e) (no_conditional k' n e') = absurd (k k')
  one_made s t (current_scope v k e) (current_scope v' k' e') = e ∙ sym e'

  not_stopped : (k t : ℕ) → d.kind ≡ Var → StoppedBy m.scopes m.names d.name.0 k m.current → MadeIn m d t → ⊥
  not_stopped k t v s made = no_reach m.scopes m.names d.name.0 k t m.current s (var_made t v made)

  one_upon : (k j : ℕ) → ComesUpon m d k → ComesUpon m d j → k ≡ j
  one_upon k j (on_the_way v s) (on_the_way v' s') = one_stop m.scopes m.names d.name.0 k j m.current s s'
  one_upon k j (on_the_way v s) (in_scope t c made b) = absurd (not_stopped k t v s made)
  one_upon k j (in_scope t c made b) (on_the_way v s) = absurd (not_stopped j t v s made)
  one_upon k j (in_scope t c made b) (in_scope u c' made' b') =
      one_beside m.names t d.name.0 k j b (subst (λ x. Beside m.names x d.name.0 j) (one_made u t made' made) b')

  pub told_apart : ToldApart m d
  told_apart = record { one_symbol = one_upon; one_scope = one_made; stopped_or_made = not_stopped }
