-- Lists with one more at the end, and the ways of vars.
use Rattle.std.proofs.Common.{◌≡◌, ℕ, zero, suc, ◌<◌, ◌≤◌, true, ◌⊎◌, List, [], ◌∷◌, ◌++◌, length, Some, sym, refl, ap, ◌∙◌, subst, inl, inr, ⊎_elim, not-suc-le-zero, arith}
use lib.ListN.{get_or-eq_default}
use Rattle.std.proofs.lemmas.Bool.{cases_Bool, true≢false, cases_lt}
use Rattle.tables.specs.Flags.{meets, VarScope}
use Rattle.tables.specs.declared.row.ScopeRow.{ScopeRow}
use Rattle.model.specs.State.{no_scope}
use Rattle.model.specs.Scopes.{parent_of, is_var, target, passed}
use Rattle.laws.specs.Conflicts.{Nearest, itself, above}
use Rattle.laws.specs.EarlyErrors.{OnWay, start, onward, OneOf, TwoOf}
use Rattle.model.proofs.Walks.{target_here, target_up, passed_here, passed_up}
use Rattle.laws.proofs.Tree.{Tree, Kept, has_parent}

module _ {X : Type 0} (P : X → Type 0) where
  pub one_keep : (xs ys : List X) → OneOf P xs → OneOf P (xs ++ ys)
  one_keep [] ys h = absurd h
  one_keep (x ∷ xs) ys h = ⊎_elim (λ p. inl p) (λ r. inr (one_keep xs ys r)) h

  pub one_last : (xs : List X) (y : X) → P y → OneOf P (xs ++ y ∷ [])
  one_last [] y p = inl p
  one_last (x ∷ xs) y p = inr (one_last xs y p)

  pub one_split : (xs : List X) (y : X) → OneOf P (xs ++ y ∷ []) → OneOf P xs ⊎ P y
  one_split [] y h = ⊎_elim (λ p. inr p) (λ r. absurd r) h
  one_split (x ∷ xs) y h = ⊎_elim (λ p. inl (inl p)) (λ r. ⊎_elim (λ q. inl (inr q)) (λ q. inr q) (one_split xs y r)) h

  pub two_keep : (xs ys : List X) → TwoOf P xs → TwoOf P (xs ++ ys)
  two_keep [] ys h = absurd h
  two_keep (x ∷ xs) ys h = ⊎_elim (λ p. inl (p.0, one_keep xs ys p.1)) (λ r. inr (two_keep xs ys r)) h

  pub two_last : (xs : List X) (y : X) → OneOf P xs → P y → TwoOf P (xs ++ y ∷ [])
  two_last [] y h p = absurd h
  two_last (x ∷ xs) y h p = ⊎_elim (λ q. inl (q, one_last xs y p)) (λ r. inr (two_last xs y r p)) h

  pub two_split : (xs : List X) (y : X) → TwoOf P (xs ++ y ∷ []) → TwoOf P xs ⊎ (OneOf P xs × P y)
  two_split [] y h = ⊎_elim (λ p. absurd p.1) (λ r. absurd r) h
  two_split (x ∷ xs) y h =
      ⊎_elim (λ p. ⊎_elim (λ q. inl (inl (p.0, q))) (λ q. inr (inl p.0, q)) (one_split xs y p.1))
      (λ r. ⊎_elim (λ q. inl (inr q)) (λ q. inr (inr q.0, q.1)) (two_split xs y r)) h

-- the ways of vars
module _ (rows : List ScopeRow) where
  pub way_on : (q p s : ℕ) → OnWay rows p s → OnWay rows q p → OnWay rows q s
  way_on q p s start w = w
  way_on q p s (onward _ u v e r) w = onward s u v e (way_on q p u r w)

  pub nearest_way : (t s : ℕ) → Nearest rows VarScope t s → OnWay rows t s
  nearest_way t s (itself v) = start
  nearest_way t s (above _ p v e r) = onward s p v e (nearest_way t p r)

  -- a var scope is there
  pub var_inside : (s : ℕ) → is_var rows s ≡ true → s < length rows
  var_inside s v =
      ⊎_elim (λ l. l)
      (λ (l : length rows ≤ s). absurd (true≢false (sym v ∙ ap (λ (r : ScopeRow). meets r.flags.0 VarScope) (get_or-eq_default rows no_scope l))))
      (cases_lt s (length rows))

  module _ (tree : Tree rows) where
    pub way_inside : (q s : ℕ) → s < length rows → OnWay rows q s → q < length rows
    way_inside q s l start = l
    way_inside q s l (onward _ p v e r) = let k : p < s = tree.lower s p e in way_inside q p (omega arith) r

    -- the scopes passed, and the target
    pub way_passed : (f q s : ℕ) → s < f → s < length rows → OnWay rows q s → OneOf (λ p. p ≡ q) (passed rows s) ⊎ (q ≡ target rows s)
    way_passed zero q s h l w = absurd (not-suc-le-zero h)
    way_passed (suc f) q s h l start =
        ⊎_elim (λ v. inr (sym (target_here rows tree.lower s v)))
        (λ v. let p = has_parent rows tree s l v in inl (subst (OneOf (λ p. p ≡ s)) (sym (passed_up rows tree.lower s p.0 v p.1)) (inl refl)))
        (cases_Bool (is_var rows s))
    way_passed (suc f) q s h l (onward _ p v e r) =
        let k : p < s = tree.lower s p e in
        ⊎_elim
        (λ o. inl (subst (OneOf (λ x. x ≡ q)) (sym (passed_up rows tree.lower s p v e)) (inr o)))
        (λ o. inr (o ∙ sym (target_up rows tree.lower s p v e)))
        (way_passed f q p (omega arith) (omega arith) r)

    pub passed_way : (f q s : ℕ) → s < f → s < length rows → OneOf (λ p. p ≡ q) (passed rows s) → OnWay rows q s
    passed_way zero q s h l o = absurd (not-suc-le-zero h)
    passed_way (suc f) q s h l o =
        ⊎_elim (λ v. absurd (subst (OneOf (λ p. p ≡ q)) (passed_here rows tree.lower s v) o))
        (λ v. let p : (p : ℕ) × (parent_of rows s ≡ Some p) = has_parent rows tree s l v in
        let k : p.0 < s = tree.lower s p.0 p.1 in
        ⊎_elim (λ e. subst (λ x. OnWay rows x s) e start)
        (λ r. onward s p.0 v p.1 (passed_way f q p.0 (omega arith) (omega arith) r))
        (subst (OneOf (λ x. x ≡ q)) (passed_up rows tree.lower s p.0 v p.1) o))
        (cases_Bool (is_var rows s))

-- scopes that come to be leave the ways
pub way_kept : (rows rows' : List ScopeRow) → Tree rows → Kept rows rows' → (q s : ℕ) → s < length rows → OnWay rows' q s → OnWay rows q s
way_kept rows rows' tree kept q s l start = start
way_kept rows rows' tree kept q s l (onward _ p v e r) =
    let up : parent_of rows s ≡ Some p = sym (kept.parents s l) ∙ e in
    let k : p < s = tree.lower s p up in
    onward s p (sym (kept.vars s l) ∙ v) up (way_kept rows rows' tree kept q p (omega arith) r)
