-- Scopes, and what lies on their chains.
use Rattle.std.proofs.Common.{◌≡◌, ℕ, zero, suc, ◌<◌, ◌≤◌, true, false, cond, List, [], ◌∷◌, ◌++◌, length, set, Some, None, Option, sym, refl, ap, ◌∙◌, subst, ⊎_elim, not-suc-le-zero, arith, length-append, length-set}
use Rattle.std.proofs.lemmas.Option.{none-some, same_Some}
use lib.ListN.{get_or-append}
use lib.Seq.{get_or-append_seam}
use Rattle.std.proofs.lemmas.Bool.{cases_Bool, true≢false, cases_lt}
use Rattle.std.specs.List.{AllByRecursion}
use Rattle.tables.specs.Flags.{meets, VarScope}
use Rattle.tables.specs.Trees as trees
use Rattle.tables.specs.declared.row.ScopeRow.{ScopeRow}
use Rattle.tables.proofs.TreeRows as tree_rows
use Rattle.model.specs.Basics.{maybe, scope_number, first}
use Rattle.model.specs.State.{no_scope}
use Rattle.model.specs.Scopes.{parent_of, is_var, climb, chain, passed, target}
use Rattle.model.proofs.Walks.{target_here, target_up, passed_here, passed_up}
use Rattle.laws.proofs.Basics.{set_keeps, option_cases}

-- every scope but the root has a parent of a lower number; the root has none, and is a var scope
pub record Tree (rows : List ScopeRow) : Type 0 where
  pub lower : trees.Tree rows
  pub only_root : (s : ℕ) → s < length rows → parent_of rows s ≡ None → s ≡ 0
  pub top : is_var rows 0 ≡ true
  pub there : 0 < length rows

module _ (rows : List ScopeRow) (tree : Tree rows) where
  -- a scope that is no var scope has a parent
  pub has_parent : (s : ℕ) → s < length rows → is_var rows s ≡ false → (p : ℕ) × (parent_of rows s ≡ Some p)
  has_parent s h v =
      option_cases (parent_of rows s) ((p : ℕ) × (parent_of rows s ≡ Some p))
      (λ e. absurd (true≢false (sym tree.top ∙ ap (is_var rows) (sym (tree.only_root s h e)) ∙ v)))
      (λ p e. (p, e))

  pub target_var : (f s : ℕ) → s < f → s < length rows → is_var rows (target rows s) ≡ true
  target_var zero s h k = absurd (not-suc-le-zero h)
  target_var (suc f) s h k =
      ⊎_elim (λ v. ap (is_var rows) (target_here rows tree.lower s v) ∙ v)
      (λ v. let q : (p : ℕ) × (parent_of rows s ≡ Some p) = has_parent s k v in
      let l : q.0 < s = tree.lower s q.0 q.1 in
      ap (is_var rows) (target_up rows tree.lower s q.0 v q.1) ∙ target_var f q.0 (omega arith) (omega arith))
      (cases_Bool (is_var rows s))

  -- what a var passes on the way to the target t
  pub record Passes (t s : ℕ) : Type 0 where
    pub lies : s < length rows
    pub no_var : is_var rows s ≡ false
    pub goal : target rows s ≡ t

  pub passed_all : (f t s : ℕ) → s < f → s < length rows → target rows s ≡ t → AllByRecursion (Passes t) (passed rows s)
  passed_all zero t s h k e = absurd (not-suc-le-zero h)
  passed_all (suc f) t s h k e =
      ⊎_elim (λ v. subst (AllByRecursion (Passes t)) (sym (passed_here rows tree.lower s v)) tt)
      (λ v. let q : (p : ℕ) × (parent_of rows s ≡ Some p) = has_parent s k v in
      let l : q.0 < s = tree.lower s q.0 q.1 in
      subst (AllByRecursion (Passes t)) (sym (passed_up rows tree.lower s q.0 v q.1)) (
        record { lies = k; no_var = v; goal = e },
        passed_all f t q.0 (omega arith) (omega arith) (sym (target_up rows tree.lower s q.0 v q.1) ∙ e),
      ))
      (cases_Bool (is_var rows s))

-- scopes that have come to be, or changed, and left the others as they were
pub record Kept (rows rows' : List ScopeRow) : Type 0 where
  pub parents : (s : ℕ) → s < length rows → parent_of rows' s ≡ parent_of rows s
  pub vars : (s : ℕ) → s < length rows → is_var rows' s ≡ is_var rows s
  pub grown : length rows ≤ length rows'

module _ (rows rows' : List ScopeRow) (tree : Tree rows) (kept : Kept rows rows') where
  pub target_kept_by : (f s : ℕ) → s < length rows → first (is_var rows') 0 (climb rows' f s) ≡ first (is_var rows) 0 (climb rows f s)
  target_kept_by zero s h = refl
  target_kept_by (suc f) s h =
      ap (λ b. cond b s (first (is_var rows') 0 (maybe (parent_of rows' s) [] (climb rows' f)))) (kept.vars s h)
      ∙ ap (λ o. cond (is_var rows s) s (first (is_var rows') 0 (maybe o [] (climb rows' f)))) (kept.parents s h)
      ∙ ap (λ r. cond (is_var rows s) s r) (through (parent_of rows s) refl
      (λ p e. let l : p < s = tree.lower s p e in target_kept_by f p (omega arith)))
    where
      through : (o : Option ℕ) → parent_of rows s ≡ o → ((p : ℕ) → parent_of rows s ≡ Some p → first (is_var rows') 0 (climb rows' f p) ≡ first (is_var rows) 0 (climb rows f p))
          → first (is_var rows') 0 (maybe o [] (climb rows' f)) ≡ first (is_var rows) 0 (maybe o [] (climb rows f))
      through None e g = refl
      through (Some p) e g = g p e

  pub target_kept : (s : ℕ) → s < length rows → target rows' s ≡ target rows s
  unfolding chain target
  target_kept s h = target_kept_by (suc s) s h

-- a row at the end
module _ (rows : List ScopeRow) (x : ScopeRow) where
  pub kept_push : Kept rows (rows ++ x ∷ [])
  kept_push =
      record {
        parents = λ s h. ap (λ (r : ScopeRow). scope_number r.parent) (get_or-append rows (x ∷ []) no_scope s h);
        vars = λ s h. ap (λ (r : ScopeRow). meets r.flags.0 VarScope) (get_or-append rows (x ∷ []) no_scope s h);
        grown = simp length-append (omega arith);
      }

  pub tree_push : Tree rows → (c : ℕ) → c < length rows → scope_number x.parent ≡ Some c → Tree (rows ++ x ∷ [])
  tree_push tree c h e =
      record {
        lower = tree_rows.tree_push rows x tree.lower (λ p q. subst (λ n. n < length rows) (same_Some c p (sym e ∙ q)) h);
        only_root = λ s l q. ⊎_elim (λ k. tree.only_root s k (sym (kept_push.parents s k) ∙ q))
            (λ (k : length rows ≤ s). let z : s ≡ length rows = omega (arith, simp length-append at l) in
            absurd (none-some c (sym (sym (ap (λ n. parent_of (rows ++ x ∷ []) n) z ∙ ap (λ (r : ScopeRow). scope_number r.parent) (get_or-append_seam rows x [] no_scope)) ∙ q) ∙ e)))
            (cases_lt s (length rows));
        top = kept_push.vars 0 tree.there ∙ tree.top;
        there = simp length-append (omega arith);
      }

-- a row with the parent that was there, and a var scope if that was one
module _ (rows : List ScopeRow) (i : ℕ) (x : ScopeRow) (same_parent : scope_number x.parent ≡ parent_of rows i) (same_var : meets x.flags.0 VarScope ≡ is_var rows i) where
  pub kept_set : Kept rows (set rows i x)
  kept_set =
      record {
        parents = λ s h. set_keeps (λ (r : ScopeRow). scope_number r.parent) no_scope rows i x s same_parent;
        vars = λ s h. set_keeps (λ (r : ScopeRow). meets r.flags.0 VarScope) no_scope rows i x s same_var;
        grown = simp length-set (omega arith);
      }

  pub tree_set : Tree rows → Tree (set rows i x)
  tree_set tree =
      record {
        lower = tree_rows.tree_set rows i x tree.lower same_parent;
        only_root = λ s l q. tree.only_root s (simp length-set at l) (sym (set_keeps (λ (r : ScopeRow). scope_number r.parent) no_scope rows i x s same_parent) ∙ q);
        top = set_keeps (λ (r : ScopeRow). meets r.flags.0 VarScope) no_scope rows i x 0 same_var ∙ tree.top;
        there = simp length-set tree.there;
      }
