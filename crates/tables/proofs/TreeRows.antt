-- The scope rows stay a tree.
use Rattle.std.proofs.Common.{◌≡◌, ℕ, ◌<◌, ◌≤◌, ◌≢◌, List, [], ◌∷◌, ◌++◌, length, set, Some, None, Option, sym, ap, ◌∙◌, ⊎_elim, arith, get_or-set_other, get_or-set_same}
use lib.ListN.{get_or-append, get_or-eq_default}
use lib.Seq.{get_or-append_seam}
use Rattle.std.proofs.lemmas.List.{length_push, set_past}
use Rattle.std.proofs.lemmas.Bool.{cases_order, cases_eq, cases_lt}
use Rattle.tables.specs.declared.row.ScopeRow.{ScopeRow}
use Rattle.tables.specs.Ids.{scope_number}
use Rattle.tables.specs.EmptyRows.{no_scope}
use Rattle.tables.specs.Trees.{Tree, parent_at}

pub tree_push : (xs : List ScopeRow) (row : ScopeRow) → Tree xs → ((p : ℕ) → scope_number row.parent ≡ Some p → p < length xs) → Tree (xs ++ row ∷ [])
tree_push xs row t h s p e =
    ⊎_elim (λ (q : s ≡ length xs).
    let e2 : scope_number row.parent ≡ Some p = sym (ap (λ n. parent_at (xs ++ row ∷ []) n) q ∙ ap (λ (r : ScopeRow). scope_number r.parent) (get_or-append_seam xs row [] no_scope)) ∙ e in
    let k = h p e2 in omega arith)
    (⊎_elim (λ (q : s < length xs). t s p (ap (λ (r : ScopeRow). scope_number r.parent) (sym (get_or-append xs (row ∷ []) no_scope s q)) ∙ e))
    (λ (q : length xs < s).
    let l = length_push xs row in
    let n = get_or-eq_default (xs ++ row ∷ []) no_scope (omega arith) in
    let b : ◌≡◌ {A = Option ℕ} None (Some p) = sym (ap (λ (r : ScopeRow). scope_number r.parent) n) ∙ e in
    let z : ◌≡◌ {A = ℕ} 0 1 = cc in absurd (omega arith)))
    (cases_order s (length xs))

pub tree_set : (xs : List ScopeRow) (j : ℕ) (row : ScopeRow) → Tree xs → scope_number row.parent ≡ parent_at xs j → Tree (set xs j row)
tree_set xs j row t h s p e =
    ⊎_elim (λ (l : j < length xs).
    ⊎_elim (λ (q : s ≡ j). t s p (ap (parent_at xs) q ∙ sym h ∙ sym (ap (λ n. parent_at (set xs j row) n) q ∙ ap (λ (r : ScopeRow). scope_number r.parent) (get_or-set_same xs j row no_scope l)) ∙ e))
    (λ (q : s ≢ j). t s p (ap (λ (r : ScopeRow). scope_number r.parent) (sym (get_or-set_other xs j s row no_scope q)) ∙ e))
    (cases_eq s j))
    (λ (l : length xs ≤ j). t s p (ap (λ ys. parent_at ys s) (sym (set_past xs j row l)) ∙ e))
    (cases_lt j (length xs))
