-- What a walk along a chain finds, one scope at a time.
use Rattle.std.proofs.Common.{◌≡◌, ℕ, zero, suc, ◌≤◌, Bool, true, false, List, [], ◌∷◌, length, Some, None, Option, ◌∙◌, arith}
use Rattle.std.proofs.lemmas.Bool.{cond_both, cond-true, cond-false}
use Rattle.tables.specs.Trees.{Tree}
use Rattle.tables.specs.declared.row.ScopeRow.{ScopeRow}
use Rattle.model.specs.Basics.{maybe, first, before}
use Rattle.model.specs.Scopes.{parent_of, is_var, climb, chain, target, passed}
use Rattle.model.proofs.Chains.{at_chain, at_chain_more, at_chain_top}

module _ (rows : List ScopeRow) (tree : Tree rows) where
  pub target_here : (s : ℕ) → is_var rows s ≡ true → target rows s ≡ s
  unfolding target
  target_here s v = at_chain rows tree (first (is_var rows) 0) s ∙ cond-true (is_var rows s) s _ v

  pub target_up : (s p : ℕ) → is_var rows s ≡ false → parent_of rows s ≡ Some p → target rows s ≡ target rows p
  unfolding target
  target_up s p v e = at_chain_more rows tree (first (is_var rows) 0) s p e ∙ cond-false (is_var rows s) s _ v

  pub passed_here : (s : ℕ) → is_var rows s ≡ true → passed rows s ≡ []
  unfolding passed
  passed_here s v = at_chain rows tree (before (is_var rows)) s ∙ cond-true (is_var rows s) [] _ v

  pub passed_up : (s p : ℕ) → is_var rows s ≡ false → parent_of rows s ≡ Some p → passed rows s ≡ s ∷ passed rows p
  unfolding passed
  passed_up s p v e = at_chain_more rows tree (before (is_var rows)) s p e ∙ cond-false (is_var rows s) [] _ v

  pub passed_top : (s : ℕ) → is_var rows s ≡ false → parent_of rows s ≡ None → passed rows s ≡ s ∷ []
  unfolding passed
  passed_top s v e = at_chain_top rows tree (before (is_var rows)) s e ∙ cond-false (is_var rows s) [] _ v

pub before_short : (test : ℕ → Bool) (xs : List ℕ) → length (before test xs) ≤ length xs
before_short test [] = omega arith
before_short test (x ∷ xs) = let h = before_short test xs in cond_both (test x) [] (x ∷ before test xs) (λ ys. length ys ≤ length (x ∷ xs)) (λ _. omega arith) (λ _. omega arith)

pub climb_short : (rows : List ScopeRow) (f s : ℕ) → length (climb rows f s) ≤ f
climb_short rows zero s = omega arith
climb_short rows (suc f) s = let h = maybe_short (parent_of rows s) (climb rows f) f (λ p. climb_short rows f p) in omega arith
  where
    maybe_short : (o : Option ℕ) (g : ℕ → List ℕ) (n : ℕ) → ((p : ℕ) → length (g p) ≤ n) → length (maybe o [] g) ≤ n
    maybe_short None g n h = omega arith
    maybe_short (Some p) g n h = h p

-- a scope passes no more scopes than its number has room for
pub passed_short : (rows : List ScopeRow) (s : ℕ) → length (passed rows s) ≤ suc s
unfolding passed chain
passed_short rows s = let a = before_short (is_var rows) (climb rows (suc s) s) in let b = climb_short rows (suc s) s in omega arith
