-- A chain is its scope and then its parent's chain, since a parent has a lower number.
use Rattle.std.proofs.Common.{◌≡◌, ℕ, zero, suc, ◌<◌, List, [], ◌∷◌, Some, None, Option, refl, ap, ◌∙◌, arith}
use Rattle.tables.specs.Trees.{Tree}
use Rattle.tables.specs.declared.row.ScopeRow.{ScopeRow}
use Rattle.model.specs.Basics.{maybe}
use Rattle.model.specs.Scopes.{parent_of, climb, chain}

maybe_same : (o : Option ℕ) (f g : ℕ → List ℕ) → ((p : ℕ) → o ≡ Some p → f p ≡ g p) → maybe o [] f ≡ maybe o [] g
maybe_same None f g h = refl
maybe_same (Some p) f g h = h p refl

module _ (rows : List ScopeRow) (tree : Tree rows) where
  pub climb_fuel : (f g s : ℕ) → s < f → s < g → climb rows f s ≡ climb rows g s
  climb_fuel zero g s h k = absurd (omega arith)
  climb_fuel (suc f) zero s h k = absurd (omega arith)
  climb_fuel (suc f) (suc g) s h k =
      ap {B = List ℕ} (λ r. s ∷ r) (maybe_same (parent_of rows s) (climb rows f) (climb rows g)
      (λ p e. let l : p < s = tree s p e in climb_fuel f g p (omega arith) (omega arith)))

  pub chain_on : (s : ℕ) → chain rows s ≡ s ∷ maybe (parent_of rows s) [] (chain rows)
  unfolding chain
  chain_on s =
      ap {B = List ℕ} (λ r. s ∷ r) (maybe_same (parent_of rows s) (climb rows s) (chain rows)
      (λ p e. let l : p < s = tree s p e in climb_fuel s (suc p) p (omega arith) (omega arith)))

  -- a function of a chain, where only the first scope matters, one step on, and at the root
  module _ {Y : Type 0} (F : List ℕ → Y) (s : ℕ) where
    pub at_chain : F (chain rows s) ≡ F (s ∷ maybe (parent_of rows s) [] (chain rows))
    at_chain = ap F (chain_on s)

    pub at_chain_more : (p : ℕ) → parent_of rows s ≡ Some p → F (chain rows s) ≡ F (s ∷ chain rows p)
    at_chain_more p e = ap F (chain_on s ∙ ap {B = List ℕ} (λ o. s ∷ maybe o [] (chain rows)) e)

    pub at_chain_top : parent_of rows s ≡ None → F (chain rows s) ≡ F (s ∷ [])
    at_chain_top e = ap F (chain_on s ∙ ap {B = List ℕ} (λ o. s ∷ maybe o [] (chain rows)) e)
