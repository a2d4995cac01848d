-- How far the scan of a var has come.
use Rattle.std.proofs.Common.{◌≡◌, ℕ, ◌+◌, false, List, [], ◌∷◌, Some, None, Option, sym, refl, ap, ◌∙◌, arith}
use Rattle.std.proofs.lemmas.Grind.{common_steps}
use Rattle.tables.specs.Trees.{Tree}
use Rattle.tables.specs.declared.row.ScopeRow.{ScopeRow}
use Rattle.model.specs.Basics.{maybe}
use Rattle.model.specs.State.{Names}
use Rattle.model.specs.Declaring.{Told, Declared, complain, add_symbol_redeclaration, scan}
use Rattle.model.specs.Scopes.{is_var, parent_of, passed}
use Rattle.model.proofs.Walks.{passed_up, passed_top}
use Rattle.declaring.specs.Fitting.{Fits}
use Rattle.declaring.proofs.Kept.{move_hoists, declare_hoists}
use Rattle.declaring.specs.Scan.{Stepped, stepped}

-- a passed scope is the first on the way from it
module _ (rows : List ScopeRow) (tree : Tree rows) (s : ℕ) (v : is_var rows s ≡ false) where
  by_parent : (o : Option ℕ) → parent_of rows s ≡ o → passed rows s ≡ s ∷ maybe o [] (passed rows)
  by_parent None e = passed_top rows tree s v e
  by_parent (Some p) e = passed_up rows tree s p v e

  pub passed_on : passed rows s ≡ s ∷ maybe (parent_of rows s) [] (passed rows)
  passed_on = by_parent (parent_of rows s) refl

-- a scan that goes on from a scope, or stops there
abbrev pub scan_on : Told → ℕ → Stepped → List ℕ → Declared
scan_on d to w ps = maybe w.stopped (scan d to w.names ps) (λ s. record { names = w.names; symbol = s })

-- once a scope is looked at, the rest of the scan is left
pub scan_step : (d : Told) (to p : ℕ) (nm : Names) (ps : List ℕ) → scan d to nm (p ∷ ps) ≡ scan_on d to (stepped d to nm p) ps
unfolding scan
scan_step d to p nm ps = grind (arith, common_steps)

-- a scope that does not stop the scan takes a conflict at the most
module _ (d : Told) (to p : ℕ) (nm nm' : Names) (e : record { names = nm'; stopped = None } ≡ stepped d to nm p) where
  pub scan_past : (ps : List ℕ) → scan d to nm' ps ≡ scan d to nm (p ∷ ps)
  scan_past ps = ap (λ (w : Stepped). scan_on d to w ps) e ∙ sym (scan_step d to p nm ps)

  pub fits_past : (m n : ℕ) → m ≡ n + 1 → Fits nm m → Fits nm' n
  unfolding complain
  fits_past m n l fits =
      let a = fits.conflicts in
      record {
        symbols = (let b = fits.symbols in grind (arith, common_steps));
        redeclarations = (let b = fits.redeclarations in grind (arith, common_steps));
        conflicts = grind (arith, common_steps);
        bindings = (let b = fits.bindings in grind (arith, common_steps));
      }

-- a scan hoists nothing
pub scan_hoists : (d : Told) (to : ℕ) (nm : Names) (ps : List ℕ) → (scan d to nm ps).names.hoisting ≡ nm.hoisting
unfolding scan complain add_symbol_redeclaration
scan_hoists d to nm [] = declare_hoists d to nm
scan_hoists d to nm (p ∷ ps) =
    let on : (x : Names) → (scan d to x ps).names.hoisting ≡ x.hoisting = λ x. scan_hoists d to x ps in grind (arith, common_steps, on, move_hoists)
