-- How a var goes to its nearest var scope, and what its scan comes to.
use Rattle.std.proofs.Common.{◌≡◌, ℕ, zero, suc, ◌<◌, true, false, cond, ◌⊎◌, List, [], ◌∷◌, ◌++◌, length, Some, sym, ap, ◌∙◌, subst, inl, inr, ⊎_elim, append-nil, not-suc-le-zero, arith}
use Rattle.std.proofs.lemmas.Bool.{cases_Bool, cond-true, cond-false}
use Rattle.tables.specs.Flags.{meets, VarScope, ByValue}
use Rattle.tables.specs.declared.row.ScopeRow.{ScopeRow}
use Rattle.tables.specs.declared.row.Conflict.{Conflict}
use Rattle.model.specs.Basics.{maybe}
use Rattle.model.specs.State.{Names, symbol_row, flags_of}
use Rattle.model.specs.Scopes.{parent_of, is_var, target, passed}
use Rattle.model.specs.Declaring.{Told, Declared, conflict_of, complain, add_symbol_redeclaration, found, declare_symbol_on_scope, move_binding, scan}
use Rattle.laws.specs.Conflicts.{NoValue, Nearest, itself, above, StoppedBy, stopped_here, stopped_above, Reaches, reached, passes}
use Rattle.laws.proofs.Basics.{option_cases}
use Rattle.model.proofs.Walks.{target_here, target_up, passed_here, passed_up}
use Rattle.laws.proofs.Tree.{Tree, Passes, has_parent}
use Rattle.laws.proofs.ComesUpon.{found_beside, none_beside, one_beside}

-- a var is stopped at p, by the symbol k
pub data Stops (rows : List ScopeRow) (nm : Names) (name p k : ℕ) : ℕ → Type 0 where
  at_once : is_var rows p ≡ false → found nm p name ≡ Some k → meets (flags_of nm k) ByValue ≡ true → Stops rows nm name p k p
  higher : (s q : ℕ) → is_var rows s ≡ false → NoValue nm s name → parent_of rows s ≡ Some q → Stops rows nm name p k q → Stops rows nm name p k s

pub stops_by : (rows : List ScopeRow) (nm : Names) (name p k s : ℕ) → Stops rows nm name p k s → StoppedBy rows nm name k s
stops_by rows nm name p k s (at_once v e val) = stopped_here s v (found_beside nm s name k e) val
stops_by rows nm name p k s (higher _ q v lacks e r) = stopped_above s q v lacks e (stops_by rows nm name p k q r)

-- what the declaration then comes to
abbrev pub stop : Told → Names → ℕ → ℕ → ℕ → Declared
stop d nm p t k = record { names = move_binding (add_symbol_redeclaration d (complain d nm k) k) p t d.name k; symbol = k }

module _ (rows : List ScopeRow) (tree : Tree rows) where
  pub nearest_var : (f s : ℕ) → s < f → s < length rows → Nearest rows VarScope (target rows s) s
  nearest_var zero s h lies = absurd (not-suc-le-zero h)
  nearest_var (suc f) s h lies =
      ⊎_elim (λ v. subst (λ t. Nearest rows VarScope t s) (sym (target_here rows tree.lower s v)) (itself v))
      (λ v. let q : (p : ℕ) × (parent_of rows s ≡ Some p) = has_parent rows tree s lies v in
      let l : q.0 < s = tree.lower s q.0 q.1 in
      subst (λ t. Nearest rows VarScope t s) (sym (target_up rows tree.lower s q.0 v q.1)) (above s q.0 v q.1 (nearest_var f q.0 (omega arith) (omega arith))))
      (cases_Bool (is_var rows s))

  pub stop_passes : (nm : Names) (name p k t s : ℕ) → s < length rows → target rows s ≡ t → Stops rows nm name p k s → Passes rows tree t p
  stop_passes nm name p k t s lies e (at_once v f val) = record { lies = lies; no_var = v; goal = e }
  stop_passes nm name p k t s lies e (higher _ q v lacks up r) =
      let l : q < s = tree.lower s q up in
      stop_passes nm name p k t q (omega arith) (sym (target_up rows tree.lower s q v up) ∙ e) r

  module _ (d : Told) (mild : (f : ℕ) → meets f ByValue ≡ false → meets f d.excludes ≡ false) where
    -- a symbol that has no value is passed without a trace
    complains_not : (nm : Names) (k : ℕ) → meets (flags_of nm k) ByValue ≡ false → complain d nm k ≡ nm
    unfolding complain
    complains_not nm k v =
        ap (λ (xs : List Conflict). record { symbols = nm.symbols; bindings = nm.bindings; hoisting = nm.hoisting; redeclarations = nm.redeclarations; conflicts = xs })
        (ap (λ (xs : List Conflict). nm.conflicts ++ xs) (cond-false (meets (flags_of nm k) d.excludes) (conflict_of d (symbol_row nm k) ∷ []) [] (mild (flags_of nm k) v)) ∙ append-nil nm.conflicts)

    abbrev pub ScanComesTo : Names → ℕ → ℕ → Declared → Type 0
    ScanComesTo nm t s r = ((p k : ℕ) × Stops rows nm d.name p k s × (r ≡ stop d nm p t k)) ⊎ (Reaches rows nm d.name t s × (r ≡ declare_symbol_on_scope d nm t))

    pub scan_comes_to : (nm : Names) (t f s : ℕ) → s < f → s < length rows → target rows s ≡ t → ScanComesTo nm t s (scan d t nm (passed rows s))
    unfolding scan
    scan_comes_to nm t zero s h lies goal = absurd (not-suc-le-zero h)
    scan_comes_to nm t (suc f) s h lies goal =
        ⊎_elim (λ v. inr (
          subst (λ x. Reaches rows nm d.name t x) (sym goal ∙ target_here rows tree.lower s v) (reached (ap (is_var rows) (sym goal ∙ target_here rows tree.lower s v) ∙ v)),
          ap (scan d t nm) (passed_here rows tree.lower s v),
        ))
        (λ v. let q : (p : ℕ) × (parent_of rows s ≡ Some p) = has_parent rows tree s lies v in
        let l : q.0 < s = tree.lower s q.0 q.1 in
        let ps = passed rows q.0 in
        let further : ScanComesTo nm t q.0 (scan d t nm ps) = scan_comes_to nm t f q.0 (omega arith) (omega arith) (sym (target_up rows tree.lower s q.0 v q.1) ∙ goal) in
        let here = ap (scan d t nm) (passed_up rows tree.lower s q.0 v q.1) in
        option_cases (found nm s d.name) (ScanComesTo nm t s (scan d t nm (passed rows s)))
        (λ e. on s q.0 v (λ k b. absurd (none_beside nm s d.name e k b)) q.1 (scan d t nm (passed rows s)) (scan d t nm ps) (here ∙ ap (λ o. maybe o (scan d t nm ps) (turn nm s t ps)) e) further)
        (λ k e. let found_it = here ∙ ap (λ o. maybe o (scan d t nm ps) (turn nm s t ps)) e in
        ⊎_elim (λ val. inl (s, k, at_once v e val, found_it ∙ cond-true (meets (flags_of nm k) ByValue) (stop d nm s t k) _ val))
        (λ val. on s q.0 v (λ j b. ap (λ x. meets (flags_of nm x) ByValue) (one_beside nm s d.name j k b (found_beside nm s d.name k e)) ∙ val) q.1 (scan d t nm (passed rows s)) (scan d t nm ps)
        (found_it ∙ cond-false (meets (flags_of nm k) ByValue) (stop d nm s t k) _ val ∙ ap (λ x. scan d t x ps) (complains_not nm k val)) further)
        (cases_Bool (meets (flags_of nm k) ByValue))))
        (cases_Bool (is_var rows s))
      where
        turn : Names → ℕ → ℕ → List ℕ → ℕ → Declared
        turn nm p t ps k = cond (meets (flags_of nm k) ByValue) (stop d nm p t k) (scan d t (complain d nm k) ps)

        on : (s q : ℕ) → is_var rows s ≡ false → NoValue nm s d.name → parent_of rows s ≡ Some q → (r r' : Declared) → r ≡ r' → ScanComesTo nm t q r' → ScanComesTo nm t s r
        on s q v lacks up r r' same =
            ⊎_elim (λ x. inl (x.0, x.1, higher s q v lacks up x.2, same ∙ x.3)) (λ x. inr (passes s q v lacks up x.0, same ∙ x.1))
