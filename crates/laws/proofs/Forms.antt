-- What a declaration comes to, by its kind.
use Rattle.std.proofs.Common.{◌≡◌, ℕ, suc, ◌+◌, ◌<◌, Bool, false, cond, not, ◌&&◌, eqb, ◌≢◌, List, [], ◌∷◌, length, is_some, Some, sym, refl, ap, ◌∙◌, subst, ⊎_elim, arith, length-append, length-set}
use Rattle.std.proofs.lemmas.Option.{none-some, same_Some}
use Rattle.std.proofs.lemmas.Bool.{cases_Bool, cases_eq, eq-eqb, ne_eqb, cond_both, cond-true, cond-false}
use Rattle.std.proofs.lemmas.Bool.Decides.{nat_tests}
use Rattle.stores.specs.Keys.{same_scope_and_name}
use Rattle.tables.specs.Flags.{meets, ByValue, FunctionScopedVariable, FunctionSymbol, Import}
use Rattle.tables.specs.declared.row.ScopeRow.{ScopeRow}
use Rattle.model.specs.declared.call.Call.{Call}
use Rattle.model.specs.declared.call.Call.TheVariants.{EnterScope, LeaveScope, Bind, DeclareReference, ResolveReferences, ResolveAllReferences}
use Rattle.model.specs.declared.call.Declaration.{Declaration}
use Rattle.model.specs.declared.manner.Manner.{Manner}
use Rattle.model.specs.declared.manner.Manner.TheVariants.{Here, Hoisted, MovedOut, Shadow, Conditional}
use Rattle.model.specs.Basics.{place}
use Rattle.model.specs.Kinds.{TypeScript, Async, manner, excludes}
use Rattle.model.specs.State.{Names, Machine, fresh}
use Rattle.model.specs.Scopes.{is_var, is_strict, target, passed, conditional_scope}
use Rattle.model.specs.Declaring.{Told, Declared, binding, hoisted, complain, add_symbol_redeclaration, unite, found, declare_shadow_symbol, declare_symbol_on_scope, move_binding, relocate, with_hoisted, hoist_all, declare_var, declare_moved_out, declare}
use Rattle.model.specs.Calls.{told, bound, granted, after, run}
use Rattle.laws.specs.Conflicts.{Reaches, Var, CatchName, Infer, MovesOut}
use Rattle.laws.proofs.Basics.{maybe_both}
use Rattle.laws.proofs.Granting.{after_keeps}
use Rattle.laws.proofs.Sound.{Sound, found_cases}
use Rattle.laws.proofs.Runs.{Good, after_good}
use Rattle.laws.proofs.FlagSets.{misses_part}
use Rattle.laws.proofs.Scanning.{Stops, at_once, higher, stop, scan_comes_to}

pub here_not_out : Here ≡ MovedOut → ⊥
here_not_out o = cc

-- the scopes on the way see the symbol as a hoisted variable
abbrev pub hoisted_out : List ScopeRow → ℕ → ℕ → Declared → Declared
hoisted_out rows here name r = record { names = hoist_all r.names (passed rows here) name r.symbol; symbol = r.symbol }

module _ (m : Machine) (d : Declaration) where
  abbrev pub up : ℕ
  up = target m.scopes m.current

  pub data Form (r : Declared) : Type 0 where
    form_stopped : (p k : ℕ) → d.kind ≡ Var → Stops m.scopes m.names d.name.0 p k m.current
        → r ≡ hoisted_out m.scopes m.current d.name.0 (stop (told m d) m.names p up k) → Form r
    form_reached : d.kind ≡ Var → Reaches m.scopes m.names d.name.0 up m.current
        → r ≡ hoisted_out m.scopes m.current d.name.0 (declare_symbol_on_scope (told m d) m.names up) → Form r
    form_shadow : d.kind ≡ CatchName → r ≡ declare_shadow_symbol (told m d) m.names m.current → Form r
    form_infer : d.kind ≡ Infer → r ≡ declare_symbol_on_scope (told m d) m.names (conditional_scope m.scopes m.current) → Form r
    form_moved : d.kind ≢ Var → d.kind ≢ CatchName → d.kind ≢ Infer → MovesOut m d → r ≡ declare_moved_out (told m d) m.scopes m.current m.names → Form r
    form_here : d.kind ≢ Var → d.kind ≢ CatchName → d.kind ≢ Infer → (MovesOut m d → ⊥) → r ≡ declare_symbol_on_scope (told m d) m.names m.current → Form r

  abbrev its_manner : Manner
  its_manner = manner d.kind d.modifiers (meets m.setting TypeScript) (is_strict m.scopes m.current) (is_var m.scopes m.current)

  abbrev comes_to : Manner → Declared
  comes_to how = declare how (told m d) m.scopes m.current m.names

  -- what a var excludes has a value
  mild : d.kind ≡ Var → (f : ℕ) → meets f ByValue ≡ false → meets f (told m d).excludes ≡ false
  mild v f e =
      ap (λ k. meets f (excludes k d.modifiers (meets m.setting TypeScript) (is_strict m.scopes m.current))) v
      ∙ (misses_part f (excludes 1 d.modifiers (meets m.setting TypeScript) (is_strict m.scopes m.current)) (FunctionScopedVariable + FunctionSymbol + Import) e).0

  abbrev moves : Bool
  moves = eqb d.kind 5 && not (meets d.modifiers Async) && not (meets m.setting TypeScript) && not (is_strict m.scopes m.current) && not (is_var m.scopes m.current)

  -- a kind that is no var, catch name or infer
  other_manner : d.kind ≢ Var → d.kind ≢ CatchName → d.kind ≢ Infer → its_manner ≡ cond moves MovedOut Here
  other_manner v c i = grind (arith, nat_tests)

  pub form : Good m → Form (bound m d)
  unfolding declare declare_var
  form g =
      ⊎_elim
      (λ (v : d.kind ≡ 1).
      let e : its_manner ≡ Hoisted = cond-true (eqb d.kind 1) Hoisted _ (eq-eqb d.kind 1 v) in
      ⊎_elim
      (λ x. form_stopped x.0 x.1 v x.2 (ap comes_to e ∙ ap (hoisted_out m.scopes m.current d.name.0) x.3))
      (λ x. form_reached v x.0 (ap comes_to e ∙ ap (hoisted_out m.scopes m.current d.name.0) x.1))
      (scan_comes_to m.scopes g.tree (told m d) (mild v) m.names up (suc m.current) m.current (omega arith) g.here refl))
      (λ (v : d.kind ≢ 1). ⊎_elim
      (λ (c : d.kind ≡ 8). form_shadow c (ap comes_to (cond-false (eqb d.kind 1) Hoisted _ (ne_eqb d.kind 1 v) ∙ cond-true (eqb d.kind 8) Shadow _ (eq-eqb d.kind 8 c))))
      (λ (c : d.kind ≢ 8). ⊎_elim
      (λ (i : d.kind ≡ 18). form_infer i (ap comes_to (cond-false (eqb d.kind 1) Hoisted _ (ne_eqb d.kind 1 v) ∙ cond-false (eqb d.kind 8) Shadow _ (ne_eqb d.kind 8 c)
      ∙ cond-true (eqb d.kind 18) Conditional _ (eq-eqb d.kind 18 i))))
      (λ (i : d.kind ≢ 18). ⊎_elim (λ b. let e : its_manner ≡ MovedOut = other_manner v c i ∙ cond-true moves MovedOut Here b in form_moved v c i e (ap comes_to e))
      (λ b. let e : its_manner ≡ Here = other_manner v c i ∙ cond-false moves MovedOut Here b in form_here v c i (λ o. here_not_out (sym e ∙ o)) (ap comes_to e))
      (cases_Bool moves))
      (cases_eq d.kind 18))
      (cases_eq d.kind 8))
      (cases_eq d.kind 1)

-- hoisted variables lead to symbols that are there
abbrev pub Ranged : Names → Type 0
Ranged nm = (s n k : ℕ) → hoisted nm s n ≡ Some k → k < length nm.symbols

pub record Fine (r : Declared) : Type 0 where
  pub ranged : Ranged r.names
  pub there : r.symbol < length r.names.symbols

pub found_there : (rows : List ScopeRow) (nm : Names) → Sound rows nm → Ranged nm → (s n k : ℕ) → found nm s n ≡ Some k → k < length nm.symbols
found_there rows nm h g s n k e = ⊎_elim (λ b. (h.leads s n k b).there) (λ c. g s n k c) (found_cases rows nm s n k e)

with_hoisted_fine : (nm : Names) (p name k : ℕ) → Ranged nm → k < length nm.symbols → Ranged (with_hoisted nm p name k)
with_hoisted_fine nm p name k h l s n j e =
    ⊎_elim (λ t. let kj : k ≡ j = same_Some k j (sym (cond-true (same_scope_and_name (place s n) (place p name)) (Some k) _ t) ∙ e) in subst (λ x. x < length nm.symbols) kj l)
    (λ t. h s n j (sym (cond-false (same_scope_and_name (place s n) (place p name)) (Some k) _ t) ∙ e))
    (cases_Bool (same_scope_and_name (place s n) (place p name)))

hoist_all_fine : (ps : List ℕ) (nm : Names) (name k : ℕ) → Ranged nm → k < length nm.symbols → Fine (record { names = hoist_all nm ps name k; symbol = k })
unfolding hoist_all
hoist_all_fine [] nm name k h l = record { ranged = h; there = l }
hoist_all_fine (p ∷ ps) nm name k h l = hoist_all_fine ps (with_hoisted nm p name k) name k (with_hoisted_fine nm p name k h l) l

move_fine : (nm : Names) (from to name k j : ℕ) → Ranged nm → j < length nm.symbols → Fine (record { names = move_binding nm from to name k; symbol = j })
unfolding move_binding
move_fine nm from to name k j h l =
    cond_both (is_some (binding nm to name)) nm (relocate nm from to name k) (λ x. Fine (record { names = x; symbol = j }))
    (λ _. record { ranged = h; there = l })
    (λ _. record { ranged = λ s n i e. let q = h s n i e in simp length-set q; there = simp length-set l })

module _ (rows : List ScopeRow) (d : Told) (nm : Names) (h : Sound rows nm) (g : Ranged nm) where
  shadow_fine : (scope : ℕ) → Fine (declare_shadow_symbol d nm scope)
  unfolding declare_shadow_symbol
  shadow_fine scope = record { ranged = λ s n k e. let l = g s n k e in simp length-append (omega arith); there = simp length-append (omega arith) }

  on_scope_fine : (scope : ℕ) → Fine (declare_symbol_on_scope d nm scope)
  unfolding declare_symbol_on_scope complain add_symbol_redeclaration unite
  on_scope_fine scope =
      maybe_both (found nm scope d.name) _ _ Fine (λ _. shadow_fine scope)
      (λ k e. let l = found_there rows nm h g scope d.name k e in record { ranged = λ s n j q. let i = g s n j q in simp length-set i; there = simp length-set l })

  stop_fine : (p t k : ℕ) → k < length nm.symbols → Fine (stop d nm p t k)
  unfolding complain add_symbol_redeclaration
  stop_fine p t k l = move_fine (add_symbol_redeclaration d (complain d nm k) k) p t d.name k k g l

  moved_out_fine : (here : ℕ) → Fine (declare_moved_out d rows here nm)
  unfolding declare_moved_out
  moved_out_fine here =
      let r = declare_symbol_on_scope d nm here in
      let f = on_scope_fine here in
      let t = target rows here in
      cond_both (is_some (binding r.names t d.name)) r.names (with_hoisted (move_binding r.names here t d.name r.symbol) here d.name r.symbol) (λ x. Fine (record { names = x; symbol = r.symbol }))
      (λ _. record { ranged = f.ranged; there = f.there })
      (λ _. let w = move_fine r.names here t d.name r.symbol r.symbol f.ranged f.there in
      record { ranged = with_hoisted_fine (move_binding r.names here t d.name r.symbol) here d.name r.symbol w.ranged w.there; there = w.there })

pub stop_found : (rows : List ScopeRow) (nm : Names) (name p k s : ℕ) → Stops rows nm name p k s → found nm p name ≡ Some k
stop_found rows nm name p k s (at_once v e val) = e
stop_found rows nm name p k s (higher _ q v lacks e r) = stop_found rows nm name p k q r

form_fine : (m : Machine) (d : Declaration) (r : Declared) → Sound m.scopes m.names → Ranged m.names → Form m d r → Fine r
form_fine m d r h g (form_stopped p k v s e) =
    let f = stop_fine m.scopes (told m d) m.names h g p (up m d) k (found_there m.scopes m.names h g p d.name.0 k (stop_found m.scopes m.names d.name.0 p k m.current s)) in
    subst Fine (sym e) (hoist_all_fine (passed m.scopes m.current) _ d.name.0 k f.ranged f.there)
form_fine m d r h g (form_reached v s e) =
    let f = on_scope_fine m.scopes (told m d) m.names h g (up m d) in
    subst Fine (sym e) (hoist_all_fine (passed m.scopes m.current) _ d.name.0 _ f.ranged f.there)
form_fine m d r h g (form_shadow c e) = subst Fine (sym e) (shadow_fine m.scopes (told m d) m.names h g m.current)
form_fine m d r h g (form_infer i e) = subst Fine (sym e) (on_scope_fine m.scopes (told m d) m.names h g (conditional_scope m.scopes m.current))
form_fine m d r h g (form_moved v c i o e) = subst Fine (sym e) (moved_out_fine m.scopes (told m d) m.names h g m.current)
form_fine m d r h g (form_here v c i o e) = subst Fine (sym e) (on_scope_fine m.scopes (told m d) m.names h g m.current)

granted_ranged : (m : Machine) (c : Call) → Good m → Ranged m.names → Ranged (granted m c).names
unfolding granted
granted_ranged m (EnterScope x) g h = h
granted_ranged m LeaveScope g h = h
granted_ranged m (Bind d) g h = (form_fine m d (bound m d) g.sound h (form m d g)).ranged
granted_ranged m (DeclareReference r) g h = h
granted_ranged m (ResolveReferences start) g h = h
granted_ranged m ResolveAllReferences g h = h

pub after_ranged : (m : Machine) (c : Call) → Good m → Ranged m.names → Ranged (after m c).names
after_ranged m c g h = after_keeps m c (λ x. Ranged x.names) (λ _. granted_ranged m c g h) h

pub run_ranged : (cs : List Call) (m : Machine) → Good m → Ranged m.names → Ranged (run m cs).names
run_ranged [] m g h = h
run_ranged (c ∷ cs) m g h = run_ranged cs (after m c) (after_good m c g) (after_ranged m c g h)

pub fresh_ranged : (setting : ℕ) → Ranged (fresh setting).names
fresh_ranged setting s n k e = absurd (none-some k e)
