-- The law on conflicts and redeclarations.
use Rattle.std.proofs.Common.{◌≡◌, ℕ, suc, true, false, cond, ◌≢◌, List, [], ◌∷◌, ◌++◌, length, set, is_some, Some, None, sym, refl, ap, ◌∙◌, subst, ⊎_elim, arith}
use lib.Seq.{get_or-append_seam}
use Rattle.std.proofs.lemmas.Bool.{cases_Bool, true≢false, cond_both, cond-true, cond-false}
use Rattle.stores.specs.Keys.{same_scope_and_name}
use Rattle.tables.specs.Flags.{meets, TsConditional, VarScope}
use Rattle.tables.specs.declared.row.SymbolRow.{SymbolRow}
use Rattle.model.specs.declared.call.Call.{Call}
use Rattle.model.specs.declared.call.Call.TheVariants.{EnterScope, LeaveScope, Bind, DeclareReference, ResolveReferences, ResolveAllReferences}
use Rattle.model.specs.declared.call.Declaration.{Declaration}
use Rattle.model.specs.declared.manner.Manner.{Manner}
use Rattle.model.specs.declared.manner.Manner.TheVariants.{Hoisted, MovedOut, Shadow, Conditional}
use Rattle.model.specs.Basics.{maybe, place}
use Rattle.model.specs.Kinds.{TypeScript, manner}
use Rattle.model.specs.State.{Names, Machine, fresh, no_symbol}
use Rattle.model.specs.Scopes.{is_var, is_strict, passed, conditional_scope}
use Rattle.model.specs.Declaring.{Declared, binding, unite, found, declare_shadow_symbol, declare_symbol_on_scope, move_binding, relocate, with_hoisted, with_scope, hoist_all, declare_moved_out}
use Rattle.model.specs.Calls.{told, bound, granted, after, answer, refusal, run}
use Rattle.laws.specs.Conflicts.{Beside, Nearest, Reaches, Var, CatchName, Infer, MadeIn, var_scope, conditional, no_conditional, current_scope, ComesUpon, on_the_way, in_scope, NewSymbol, MovesOut, ScopeOfNew, stays, name_taken, moves, Outcome, stopped, united, made, was_granted, is_bind, ConflictsExactly}
use Rattle.laws.proofs.Basics.{option_cases, same_true}
use Rattle.laws.proofs.Granting.{granted_answers, granted_after, after_keeps, refused_answers, refused_after}
use Rattle.laws.proofs.Tree.{target_var}
use Rattle.laws.proofs.Sound.{Sound}
use Rattle.laws.proofs.Runs.{Good, fresh_good, run_good, moved_out_of}
use Rattle.laws.proofs.ComesUpon.{found_beside, none_beside, first_of_chain, told_apart}
use Rattle.laws.proofs.Scanning.{stops_by, nearest_var}
use Rattle.laws.proofs.Written.{Alike, alike_self, alike_then, hoist_alike, hoist_all_alike, move_alike, noted, again_alike, again_noted, again_united, new_made, new_hoisted}
use Rattle.laws.proofs.Forms.{Form, form, form_stopped, form_reached, form_shadow, form_infer, form_moved, form_here, up, hoisted_out, Ranged, found_there, run_ranged, fresh_ranged}

set_last : (xs : List SymbolRow) (y z : SymbolRow) → set (xs ++ y ∷ []) (length xs) z ≡ xs ++ z ∷ []
set_last [] y z = refl
set_last (x ∷ xs) y z = ap {B = List SymbolRow} (λ r. x ∷ r) (set_last xs y z)

module _ (m : Machine) (d : Declaration) where
  abbrev its_manner : ℕ → Manner
  its_manner k = manner k d.modifiers (meets m.setting TypeScript) (is_strict m.scopes m.current) (is_var m.scopes m.current)

  still : (k : ℕ) (how : Manner) → d.kind ≡ k → its_manner k ≡ how → (how ≡ MovedOut → ⊥) → MovesOut m d → ⊥
  still k how e h other o = other (sym h ∙ ap its_manner (sym e) ∙ o)

  var_stays : d.kind ≡ Var → MovesOut m d → ⊥
  var_stays e = still 1 Hoisted e refl (λ o. cc)

  catch_stays : d.kind ≡ CatchName → MovesOut m d → ⊥
  catch_stays e = still 8 Shadow e refl (λ o. cc)

  infer_stays : d.kind ≡ Infer → MovesOut m d → ⊥
  infer_stays e = still 18 Conditional e refl (λ o. cc)

  -- nothing is come upon where a name has nothing beside it
  upon_none : (t : ℕ) → MadeIn m d t → found m.names t d.name.0 ≡ None → (k : ℕ) → ComesUpon m d k → ⊥
  upon_none t at e k (on_the_way v s) = (told_apart m d).stopped_or_made k t v s at
  upon_none t at e k (in_scope u c at' b) =
      none_beside m.names t d.name.0 e k (subst (λ x. Beside m.names x d.name.0 k) ((told_apart m d).one_scope u t at' at) b)

  -- a declaration in the scope t
  in_t : (t : ℕ) → d.kind ≢ CatchName → MadeIn m d t → Sound m.scopes m.names → Ranged m.names → (new : Names)
      → (found m.names t d.name.0 ≡ None → (scope : ℕ) × ScopeOfNew m d t scope × NewSymbol (told m d) m.names new scope)
      → ((k : ℕ) → found m.names t d.name.0 ≡ Some k → Alike (unite (told m d) (noted (told m d) m.names k) k) new k)
      → Outcome m d new
  in_t t c at h g new none some =
      option_cases (found m.names t d.name.0) (Outcome m d new)
      (λ e. let n = none e in made t n.0 at (upon_none t at e) n.1 n.2)
      (λ k e. united t k c at (found_beside m.names t d.name.0 k e)
      (again_alike (told m d) m.names k (unite (told m d) (noted (told m d) m.names k) k) new _
      (again_united (told m d) m.names k (found_there m.scopes m.names h g t d.name.0 k e)) (some k e)))

  pub on_scope_none : (t : ℕ) → found m.names t d.name.0 ≡ None → declare_symbol_on_scope (told m d) m.names t ≡ declare_shadow_symbol (told m d) m.names t
  unfolding declare_symbol_on_scope
  on_scope_none t e =
      ap (λ o. maybe o (declare_shadow_symbol (told m d) m.names t) (λ s. record { names = unite (told m d) (noted (told m d) m.names s) s; symbol = s })) e

  pub on_scope_some : (t k : ℕ) → found m.names t d.name.0 ≡ Some k → declare_symbol_on_scope (told m d) m.names t ≡ record { names = unite (told m d) (noted (told m d) m.names k) k; symbol = k }
  unfolding declare_symbol_on_scope
  on_scope_some t k e =
      ap (λ o. maybe o (declare_shadow_symbol (told m d) m.names t) (λ s. record { names = unite (told m d) (noted (told m d) m.names s) s; symbol = s })) e

  module _ (h : Sound m.scopes m.names) (g : Ranged m.names) where
    in_t_alone : (t : ℕ) → d.kind ≢ CatchName → MadeIn m d t → (MovesOut m d → ⊥) → Outcome m d (declare_symbol_on_scope (told m d) m.names t).names
    in_t_alone t c at out =
        in_t t c at h g (declare_symbol_on_scope (told m d) m.names t).names
        (λ e. (t, stays out refl, subst (λ (r : Declared). NewSymbol (told m d) m.names r.names t) (sym (on_scope_none t e)) (new_made (told m d) m.names t)))
        (λ k e. subst (λ (r : Declared). Alike (unite (told m d) (noted (told m d) m.names k) k) r.names k) (sym (on_scope_some t k e)) (alike_self (unite (told m d) (noted (told m d) m.names k) k) k))

    in_var_scope : d.kind ≡ Var → Reaches m.scopes m.names d.name.0 (up m d) m.current
        → Outcome m d (hoisted_out m.scopes m.current d.name.0 (declare_symbol_on_scope (told m d) m.names (up m d))).names
    in_var_scope v r =
        let t = up m d in
        let ps = passed m.scopes m.current in
        in_t t (λ c. let z : ◌≡◌ {A = ℕ} 1 8 = sym v ∙ c in omega arith) (var_scope v r) h g _
        (λ e. (
          t,
          stays (var_stays v) refl,
          subst (λ (x : Declared). NewSymbol (told m d) m.names (hoist_all x.names ps d.name.0 x.symbol) t) (sym (on_scope_none t e))
              (new_hoisted (told m d) m.names t ps (declare_shadow_symbol (told m d) m.names t).names d.name.0 (declare_shadow_symbol (told m d) m.names t).symbol (new_made (told m d) m.names t)),
        ))
        (λ k e. subst (λ (x : Declared). Alike (unite (told m d) (noted (told m d) m.names k) k) (hoist_all x.names ps d.name.0 x.symbol) k) (sym (on_scope_some t k e))
        (hoist_all_alike ps (unite (told m d) (noted (told m d) m.names k) k) d.name.0 k k))

    -- a function that moves out
    module _ (good : Good m) (out : MovesOut m d) where
      abbrev moved_from : Declared → Names
      moved_from r =
          cond (is_some (binding r.names (up m d) d.name.0)) r.names (with_hoisted (move_binding r.names m.current (up m d) d.name.0 r.symbol) m.current d.name.0 r.symbol)

      no_var_here : is_var m.scopes m.current ≡ false
      no_var_here = moved_out_of d.kind d.modifiers (meets m.setting TypeScript) (is_strict m.scopes m.current) (is_var m.scopes m.current) out

      up_nearest : Nearest m.scopes VarScope (up m d) m.current
      up_nearest = nearest_var m.scopes good.tree (suc m.current) m.current (omega arith) good.here

      -- the new symbol is not bound in the var scope
      other_place : same_scope_and_name (place (up m d) d.name.0) (place m.current d.name.0) ≡ false
      other_place =
          ⊎_elim (λ t. absurd (true≢false (sym (target_var m.scopes good.tree (suc m.current) m.current (omega arith) good.here)
          ∙ ap (is_var m.scopes) (same_true (up m d) m.current d.name.0 d.name.0 t).0 ∙ no_var_here)))
          (λ t. t)
          (cases_Bool (same_scope_and_name (place (up m d) d.name.0) (place m.current d.name.0)))

      new_binding : binding (declare_shadow_symbol (told m d) m.names m.current).names (up m d) d.name.0 ≡ binding m.names (up m d) d.name.0
      unfolding declare_shadow_symbol
      new_binding = cond-false (same_scope_and_name (place (up m d) d.name.0) (place m.current d.name.0)) _ _ other_place

      new_moved : (scope : ℕ) × ScopeOfNew m d m.current scope × NewSymbol (told m d) m.names (moved_from (declare_shadow_symbol (told m d) m.names m.current)) scope
      unfolding declare_shadow_symbol move_binding
      new_moved =
          let r = declare_shadow_symbol (told m d) m.names m.current in
          let t = up m d in
          option_cases (binding m.names t d.name.0) ((scope : ℕ) × ScopeOfNew m d m.current scope × NewSymbol (told m d) m.names (moved_from r) scope)
          (λ e.
          let free : is_some (binding r.names t d.name.0) ≡ false = ap is_some (new_binding ∙ e) in (
            t,
            moves out up_nearest e,
            subst (λ (x : Names). NewSymbol (told m d) m.names x t) (sym (cond-false (is_some (binding r.names t d.name.0)) r.names _ free))
                (subst (λ (x : Names). NewSymbol (told m d) m.names (with_hoisted x m.current d.name.0 r.symbol) t)
                (sym (cond-false (is_some (binding r.names t d.name.0)) r.names (relocate r.names m.current t d.name.0 r.symbol) free))
                (record {
                  no_conflict = refl;
                  no_redeclaration = refl;
                  row = set_last m.names.symbols _ _ ∙ ap (λ (x : SymbolRow). m.names.symbols ++ with_scope x t ∷ []) (get_or-append_seam m.names.symbols _ [] no_symbol);
                })),
          ))
          (λ k e.
          let taken : is_some (binding r.names t d.name.0) ≡ true = ap is_some (new_binding ∙ e) in (
            m.current,
            name_taken t k out up_nearest e refl,
            subst (λ (x : Names). NewSymbol (told m d) m.names x m.current) (sym (cond-true (is_some (binding r.names t d.name.0)) r.names _ taken))
                (new_made (told m d) m.names m.current),
          ))

      old_moved : (a : Names) (k : ℕ) → Alike a (moved_from (record { names = a; symbol = k })) k
      old_moved a k =
          cond_both (is_some (binding a (up m d) d.name.0)) a (with_hoisted (move_binding a m.current (up m d) d.name.0 k) m.current d.name.0 k) (λ x. Alike a x k)
          (λ _. alike_self a k)
          (λ _. alike_then a (move_binding a m.current (up m d) d.name.0 k) _ k (move_alike a m.current (up m d) d.name.0 k)
          (hoist_alike (move_binding a m.current (up m d) d.name.0 k) m.current d.name.0 k k))

      in_block : d.kind ≢ CatchName → MadeIn m d m.current → Outcome m d (declare_moved_out (told m d) m.scopes m.current m.names).names
      unfolding declare_moved_out
      in_block c at =
          in_t m.current c at h g _
          (λ e. subst (λ (r : Declared). (scope : ℕ) × ScopeOfNew m d m.current scope × NewSymbol (told m d) m.names (moved_from r) scope) (sym (on_scope_none m.current e)) new_moved)
          (λ k e. subst (λ (r : Declared). Alike (unite (told m d) (noted (told m d) m.names k) k) (moved_from r) k) (sym (on_scope_some m.current k e)) (old_moved (unite (told m d) (noted (told m d) m.names k) k) k))

    pub form_outcome : Good m → (r : Declared) → Form m d r → Outcome m d r.names
    unfolding conditional_scope
    form_outcome good r (form_stopped p k v s e) =
        let dd = told m d in
        let n = noted dd m.names k in
        let moved_on = move_binding n p (up m d) d.name.0 k in
        let all = hoist_all moved_on (passed m.scopes m.current) d.name.0 k in
        subst (λ (x : Declared). Outcome m d x.names) (sym e)
        (stopped k v (stops_by m.scopes m.names d.name.0 p k m.current s)
        (again_alike dd m.names k n all _ (again_noted dd m.names k)
        (alike_then n moved_on all k (move_alike n p (up m d) d.name.0 k) (hoist_all_alike (passed m.scopes m.current) moved_on d.name.0 k k))))
    form_outcome good r (form_reached v s e) = subst (λ (x : Declared). Outcome m d x.names) (sym e) (in_var_scope v s)
    form_outcome good r (form_shadow c e) =
        subst (λ (x : Declared). Outcome m d x.names) (sym e)
        (made m.current m.current
        (current_scope (λ v. let z : ◌≡◌ {A = ℕ} 8 1 = sym c ∙ v in omega arith) (λ i. let z : ◌≡◌ {A = ℕ} 8 18 = sym c ∙ i in omega arith) refl)
        none (stays (catch_stays c) refl) (new_made (told m d) m.names m.current))
      where
        none : (k : ℕ) → ComesUpon m d k → ⊥
        none k (on_the_way v s) = let z : ◌≡◌ {A = ℕ} 8 1 = sym c ∙ v in omega arith
        none k (in_scope t no_catch at b) = no_catch c
    form_outcome good r (form_infer i e) =
        subst (λ (x : Declared). Outcome m d x.names) (sym e)
        (in_t_alone (conditional_scope m.scopes m.current) (λ c. let z : ◌≡◌ {A = ℕ} 18 8 = sym i ∙ c in omega arith) at (infer_stays i))
      where
        at : MadeIn m d (conditional_scope m.scopes m.current)
        at = ⊎_elim (λ n. conditional i n) (λ n. no_conditional i n.0 n.1) (first_of_chain m.scopes TsConditional good.tree m.current (suc m.current) m.current (omega arith))
    form_outcome good r (form_moved v c i o e) = subst (λ (x : Declared). Outcome m d x.names) (sym e) (in_block good o c (current_scope v i refl))
    form_outcome good r (form_here v c i o e) = subst (λ (x : Declared). Outcome m d x.names) (sym e) (in_t_alone m.current c (current_scope v i refl) o)

-- refused, or not

pub granted_no_refusal : (m : Machine) (c : Call) → was_granted (answer m c) ≡ true → refusal m c ≡ None
granted_no_refusal m c e =
    option_cases (refusal m c) (refusal m c ≡ None) (λ z. z) (λ r z. absurd (true≢false (sym e ∙ ap was_granted (refused_answers m c r z))))

pub after_refused : (m : Machine) (c : Call) → was_granted (answer m c) ≡ false → after m c ≡ m
after_refused m c e =
    option_cases (refusal m c) (after m c ≡ m) (λ z. absurd (true≢false (sym (ap was_granted (granted_answers m c z)) ∙ e))) (refused_after m c)

no_bind_names : (m : Machine) (c : Call) → is_bind c ≡ false → (granted m c).names ≡ m.names
unfolding granted
no_bind_names m (EnterScope s) e = refl
no_bind_names m LeaveScope e = refl
no_bind_names m (Bind d) e = absurd (true≢false e)
no_bind_names m (DeclareReference r) e = refl
no_bind_names m (ResolveReferences start) e = refl
no_bind_names m ResolveAllReferences e = refl

pub other_names : (m : Machine) (c : Call) → is_bind c ≡ false → (after m c).names ≡ m.names
other_names m c e = after_keeps m c (λ x. x.names ≡ m.names) (λ _. no_bind_names m c e) refl

pub bind_granted : (m : Machine) (d : Declaration) → was_granted (answer m (Bind d)) ≡ true → (after m (Bind d)).names ≡ (bound m d).names
unfolding granted
bind_granted m d e = ap (λ (x : Machine). x.names) (granted_after m (Bind d) (granted_no_refusal m (Bind d) e))

pub conflicts_law : ConflictsExactly
conflicts_law setting cs =
    let m = run (fresh setting) cs in
    let g = run_good cs (fresh setting) (fresh_good setting) in
    let h = run_ranged cs (fresh setting) (fresh_good setting) (fresh_ranged setting) in
    record {
      no_bind = other_names m;
      no_grant = λ c e. ap (λ (x : Machine). x.names) (after_refused m c e);
      tells_apart = told_apart m;
      granted_bind = λ d e. subst (Outcome m d) (sym (bind_granted m d e)) (form_outcome m d g.sound h g (bound m d) (form m d g));
    }
