-- The law on early errors.
use Rattle.std.proofs.Common.{◌≡◌, ℕ, suc, ◌<◌, true, false, ◌≢◌, ◌⊎◌, List, [], ◌∷◌, ◌++◌, length, Some, None, sym, refl, ap, ◌∙◌, subst, inl, inr, ⊎_elim, is_some, arith}
use Rattle.std.proofs.lemmas.Option.{none-some, same_Some}
use Rattle.std.proofs.lemmas.Bool.{cases_Bool, true≢false}
use Rattle.tables.specs.Flags.{meets}
use Rattle.tables.specs.declared.row.ScopeRow.{ScopeRow}
use Rattle.tables.specs.declared.row.Conflict.{Conflict}
use Rattle.model.specs.declared.call.Declaration.{Declaration}
use Rattle.model.specs.Kinds.{TypeScript, includes, excludes}
use Rattle.model.specs.State.{Names, Machine, flags_of}
use Rattle.model.specs.Scopes.{is_var, is_strict, passed}
use Rattle.model.specs.Declaring.{Declared, binding, complain, add_symbol_redeclaration, unite, found, declare_shadow_symbol, declare_symbol_on_scope, move_binding, hoist_all}
use Rattle.model.specs.Calls.{told, bound}
use Rattle.laws.specs.Conflicts.{by_binding, by_hoisting, NoValue, Reaches, reached, passes, Var}
use Rattle.laws.specs.EarlyErrors.{Granted, OnWay, start, onward, IsLexical, Lexical, VarThrough, OneOf, EarlyError, OfFour}
use Rattle.laws.proofs.Basics.{option_cases}
use Rattle.laws.proofs.Sound.{Sound, Binds, found_cases, make_binds, move_stays}
use Rattle.laws.proofs.Runs.{Good}
use Rattle.laws.proofs.ComesUpon.{beside_found, found_beside}
use Rattle.laws.proofs.Scanning.{Stops, at_once, higher, stop, stop_passes, nearest_var}
use Rattle.laws.proofs.Written.{noted, again_noted, again_united, hoist_all_alike, move_alike}
use Rattle.laws.proofs.Forms.{Form, form_stopped, form_reached, form_shadow, form_infer, form_moved, form_here, up, hoisted_out, Ranged, found_there, stop_found, here_not_out}
use Rattle.laws.proofs.Outcomes.{on_scope_none, on_scope_some}
use Rattle.laws.proofs.FourKinds.{Lex, Plain, plain_value, plain_no_expression, lexical_includes, var_includes, lexical_excludes, var_excludes, lexical_manner}
use Rattle.laws.proofs.EarlyTables.{Base, Hoists, make_new, make_keeps, make_base, noted_base, united_base, united_lexes, hoisting_base, hoisting_binds, hoisting_keeps, hoisting_there}
use Rattle.laws.proofs.Ways.{one_keep, one_last, one_split, two_keep, two_last, two_split, way_on, nearest_way, way_inside, way_passed, passed_way}

-- no conflict and no error so far, and the tables tell the declarations
pub record Clear (rows : List ScopeRow) (nm : Names) (ds : List Granted) : Type 0 where
  pub base : Base rows nm ds
  pub no_error : (s n : ℕ) → EarlyError ds s n → ⊥
  pub lexicals : (s n : ℕ) → OneOf (Lexical s n) ds → Binds nm s n
  pub vars : (s n : ℕ) → OneOf (VarThrough s n) ds → Binds nm s n ⊎ Hoists nm s n
  pub upward : (p q n : ℕ) → OneOf (VarThrough p n) ds → OnWay rows q p → OneOf (VarThrough q n) ds
  pub inside : (s n : ℕ) → OneOf (VarThrough s n) ds → s < length rows

-- or a conflict and an error
abbrev pub Early : List ScopeRow → Names → List Granted → Type 0
Early rows nm ds = Clear rows nm ds ⊎ ((nm.conflicts ≢ []) × ((s n : ℕ) × EarlyError ds s n))

pub snoc_not_nil : (xs : List Conflict) (y : Conflict) → (xs ++ y ∷ []) ≢ []
snoc_not_nil [] y e = cc
snoc_not_nil (x ∷ xs) y e = cc

pub more_error : (ds ys : List Granted) (s n : ℕ) → EarlyError ds s n → EarlyError (ds ++ ys) s n
more_error ds ys s n e =
    ⊎_elim (λ t. inl (two_keep (Lexical s n) ds ys t)) (λ b. inr (one_keep (Lexical s n) ds ys b.0, one_keep (VarThrough s n) ds ys b.1)) e

more_base : (rows : List ScopeRow) (nm : Names) (ds ys : List Granted) → Base rows nm ds → Base rows nm (ds ++ ys)
more_base rows nm ds ys b =
    record {
      quiet = b.quiet;
      plain = b.plain;
      bindings = λ s n k e. ⊎_elim (λ o. inl (o.0, one_keep (Lexical s n) ds ys o.1)) (λ o. inr (o.0, o.1, one_keep (VarThrough s n) ds ys o.2)) (b.bindings s n k e);
      hoists = λ s n k e. let o = b.hoists s n k e in (o.0, one_keep (VarThrough s n) ds ys o.1);
    }

-- what is found, and what is not
module _ (rows : List ScopeRow) (nm : Names) (ds : List Granted) (h : Sound rows nm) (g : Ranged nm) (c : Clear rows nm ds) where
  found_plain : (s n k : ℕ) → found nm s n ≡ Some k → Plain (flags_of nm k)
  found_plain s n k e = c.base.plain k (found_there rows nm h g s n k e)

  found_lexical : (s n k : ℕ) → found nm s n ≡ Some k → meets (flags_of nm k) Lex ≡ true → OneOf (Lexical s n) ds
  found_lexical s n k e lex =
      ⊎_elim
      (λ b. ⊎_elim (λ o. o.1) (λ o. absurd (true≢false (sym lex ∙ o.0))) (c.base.bindings s n k b))
      (λ b. absurd (true≢false (sym lex ∙ (c.base.hoists s n k b).0)))
      (found_cases rows nm s n k e)

  found_var : (s n k : ℕ) → found nm s n ≡ Some k → meets (flags_of nm k) Lex ≡ false → OneOf (VarThrough s n) ds
  found_var s n k e lex =
      ⊎_elim
      (λ b. ⊎_elim (λ o. absurd (true≢false (sym o.0 ∙ lex))) (λ o. o.2) (c.base.bindings s n k b))
      (λ b. (c.base.hoists s n k b).1)
      (found_cases rows nm s n k e)

  bound_found : (s n : ℕ) → Binds nm s n → found nm s n ≡ None → ⊥
  bound_found s n b e =
      none-some b.0 (sym e ∙ beside_found nm s n b.0 (record { leads = by_binding b.1; no_expression = plain_no_expression (flags_of nm b.0) (c.base.plain b.0 (h.leads s n b.0 b.1).there) }))

  hoisted_found : (s n : ℕ) → Hoists nm s n → found nm s n ≡ None → ⊥
  hoisted_found s n b e =
      option_cases (binding nm s n) ⊥
      (λ z. none-some b.0 (sym e ∙ beside_found nm s n b.0 (record { leads = by_hoisting z b.1; no_expression = plain_no_expression (flags_of nm b.0) (c.base.plain b.0 (g s n b.0 b.1)) })))
      (λ k z. bound_found s n (k, z) e)

  free_lexical : (s n : ℕ) → found nm s n ≡ None → OneOf (Lexical s n) ds → ⊥
  free_lexical s n e o = bound_found s n (c.lexicals s n o) e

  free_var : (s n : ℕ) → found nm s n ≡ None → OneOf (VarThrough s n) ds → ⊥
  free_var s n e o = ⊎_elim (λ b. bound_found s n b e) (λ b. hoisted_found s n b e) (c.vars s n o)

  -- every symbol has a value, so a scope without one has none
  no_value_none : (s n : ℕ) → NoValue nm s n → found nm s n ≡ None
  no_value_none s n lacks =
      option_cases (found nm s n) (found nm s n ≡ None) (λ e. e)
      (λ k e. absurd (true≢false (sym (plain_value (flags_of nm k) (found_plain s n k e)) ∙ lacks k (found_beside nm s n k e))))

  stop_free : (n p k s : ℕ) → Stops rows nm n p k s → meets (flags_of nm k) Lex ≡ false → (q : ℕ) → OnWay rows q s → OneOf (Lexical q n) ds → ⊥
  stop_free n p k s (at_once v e val) lex q w o = c.no_error q n (inr (o, c.upward p q n (found_var p n k e lex) w))
  stop_free n p k s (higher _ u v lacks e r) lex q start o = free_lexical s n (no_value_none s n lacks) o
  stop_free n p k s (higher _ u v lacks e r) lex q (onward _ u' v' e' w) o = stop_free n p k u r lex q (subst (OnWay rows q) (same_Some u' u (sym e' ∙ e)) w) o

  reach_free : (n t s : ℕ) → Reaches rows nm n t s → (OneOf (Lexical t n) ds → ⊥) → (q : ℕ) → OnWay rows q s → OneOf (Lexical q n) ds → ⊥
  reach_free n t s (reached v) at_t q start o = at_t o
  reach_free n t s (reached v) at_t q (onward _ u v' e w) o = true≢false (sym v ∙ v')
  reach_free n t s (passes _ u v lacks e r) at_t q start o = free_lexical s n (no_value_none s n lacks) o
  reach_free n t s (passes _ u v lacks e r) at_t q (onward _ u' v' e' w) o = reach_free n t u r at_t q (subst (OnWay rows q) (same_Some u' u (sym e' ∙ e)) w) o

stop_way : (rows : List ScopeRow) (nm : Names) (n p k s : ℕ) → Stops rows nm n p k s → OnWay rows p s
stop_way rows nm n p k s (at_once v e val) = start
stop_way rows nm n p k s (higher _ u v lacks e r) = onward s u v e (stop_way rows nm n p k u r)

reach_var : (rows : List ScopeRow) (nm : Names) (n t s : ℕ) → Reaches rows nm n t s → is_var rows t ≡ true
reach_var rows nm n t s (reached v) = v
reach_var rows nm n t s (passes _ u v lacks e r) = reach_var rows nm n t u r

-- a declaration, where all is clear
module _ (m : Machine) (d : Declaration) (good : Good m) (g : Ranged m.names) (ds : List Granted) (c : Clear m.scopes m.names ds) where
  abbrev x : Granted
  x = record { kind = d.kind; name = d.name.0; scope = m.current; scopes = m.scopes }

  abbrev more : List Granted
  more = ds ++ x ∷ []

  abbrev rows : List ScopeRow
  rows = m.scopes

  abbrev nm : Names
  nm = m.names

  abbrev n : ℕ
  n = d.name.0

  abbrev here : ℕ
  here = m.current

  -- let, const and class
  module _ (lexical : IsLexical d.kind) where
    not_var : (s n' : ℕ) → VarThrough s n' x → ⊥
    not_var s n' v = let l = lexical.0 in let e = v.0 in omega arith

    old_var : (s n' : ℕ) → OneOf (VarThrough s n') more → OneOf (VarThrough s n') ds
    old_var s n' o = ⊎_elim (λ q. q) (λ q. absurd (not_var s n' q)) (one_split (VarThrough s n') ds x o)

    lexical_no_error : found nm here n ≡ None → (s n' : ℕ) → EarlyError more s n' → ⊥
    lexical_no_error e s n' bad =
        ⊎_elim
        (λ two. ⊎_elim (λ t. c.no_error s n' (inl t)) (λ t. free_lexical rows nm ds good.sound g c here n e (moved_here t.1 t.0)) (two_split (Lexical s n') ds x two))
        (λ b. let v = old_var s n' b.1 in
        ⊎_elim (λ o. c.no_error s n' (inr (o, v))) (λ o. free_var rows nm ds good.sound g c here n e (var_here o v)) (one_split (Lexical s n') ds x b.0))
        bad
      where
        moved_here : Lexical s n' x → OneOf (Lexical s n') ds → OneOf (Lexical here n) ds
        moved_here q o = subst (λ y. OneOf (Lexical y n) ds) (sym q.2) (subst (λ y. OneOf (Lexical s y) ds) (sym q.1) o)

        var_here : Lexical s n' x → OneOf (VarThrough s n') ds → OneOf (VarThrough here n) ds
        var_here q o = subst (λ y. OneOf (VarThrough y n) ds) (sym q.2) (subst (λ y. OneOf (VarThrough s y) ds) (sym q.1) o)

    lexical_new : found nm here n ≡ None → Clear rows (declare_shadow_symbol (told m d) nm here).names more
    unfolding declare_shadow_symbol
    lexical_new e =
        let i = lexical_includes d.modifiers d.kind lexical in
        record {
          base = make_base rows more (told m d) nm here good.sound g i.0 (inl (i.1, one_last (Lexical here n) ds x (lexical, refl, refl))) (more_base rows nm ds (x ∷ []) c.base);
          no_error = lexical_no_error e;
          lexicals = λ s n' o. ⊎_elim
              (λ q. make_keeps rows more (told m d) nm here s n' (c.lexicals s n' q))
              (λ q. subst (λ y. Binds (declare_shadow_symbol (told m d) nm here).names y n') q.2 (subst (λ y. Binds (declare_shadow_symbol (told m d) nm here).names here y) q.1 (_, make_binds rows (told m d) nm here)))
              (one_split (Lexical s n') ds x o);
          vars = λ s n' o. ⊎_elim (λ b. inl (make_keeps rows more (told m d) nm here s n' b)) (λ b. inr b) (c.vars s n' (old_var s n' o));
          upward = λ p q n' o w. one_keep (VarThrough q n') ds (x ∷ []) (c.upward p q n' (old_var p n' o) w);
          inside = λ s n' o. c.inside s n' (old_var s n' o);
        }

    lexical_clash : (k : ℕ) → found nm here n ≡ Some k → EarlyError more here n
    lexical_clash k e =
        ⊎_elim (λ lex. inl (two_last (Lexical here n) ds x (found_lexical rows nm ds good.sound g c here n k e lex) (lexical, refl, refl)))
        (λ lex. inr (one_last (Lexical here n) ds x (lexical, refl, refl), one_keep (VarThrough here n) ds (x ∷ []) (found_var rows nm ds good.sound g c here n k e lex)))
        (cases_Bool (meets (flags_of nm k) Lex))

    pub lexical_step : Early rows (declare_symbol_on_scope (told m d) nm here).names more
    lexical_step =
        option_cases (found nm here n) (Early rows (declare_symbol_on_scope (told m d) nm here).names more)
        (λ e. inl (subst (λ (r : Declared). Clear rows r.names more) (sym (on_scope_none m d here e)) (lexical_new e)))
        (λ k e. inr (
          (λ z. snoc_not_nil nm.conflicts _ (sym ((again_united (told m d) nm k (found_there rows nm good.sound g here n k e)).clashes
              (lexical_excludes (flags_of nm k) d.modifiers (meets m.setting TypeScript) (is_strict rows here) (found_plain rows nm ds good.sound g c here n k e) d.kind lexical))
              ∙ ap (λ (r : Declared). r.names.conflicts) (sym (on_scope_some m d here k e)) ∙ z)),
          (here, n, lexical_clash k e),
        ))

  -- var
  module _ (var : d.kind ≡ Var) where
    abbrev t : ℕ
    t = up m d

    abbrev ps : List ℕ
    ps = passed rows here

    not_lexical : (s n' : ℕ) → Lexical s n' x → ⊥
    not_lexical s n' q = let l = q.0.0 in omega arith

    old_lexical : (s n' : ℕ) → OneOf (Lexical s n') more → OneOf (Lexical s n') ds
    old_lexical s n' o = ⊎_elim (λ q. q) (λ q. absurd (not_lexical s n' q)) (one_split (Lexical s n') ds x o)

    through : (s : ℕ) → OnWay rows s here → OneOf (VarThrough s n) more
    through s w = one_last (VarThrough s n) ds x (var, refl, w)

    var_clash : (s : ℕ) → OnWay rows s here → OneOf (Lexical s n) ds → EarlyError more s n
    var_clash s w o = inr (one_keep (Lexical s n) ds (x ∷ []) o, through s w)

    t_way : OnWay rows t here
    t_way = nearest_way rows t here (nearest_var rows good.tree (suc here) here (omega arith) good.here)

    excludes_lex : (k : ℕ) → Plain (flags_of nm k) → meets (flags_of nm k) (told m d).excludes ≡ meets (flags_of nm k) Lex
    excludes_lex k p =
        ap (λ y. meets (flags_of nm k) (excludes y d.modifiers (meets m.setting TypeScript) (is_strict rows here))) var
        ∙ var_excludes (flags_of nm k) d.modifiers (meets m.setting TypeScript) (is_strict rows here) p

    var_flags : Plain (told m d).includes × (meets (told m d).includes Lex ≡ false)
    var_flags = subst (λ y. Plain (includes y d.modifiers) × (meets (includes y d.modifiers) Lex ≡ false)) (sym var) (var_includes d.modifiers)

    -- the names a bind the name in the target, and the scopes on the way have no lexical declaration
    clear_after : (a : Names) (j : ℕ) → Base rows a more → ((s n' : ℕ) → Binds nm s n' → Binds a s n') → ((s n' : ℕ) → Hoists nm s n' → Hoists a s n') → Binds a t n → meets (flags_of a j) Lex ≡ false
        → ((q : ℕ) → OnWay rows q here → OneOf (Lexical q n) ds → ⊥) → Clear rows (hoist_all a ps n j) more
    clear_after a j b keeps keeps' at_t lex free =
        record {
          base = hoisting_base rows more ps a n j b lex (λ s o. through s (passed_way rows good.tree (suc here) s here (omega arith) good.here o));
          no_error = λ s n' bad. ⊎_elim
              (λ two. ⊎_elim (λ q. c.no_error s n' (inl q)) (λ q. not_lexical s n' q.1) (two_split (Lexical s n') ds x two))
              (λ o. let l = old_lexical s n' o.0 in
              ⊎_elim (λ v. c.no_error s n' (inr (l, v))) (λ v. free s v.2 (subst (λ y. OneOf (Lexical s y) ds) (sym v.1) l)) (one_split (VarThrough s n') ds x o.1))
              bad;
          lexicals = λ s n' o. hoisting_binds rows more ps a n j s n' (keeps s n' (c.lexicals s n' (old_lexical s n' o)));
          vars = λ s n' o. ⊎_elim
              (λ v. ⊎_elim (λ q. inl (hoisting_binds rows more ps a n j s n' (keeps s n' q))) (λ q. inr (hoisting_keeps rows more ps a n j s n' (keeps' s n' q))) (c.vars s n' v))
              (λ v. subst (λ y. Binds (hoist_all a ps n j) s y ⊎ Hoists (hoist_all a ps n j) s y) v.1
              (⊎_elim
              (λ w. inr (hoisting_there rows more ps a n j s w))
              (λ w. inl (hoisting_binds rows more ps a n j s n (subst (λ y. Binds a y n) (sym w) at_t)))
              (way_passed rows good.tree (suc here) s here (omega arith) good.here v.2)))
              (one_split (VarThrough s n') ds x o);
          upward = λ p q n' o w. ⊎_elim
              (λ v. one_keep (VarThrough q n') ds (x ∷ []) (c.upward p q n' v w))
              (λ v. one_last (VarThrough q n') ds x (var, v.1, way_on rows q p here v.2 w))
              (one_split (VarThrough p n') ds x o);
          inside = λ s n' o. ⊎_elim (λ v. c.inside s n' v) (λ v. way_inside rows good.tree s here good.here v.2) (one_split (VarThrough s n') ds x o);
        }

    -- the var is stopped by a var that went through there: its target binds the name
    stop_binds : (p k : ℕ) → Stops rows nm n p k here → meets (flags_of nm k) Lex ≡ false → Binds nm t n
    stop_binds p k s lex =
        let way = stop_passes rows good.tree nm n p k t here good.here refl s in
        ⊎_elim
        (λ b. absurd (⊎_elim (λ o. true≢false (sym o.0 ∙ lex)) (λ o. true≢false (sym o.1 ∙ way.no_var)) (c.base.bindings p n k b)))
        (λ b. subst (λ y. Binds nm y n) way.goal (good.sound.hoists p n k b).above)
        (found_cases rows nm p n k (stop_found rows nm n p k here s))

    pub stopped_step : (p k : ℕ) → Stops rows nm n p k here → Early rows (hoist_all (stop (told m d) nm p t k).names ps n k) more
    unfolding add_symbol_redeclaration complain
    stopped_step p k s =
        let e = stop_found rows nm n p k here s in
        let plain = found_plain rows nm ds good.sound g c p n k e in
        let a = noted (told m d) nm k in
        let moved_on = move_binding a p t n k in
        ⊎_elim (λ lex. inr (
          (λ z. snoc_not_nil nm.conflicts _ (sym ((hoist_all_alike ps moved_on n k k).conflicts ∙ (move_alike a p t n k).conflicts ∙ (again_noted (told m d) nm k).clashes (excludes_lex k plain ∙ lex)) ∙ z)),
          (p, n, var_clash p (stop_way rows nm n p k here s) (found_lexical rows nm ds good.sound g c p n k e lex)),
        ))
        (λ lex. inl (subst (λ y. Clear rows (hoist_all y ps n k) more) (sym (stays p k (stop_binds p k s lex)))
        (clear_after a k (noted_base rows more (told m d) nm k (excludes_lex k plain ∙ lex) (more_base rows nm ds (x ∷ []) c.base))
        (λ y n' b. b) (λ y n' b. b) (stop_binds p k s lex) lex
        (stop_free rows nm ds good.sound g c n p k here s lex))))
        (cases_Bool (meets (flags_of nm k) Lex))
      where
        stays : (p k : ℕ) → Binds nm t n → move_binding (noted (told m d) nm k) p t n k ≡ noted (told m d) nm k
        stays p k b = move_stays rows good.tree (noted (told m d) nm k) p t n k (ap is_some b.1)

    reached_step : Reaches rows nm n t here → Early rows (hoisted_out rows here n (declare_symbol_on_scope (told m d) nm t)).names more
    unfolding declare_shadow_symbol unite add_symbol_redeclaration complain
    reached_step r =
        option_cases (found nm t n) (Result (declare_symbol_on_scope (told m d) nm t))
        (λ e. subst Result (sym (on_scope_none m d t e)) (inl
        (clear_after (declare_shadow_symbol (told m d) nm t).names (length nm.symbols)
        (make_base rows more (told m d) nm t good.sound g var_flags.0 (inr (var_flags.1, reach_var rows nm n t here r, through t t_way)) (more_base rows nm ds (x ∷ []) c.base))
        (make_keeps rows more (told m d) nm t) (λ s n' b. b) (length nm.symbols, make_binds rows (told m d) nm t)
        (ap (λ f. meets f Lex) (make_new rows more (told m d) nm t) ∙ var_flags.1)
        (reach_free rows nm ds good.sound g c n t here r (free_lexical rows nm ds good.sound g c t n e)))))
        (λ k e.
        let plain = found_plain rows nm ds good.sound g c t n k e in
        let lies = found_there rows nm good.sound g t n k e in
        let a = unite (told m d) (noted (told m d) nm k) k in
        subst Result (sym (on_scope_some m d t k e))
        (⊎_elim (λ lex. inr (
          (λ z. snoc_not_nil nm.conflicts _ (sym ((hoist_all_alike ps a n k k).conflicts ∙ (again_united (told m d) nm k lies).clashes (excludes_lex k plain ∙ lex)) ∙ z)),
          (t, n, var_clash t t_way (found_lexical rows nm ds good.sound g c t n k e lex)),
        ))
        (λ lex. let mild = excludes_lex k plain ∙ lex in
        let b = more_base rows nm ds (x ∷ []) c.base in
        inl (clear_after a k (united_base rows more (told m d) nm k lies mild var_flags.0 var_flags.1 b)
        (λ s n' q. q) (λ s n' q. q) (bound_at_t k e) (united_lexes rows more (told m d) nm k lies mild var_flags.0 var_flags.1 b lex)
        (reach_free rows nm ds good.sound g c n t here r (λ o. c.no_error t n (inr (o, found_var rows nm ds good.sound g c t n k e lex))))))
        (cases_Bool (meets (flags_of nm k) Lex))))
      where
        Result : Declared → Type 0
        Result y = Early rows (hoisted_out rows here n y).names more

        bound_at_t : (k : ℕ) → found nm t n ≡ Some k → Binds nm t n
        bound_at_t k e =
            ⊎_elim (λ b. (k, b)) (λ b. absurd (true≢false (sym (reach_var rows nm n t here r) ∙ (good.sound.hoists t n k b).no_var))) (found_cases rows nm t n k e)

  -- what becomes of one of the four
  pub four_step : OfFour x → Form m d (bound m d) → Early rows (bound m d).names more
  four_step four (form_stopped p k v s e) = subst (λ (r : Declared). Early rows r.names more) (sym e) (stopped_step v p k s)
  four_step four (form_reached v r e) = subst (λ (y : Declared). Early rows y.names more) (sym e) (reached_step v r)
  four_step four (form_shadow k e) = let l = four.1 in absurd (omega arith)
  four_step four (form_infer k e) = let l = four.1 in absurd (omega arith)
  four_step four (form_moved v k i o e) = absurd (here_not_out (sym (lexical_manner d.modifiers (meets m.setting TypeScript) (is_strict rows here) (is_var rows here) d.kind (let l = four.0 in omega arith, four.1)) ∙ o))
  four_step four (form_here v k i o e) = subst (λ (r : Declared). Early rows r.names more) (sym e) (lexical_step (let l = four.0 in omega arith, four.1))
