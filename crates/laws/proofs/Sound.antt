-- What declarations keep: bindings lead to symbols of their name and scope, and where a name was hoisted from, the nearest var scope binds it.
use Rattle.std.proofs.Common.{◌≡◌, ℕ, suc, pred, ◌<◌, ◌≤◌, true, false, cond, ◌≢◌, ◌⊎◌, List, [], ◌∷◌, length, is_some, Some, None, sym, refl, ap, ◌∙◌, subst, inl, inr, ⊎_elim, arith, length-append, length-set, get_or-set_other, get_or-set_same}
use Rattle.std.proofs.lemmas.Option.{none-some, same_Some}
use lib.ListN.{get_or-append}
use lib.Seq.{get_or-append_seam}
use Rattle.std.proofs.lemmas.Bool.{cases_Bool, true≢false, cond_both, cond-true, cond-false}
use Rattle.std.specs.List.{AllByRecursion}
use Rattle.tables.specs.Flags.{meets, ByValue, FunctionExpression}
use Rattle.tables.specs.declared.row.ScopeRow.{ScopeRow}
use Rattle.tables.specs.declared.row.SymbolRow.{SymbolRow}
use Rattle.stores.specs.Keys.{same_scope_and_name}
use Rattle.model.specs.declared.manner.Manner.{Manner}
use Rattle.model.specs.declared.manner.Manner.TheVariants.{Here, Hoisted, MovedOut, Shadow, Conditional}
use Rattle.model.specs.Basics.{maybe, place, the_name, the_scope, the_node, symbol_flags}
use Rattle.model.specs.State.{Names, no_names, no_symbol, symbol_row, flags_of}
use Rattle.model.specs.Scopes.{is_var, passed, target, conditional_scope}
use Rattle.model.specs.Declaring.{relocate, Told, Declared, binding, hoisted, complain, add_symbol_redeclaration, unite, found, not_expression, declare_shadow_symbol, declare_symbol_on_scope, move_binding, scan, hoist_all, with_hoisted, declare_var, declare_moved_out, declare, with_scope}
use Rattle.laws.specs.BindingsLaw.{IsOf}
use Rattle.laws.proofs.Basics.{set_keeps, maybe_both, option_cases, same_true, same_refl, from_is_some}
use Rattle.laws.proofs.Tree.{Tree, Passes, passed_all, target_var, Kept, target_kept}

-- the name is bound in the scope
abbrev pub Binds : Names → ℕ → ℕ → Type 0
Binds nm scope name = (k : ℕ) × (binding nm scope name ≡ Some k)

pub record HoistRight (rows : List ScopeRow) (nm : Names) (p n : ℕ) : Type 0 where
  pub lies : p < length rows
  pub no_var : is_var rows p ≡ false
  pub above : Binds nm (target rows p) n

pub record Sound (rows : List ScopeRow) (nm : Names) : Type 0 where
  pub leads : (s n k : ℕ) → binding nm s n ≡ Some k → IsOf nm s n k
  pub hoists : (p n k : ℕ) → hoisted nm p n ≡ Some k → HoistRight rows nm p n
  pub no_more : nm.bindings.size ≤ length nm.symbols

module _ (rows : List ScopeRow) where
  pub sound_none : Sound rows no_names
  sound_none =
      record { leads = λ s n k e. absurd (none-some k e); hoists = λ p n k e. absurd (none-some k e); no_more = omega arith }

  module _ (d : Told) (nm : Names) where
    pub complain_sound : (s : ℕ) → Sound rows nm → Sound rows (complain d nm s)
    unfolding complain
    complain_sound s h =
        record {
          leads = λ a n k e. let i = h.leads a n k e in record { there = i.there; its_name = i.its_name; its_scope = i.its_scope };
          hoists = λ p n k e. let i = h.hoists p n k e in record { lies = i.lies; no_var = i.no_var; above = i.above };
          no_more = h.no_more;
        }

    pub redeclare_sound : (s : ℕ) → Sound rows nm → Sound rows (add_symbol_redeclaration d nm s)
    unfolding add_symbol_redeclaration
    redeclare_sound s h =
        record {
          leads = λ a n k e. let i = h.leads a n k e in record { there = i.there; its_name = i.its_name; its_scope = i.its_scope };
          hoists = λ p n k e. let i = h.hoists p n k e in record { lies = i.lies; no_var = i.no_var; above = i.above };
          no_more = h.no_more;
        }

    pub unite_sound : (s : ℕ) → Sound rows nm → Sound rows (unite d nm s)
    unfolding unite
    unite_sound s h =
        record {
          leads = λ a n k e. let i = h.leads a n k e in
              record {
                there = simp length-set i.there;
                its_name = set_keeps (λ (r : SymbolRow). r.name.0) no_symbol nm.symbols s _ k refl ∙ i.its_name;
                its_scope = set_keeps (λ (r : SymbolRow). r.scope.0) no_symbol nm.symbols s _ k refl ∙ i.its_scope;
              };
          hoists = λ p n k e. let i = h.hoists p n k e in record { lies = i.lies; no_var = i.no_var; above = i.above };
          no_more = simp length-set h.no_more;
        }

    make_binds_all : (scope s n : ℕ) → Binds nm s n → Binds (declare_shadow_symbol d nm scope).names s n
    unfolding declare_shadow_symbol
    make_binds_all scope s n b =
        ⊎_elim (λ t. (length nm.symbols, cond-true (same_scope_and_name (place s n) (place scope d.name)) _ _ t))
        (λ t. (b.0, cond-false (same_scope_and_name (place s n) (place scope d.name)) _ _ t ∙ b.1))
        (cases_Bool (same_scope_and_name (place s n) (place scope d.name)))

    pub make_binds : (scope : ℕ) → binding (declare_shadow_symbol d nm scope).names scope d.name ≡ Some (declare_shadow_symbol d nm scope).symbol
    unfolding declare_shadow_symbol
    make_binds scope = cond-true (same_scope_and_name (place scope d.name) (place scope d.name)) _ _ (same_refl scope d.name)

    pub make_sound : (scope : ℕ) → Sound rows nm → Sound rows (declare_shadow_symbol d nm scope).names
    unfolding declare_shadow_symbol
    make_sound scope h =
        record {
          leads = λ a n k e. ⊎_elim (λ t.
              let kk : length nm.symbols ≡ k = same_Some _ _ (sym (cond-true (same_scope_and_name (place a n) (place scope d.name)) _ _ t) ∙ e) in
              let an = same_true a scope n d.name t in
              let row = get_or-append_seam nm.symbols (record { name = the_name d.name; start = d.start; end = d.end; flags = symbol_flags d.includes; scope = the_scope scope; node = the_node d.node }) [] no_symbol in
              record {
                there = simp length-append (omega arith);
                its_name = ap (λ j. (symbol_row (declare_shadow_symbol d nm scope).names j).name.0) (sym kk) ∙ ap (λ (r : SymbolRow). r.name.0) row ∙ sym an.1;
                its_scope = ap (λ j. (symbol_row (declare_shadow_symbol d nm scope).names j).scope.0) (sym kk) ∙ ap (λ (r : SymbolRow). r.scope.0) row ∙ sym an.0;
              })
              (λ t.
              let i = h.leads a n k (sym (cond-false (same_scope_and_name (place a n) (place scope d.name)) _ _ t) ∙ e) in
              let row = get_or-append nm.symbols (record { name = the_name d.name; start = d.start; end = d.end; flags = symbol_flags d.includes; scope = the_scope scope; node = the_node d.node } ∷ []) no_symbol k i.there in
              record {
                there = let l = i.there in simp length-append (omega arith);
                its_name = ap (λ (r : SymbolRow). r.name.0) row ∙ i.its_name;
                its_scope = ap (λ (r : SymbolRow). r.scope.0) row ∙ i.its_scope;
              })
              (cases_Bool (same_scope_and_name (place a n) (place scope d.name)));
          hoists = λ p n k e. let i = h.hoists p n k e in record { lies = i.lies; no_var = i.no_var; above = make_binds_all scope (target rows p) n i.above };
          no_more = cond_both (is_some (binding nm scope d.name)) nm.bindings.size (suc nm.bindings.size) (λ z. z ≤ length (declare_shadow_symbol d nm scope).names.symbols)
              (λ _. let l = h.no_more in simp length-append (omega arith)) (λ _. let l = h.no_more in simp length-append (omega arith));
        }

  -- the binding of a name moves from a scope that is no var scope to one that is, and has not the name
  module _ (tree : Tree rows) (nm : Names) (from to name s : ℕ) where
    abbrev moved : Names
    moved = relocate nm from to name s

    pub move_binds : Binds (move_binding nm from to name s) to name
    unfolding move_binding
    move_binds =
        cond_both (is_some (binding nm to name)) nm moved (λ x. Binds x to name)
        (λ t. from_is_some (binding nm to name) t)
        (λ t. (s, cond-true (same_scope_and_name (place to name) (place to name)) _ _ (same_refl to name)))

    pub move_stays : is_some (binding nm to name) ≡ true → move_binding nm from to name s ≡ nm
    unfolding move_binding
    move_stays t = cond-true (is_some (binding nm to name)) nm moved t

    module _ (out : is_var rows from ≡ false) (at_from : binding nm from name ≡ Some s) (lacks : is_some (binding nm to name) ≡ false) (h : Sound rows nm) where
      at_s : IsOf nm from name s
      at_s = h.leads from name s at_from

      -- what is bound after it and is not at the new place, was bound before it at another place than the old
      moved_other : (a n k : ℕ) → same_scope_and_name (place a n) (place to name) ≡ false → binding moved a n ≡ Some k
          → (same_scope_and_name (place a n) (place from name) ≡ false) × (binding nm a n ≡ Some k)
      moved_other a n k t e =
          let e2 = sym (cond-false (same_scope_and_name (place a n) (place to name)) (Some s) _ t) ∙ e in
          ⊎_elim (λ u. absurd (none-some k (sym (cond-true (same_scope_and_name (place a n) (place from name)) None (binding nm a n) u) ∙ e2)))
          (λ u. (u, sym (cond-false (same_scope_and_name (place a n) (place from name)) None _ u) ∙ e2))
          (cases_Bool (same_scope_and_name (place a n) (place from name)))

      moved_leads : (a n k : ℕ) → binding moved a n ≡ Some k → IsOf moved a n k
      moved_leads a n k e =
          ⊎_elim (λ t.
          let ks : s ≡ k = same_Some _ _ (sym (cond-true (same_scope_and_name (place a n) (place to name)) (Some s) _ t) ∙ e) in
          let an = same_true a to n name t in
          let row = get_or-set_same nm.symbols s (with_scope (symbol_row nm s) to) no_symbol at_s.there in
          record {
            there = simp length-set (subst (λ j. j < length nm.symbols) ks at_s.there);
            its_name = ap (λ j. (symbol_row moved j).name.0) (sym ks) ∙ ap (λ (r : SymbolRow). r.name.0) row ∙ at_s.its_name ∙ sym an.1;
            its_scope = ap (λ j. (symbol_row moved j).scope.0) (sym ks) ∙ ap (λ (r : SymbolRow). r.scope.0) row ∙ sym an.0;
          })
          (λ t.
          let o = moved_other a n k t e in
          let i = h.leads a n k o.1 in
          let apart : k ≢ s = λ ks. true≢false (sym (same_refl from name)
          ∙ ap (λ (b : ℕ). same_scope_and_name (place b name) (place from name)) (sym at_s.its_scope ∙ ap (λ j. (symbol_row nm j).scope.0) (sym ks) ∙ i.its_scope)
          ∙ ap (λ (b : ℕ). same_scope_and_name (place a b) (place from name)) (sym at_s.its_name ∙ ap (λ j. (symbol_row nm j).name.0) (sym ks) ∙ i.its_name)
          ∙ o.0) in
          let row = get_or-set_other nm.symbols s k (with_scope (symbol_row nm s) to) no_symbol apart in
          record {
            there = simp length-set i.there;
            its_name = ap (λ (r : SymbolRow). r.name.0) row ∙ i.its_name;
            its_scope = ap (λ (r : SymbolRow). r.scope.0) row ∙ i.its_scope;
          })
          (cases_Bool (same_scope_and_name (place a n) (place to name)))

      moved_hoists : (p n k : ℕ) → hoisted moved p n ≡ Some k → HoistRight rows moved p n
      moved_hoists p n k e =
          let i = h.hoists p n k e in
          let up = target rows p in
          let apart : same_scope_and_name (place up n) (place from name) ≡ false = ⊎_elim (λ t. absurd (true≢false (sym (target_var rows tree (suc p) p (omega arith) i.lies) ∙ ap (is_var rows) (same_true up from n name t).0 ∙ out)))
          (λ t. t)
          (cases_Bool (same_scope_and_name (place up n) (place from name))) in
          record {
            lies = i.lies;
            no_var = i.no_var;
            above = ⊎_elim (λ t. (s, cond-true (same_scope_and_name (place up n) (place to name)) (Some s) _ t))
                (λ t. (i.above.0, cond-false (same_scope_and_name (place up n) (place to name)) (Some s) _ t ∙ cond-false (same_scope_and_name (place up n) (place from name)) None _ apart ∙ i.above.1))
                (cases_Bool (same_scope_and_name (place up n) (place to name)));
          }

      moved_size : moved.bindings.size ≤ length moved.symbols
      moved_size =
          let b = nm.bindings.size in
          let gone : is_some (cond (same_scope_and_name (place to name) (place from name)) None (binding nm to name)) ≡ false =
          cond_both (same_scope_and_name (place to name) (place from name)) None (binding nm to name) (λ x. is_some x ≡ false) (λ _. refl) (λ _. lacks) in
          let less : cond (is_some (binding nm from name)) (pred b) b ≡ pred b = cond-true (is_some (binding nm from name)) (pred b) b (ap is_some at_from) in
          let size : moved.bindings.size ≡ suc (pred b) = cond-false _ _ _ gone ∙ ap suc less in
          let l = h.no_more in
          let l2 = at_s.there in
          subst (λ x. x ≤ length moved.symbols) (sym size) (simp length-set (omega arith))

      pub moved_sound : Sound rows moved
      moved_sound = record { leads = moved_leads; hoists = moved_hoists; no_more = moved_size }

    pub move_sound : is_var rows from ≡ false → binding nm from name ≡ Some s → Sound rows nm → Sound rows (move_binding nm from to name s)
    unfolding move_binding
    move_sound out at_from h =
        cond_both (is_some (binding nm to name)) nm moved (Sound rows) (λ t. h) (λ lacks. moved_sound out at_from lacks h)

    -- a pair for a scope whose nearest var scope binds the name
    pub hoist_sound : (p : ℕ) → p < length rows → is_var rows p ≡ false → Binds nm (target rows p) name → Sound rows nm → Sound rows (with_hoisted nm p name s)
    hoist_sound p lies out b h =
        record {
          leads = λ a n k e. let i = h.leads a n k e in record { there = i.there; its_name = i.its_name; its_scope = i.its_scope };
          hoists = λ q n k e. ⊎_elim (λ t. let qn = same_true q p n name t in
              record {
                lies = subst (λ x. x < length rows) (sym qn.0) lies;
                no_var = ap (is_var rows) qn.0 ∙ out;
                above = (b.0, ap (λ x. binding nm (target rows x) n) qn.0 ∙ ap (λ x. binding nm (target rows p) x) qn.1 ∙ b.1);
              })
              (λ t. let i = h.hoists q n k (sym (cond-false (same_scope_and_name (place q n) (place p name)) (Some s) _ t) ∙ e) in
              record { lies = i.lies; no_var = i.no_var; above = i.above })
              (cases_Bool (same_scope_and_name (place q n) (place p name)));
          no_more = h.no_more;
        }

  -- what is found is bound there, or hoisted from there and not bound
  pub found_cases : (nm : Names) (scope name s : ℕ) → found nm scope name ≡ Some s → (binding nm scope name ≡ Some s) ⊎ (hoisted nm scope name ≡ Some s)
  unfolding found
  found_cases nm scope name s e =
      option_cases (binding nm scope name) ((binding nm scope name ≡ Some s) ⊎ (hoisted nm scope name ≡ Some s))
      (λ b. inr (option_cases (hoisted nm scope name) (hoisted nm scope name ≡ Some s)
      (λ c. absurd (none-some s (sym (ap (λ o. maybe (maybe o (hoisted nm scope name) Some) None (not_expression nm)) b ∙ ap (λ o. maybe o None (not_expression nm)) c) ∙ e)))
      (λ k c. c ∙ ap Some (only k (sym (ap (λ o. maybe (maybe o (hoisted nm scope name) Some) None (not_expression nm)) b ∙ ap (λ o. maybe o None (not_expression nm)) c) ∙ e)))))
      (λ k b. inl (b ∙ ap Some (only k (sym (ap (λ o. maybe (maybe o (hoisted nm scope name) Some) None (not_expression nm)) b) ∙ e))))
    where
      only : (k : ℕ) → not_expression nm k ≡ Some s → k ≡ s
      only k q = ⊎_elim (λ t. absurd (none-some s (sym (cond-true (meets (flags_of nm k) FunctionExpression) None (Some k) t) ∙ q)))
          (λ t. same_Some k s (sym (cond-false (meets (flags_of nm k) FunctionExpression) None (Some k) t) ∙ q))
          (cases_Bool (meets (flags_of nm k) FunctionExpression))

  module _ (tree : Tree rows) (d : Told) where
    -- a declaration beside a symbol that is there
    again : Names → ℕ → Names
    again nm s = unite d (add_symbol_redeclaration d (complain d nm s) s) s

    again_sound : (nm : Names) (s : ℕ) → Sound rows nm → Sound rows (unite d (add_symbol_redeclaration d (complain d nm s) s) s)
    again_sound nm s h = unite_sound d (add_symbol_redeclaration d (complain d nm s) s) s (redeclare_sound d (complain d nm s) s (complain_sound d nm s h))

    pub declare_on_sound : (nm : Names) (scope : ℕ) → Sound rows nm → Sound rows (declare_symbol_on_scope d nm scope).names
    unfolding declare_symbol_on_scope
    declare_on_sound nm scope h =
        maybe_both (found nm scope d.name) _ _ (λ (r : Declared). Sound rows r.names) (λ _. make_sound d nm scope h) (λ s _. again_sound nm s h)

    -- the symbol declared is bound there, unless the name was hoisted from there
    pub declare_on_binds : (nm : Names) (scope : ℕ) → Sound rows nm
        → (binding (declare_symbol_on_scope d nm scope).names scope d.name ≡ Some (declare_symbol_on_scope d nm scope).symbol) ⊎ ((is_var rows scope ≡ false) × (scope < length rows) × Binds (declare_symbol_on_scope d nm scope).names (target rows scope) d.name)
    unfolding declare_symbol_on_scope complain add_symbol_redeclaration unite
    declare_on_binds nm scope h =
        maybe_both (found nm scope d.name) _ _
        (λ (r : Declared). (binding r.names scope d.name ≡ Some r.symbol) ⊎ ((is_var rows scope ≡ false) × (scope < length rows) × Binds r.names (target rows scope) d.name))
        (λ _. inl (make_binds d nm scope))
        (λ s e. ⊎_elim (λ b. inl b) (λ c. let i = h.hoists scope d.name s c in inr (i.no_var, i.lies, i.above)) (found_cases nm scope d.name s e))

    -- the scan of a var, over scopes from which it is hoisted to the target t
    pub record Scanned (t : ℕ) (r : Declared) : Type 0 where
      pub sound : Sound rows r.names
      pub binds : Binds r.names t d.name

    -- the scan stops at p, by the symbol s
    stop_sound : (t p s : ℕ) → Passes rows tree t p → (nm : Names) → Sound rows nm → found nm p d.name ≡ Some s
        → Scanned t (record { names = move_binding (add_symbol_redeclaration d (complain d nm s) s) p t d.name s; symbol = s })
    unfolding complain add_symbol_redeclaration
    stop_sound t p s way nm h e =
        let nm' = add_symbol_redeclaration d (complain d nm s) s in
        let h' : Sound rows nm' = redeclare_sound d (complain d nm s) s (complain_sound d nm s h) in
        record {
          sound = ⊎_elim
              (λ b. move_sound tree nm' p t d.name s way.no_var b h')
              (λ c. let up : Binds nm t d.name = subst (λ x. Binds nm x d.name) way.goal (h.hoists p d.name s c).above in
              subst (Sound rows) (sym (move_stays tree nm' p t d.name s (ap is_some up.1))) h')
              (found_cases nm p d.name s e);
          binds = move_binds tree nm' p t d.name s;
        }

    pub scan_sound : (t : ℕ) (ps : List ℕ) → is_var rows t ≡ true → AllByRecursion (Passes rows tree t) ps → (nm : Names) → Sound rows nm → Scanned t (scan d t nm ps)
    unfolding scan
    scan_sound t [] var all nm h =
        record {
          sound = declare_on_sound nm t h;
          binds = ⊎_elim (λ b. ((declare_symbol_on_scope d nm t).symbol, b)) (λ c. absurd (true≢false (sym var ∙ c.0))) (declare_on_binds nm t h);
        }
    scan_sound t (p ∷ ps) var all nm h =
        maybe_both (found nm p d.name) _ _ (Scanned t)
        (λ _. scan_sound t ps var all.1 nm h)
        (λ s e. cond_both (meets (flags_of nm s) ByValue) _ _ (Scanned t)
        (λ _. stop_sound t p s all.0 nm h e)
        (λ _. scan_sound t ps var all.1 (complain d nm s) (complain_sound d nm s h)))

    pub hoist_all_sound : (t s : ℕ) (ps : List ℕ) → AllByRecursion (Passes rows tree t) ps → (nm : Names) → Binds nm t d.name → Sound rows nm → Sound rows (hoist_all nm ps d.name s)
    unfolding hoist_all
    hoist_all_sound t s [] all nm b h = h
    hoist_all_sound t s (p ∷ ps) all nm b h =
        let way = all.0 in
        hoist_all_sound t s ps all.1 (with_hoisted nm p d.name s) b
        (hoist_sound tree nm 0 0 d.name s p way.lies way.no_var (subst (λ x. Binds nm x d.name) (sym way.goal) b) h)

    module _ (here : ℕ) (lies : here < length rows) (nm : Names) (h : Sound rows nm) where
      ways : AllByRecursion (Passes rows tree (target rows here)) (passed rows here)
      ways = passed_all rows tree (suc here) (target rows here) here (omega arith) lies refl

      pub var_sound : Sound rows (declare_var d rows here nm).names
      unfolding declare_var
      var_sound =
          let r = scan_sound (target rows here) (passed rows here) (target_var rows tree (suc here) here (omega arith) lies) ways nm h in
          hoist_all_sound (target rows here) _ (passed rows here) ways _ r.binds r.sound

      pub function_sound : is_var rows here ≡ false → Sound rows (declare_moved_out d rows here nm).names
      unfolding declare_moved_out
      function_sound out =
          let r = declare_symbol_on_scope d nm here in
          let t = target rows here in
          let hr : Sound rows r.names = declare_on_sound nm here h in
          cond_both (is_some (binding r.names t d.name)) r.names (with_hoisted (move_binding r.names here t d.name r.symbol) here d.name r.symbol) (Sound rows)
          (λ _. hr)
          (λ lacks. ⊎_elim
          (λ b. hoist_sound tree (move_binding r.names here t d.name r.symbol) here t d.name r.symbol here lies out
          (move_binds tree r.names here t d.name r.symbol)
          (move_sound tree r.names here t d.name r.symbol out b hr))
          (λ c. absurd (true≢false (sym (ap is_some c.2.1) ∙ lacks)))
          (declare_on_binds nm here h))

      pub declare_sound : (how : Manner) → (how ≡ MovedOut → is_var rows here ≡ false) → Sound rows (declare how d rows here nm).names
      unfolding declare
      declare_sound Here out = declare_on_sound nm here h
      declare_sound Hoisted out = var_sound
      declare_sound MovedOut out = function_sound (out refl)
      declare_sound Shadow out = make_sound d nm here h
      declare_sound Conditional out = declare_on_sound nm (conditional_scope rows here) h

-- scopes that come to be or change leave the names sound
pub kept_sound : (rows rows' : List ScopeRow) (nm : Names) → Tree rows → Kept rows rows' → Sound rows nm → Sound rows' nm
kept_sound rows rows' nm tree kept h =
    record {
      leads = h.leads;
      hoists = λ p n k e. let i = h.hoists p n k e in
          record {
            lies = let l = i.lies in let g = kept.grown in omega arith;
            no_var = kept.vars p i.lies ∙ i.no_var;
            above = (i.above.0, ap (λ x. binding nm x n) (target_kept rows rows' tree kept p i.lies) ∙ i.above.1);
          };
      no_more = h.no_more;
    }
