-- A name that only values were declared under: each symbol of that name is one that a reference to a value can resolve to.
use Rattle.std.proofs.Common.{◌≡◌, ℕ, zero, suc, ◌<◌, ◌≤◌, true, cond, List, [], ◌∷◌, ◌++◌, length, get_or, take, drop, set, is_some, sym, refl, ap, ◌∙◌, subst, ⊎_elim, arith, length-append, length-set, get_or-set_other, get_or-set_same}
use lib.Bits.{bit_or}
use lib.ListN.{get_or-append}
use lib.Seq.{get_or-append_seam}
use Rattle.std.proofs.lemmas.Bool.{cond_both, cases_eq, cases_lt}
use Rattle.std.specs.List.{AllByRecursion}
use Rattle.tables.specs.Flags.{meets, ByValue, Ambient, AsyncOrGenerator}
use Rattle.tables.specs.declared.id.Name.{Name}
use Rattle.tables.specs.declared.row.ScopeRow.{ScopeRow}
use Rattle.tables.specs.declared.row.SymbolRow.{SymbolRow}
use Rattle.model.specs.declared.manner.Manner.{Manner}
use Rattle.model.specs.declared.manner.Manner.TheVariants.{Here, Hoisted, MovedOut, Shadow, Conditional}
use Rattle.model.specs.Basics.{the_name, the_scope, the_node, symbol_flags}
use Rattle.model.specs.Kinds.{Declare, Async, KindRow, kind, kinds, kind_row, includes}
use Rattle.model.specs.State.{Names, no_symbol, symbol_row, flags_of}
use Rattle.model.specs.Scopes.{passed, target, conditional_scope}
use Rattle.model.specs.Declaring.{Told, Declared, binding, relocate, complain, add_symbol_redeclaration, unite, found, declare_shadow_symbol, declare_symbol_on_scope, move_binding, scan, hoist_all, with_hoisted, with_scope, declare_var, declare_moved_out, declare}
use Rattle.laws.proofs.Basics.{maybe_both}
use Rattle.laws.proofs.FlagSets.{meets_more}

module _ (name : ℕ) where
  pub record Valued (nm : Names) : Type 0 where
    pub by_value : (k : ℕ) → k < length nm.symbols → (symbol_row nm k).name.0 ≡ name → meets (flags_of nm k) ByValue ≡ true

  -- a symbol's row is replaced by one of the same name and at least its flags
  set_valued : (nm nm' : Names) (s : ℕ) (row : SymbolRow) → nm'.symbols ≡ set nm.symbols s row → row.name ≡ (symbol_row nm s).name
      → (meets (flags_of nm s) ByValue ≡ true → meets row.flags.0 ByValue ≡ true) → Valued nm → Valued nm'
  set_valued nm nm' s row is same more v =
      record {
        by_value = λ k l q.
            let row_of : symbol_row nm' k ≡ get_or (set nm.symbols s row) k no_symbol = ap (λ xs. get_or xs k no_symbol) is in
            let l2 : k < length nm.symbols = subst (λ n. k < n) (ap length is ∙ length-set nm.symbols s row) l in
            ⊎_elim
            (λ (e : k ≡ s).
            let at : symbol_row nm' k ≡ row = row_of ∙ ap (λ i. get_or (set nm.symbols s row) i no_symbol) e ∙ get_or-set_same nm.symbols s row no_symbol (subst (λ i. i < length nm.symbols) e l2) in
            ap (λ (x : SymbolRow). meets x.flags.0 ByValue) at
            ∙ more (v.by_value s (subst (λ i. i < length nm.symbols) e l2) (sym (ap (λ (x : Name). x.0) same) ∙ sym (ap (λ (x : SymbolRow). x.name.0) at) ∙ q)))
            (λ (e : k ≡ s → ⊥).
            let at : symbol_row nm' k ≡ symbol_row nm k = row_of ∙ get_or-set_other nm.symbols s k row no_symbol e in
            ap (λ (x : SymbolRow). meets x.flags.0 ByValue) at ∙ v.by_value k l2 (sym (ap (λ (x : SymbolRow). x.name.0) at) ∙ q))
            (cases_eq k s);
      }

  -- the symbols are the same
  same_valued : (nm nm' : Names) → nm'.symbols ≡ nm.symbols → Valued nm → Valued nm'
  same_valued nm nm' e v =
      record {
        by_value = λ k l q.
            let at : symbol_row nm' k ≡ symbol_row nm k = ap (λ xs. get_or xs k no_symbol) e in
            ap (λ (x : SymbolRow). meets x.flags.0 ByValue) at ∙ v.by_value k (subst (λ xs. k < length xs) e l) (sym (ap (λ (x : SymbolRow). x.name.0) at) ∙ q);
      }

  -- declarations of the name give values
  module _ (d : Told) (gives : d.name ≡ name → meets d.includes ByValue ≡ true) where
    again_valued : (nm : Names) (s : ℕ) → Valued nm → Valued (unite d (add_symbol_redeclaration d (complain d nm s) s) s)
    unfolding unite add_symbol_redeclaration complain
    again_valued nm s v = set_valued nm _ s _ refl refl (meets_more (flags_of nm s) d.includes ByValue) v

    shadow_valued : (nm : Names) (scope : ℕ) → Valued nm → Valued (declare_shadow_symbol d nm scope).names
    unfolding declare_shadow_symbol
    shadow_valued nm scope v =
        let new : SymbolRow = record { name = the_name d.name; start = d.start; end = d.end; flags = symbol_flags d.includes; scope = the_scope scope; node = the_node d.node } in
        let rows = nm.symbols ++ new ∷ [] in
        record {
          by_value = λ k l q. ⊎_elim
              (λ (b : k < length nm.symbols).
              let at : get_or rows k no_symbol ≡ symbol_row nm k = get_or-append nm.symbols (new ∷ []) no_symbol k b in
              ap (λ (x : SymbolRow). meets x.flags.0 ByValue) at ∙ v.by_value k b (sym (ap (λ (x : SymbolRow). x.name.0) at) ∙ q))
              (λ (b : length nm.symbols ≤ k).
              let z : k ≡ length nm.symbols = omega (arith, simp length-append at l) in
              let at : get_or rows k no_symbol ≡ new = ap (λ i. get_or rows i no_symbol) z ∙ get_or-append_seam nm.symbols new [] no_symbol in
              ap (λ (x : SymbolRow). meets x.flags.0 ByValue) at ∙ gives (sym (ap (λ (x : SymbolRow). x.name.0) at) ∙ q))
              (cases_lt k (length nm.symbols));
        }

    on_scope_valued : (nm : Names) (scope : ℕ) → Valued nm → Valued (declare_symbol_on_scope d nm scope).names
    unfolding declare_symbol_on_scope
    on_scope_valued nm scope v =
        maybe_both (found nm scope d.name) _ _ (λ (r : Declared). Valued r.names) (λ _. shadow_valued nm scope v) (λ s _. again_valued nm s v)

    move_valued : (nm : Names) (from to n s : ℕ) → Valued nm → Valued (move_binding nm from to n s)
    unfolding move_binding
    move_valued nm from to n s v =
        cond_both (is_some (binding nm to n)) nm (relocate nm from to n s) Valued (λ _. v) (λ _. set_valued nm (relocate nm from to n s) s (with_scope (symbol_row nm s) to) refl refl (λ h. h) v)

    complain_valued : (nm : Names) (s : ℕ) → Valued nm → Valued (complain d nm s)
    unfolding complain
    complain_valued nm s v = same_valued nm (complain d nm s) refl v

    noted_valued : (nm : Names) (s : ℕ) → Valued nm → Valued (add_symbol_redeclaration d (complain d nm s) s)
    unfolding complain add_symbol_redeclaration
    noted_valued nm s v = same_valued nm (add_symbol_redeclaration d (complain d nm s) s) refl v

    scan_valued : (t : ℕ) (ps : List ℕ) (nm : Names) → Valued nm → Valued (scan d t nm ps).names
    unfolding scan
    scan_valued t [] nm v = on_scope_valued nm t v
    scan_valued t (p ∷ ps) nm v =
        let V : Declared → Type 0 = λ r. Valued r.names in
        maybe_both (found nm p d.name) _ _ V (λ _. scan_valued t ps nm v)
        (λ s _. cond_both (meets (flags_of nm s) ByValue) _ _ V
        (λ _. move_valued (add_symbol_redeclaration d (complain d nm s) s) p t d.name s (noted_valued nm s v))
        (λ _. scan_valued t ps (complain d nm s) (complain_valued nm s v)))

    hoist_valued : (ps : List ℕ) (n s : ℕ) (nm : Names) → Valued nm → Valued (hoist_all nm ps n s)
    unfolding hoist_all
    hoist_valued [] n s nm v = v
    hoist_valued (p ∷ ps) n s nm v = hoist_valued ps n s (with_hoisted nm p n s) (same_valued nm (with_hoisted nm p n s) refl v)

    pub declare_valued : (how : Manner) (rows : List ScopeRow) (here : ℕ) (nm : Names) → Valued nm → Valued (declare how d rows here nm).names
    unfolding declare declare_var declare_moved_out
    declare_valued Here rows here nm v = on_scope_valued nm here v
    declare_valued Hoisted rows here nm v =
        hoist_valued (passed rows here) d.name _ _ (scan_valued (target rows here) (passed rows here) nm v)
    declare_valued MovedOut rows here nm v =
        let r = declare_symbol_on_scope d nm here in
        let w = on_scope_valued nm here v in
        cond_both (is_some (binding r.names (target rows here) d.name)) _ _ Valued (λ _. w)
        (λ _. let moved = move_binding r.names here (target rows here) d.name r.symbol in
        same_valued moved (with_hoisted moved here d.name r.symbol) refl (move_valued r.names here (target rows here) d.name r.symbol w))
    declare_valued Shadow rows here nm v = shadow_valued nm here v
    declare_valued Conditional rows here nm v = on_scope_valued nm (conditional_scope rows here) v

abbrev GivesValue : KindRow → Type 0
GivesValue r = meets r.includes ByValue ≡ true

among_first : (n i : ℕ) (xs : List KindRow) (d : KindRow) → i < n → n ≤ length xs → AllByRecursion GivesValue (take n xs) → GivesValue (get_or xs i d)
among_first zero i xs d l h a = absurd (omega arith)
among_first (suc n) i [] d l h a = absurd (omega arith)
among_first (suc n) zero (x ∷ xs) d l h a = a.0
among_first (suc n) (suc i) (x ∷ xs) d l h a = among_first n i xs d (omega arith) (omega arith) a.1

-- the kinds 1 to 10 give values
kind_value : (k : ℕ) → (k ≡ 0 → ⊥) → k < 11 → GivesValue (kind_row k)
kind_value zero z l = absurd (z refl)
kind_value (suc i) z l = among_first 10 i (drop 1 kinds) (kind 0 0 0) (omega arith) (omega arith) (refl, (refl, (refl, (refl, (refl, (refl, (refl, (refl, (refl, (refl, tt))))))))))

pub includes_value : (k modifiers : ℕ) → (k ≡ 0 → ⊥) → k < 11 → meets (includes k modifiers) ByValue ≡ true
includes_value k modifiers z l =
    meets_more (bit_or (kind_row k).includes (cond (meets modifiers Declare) Ambient 0)) (cond (meets modifiers Async) AsyncOrGenerator 0) ByValue
    (meets_more (kind_row k).includes (cond (meets modifiers Declare) Ambient 0) ByValue (kind_value k z l))
