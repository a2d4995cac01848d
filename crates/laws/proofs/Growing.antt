-- Symbols stay, with their names; and how many symbols and hoisted variables a declaration adds.
use Rattle.std.proofs.Common.{◌≡◌, ℕ, suc, ◌+◌, ◌<◌, ◌≤◌, List, [], ◌∷◌, length, is_some, refl, ap, ◌∙◌, arith, length-append, length-set}
use lib.ListN.{get_or-append}
use Rattle.std.proofs.lemmas.Bool.{cond_both}
use Rattle.tables.specs.Flags.{meets, ByValue}
use Rattle.tables.specs.declared.row.ScopeRow.{ScopeRow}
use Rattle.tables.specs.declared.row.SymbolRow.{SymbolRow}
use Rattle.model.specs.declared.manner.Manner.{Manner}
use Rattle.model.specs.declared.manner.Manner.TheVariants.{Here, Hoisted, MovedOut, Shadow, Conditional}
use Rattle.model.specs.Basics.{place}
use Rattle.model.specs.State.{Names, no_symbol, symbol_row, flags_of}
use Rattle.model.specs.Scopes.{passed, target, conditional_scope}
use Rattle.model.specs.Declaring.{relocate, Told, Declared, binding, complain, add_symbol_redeclaration, unite, found, declare_shadow_symbol, declare_symbol_on_scope, move_binding, scan, hoist_all, with_hoisted, declare_var, declare_moved_out, declare}
use Rattle.laws.proofs.Basics.{set_keeps, maybe_both}

-- by at most so many symbols, and so many hoisted variables
pub record Grown (symbols hoists : ℕ) (nm nm' : Names) : Type 0 where
  pub longer : length nm.symbols ≤ length nm'.symbols
  pub same_names : (k : ℕ) → k < length nm.symbols → (symbol_row nm' k).name.0 ≡ (symbol_row nm k).name.0
  pub few_symbols : length nm'.symbols ≤ length nm.symbols + symbols
  pub few_hoists : nm'.hoisting.size ≤ nm.hoisting.size + hoists

pub grown_refl : (s h : ℕ) (nm : Names) → Grown s h nm nm
grown_refl s h nm = record { longer = omega arith; same_names = λ k l. refl; few_symbols = omega arith; few_hoists = omega arith }

-- two steps
pub grown_then : {s h s' h' : ℕ} (symbols hoists : ℕ) (a b c : Names) → Grown s h a b → Grown s' h' b c → s + s' ≤ symbols → h + h' ≤ hoists → Grown symbols hoists a c
grown_then symbols hoists a b c p q few few_hoists =
    record {
      longer = omega arith;
      same_names = λ k l. let x = p.longer in q.same_names k (omega arith) ∙ p.same_names k l;
      few_symbols = omega arith;
      few_hoists = omega arith;
    }

module _ (d : Told) where
  again_grown : (nm : Names) (s : ℕ) → Grown 1 0 nm (unite d (add_symbol_redeclaration d (complain d nm s) s) s)
  unfolding unite add_symbol_redeclaration complain
  again_grown nm s =
      record {
        longer = simp length-set (omega arith);
        same_names = λ k l. set_keeps (λ (r : SymbolRow). r.name.0) no_symbol nm.symbols s _ k refl;
        few_symbols = simp length-set (omega arith);
        few_hoists = omega arith;
      }

  make_grown : (nm : Names) (scope : ℕ) → Grown 1 0 nm (declare_shadow_symbol d nm scope).names
  unfolding declare_shadow_symbol
  make_grown nm scope =
      record {
        longer = simp length-append (omega arith);
        same_names = λ k l. ap (λ (r : SymbolRow). r.name.0) (get_or-append nm.symbols _ no_symbol k l);
        few_symbols = simp length-append (omega arith);
        few_hoists = omega arith;
      }

  declare_on_grown : (nm : Names) (scope : ℕ) → Grown 1 0 nm (declare_symbol_on_scope d nm scope).names
  unfolding declare_symbol_on_scope
  declare_on_grown nm scope =
      maybe_both (found nm scope d.name) _ _ (λ (r : Declared). Grown 1 0 nm r.names) (λ _. make_grown nm scope) (λ s _. again_grown nm s)

  move_grown : (s h : ℕ) (nm : Names) (from to name k : ℕ) → Grown s h nm (move_binding nm from to name k)
  unfolding move_binding
  move_grown s h nm from to name k =
      cond_both (is_some (binding nm to name)) nm (relocate nm from to name k) (Grown s h nm) (λ _. grown_refl s h nm)
      (λ _. record {
        longer = simp length-set (omega arith);
        same_names = λ i l. set_keeps (λ (r : SymbolRow). r.name.0) no_symbol nm.symbols k _ i refl;
        few_symbols = simp length-set (omega arith);
        few_hoists = omega arith;
      })

  noted : (nm : Names) (s : ℕ) → Grown 0 0 nm (add_symbol_redeclaration d (complain d nm s) s)
  unfolding add_symbol_redeclaration complain
  noted nm s = record { longer = omega arith; same_names = λ k l. refl; few_symbols = omega arith; few_hoists = omega arith }

  complained : (nm : Names) (s : ℕ) → Grown 0 0 nm (complain d nm s)
  unfolding complain
  complained nm s = record { longer = omega arith; same_names = λ k l. refl; few_symbols = omega arith; few_hoists = omega arith }

  scan_grown : (t : ℕ) (ps : List ℕ) (nm : Names) → Grown 1 0 nm (scan d t nm ps).names
  unfolding scan
  scan_grown t [] nm = declare_on_grown nm t
  scan_grown t (p ∷ ps) nm =
      let G : Declared → Type 0 = λ r. Grown 1 0 nm r.names in
      maybe_both (found nm p d.name) _ _ G (λ _. scan_grown t ps nm)
      (λ s _. cond_both (meets (flags_of nm s) ByValue) _ _ G
      (λ _. grown_then 1 0 nm (add_symbol_redeclaration d (complain d nm s) s) _ (noted nm s) (move_grown 1 0 (add_symbol_redeclaration d (complain d nm s) s) p t d.name s) (omega arith) (omega arith))
      (λ _. grown_then 1 0 nm (complain d nm s) _ (complained nm s) (scan_grown t ps (complain d nm s)) (omega arith) (omega arith)))

  -- a hoisted variable more, at most
  hoisted_one : (nm : Names) (p name s : ℕ) → (with_hoisted nm p name s).hoisting.size ≤ suc nm.hoisting.size
  hoisted_one nm p name s = cond_both (is_some (nm.hoisting.get (place p name))) nm.hoisting.size (suc nm.hoisting.size) (λ n. n ≤ suc nm.hoisting.size) (λ _. omega arith) (λ _. omega arith)

  hoist_all_grown : (ps : List ℕ) (name s : ℕ) (nm : Names) → Grown 0 (length ps) nm (hoist_all nm ps name s)
  unfolding hoist_all
  hoist_all_grown [] name s nm = grown_refl 0 0 nm
  hoist_all_grown (p ∷ ps) name s nm =
      let g = hoist_all_grown ps name s (with_hoisted nm p name s) in
      let one = hoisted_one nm p name s in
      record {
        longer = g.longer;
        same_names = g.same_names;
        few_symbols = g.few_symbols;
        few_hoists = let a = g.few_hoists in omega arith;
      }

  module _ (rows : List ScopeRow) (here : ℕ) where
    abbrev pub hoists : Manner → ℕ
    hoists Here = 0
    hoists Hoisted = length (passed rows here)
    hoists MovedOut = 1
    hoists Shadow = 0
    hoists Conditional = 0

    pub declare_grown : (how : Manner) (nm : Names) → Grown 1 (hoists how) nm (declare how d rows here nm).names
    unfolding declare declare_var declare_moved_out
    declare_grown Here nm = declare_on_grown nm here
    declare_grown Hoisted nm =
        let r = scan d (target rows here) nm (passed rows here) in
        grown_then 1 (length (passed rows here)) nm r.names _ (scan_grown (target rows here) (passed rows here) nm) (hoist_all_grown (passed rows here) d.name r.symbol r.names) (omega arith) (omega arith)
    declare_grown MovedOut nm =
        let q = declare_symbol_on_scope d nm here in
        let g = declare_on_grown nm here in
        let t = target rows here in
        let moved = move_binding q.names here t d.name q.symbol in
        cond_both (is_some (binding q.names t d.name)) q.names (with_hoisted moved here d.name q.symbol) (Grown 1 1 nm)
        (λ _. grown_then 1 1 nm q.names q.names g (grown_refl 0 1 q.names) (omega arith) (omega arith))
        (λ _. let g' = grown_then 1 0 nm q.names moved g (move_grown 0 0 q.names here t d.name q.symbol) (omega arith) (omega arith) in
        let one = hoisted_one moved here d.name q.symbol in
        record { longer = g'.longer; same_names = g'.same_names; few_symbols = g'.few_symbols; few_hoists = let a = g'.few_hoists in omega arith })
    declare_grown Shadow nm = make_grown nm here
    declare_grown Conditional nm = declare_on_grown nm (conditional_scope rows here)
