-- What a declaration writes into the rows of symbols, the redeclarations and the conflicts.
use Rattle.std.proofs.Common.{◌≡◌, ℕ, ◌<◌, Bool, true, cond, eqb, ◌≢◌, List, [], ◌∷◌, ◌++◌, length, is_some, refl, ap, ◌∙◌, inl, inr, ⊎_elim, append-nil, length-set, get_or-set_other, get_or-set_same}
use lib.Bits.{bit_or}
use Rattle.std.proofs.lemmas.Bool.{cases_Bool, cond_both, eq-eqb, eqb-true, or_cases, or_left, or_right, cond-true, cond-false}
use Rattle.tables.specs.Flags.{meets}
use Rattle.tables.specs.declared.row.SymbolRow.{SymbolRow}
use Rattle.tables.specs.declared.row.Redeclaration.{Redeclaration}
use Rattle.tables.specs.declared.row.Conflict.{Conflict}
use Rattle.model.specs.State.{Names, no_symbol, symbol_row, flags_of}
use Rattle.model.specs.Declaring.{Told, binding, has_redeclaration, first_declaration, new_declaration, conflict_of, complain, add_symbol_redeclaration, unite, declare_shadow_symbol, move_binding, relocate, hoist_all, with_hoisted, with_scope, with_flags}
use Rattle.laws.specs.Conflicts.{Redeclared, Again, NewSymbol, own_entry, new_entry}
use Rattle.laws.proofs.Basics.{set_keeps}

has_it : (k : ℕ) (es : List Redeclaration) → Redeclared k es → has_redeclaration k es ≡ true
has_it k [] h = absurd h
has_it k (e ∷ es) h = ⊎_elim (λ x. or_left (eqb e.symbol.0 k) (has_redeclaration k es) (eq-eqb e.symbol.0 k x)) (λ x. or_right (eqb e.symbol.0 k) (has_redeclaration k es) (has_it k es x)) h

it_has : (k : ℕ) (es : List Redeclaration) → has_redeclaration k es ≡ true → Redeclared k es
it_has k [] h = cc
it_has k (e ∷ es) h = ⊎_elim (λ x. inl (eqb-true e.symbol.0 k x)) (λ x. inr (it_has k es x)) (or_cases (eqb e.symbol.0 k) (has_redeclaration k es) h)

-- names that differ in pair sets, and in the scope of the symbol k, at most
pub record Alike (a b : Names) (k : ℕ) : Type 0 where
  pub conflicts : b.conflicts ≡ a.conflicts
  pub redeclarations : b.redeclarations ≡ a.redeclarations
  pub as_many : length b.symbols ≡ length a.symbols
  pub others : (j : ℕ) → j ≢ k → symbol_row b j ≡ symbol_row a j
  pub its_name : (symbol_row b k).name ≡ (symbol_row a k).name
  pub its_start : (symbol_row b k).start ≡ (symbol_row a k).start
  pub its_end : (symbol_row b k).end ≡ (symbol_row a k).end
  pub its_node : (symbol_row b k).node ≡ (symbol_row a k).node
  pub its_flags : flags_of b k ≡ flags_of a k

pub alike_then : (a b c : Names) (k : ℕ) → Alike a b k → Alike b c k → Alike a c k
alike_then a b c k x y =
    record {
      conflicts = y.conflicts ∙ x.conflicts;
      redeclarations = y.redeclarations ∙ x.redeclarations;
      as_many = y.as_many ∙ x.as_many;
      others = λ j ne. y.others j ne ∙ x.others j ne;
      its_name = y.its_name ∙ x.its_name;
      its_start = y.its_start ∙ x.its_start;
      its_end = y.its_end ∙ x.its_end;
      its_node = y.its_node ∙ x.its_node;
      its_flags = y.its_flags ∙ x.its_flags;
    }

pub alike_self : (a : Names) (k : ℕ) → Alike a a k
alike_self a k =
    record { conflicts = refl; redeclarations = refl; as_many = refl; others = λ j ne. refl; its_name = refl; its_start = refl; its_end = refl; its_node = refl; its_flags = refl }

pub hoist_alike : (a : Names) (p name s k : ℕ) → Alike a (with_hoisted a p name s) k
hoist_alike a p name s k =
    record { conflicts = refl; redeclarations = refl; as_many = refl; others = λ j ne. refl; its_name = refl; its_start = refl; its_end = refl; its_node = refl; its_flags = refl }

pub hoist_all_alike : (ps : List ℕ) (a : Names) (name s k : ℕ) → Alike a (hoist_all a ps name s) k
unfolding hoist_all
hoist_all_alike [] a name s k = alike_self a k
hoist_all_alike (p ∷ ps) a name s k =
    alike_then a (with_hoisted a p name s) (hoist_all (with_hoisted a p name s) ps name s) k (hoist_alike a p name s k) (hoist_all_alike ps (with_hoisted a p name s) name s k)

pub move_alike : (a : Names) (from to name k : ℕ) → Alike a (move_binding a from to name k) k
unfolding move_binding
move_alike a from to name k =
    cond_both (is_some (binding a to name)) a (relocate a from to name k) (λ x. Alike a x k) (λ _. alike_self a k)
    (λ _.
    let row = with_scope (symbol_row a k) to in
    record {
      conflicts = refl;
      redeclarations = refl;
      as_many = simp length-set;
      others = λ j ne. get_or-set_other a.symbols k j row no_symbol ne;
      its_name = set_keeps (λ (r : SymbolRow). r.name) no_symbol a.symbols k row k refl;
      its_start = set_keeps (λ (r : SymbolRow). r.start) no_symbol a.symbols k row k refl;
      its_end = set_keeps (λ (r : SymbolRow). r.end) no_symbol a.symbols k row k refl;
      its_node = set_keeps (λ (r : SymbolRow). r.node) no_symbol a.symbols k row k refl;
      its_flags = set_keeps (λ (r : SymbolRow). r.flags.0) no_symbol a.symbols k row k refl;
    })

module _ (d : Told) (nm : Names) (k : ℕ) where
  pub again_alike : (a b : Names) (flags : ℕ) → Again d nm a k flags → Alike a b k → Again d nm b k flags
  again_alike a b flags h x =
      record {
        clashes = λ e. x.conflicts ∙ h.clashes e;
        agrees = λ e. x.conflicts ∙ h.agrees e;
        later_one = λ r. x.redeclarations ∙ h.later_one r;
        first_one = λ r. x.redeclarations ∙ h.first_one r;
        as_many = x.as_many ∙ h.as_many;
        others = λ j ne. x.others j ne ∙ h.others j ne;
        its_name = x.its_name ∙ h.its_name;
        its_start = x.its_start ∙ h.its_start;
        its_end = x.its_end ∙ h.its_end;
        its_node = x.its_node ∙ h.its_node;
        its_flags = x.its_flags ∙ h.its_flags;
      }

  abbrev pub noted : Names
  noted = add_symbol_redeclaration d (complain d nm k) k

  pub again_noted : Again d nm noted k (flags_of nm k)
  unfolding add_symbol_redeclaration complain
  again_noted =
      record {
        clashes = λ e. ap (λ (xs : List Conflict). nm.conflicts ++ xs) (cond-true (meets (flags_of nm k) d.excludes) (conflict_of d (symbol_row nm k) ∷ []) [] e);
        agrees = λ e. ap (λ (xs : List Conflict). nm.conflicts ++ xs) (cond-false (meets (flags_of nm k) d.excludes) (conflict_of d (symbol_row nm k) ∷ []) [] e) ∙ append-nil nm.conflicts;
        later_one = λ r. ap (λ (es : List Redeclaration). nm.redeclarations ++ es) (cond-true (has_redeclaration k nm.redeclarations) (new_declaration k d ∷ []) _ (has_it k nm.redeclarations r));
        first_one = λ r. ap (λ (es : List Redeclaration). nm.redeclarations ++ es)
            (⊎_elim (λ t. absurd (r (it_has k nm.redeclarations t)))
            (λ t. cond-false (has_redeclaration k nm.redeclarations) (new_declaration k d ∷ []) (first_declaration k (symbol_row nm k) ∷ new_declaration k d ∷ []) t)
            (cases_Bool (has_redeclaration k nm.redeclarations)));
        as_many = refl;
        others = λ j ne. refl;
        its_name = refl;
        its_start = refl;
        its_end = refl;
        its_node = refl;
        its_flags = refl;
      }
    where
      WritesOwn : Bool → Type 0
      WritesOwn b = cond b (new_declaration k d ∷ []) (first_declaration k (symbol_row nm k) ∷ new_declaration k d ∷ []) ≡ own_entry k (symbol_row nm k) ∷ new_entry k d ∷ []

  pub again_united : k < length nm.symbols → Again d nm (unite d noted k) k (bit_or (flags_of nm k) d.includes)
  unfolding unite add_symbol_redeclaration complain
  again_united there =
      let h = again_noted in
      let row = with_flags (symbol_row nm k) (bit_or (flags_of nm k) d.includes) in
      record {
        clashes = h.clashes;
        agrees = h.agrees;
        later_one = h.later_one;
        first_one = h.first_one;
        as_many = simp length-set;
        others = λ j ne. get_or-set_other nm.symbols k j row no_symbol ne;
        its_name = set_keeps (λ (r : SymbolRow). r.name) no_symbol nm.symbols k row k refl;
        its_start = set_keeps (λ (r : SymbolRow). r.start) no_symbol nm.symbols k row k refl;
        its_end = set_keeps (λ (r : SymbolRow). r.end) no_symbol nm.symbols k row k refl;
        its_node = set_keeps (λ (r : SymbolRow). r.node) no_symbol nm.symbols k row k refl;
        its_flags = ap (λ (r : SymbolRow). r.flags.0) (get_or-set_same nm.symbols k row no_symbol there);
      }

-- a new symbol
module _ (d : Told) (nm : Names) (scope : ℕ) where
  pub new_made : NewSymbol d nm (declare_shadow_symbol d nm scope).names scope
  unfolding declare_shadow_symbol
  new_made = record { no_conflict = refl; no_redeclaration = refl; row = refl }

  pub new_hoisted : (ps : List ℕ) (a : Names) (name s : ℕ) → NewSymbol d nm a scope → NewSymbol d nm (hoist_all a ps name s) scope
  unfolding hoist_all
  new_hoisted [] a name s h = h
  new_hoisted (p ∷ ps) a name s h = new_hoisted ps (with_hoisted a p name s) name s (record { no_conflict = h.no_conflict; no_redeclaration = h.no_redeclaration; row = h.row })
