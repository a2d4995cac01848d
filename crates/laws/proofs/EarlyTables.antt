-- What the tables hold of the declarations so far, as long as there is no conflict.
use Rattle.std.proofs.Common.{◌≡◌, ℕ, ◌<◌, ◌≤◌, Bool, true, false, ◌≢◌, ◌⊎◌, List, [], ◌∷◌, length, Some, sym, refl, ap, ◌∙◌, subst, inl, inr, ⊎_elim, arith, length-append, length-set, get_or-set_other, get_or-set_same}
use Rattle.std.proofs.lemmas.Option.{same_Some}
use lib.Bits.{bit_or}
use lib.ListN.{get_or-append}
use lib.Seq.{get_or-append_seam}
use Rattle.std.proofs.lemmas.Bool.{cases_Bool, cases_lt, cases_eq, cond-true, cond-false}
use Rattle.stores.specs.Pairs.{Pairs, put}
use Rattle.stores.specs.Keys.{same_scope_and_name}
use Rattle.stores.specs.declared.key.ScopeAndName.{ScopeAndName}
use Rattle.tables.specs.Flags.{meets}
use Rattle.tables.specs.declared.row.ScopeRow.{ScopeRow}
use Rattle.tables.specs.declared.row.SymbolRow.{SymbolRow}
use Rattle.model.specs.Basics.{place}
use Rattle.model.specs.State.{Names, no_symbol, symbol_row, flags_of}
use Rattle.model.specs.Scopes.{is_var}
use Rattle.model.specs.Declaring.{Told, binding, hoisted, complain, add_symbol_redeclaration, unite, declare_shadow_symbol, with_hoisted, hoist_all, with_flags}
use Rattle.laws.specs.EarlyErrors.{Granted, Lexical, VarThrough, OneOf}
use Rattle.laws.proofs.Basics.{same_true, same_refl}
use Rattle.laws.proofs.Sound.{Sound, Binds}
use Rattle.laws.proofs.Written.{noted, again_noted}
use Rattle.laws.proofs.Forms.{Ranged}
use Rattle.laws.proofs.FourKinds.{Lex, Plain, plain_united, lex_united}

-- a binding, to a symbol that is lexical or not
abbrev pub BoundRight : List ScopeRow → List Granted → ℕ → ℕ → Bool → Type 0
BoundRight rows ds s n lex =
    ((lex ≡ true) × OneOf (Lexical s n) ds) ⊎ ((lex ≡ false) × (is_var rows s ≡ true) × OneOf (VarThrough s n) ds)

-- what the tables have is among the declarations
pub record Base (rows : List ScopeRow) (nm : Names) (ds : List Granted) : Type 0 where
  pub quiet : nm.conflicts ≡ []
  pub plain : (k : ℕ) → k < length nm.symbols → Plain (flags_of nm k)
  pub bindings : (s n k : ℕ) → binding nm s n ≡ Some k → BoundRight rows ds s n (meets (flags_of nm k) Lex)
  pub hoists : (s n k : ℕ) → hoisted nm s n ≡ Some k → (meets (flags_of nm k) Lex ≡ false) × OneOf (VarThrough s n) ds

abbrev pub Hoists : Names → ℕ → ℕ → Type 0
Hoists nm s n = (k : ℕ) × (hoisted nm s n ≡ Some k)

module _ (rows : List ScopeRow) (ds : List Granted) where
  -- a new symbol
  module _ (d : Told) (nm : Names) (scope : ℕ) where
    make_old : (k : ℕ) → k < length nm.symbols → flags_of (declare_shadow_symbol d nm scope).names k ≡ flags_of nm k
    unfolding declare_shadow_symbol
    make_old k l = ap (λ (r : SymbolRow). r.flags.0) (get_or-append nm.symbols _ no_symbol k l)

    pub make_new : flags_of (declare_shadow_symbol d nm scope).names (length nm.symbols) ≡ d.includes
    unfolding declare_shadow_symbol
    make_new = ap (λ (r : SymbolRow). r.flags.0) (get_or-append_seam nm.symbols _ [] no_symbol)

    pub make_keeps : (s n : ℕ) → Binds nm s n → Binds (declare_shadow_symbol d nm scope).names s n
    unfolding declare_shadow_symbol
    make_keeps s n b =
        ⊎_elim (λ t. (length nm.symbols, cond-true (same_scope_and_name (place s n) (place scope d.name)) _ _ t))
        (λ t. (b.0, cond-false (same_scope_and_name (place s n) (place scope d.name)) _ _ t ∙ b.1))
        (cases_Bool (same_scope_and_name (place s n) (place scope d.name)))

    pub make_base : Sound rows nm → Ranged nm → Plain d.includes → BoundRight rows ds scope d.name (meets d.includes Lex) → Base rows nm ds → Base rows (declare_shadow_symbol d nm scope).names ds
    unfolding declare_shadow_symbol
    make_base h g p fresh b =
        record {
          quiet = b.quiet;
          plain = λ k l. ⊎_elim
              (λ o. subst Plain (sym (make_old k o)) (b.plain k o))
              (λ (o : length nm.symbols ≤ k).
              let e : length nm.symbols ≡ k = omega (arith, simp length-append at l) in
              subst (λ j. Plain (flags_of (declare_shadow_symbol d nm scope).names j)) e (subst Plain (sym make_new) p))
              (cases_lt k (length nm.symbols));
          bindings = λ s n k e. ⊎_elim (λ t.
              let kk : length nm.symbols ≡ k = same_Some _ _ (sym (cond-true (same_scope_and_name (place s n) (place scope d.name)) _ _ t) ∙ e) in
              let sn = same_true s scope n d.name t in
              subst (λ f. BoundRight rows ds s n (meets f Lex)) (sym make_new ∙ ap (flags_of (declare_shadow_symbol d nm scope).names) kk)
              (subst (λ x. BoundRight rows ds x n (meets d.includes Lex)) (sym sn.0) (subst (λ x. BoundRight rows ds scope x (meets d.includes Lex)) (sym sn.1) fresh)))
              (λ t.
              let old = sym (cond-false (same_scope_and_name (place s n) (place scope d.name)) _ _ t) ∙ e in
              subst (λ f. BoundRight rows ds s n (meets f Lex)) (sym (make_old k (h.leads s n k old).there)) (b.bindings s n k old))
              (cases_Bool (same_scope_and_name (place s n) (place scope d.name)));
          hoists = λ s n k e. let o = b.hoists s n k e in (ap (λ f. meets f Lex) (make_old k (g s n k e)) ∙ o.0, o.1);
        }

  -- a symbol that is declared once more, without a conflict
  module _ (d : Told) (nm : Names) (k : ℕ) where
    pub noted_base : meets (flags_of nm k) d.excludes ≡ false → Base rows nm ds → Base rows (noted d nm k) ds
    unfolding add_symbol_redeclaration complain
    noted_base e b =
        record { quiet = (again_noted d nm k).agrees e ∙ b.quiet; plain = b.plain; bindings = b.bindings; hoists = b.hoists }

    module _ (lies : k < length nm.symbols) (e : meets (flags_of nm k) d.excludes ≡ false) (p : Plain d.includes) (no_lex : meets d.includes Lex ≡ false) (b : Base rows nm ds) where
      united_flags : (j : ℕ) → ((j ≡ k) × (flags_of (unite d (noted d nm k) k) j ≡ bit_or (flags_of nm k) d.includes)) ⊎ (flags_of (unite d (noted d nm k) k) j ≡ flags_of nm j)
      unfolding unite add_symbol_redeclaration complain
      united_flags j =
          let row = with_flags (symbol_row nm k) (bit_or (flags_of nm k) d.includes) in
          ⊎_elim
          (λ (q : j ≡ k). inl (q, ap (flags_of (unite d (noted d nm k) k)) q ∙ ap (λ (r : SymbolRow). r.flags.0) (get_or-set_same nm.symbols k row no_symbol lies)))
          (λ (q : j ≢ k). inr (ap (λ (r : SymbolRow). r.flags.0) (get_or-set_other nm.symbols k j row no_symbol q)))
          (cases_eq j k)

      -- what is lexical stays so, and what is not
      united_lex : (j : ℕ) → meets (flags_of (unite d (noted d nm k) k) j) Lex ≡ meets (flags_of nm j) Lex
      united_lex j =
          ⊎_elim
          (λ q. ap (λ f. meets f Lex) q.1 ∙ lex_united (flags_of nm k) d.includes no_lex ∙ ap (λ x. meets (flags_of nm x) Lex) (sym q.0))
          (λ q. ap (λ f. meets f Lex) q)
          (united_flags j)

      pub united_base : Base rows (unite d (noted d nm k) k) ds
      unfolding unite add_symbol_redeclaration complain
      united_base =
          record {
            quiet = (again_noted d nm k).agrees e ∙ b.quiet;
            plain = λ j l. let o : j < length nm.symbols = simp length-set at l in
                ⊎_elim
                (λ q. subst Plain (sym q.1) (plain_united (flags_of nm k) d.includes (b.plain k lies) p))
                (λ q. subst Plain (sym q) (b.plain j o))
                (united_flags j);
            bindings = λ s n j q. subst (BoundRight rows ds s n) (sym (united_lex j)) (b.bindings s n j q);
            hoists = λ s n j q. let o = b.hoists s n j q in (united_lex j ∙ o.0, o.1);
          }

      pub united_lexes : meets (flags_of nm k) Lex ≡ false → meets (flags_of (unite d (noted d nm k) k) k) Lex ≡ false
      united_lexes f = united_lex k ∙ f

-- hoisted variables for all scopes of a list
abbrev pub put_all : Pairs ScopeAndName → List ℕ → ℕ → ℕ → Pairs ScopeAndName
put_all pairs [] name k = pairs
put_all pairs (p ∷ ps) name k = put_all (put same_scope_and_name pairs (place p name) k) ps name k

abbrev pub with_hoisting : Names → Pairs ScopeAndName → Names
with_hoisting nm h = record { symbols = nm.symbols; bindings = nm.bindings; hoisting = h; redeclarations = nm.redeclarations; conflicts = nm.conflicts }

pub hoist_all_puts : (ps : List ℕ) (nm : Names) (name k : ℕ) → hoist_all nm ps name k ≡ with_hoisting nm (put_all nm.hoisting ps name k)
unfolding hoist_all
hoist_all_puts [] nm name k = refl
hoist_all_puts (p ∷ ps) nm name k = hoist_all_puts ps (with_hoisted nm p name k) name k

put_cases : (ps : List ℕ) (h : Pairs ScopeAndName) (name k s n j : ℕ) → (put_all h ps name k).get (place s n) ≡ Some j → ((k ≡ j) × (n ≡ name) × OneOf (λ p. p ≡ s) ps) ⊎ (h.get (place s n) ≡ Some j)
put_cases [] h name k s n j e = inr e
put_cases (p ∷ ps) h name k s n j e =
    ⊎_elim (λ o. inl (o.0, o.1, inr o.2))
    (λ o. ⊎_elim (λ t. let sn = same_true s p n name t in inl (same_Some k j (sym (cond-true (same_scope_and_name (place s n) (place p name)) (Some k) _ t) ∙ o), sn.1, inl (sym sn.0)))
    (λ t. inr (sym (cond-false (same_scope_and_name (place s n) (place p name)) (Some k) _ t) ∙ o))
    (cases_Bool (same_scope_and_name (place s n) (place p name))))
    (put_cases ps (put same_scope_and_name h (place p name) k) name k s n j e)

put_keeps : (ps : List ℕ) (h : Pairs ScopeAndName) (name k s n : ℕ) → (j : ℕ) × (h.get (place s n) ≡ Some j) → (j : ℕ) × ((put_all h ps name k).get (place s n) ≡ Some j)
put_keeps [] h name k s n e = e
put_keeps (p ∷ ps) h name k s n e =
    put_keeps ps (put same_scope_and_name h (place p name) k) name k s n
    (⊎_elim (λ t. (k, cond-true (same_scope_and_name (place s n) (place p name)) (Some k) _ t))
    (λ t. (e.0, cond-false (same_scope_and_name (place s n) (place p name)) (Some k) _ t ∙ e.1))
    (cases_Bool (same_scope_and_name (place s n) (place p name))))

put_there : (ps : List ℕ) (h : Pairs ScopeAndName) (name k s : ℕ) → OneOf (λ p. p ≡ s) ps → (j : ℕ) × ((put_all h ps name k).get (place s name) ≡ Some j)
put_there [] h name k s o = absurd o
put_there (p ∷ ps) h name k s o =
    ⊎_elim
    (λ e. put_keeps ps (put same_scope_and_name h (place p name) k) name k s name
    (k, cond-true (same_scope_and_name (place s name) (place p name)) (Some k) _ (subst (λ x. same_scope_and_name (place s name) (place x name) ≡ true) (sym e) (same_refl s name))))
    (λ r. put_there ps (put same_scope_and_name h (place p name) k) name k s r)
    o

module _ (rows : List ScopeRow) (ds : List Granted) (ps : List ℕ) (nm : Names) (name k : ℕ) where
  pub hoisting_base : Base rows nm ds → meets (flags_of nm k) Lex ≡ false → ((s : ℕ) → OneOf (λ p. p ≡ s) ps → OneOf (VarThrough s name) ds) → Base rows (hoist_all nm ps name k) ds
  hoisting_base b lex way =
      subst (λ x. Base rows x ds) (sym (hoist_all_puts ps nm name k))
      (record {
        quiet = b.quiet;
        plain = b.plain;
        bindings = b.bindings;
        hoists = λ s n j e. ⊎_elim
            (λ o. (ap (λ x. meets (flags_of nm x) Lex) (sym o.0) ∙ lex, subst (λ x. OneOf (VarThrough s x) ds) (sym o.1) (way s o.2)))
            (λ o. b.hoists s n j o)
            (put_cases ps nm.hoisting name k s n j e);
      })

  pub hoisting_binds : (s n : ℕ) → Binds nm s n → Binds (hoist_all nm ps name k) s n
  hoisting_binds s n b = subst (λ x. Binds x s n) (sym (hoist_all_puts ps nm name k)) b

  pub hoisting_keeps : (s n : ℕ) → Hoists nm s n → Hoists (hoist_all nm ps name k) s n
  hoisting_keeps s n h = subst (λ x. Hoists x s n) (sym (hoist_all_puts ps nm name k)) (put_keeps ps nm.hoisting name k s n h)

  pub hoisting_there : (s : ℕ) → OneOf (λ p. p ≡ s) ps → Hoists (hoist_all nm ps name k) s name
  hoisting_there s o = subst (λ x. Hoists x s name) (sym (hoist_all_puts ps nm name k)) (put_there ps nm.hoisting name k s o)
