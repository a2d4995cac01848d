-- Every run keeps the references in order; so the laws Once and CountsRight.
use Rattle.std.proofs.Common.{◌≡◌, ℕ, ◌+◌, ◌<◌, ◌≤◌, true, false, cond, List, [], ◌∷◌, ◌++◌, length, get_or, Some, None, Ok, Err, Option, sym, refl, ap, ◌∙◌, subst, ⊎_elim, append_assoc, append-nil, arith}
use Rattle.std.proofs.lemmas.Option.{none-some, same_Some}
use lib.ListN.{get_or-eq_default}
use Rattle.std.proofs.lemmas.Bool.{true≢false, cases_lt}
use Rattle.std.proofs.ByRecursion.{All-weaker}
use Rattle.std.specs.List.{AllByRecursion}
use Rattle.tables.specs.Flags.{meets}
use Rattle.tables.specs.declared.refusal.Refusal.{Refusal}
use Rattle.tables.specs.declared.row.ScopeRow.{ScopeRow}
use Rattle.tables.specs.declared.row.ReferenceRow.{ReferenceRow}
use Rattle.tables.specs.declared.row.UnresolvedReference.{UnresolvedReference}
use Rattle.tables.specs.declared.row.ResolvedReference.{ResolvedReference}
use Rattle.tables.specs.declared.row.RootReference.{RootReference}
use Rattle.model.specs.declared.call.Call.{Call}
use Rattle.model.specs.declared.call.Call.TheVariants.{EnterScope, LeaveScope, Bind, DeclareReference, ResolveReferences, ResolveAllReferences}
use Rattle.model.specs.declared.call.Declaration.{Declaration}
use Rattle.model.specs.declared.manner.Manner.{Manner}
use Rattle.model.specs.Basics.{maybe, symbol_number, the_name}
use Rattle.model.specs.Kinds.{TypeScript, manner}
use Rattle.model.specs.State.{Machine, Names, Uses, fresh, no_reference}
use Rattle.model.specs.Scopes.{is_var, is_strict}
use Rattle.model.specs.Declaring.{binding}
use Rattle.model.specs.Resolving.{Fate, settle, settle_all, resolve_end, resolve_here}
use Rattle.model.proofs.Growth.{grown}
use Rattle.model.specs.Calls.{granted, granted_answer, after, answer, answers, refusal, run, told, with_uses, counted}
use Rattle.laws.specs.OnceLaw.{is_refusal, name_given, accepted, total, resolved_list, numbered_list, root_list, resolved_in_all, listed_in_all, one, sum_of, of_pending, of_resolved, of_root, resolved_to, Placed, Once, is_resolving, CountsGrowth, CountsRight}
use Rattle.laws.proofs.Runs.{Good, after_good, fresh_good, run_good}
use Rattle.laws.proofs.Growing.{declare_grown}
use Rattle.laws.proofs.Placing.{IsNamed, Ordered, resolve_here_ordered, resolve_end_ordered, refer_ordered, ordered_more}
use Rattle.laws.proofs.Weights.{total_one, total_one_past, sum_ones, total_ones, total_parts, none_counted, counted_there}

abbrev pub InOrder : List ℕ → Machine → Type 0
InOrder names m = Ordered names m.names m.uses []

-- how a declaration finds its scope from the current one
abbrev pub manner_here : Machine → Declaration → Manner
manner_here m d = manner d.kind d.modifiers (meets m.setting TypeScript) (is_strict m.scopes m.current) (is_var m.scopes m.current)

leads_there : (m : Machine) → Good m → (p n k : ℕ) → binding m.names p n ≡ Some k → IsNamed m.names n k
leads_there m g p n k e = let i = g.sound.leads p n k e in (i.there, i.its_name)

pub granted_ordered : (names : List ℕ) (m : Machine) (c : Call) → Good m → InOrder names m → InOrder (names ++ name_given c) (granted m c)
unfolding granted
granted_ordered names m (EnterScope s) g o = subst (λ ns. InOrder ns m) (sym (append-nil names)) o
granted_ordered names m LeaveScope g o = subst (λ ns. InOrder ns m) (sym (append-nil names)) o
granted_ordered names m (Bind d) g o =
    subst (λ ns. InOrder ns (granted m (Bind d))) (sym (append-nil names))
    (ordered_more names _ _ m.names _ m.uses (declare_grown (told m d) m.scopes m.current (manner_here m d) m.names) o)
granted_ordered names m (DeclareReference r) g o = refer_ordered names m.names m.uses r o
granted_ordered names m (ResolveReferences start) g o =
    subst (λ ns. InOrder ns (granted m (ResolveReferences start))) (sym (append-nil names))
    (resolve_here_ordered m.scopes m.names (leads_there m g) names m.uses o m.current start)
granted_ordered names m ResolveAllReferences g o =
    subst (λ ns. InOrder ns (granted m ResolveAllReferences)) (sym (append-nil names))
    (resolve_end_ordered m.scopes m.names (leads_there m g) names m.uses o)

pub after_ordered : (names : List ℕ) (m : Machine) (c : Call) → Good m → InOrder names m
    → InOrder (names ++ cond (is_refusal (answer m c)) [] (name_given c)) (after m c)
unfolding after answer
after_ordered names m c g o = go (refusal m c)
  where
    go : (r : Option Refusal) → InOrder (names ++ cond (is_refusal (maybe r (Ok (granted_answer m c)) Err)) [] (name_given c)) (maybe r (granted m c) (λ n. m))
    go None = granted_ordered names m c g o
    go (Some n) = subst (λ ns. InOrder ns m) (sym (append-nil names)) o

pub run_ordered : (cs : List Call) (names : List ℕ) (m : Machine) → Good m → InOrder names m → InOrder (names ++ accepted cs (answers m cs)) (run m cs)
run_ordered [] names m g o = subst (λ ns. InOrder ns m) (sym (append-nil names)) o
run_ordered (c ∷ cs) names m g o =
    let now = cond (is_refusal (answer m c)) [] (name_given c) in
    subst (λ ns. InOrder ns (run (after m c) cs)) (append_assoc names now (accepted cs (answers (after m c) cs)))
    (run_ordered cs (names ++ now) (after m c) (after_good m c g) (after_ordered names m c g o))

fresh_ordered : (s : ℕ) → InOrder [] (fresh s)
fresh_ordered s =
    record {
      weighed = λ w. refl;
      rows = refl;
      pending_named = tt;
      waiting_named = tt;
      root_named = tt;
      root_numbers = record {
        below = λ name n e. absurd (none-some n e);
        belongs = λ n l. absurd (omega arith);
        one_name = λ x y n e f. absurd (none-some n e);
        in_order = refl;
      };
      resolved_rows = tt;
      pending_rows = tt;
      waiting_rows = tt;
      root_rows = tt;
      resolved_there = tt;
    }

pub always_ordered : (setting : ℕ) (cs : List Call) → InOrder (accepted cs (answers (fresh setting) cs)) (run (fresh setting) cs)
always_ordered setting cs = run_ordered cs [] (fresh setting) (fresh_good setting) (fresh_ordered setting)

module _ (names : List ℕ) (m : Machine) (o : InOrder names m) where
  -- the lists of all symbols and names are the rows
  pub all_resolved : resolved_in_all m.names m.uses ≡ length m.uses.resolved
  all_resolved = total_parts (λ (j : ResolvedReference). j.symbol.0) (length m.names.symbols) m.uses.resolved (All-weaker _ _ (λ j h. h.0) m.uses.resolved o.resolved_there)

  pub all_listed : listed_in_all m.uses ≡ length m.uses.root
  all_listed = total_parts (λ (k : RootReference). k.list) m.uses.roots.size m.uses.root
      (All-weaker _ _ (λ k h. o.root_numbers.below _ k.list h.1) m.uses.root o.root_named)

  pub rows_counted : length m.uses.references ≡ length m.uses.pending + length m.uses.resolved + length m.uses.root
  rows_counted =
      let a = o.weighed (λ r. 1) in let b = total_ones (length m.uses.references) in
      let p = sum_ones of_pending m.uses.pending in let q = sum_ones of_resolved m.uses.resolved in let t = sum_ones of_root m.uses.root in omega arith

  module _ (r s : ℕ) (e : resolved_to m.uses r ≡ Some s) where
    none_has_it : {X : Type 0} (col : X → ℕ) (xs : List X) → AllByRecursion (λ x. resolved_to m.uses (col x) ≡ None) xs → sum_of col (one r) xs ≡ 0
    none_has_it col xs h = none_counted col r xs (All-weaker _ _ (λ x q z. none-some s (sym q ∙ ap (resolved_to m.uses) z ∙ e)) xs h)

    row_there : r < length m.uses.references
    row_there =
        ⊎_elim (λ l. l)
        (λ (l : length m.uses.references ≤ r). absurd (none-some s (sym (ap (λ (y : ReferenceRow). symbol_number y.symbol) (get_or-eq_default m.uses.references no_reference l)) ∙ e)))
        (cases_lt r (length m.uses.references))

    -- a row with a symbol is in its resolved list
    pub symbol_row_listed : sum_of of_resolved (one r) (resolved_list m.uses s) ≡ 1
    symbol_row_listed =
        let p = none_has_it of_pending m.uses.pending o.pending_rows in
        let q = none_has_it of_root m.uses.root o.root_rows in
        let a = o.weighed (one r) in
        let b = total_one r (length m.uses.references) row_there in
        let c : sum_of of_resolved (one r) (resolved_list m.uses s) ≡ sum_of of_resolved (one r) m.uses.resolved
        = counted_there of_resolved (λ (j : ResolvedReference). j.symbol.0) r s m.uses.resolved
        (All-weaker _ _ (λ j h z. same_Some j.symbol.0 s (sym h ∙ ap (resolved_to m.uses) z ∙ e)) m.uses.resolved o.resolved_rows) in
        omega arith

  -- what is in a root list is in that of its name
  in_its_root_list : (r : ℕ) → sum_of of_root (one r) (root_list m.uses (get_or names r 0)) ≡ sum_of of_root (one r) m.uses.root
  in_its_root_list r = go (m.uses.roots.get (the_name (get_or names r 0))) refl
    where
      go : (l : Option ℕ) → m.uses.roots.get (the_name (get_or names r 0)) ≡ l → sum_of of_root (one r) (maybe l [] (numbered_list m.uses)) ≡ sum_of of_root (one r) m.uses.root
      go None e =
          sym (none_counted of_root r m.uses.root
          (All-weaker _ _ (λ k h z. none-some k.list (sym e ∙ ap (λ x. m.uses.roots.get (the_name (get_or names x 0))) (sym z) ∙ h.1)) m.uses.root o.root_named))
      go (Some n) e =
          counted_there of_root (λ (k : RootReference). k.list) r n m.uses.root
          (All-weaker _ _ (λ k h z. same_Some k.list n (sym h.1 ∙ ap (λ x. m.uses.roots.get (the_name (get_or names x 0))) z ∙ e)) m.uses.root o.root_named)

  pub placed : Placed names m.names m.uses
  placed =
      let n = o.rows in
      record {
        weighed = λ w. let a = o.weighed w in let b = ap (total w) n in omega arith;
        once = λ r l. let a = o.weighed (one r) in let b = total_one r (length m.uses.references) (omega arith) in omega arith;
        under_its_name = λ r l. let a = o.weighed (one r) in let b = total_one r (length m.uses.references) (omega arith) in let t = in_its_root_list r in omega arith;
        no_other = λ r l. let a = o.weighed (one r) in let b = total_one_past r (length m.uses.references) (omega arith) in omega arith;
        all = let a = rows_counted in let x = all_resolved in let y = all_listed in omega arith;
        rows = n;
        pending_names = All-weaker _ _ (λ e h. h.1) m.uses.pending o.pending_named;
        root_names = All-weaker _ _ (λ k h. h.1) m.uses.root o.root_named;
        root_numbers = o.root_numbers;
        resolved_there = All-weaker _ _ (λ j h. h.0) m.uses.resolved o.resolved_there;
        resolved_names = All-weaker _ _ (λ j h. h.1.1) m.uses.resolved o.resolved_there;
        resolved_rows = o.resolved_rows;
        symbol_rows = symbol_row_listed;
        pending_rows = o.pending_rows;
        root_rows = o.root_rows;
      }

pub once_law : Once
once_law setting cs = placed (accepted cs (answers (fresh setting) cs)) (run (fresh setting) cs) (always_ordered setting cs)

-- the lists of what is done grow
record Longer (us us' : Uses) : Type 0 where
  pub more_resolved : length us.resolved ≤ length us'.resolved
  pub more_root : length us.root ≤ length us'.root

settle_longer : (nm : Names) (us : Uses) (e : UnresolvedReference) (f : Fate) → Longer us (settle nm us e f)
settle_longer nm us e f = let g = grown nm us e f in record { more_resolved = g.resolved; more_root = g.root }

settle_all_longer : (nm : Names) (fate : Uses → UnresolvedReference → Fate) (es : List UnresolvedReference) (us : Uses) → Longer us (settle_all nm fate us es)
unfolding settle_all
settle_all_longer nm fate [] us = record { more_resolved = omega arith; more_root = omega arith }
settle_all_longer nm fate (e ∷ es) us =
    let a = settle_longer nm us e (fate us e) in
    let b = settle_all_longer nm fate es (settle nm us e (fate us e)) in
    record { more_resolved = omega arith; more_root = omega arith }

resolve_here_longer : (rows : List ScopeRow) (here : ℕ) (nm : Names) (start : ℕ) (us : Uses) → Longer us (resolve_here rows here nm start us)
unfolding resolve_here
resolve_here_longer rows here nm start us = let l = settle_all_longer nm _ _ _ in record { more_resolved = l.more_resolved; more_root = l.more_root }

resolve_end_longer : (rows : List ScopeRow) (nm : Names) (us : Uses) → Longer us (resolve_end rows nm us)
unfolding resolve_end
resolve_end_longer rows nm us = let l = settle_all_longer nm _ _ _ in record { more_resolved = l.more_resolved; more_root = l.more_root }

-- the uses after a resolving call
counted_growth : (names : List ℕ) (m : Machine) (us : Uses) → InOrder names m → InOrder names (with_uses m us) → Longer m.uses us → CountsGrowth m (with_uses m us) (Ok (counted m.uses us))
counted_growth names m us o o' l =
    let a = all_resolved names m o in let a' = all_resolved names (with_uses m us) o' in
    let b = all_listed names m o in let b' = all_listed names (with_uses m us) o' in
    record { counts = _; answered = refl; resolved = omega arith; root = omega arith; pending = refl }

granted_counts : (names : List ℕ) (m : Machine) (c : Call) → Good m → InOrder names m → is_resolving c ≡ true → CountsGrowth m (granted m c) (Ok (granted_answer m c))
unfolding granted granted_answer
granted_counts names m (EnterScope s) g o e = absurd (true≢false (sym e))
granted_counts names m LeaveScope g o e = absurd (true≢false (sym e))
granted_counts names m (Bind d) g o e = absurd (true≢false (sym e))
granted_counts names m (DeclareReference r) g o e = absurd (true≢false (sym e))
granted_counts names m (ResolveReferences start) g o e =
    counted_growth names m _ o (resolve_here_ordered m.scopes m.names (leads_there m g) names m.uses o m.current start)
    (resolve_here_longer m.scopes m.current m.names start m.uses)
granted_counts names m ResolveAllReferences g o e =
    counted_growth names m _ o (resolve_end_ordered m.scopes m.names (leads_there m g) names m.uses o)
    (resolve_end_longer m.scopes m.names m.uses)

after_counts : (names : List ℕ) (m : Machine) (c : Call) → Good m → InOrder names m → is_resolving c ≡ true → is_refusal (answer m c) ≡ false → CountsGrowth m (after m c) (answer m c)
unfolding after answer
after_counts names m c g o e = go (refusal m c)
  where
    go : (r : Option Refusal) → is_refusal (maybe r (Ok (granted_answer m c)) Err) ≡ false → CountsGrowth m (maybe r (granted m c) (λ n. m)) (maybe r (Ok (granted_answer m c)) Err)
    go None n = granted_counts names m c g o e
    go (Some r) n = absurd (true≢false n)

pub counts_law : CountsRight
counts_law setting cs c = after_counts _ (run (fresh setting) cs) c (run_good cs (fresh setting) (fresh_good setting)) (always_ordered setting cs)
