-- Each test of the machine is the condition of its row.
use Rattle.std.proofs.Common.{◌≡◌, ℕ, zero, suc, ◌+◌, ◌-◌, ◌/◌, ◌%◌, ◌^◌, ◌<◌, ◌≤◌, Bool, true, false, not, ◌&&◌, ◌||◌, eqb, ltb, leb, ◌≢◌, ◌⊎◌, List, [], ◌∷◌, length, Some, None, sym, refl, ap, ◌∙◌, subst, ap₂, inl, inr, ⊎_elim, arith}
use Rattle.std.proofs.lemmas.Option.{none-some, same_Some}
use Rattle.std.proofs.lemmas.Bool.{eq-eqb, ne_eqb, eqb-true, eqb-false, ltb-true, ltb-false, leb-true, true≢false, cases_Bool, cases_eq, cases_lt, and_parts, and_left, not-true, not-false, le-leb, true_from_ne_false, cond-true, cond-false, or_from}
use Rattle.std.specs.Bool.{Decides}
use Rattle.std.proofs.lemmas.Bool.Decides.{not_from_Decides, Decides-eqb, Decides-ltb, Decides-like, Decides-not, Decides-and, Decides-or, Decides-below_and}
use Rattle.std.proofs.Math.Pow.{pow_mono}
use Rattle.std.proofs.lemmas.Nat.{pow_pos, le-div, div_below, shr-shr}
use Rattle.tables.specs.declared.refusal.Refusal.{Refusal}
use Rattle.tables.specs.declared.refusal.Refusal.TheVariants.{UnlistedBits, UnknownKind, ModifierNotOfKind, SpanReversed, NoSuchScope, ScopesFull, DeclarationsFull, ReferencesFull, AtRoot, StartPastPending}
use Rattle.model.specs.declared.call.Call.{Call}
use Rattle.model.specs.declared.call.Call.TheVariants.{EnterScope, LeaveScope, Bind, DeclareReference, ResolveReferences, ResolveAllReferences}
use Rattle.tables.specs.Flags.{less, all_scope_flags, all_reference_flags}
use Rattle.model.specs.Kinds.{Declare, Async, IfBody, Unique, kind_row, last_kind}
use Rattle.tables.specs.declared.row.ScopeRow.{ScopeRow}
use Rattle.model.specs.State.{Machine, fresh}
use Rattle.model.specs.Scopes.{parent_of, flags_in, is_var, passed}
use Rattle.model.specs.Calls.{Test, first_of, refusal, reach, declarations_full, run, ◌if◌, most_scopes, most_references}
use Rattle.laws.proofs.Basics.{option_cases}
use Rattle.laws.proofs.Granting.{refused_answers, refused_after, refused_by_answer}
use Rattle.model.proofs.Walks.{passed_here, passed_up}
use Rattle.laws.proofs.Tree.{Tree, has_parent}
use Rattle.laws.proofs.Runs.{Good, fresh_good, run_good}
use Rattle.laws.proofs.FlagBits.{meets_set, set_has, flag_has, less_has, nothing_has, some_flag}
use Rattle.laws.specs.HasFlag.{has, among}
use Rattle.laws.specs.KindNames.{function_kind, parameter_kind, var_kind}
use Rattle.laws.specs.Refused.{Row, FirstIs, NoneHolds, table, RefusesExactly, RefusedExactly, HasUnlisted, listed_scope_flags, listed_reference_flags, KnownKind, ambient_kinds, async_kinds, takes, HasForeignModifier, holds_vars, WayToVarScope, here, up, WritesTo, NoRoom}

-- tests and rows, one by one
pub Matching : List Test → List Row → Type 0
Matching [] [] = Unit {0}
Matching [] (row ∷ rows) = ⊥
Matching (t ∷ ts) [] = ⊥
Matching (t ∷ ts) (row ∷ rows) = (t.refusal ≡ row.refusal) × Decides t.holds row.condition × Matching ts rows

-- the first test that holds is the first row whose condition does, and none holds if no condition does

first_refuses : (ts : List Test) (rows : List Row) → Matching ts rows → (r : Refusal) → first_of ts ≡ Some r → FirstIs rows r
unfolding Matching
first_refuses [] rows h r e = absurd (none-some r e)
first_refuses (t ∷ ts) [] h r e = absurd h
first_refuses (t ∷ ts) (row ∷ rows) (same, d, h) r e =
    ⊎_elim (λ (b : t.holds ≡ true). inl (d.0 b, sym same ∙ same_Some t.refusal r (sym (cond-true t.holds (Some t.refusal) (first_of ts) b) ∙ e)))
    (λ (b : t.holds ≡ false). inr (not_from_Decides t.holds d b, first_refuses ts rows h r (sym (cond-false t.holds (Some t.refusal) (first_of ts) b) ∙ e)))
    (cases_Bool t.holds)

refuses_first : (ts : List Test) (rows : List Row) → Matching ts rows → (r : Refusal) → FirstIs rows r → first_of ts ≡ Some r
unfolding Matching
refuses_first ts [] h r f = absurd f
refuses_first [] (row ∷ rows) h r f = absurd h
refuses_first (t ∷ ts) (row ∷ rows) (same, d, h) r f =
    ⊎_elim (λ (b : t.holds ≡ true). cond-true t.holds (Some t.refusal) (first_of ts) b
    ∙ ⊎_elim (λ (g : row.condition × (row.refusal ≡ r)). ap Some (same ∙ g.1)) (λ (g : (¬ row.condition) × FirstIs rows r). absurd (g.0 (d.0 b))) f)
    (λ (b : t.holds ≡ false). cond-false t.holds (Some t.refusal) (first_of ts) b
    ∙ ⊎_elim (λ (g : row.condition × (row.refusal ≡ r)). absurd (not_from_Decides t.holds d b g.0)) (λ (g : (¬ row.condition) × FirstIs rows r). refuses_first ts rows h r g.1) f)
    (cases_Bool t.holds)

first_grants : (ts : List Test) (rows : List Row) → Matching ts rows → first_of ts ≡ None → NoneHolds rows
unfolding Matching
first_grants ts [] h e = tt
first_grants [] (row ∷ rows) h e = absurd h
first_grants (t ∷ ts) (row ∷ rows) (same, d, h) e =
    ⊎_elim (λ (b : t.holds ≡ true). absurd (none-some t.refusal (sym e ∙ cond-true t.holds (Some t.refusal) (first_of ts) b)))
    (λ (b : t.holds ≡ false). (not_from_Decides t.holds d b, first_grants ts rows h (sym (cond-false t.holds (Some t.refusal) (first_of ts) b) ∙ e)))
    (cases_Bool t.holds)

grants_first : (ts : List Test) (rows : List Row) → Matching ts rows → NoneHolds rows → first_of ts ≡ None
unfolding Matching
grants_first [] rows h n = refl
grants_first (t ∷ ts) [] h n = absurd h
grants_first (t ∷ ts) (row ∷ rows) (same, d, h) (fails, n) =
    ⊎_elim (λ (b : t.holds ≡ true). absurd (fails (d.0 b)))
    (λ (b : t.holds ≡ false). cond-false t.holds (Some t.refusal) (first_of ts) b ∙ grants_first ts rows h n)
    (cases_Bool t.holds)

module _ (m : Machine) (c : Call) (ts : List Test) (its : refusal m c ≡ first_of ts) (h : Matching ts (table m c)) where
  refuses : RefusesExactly m c
  refuses =
      record {
        refused = λ r. (
          λ e. first_refuses ts (table m c) h r (sym its ∙ refused_by_answer m c r e),
          λ f. refused_answers m c r (its ∙ refuses_first ts (table m c) h r f),
        );
        unchanged = λ r f. refused_after m c r (its ∙ refuses_first ts (table m c) h r f);
        granted = (
          λ no. option_cases (refusal m c) (NoneHolds (table m c)) (λ e. first_grants ts (table m c) h (sym its ∙ e)) (λ r e. absurd (no r (refused_answers m c r e))),
          λ n r e. none-some r (sym (its ∙ grants_first ts (table m c) h n) ∙ refused_by_answer m c r e),
        );
      }

-- the tests

decides_le : (a b : ℕ) → Decides (leb a b) (a ≤ b)
decides_le a b = (leb-true a b, le-leb a b)

-- listed flags

-- a test passes below a number
every : ℕ → (ℕ → Bool) → Bool
every zero test = true
every (suc n) test = test n && every n test

every_below : (n : ℕ) (test : ℕ → Bool) → every n test ≡ true → (k : ℕ) → k < n → test k ≡ true
unfolding every
every_below n test = (Decides-below_and test (λ k. test k ≡ true) (λ n. every n test) (λ k. (λ e. e, λ e. e)) refl (λ _. refl) n).0

-- a number is not in a list of lower ones
all_below : ℕ → List ℕ → Bool
all_below n [] = true
all_below n (x ∷ xs) = ltb x n && all_below n xs

not_among : (n k : ℕ) (xs : List ℕ) → all_below n xs ≡ true → n ≤ k → among k xs ≡ false
unfolding all_below
not_among n k [] e l = refl
not_among n k (x ∷ xs) e l =
    let p = and_parts (ltb x n) (all_below n xs) e in
    let q = ltb-true x n p.0 in
    or_from (eqb k x) (among k xs) (ne_eqb k x (omega arith)) (not_among n k xs p.1 l)

-- the first n flags are listed, and no other
unlisted : (n f : ℕ) (listed : List ℕ) → every n (λ k. among (2 ^ k) listed) ≡ true → all_below (2 ^ n) listed ≡ true → Decides (ltb (2 ^ n - 1) f) (HasUnlisted f listed)
unlisted n f listed low high = (
  λ e.
      let l = ltb-true (2 ^ n - 1) f e in
      let p = pow_pos n in
      let d = le-div 1 f (2 ^ n) p (omega arith) in
      let r = some_flag (f / 2 ^ n) (omega arith) in
      let k = n + r.0 in
      (2 ^ k, (k, refl), ap (λ x. eqb (x % 2) 1) (sym (shr-shr f n r.0)) ∙ r.1, not_among (2 ^ n) (2 ^ k) listed high (pow_mono {i = n} {j = k} (omega arith))),
  λ u. true_from_ne_false (ltb (2 ^ n - 1) f) (λ e.
      let l = ltb-false (2 ^ n - 1) f e in
      let p = pow_pos n in
      let k = u.1.0 in
      ⊎_elim
      (λ (b : k < n). true≢false (sym (every_below n (λ j. among (2 ^ j) listed) low k b) ∙ ap (λ x. among x listed) (sym u.1.1) ∙ u.3))
      (λ (b : n ≤ k).
      let w = pow_mono {i = n} {j = k} b in
      let d = div_below f (2 ^ k) 1 (pow_pos k) (omega arith) in
      let z : f / 2 ^ k ≡ 0 = omega arith in
      true≢false (sym u.2 ∙ ap (has f) u.1.1 ∙ ap (λ x. eqb (x % 2) 1) z))
      (cases_lt k n)),
)

-- modifiers

unknown_takes : (kind modifier : ℕ) → 19 ≤ kind → takes kind modifier ≡ false
unfolding all_below
unknown_takes kind modifier l =
    or_from _ _ (and_left (among kind ambient_kinds) (eqb modifier Declare) (not_among 19 kind ambient_kinds refl l))
    (or_from _ _ (and_left (among kind async_kinds) (eqb modifier Async) (not_among 19 kind async_kinds refl l))
    (or_from _ _ (and_left (eqb kind function_kind) (eqb modifier IfBody) (ne_eqb kind function_kind (omega arith)))
    (and_left (eqb kind parameter_kind) (eqb modifier Unique) (ne_eqb kind parameter_kind (omega arith)))))

kind_takes : (kind k : ℕ) → has (kind_row kind).modifiers (2 ^ k) ≡ takes kind (2 ^ k)
kind_takes zero k = set_has k []
kind_takes (suc zero) k = set_has k (0 ∷ [])
kind_takes (suc (suc zero)) k = set_has k (0 ∷ [])
kind_takes (suc (suc (suc zero))) k = set_has k (0 ∷ [])
kind_takes (suc (suc (suc (suc zero)))) k = set_has k (0 ∷ [])
kind_takes (suc (suc (suc (suc (suc zero))))) k = set_has k (0 ∷ 1 ∷ 2 ∷ [])
kind_takes (suc (suc (suc (suc (suc (suc zero)))))) k = set_has k (1 ∷ [])
kind_takes (suc (suc (suc (suc (suc (suc (suc zero))))))) k = flag_has 3 k
kind_takes (suc (suc (suc (suc (suc (suc (suc (suc zero)))))))) k = set_has k []
kind_takes (suc (suc (suc (suc (suc (suc (suc (suc (suc zero))))))))) k = set_has k []
kind_takes (suc (suc (suc (suc (suc (suc (suc (suc (suc (suc zero)))))))))) k = set_has k []
kind_takes (suc (suc (suc (suc (suc (suc (suc (suc (suc (suc (suc zero))))))))))) k = set_has k []
kind_takes (suc (suc (suc (suc (suc (suc (suc (suc (suc (suc (suc (suc zero)))))))))))) k = set_has k (0 ∷ [])
kind_takes (suc (suc (suc (suc (suc (suc (suc (suc (suc (suc (suc (suc (suc zero))))))))))))) k = set_has k (0 ∷ [])
kind_takes (suc (suc (suc (suc (suc (suc (suc (suc (suc (suc (suc (suc (suc (suc zero)))))))))))))) k = set_has k (0 ∷ [])
kind_takes (suc (suc (suc (suc (suc (suc (suc (suc (suc (suc (suc (suc (suc (suc (suc zero))))))))))))))) k = set_has k (0 ∷ [])
kind_takes (suc (suc (suc (suc (suc (suc (suc (suc (suc (suc (suc (suc (suc (suc (suc (suc zero)))))))))))))))) k = set_has k []
kind_takes (suc (suc (suc (suc (suc (suc (suc (suc (suc (suc (suc (suc (suc (suc (suc (suc (suc zero))))))))))))))))) k = set_has k []
kind_takes (suc (suc (suc (suc (suc (suc (suc (suc (suc (suc (suc (suc (suc (suc (suc (suc (suc (suc zero)))))))))))))))))) k = set_has k []
kind_takes (suc (suc (suc (suc (suc (suc (suc (suc (suc (suc (suc (suc (suc (suc (suc (suc (suc (suc (suc n))))))))))))))))))) k = nothing_has k ∙ sym (unknown_takes (suc (suc (suc (suc (suc (suc (suc (suc (suc (suc (suc (suc (suc (suc (suc (suc (suc (suc (suc n))))))))))))))))))) (2 ^ k) (omega arith))

foreign : (kind modifiers : ℕ) → Decides (not (eqb (less modifiers (kind_row kind).modifiers) 0)) (HasForeignModifier kind modifiers)
foreign kind modifiers =
    let set = (kind_row kind).modifiers in (
      λ e.
          let r = some_flag (less modifiers set) (eqb-false (less modifiers set) 0 (not-true (eqb (less modifiers set) 0) e)) in
          let k = r.0 in
          let p = and_parts (has modifiers (2 ^ k)) (not (has set (2 ^ k))) (sym (less_has k modifiers set) ∙ r.1) in
          (2 ^ k, (k, refl), p.0, sym (kind_takes kind k) ∙ not-true (has set (2 ^ k)) p.1),
      λ u. true_from_ne_false (not (eqb (less modifiers set) 0)) (λ e.
          let k = u.1.0 in
          let none : less modifiers set ≡ 0 = eqb-true (less modifiers set) 0 (not-false (eqb (less modifiers set) 0) e) in
          let h : has modifiers (2 ^ k) ≡ true = ap (has modifiers) (sym u.1.1) ∙ u.2 in
          let t : has set (2 ^ k) ≡ false = kind_takes kind k ∙ ap (takes kind) (sym u.1.1) ∙ u.3 in
          true≢false (sym (ap₂ (λ x y. x && not y) h t) ∙ sym (less_has k modifiers set) ∙ ap (λ x. has x (2 ^ k)) none ∙ nothing_has k)),
    )

unknown_kind : (kind : ℕ) → Decides (eqb kind 0 || ltb last_kind kind) (¬ KnownKind kind)
unknown_kind kind =
    Decides-like {P = (kind ≡ 0) ⊎ (last_kind < kind)} (eqb kind 0 || ltb last_kind kind)
    (λ s k. ⊎_elim (λ (e : kind ≡ 0). let l = k.0 in omega arith) (λ (e : last_kind < kind). let l = k.1 in omega arith) s)
    (λ n. ⊎_elim (λ (e : kind ≡ 0). inl e) (λ (e : kind ≢ 0). ⊎_elim (λ (l : last_kind < kind). inr l) (λ (l : kind ≤ last_kind). absurd (n (omega arith))) (cases_lt last_kind kind)) (cases_eq kind 0))
    (Decides-or (eqb kind 0) (ltb last_kind kind) (Decides-eqb kind 0) (Decides-ltb last_kind kind))

-- the way of a `var`

module _ (rows : List ScopeRow) (tree : Tree rows) where
  var_holds : (s : ℕ) → is_var rows s ≡ holds_vars rows s
  var_holds s = meets_set (flags_in rows s) (1 ∷ 2 ∷ 4 ∷ 5 ∷ [])

  way_found : (f s : ℕ) → s < f → s < length rows → WayToVarScope rows s (suc (length (passed rows s)))
  way_found zero s h l = absurd (omega arith)
  way_found (suc f) s h l =
      ⊎_elim (λ v. subst (λ ps. WayToVarScope rows s (suc (length ps))) (sym (passed_here rows tree.lower s v)) (here s (sym (var_holds s) ∙ v)))
      (λ v. let q : (p : ℕ) × (parent_of rows s ≡ Some p) = has_parent rows tree s l v in
      let b : q.0 < s = tree.lower s q.0 q.1 in
      subst (λ ps. WayToVarScope rows s (suc (length ps))) (sym (passed_up rows tree.lower s q.0 v q.1))
      (up s q.0 (suc (length (passed rows q.0))) (sym (var_holds s) ∙ v) q.1 (way_found f q.0 (omega arith) (omega arith))))
      (cases_Bool (is_var rows s))

  way_only : {s n : ℕ} → WayToVarScope rows s n → n ≡ suc (length (passed rows s))
  way_only (here s v) = sym (ap (λ (ps : List ℕ). suc (length ps)) (passed_here rows tree.lower s (var_holds s ∙ v)))
  way_only (up s p k v e w) = ap suc (way_only w) ∙ sym (ap (λ (ps : List ℕ). suc (length ps)) (passed_up rows tree.lower s p (var_holds s ∙ v) e))

module _ (m : Machine) (kind : ℕ) (good : Good m) where
  writes : WritesTo m kind (reach m kind)
  writes =
      ⊎_elim (λ (e : kind ≡ var_kind). inl (
        e,
        subst (WayToVarScope m.scopes m.current) (sym (cond-true (eqb kind 1) _ 1 (eq-eqb kind 1 e)))
            (way_found m.scopes good.tree (suc m.current) m.current (omega arith) good.here),
      ))
      (λ (e : kind ≢ var_kind). inr (e, cond-false (eqb kind 1) _ 1 (ne_eqb kind 1 e)))
      (cases_eq kind var_kind)

  writes_only : (d : ℕ) → WritesTo m kind d → d ≡ reach m kind
  writes_only d w =
      ⊎_elim (λ (q : (kind ≡ var_kind) × WayToVarScope m.scopes m.current d).
      way_only m.scopes good.tree q.1 ∙ sym (cond-true (eqb kind 1) _ 1 (eq-eqb kind 1 q.0)))
      (λ (q : (kind ≢ var_kind) × (d ≡ 1)). q.1 ∙ sym (cond-false (eqb kind 1) _ 1 (ne_eqb kind 1 q.0)))
      w

  no_room : Decides (declarations_full m kind) (NoRoom m kind)
  no_room =
      let d = reach m kind in
      let a = length m.names.symbols in
      let b = length m.names.redeclarations in
      let c = length m.names.conflicts in
      let h = m.names.hoisting.size in
      let Tests : Type 0 = (((512 ≤ a) ⊎ (256 < b + 2)) ⊎ (256 < c + d)) ⊎ (512 < h + d) in
      let to : Tests → NoRoom m kind
      = λ t. ⊎_elim
      (λ (t : ((512 ≤ a) ⊎ (256 < b + 2)) ⊎ (256 < c + d)). ⊎_elim
      (λ (t : (512 ≤ a) ⊎ (256 < b + 2)). ⊎_elim (λ (t : 512 ≤ a). inl t) (λ (t : 256 < b + 2). inr (inl (omega arith))) t)
      (λ (t : 256 < c + d). inr (inr (d, writes, inl t))) t)
      (λ (t : 512 < h + d). inr (inr (d, writes, inr t))) t in
      let from : NoRoom m kind → Tests
      = λ t. ⊎_elim (λ (t : 512 ≤ a). inl (inl (inl t)))
      (λ t. ⊎_elim (λ (t : 254 < b). inl (inl (inr (omega arith))))
      (λ (t : (n : ℕ) × WritesTo m kind n × ((256 < c + n) ⊎ (512 < h + n))).
      let e : t.0 ≡ d = writes_only t.0 t.1 in
      ⊎_elim (λ (q : 256 < c + t.0). inl (inr (subst (λ n. 256 < c + n) e q))) (λ (q : 512 < h + t.0). inr (subst (λ n. 512 < h + n) e q)) t.2) t) t in
      Decides-like (declarations_full m kind) to from
      (Decides-or _ _ (Decides-or _ _ (Decides-or _ _ (decides_le 512 a) (Decides-ltb 256 (b + 2))) (Decides-ltb 256 (c + d))) (Decides-ltb 512 (h + d)))

-- the calls

refuses_each : (m : Machine) → Good m → (c : Call) → RefusesExactly m c
unfolding refusal Matching every all_below
refuses_each m g (EnterScope s) =
    refuses m (EnterScope s)
    (UnlistedBits if ltb all_scope_flags s.flags.0 ∷ ScopesFull if leb most_scopes (length m.scopes) ∷ []) refl
    (refl, unlisted 12 s.flags.0 listed_scope_flags refl refl, (refl, decides_le 256 (length m.scopes), tt))
refuses_each m g LeaveScope = refuses m LeaveScope (AtRoot if eqb m.current 0 ∷ []) refl (refl, Decides-eqb m.current 0, tt)
refuses_each m g (Bind d) =
    refuses m (Bind d)
    (UnknownKind if (eqb d.kind 0 || ltb last_kind d.kind) ∷ ModifierNotOfKind if not (eqb (less d.modifiers (kind_row d.kind).modifiers) 0)
    ∷ SpanReversed if ltb d.end d.start ∷ DeclarationsFull if declarations_full m d.kind ∷ []) refl
    (refl, unknown_kind d.kind, (refl, foreign d.kind d.modifiers, (refl, Decides-ltb d.end d.start, (refl, no_room m d.kind g, tt))))
refuses_each m g (DeclareReference r) =
    refuses m (DeclareReference r)
    (UnlistedBits if ltb all_reference_flags r.flags.0 ∷ NoSuchScope if leb (length m.scopes) r.scope.0 ∷ ReferencesFull if leb most_references (length m.uses.references) ∷ []) refl
    (refl, unlisted 5 r.flags.0 listed_reference_flags refl refl, (refl, decides_le (length m.scopes) r.scope.0, (refl, decides_le 512 (length m.uses.references), tt)))
refuses_each m g (ResolveReferences start) =
    refuses m (ResolveReferences start)
    (AtRoot if (eqb m.current 0 && not (eqb start (length m.uses.pending))) ∷ StartPastPending if ltb (length m.uses.pending) start ∷ []) refl (
      refl,
      Decides-and (eqb m.current 0) (not (eqb start (length m.uses.pending))) (Decides-eqb m.current 0) (Decides-not (eqb start (length m.uses.pending)) (Decides-eqb start (length m.uses.pending))),
      (refl, Decides-ltb (length m.uses.pending) start, tt),
    )
refuses_each m g ResolveAllReferences = refuses m ResolveAllReferences [] refl tt

pub refused_exactly : RefusedExactly
refused_exactly setting cs c = refuses_each (run (fresh setting) cs) (run_good cs (fresh setting) (fresh_good setting)) c
