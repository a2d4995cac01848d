-- Which call put a reference into its list.
use Rattle.std.proofs.Common.{◌≡◌, ℕ, zero, suc, ◌⊎◌, List, [], ◌∷◌, length, take, drop, refl, ap, subst, inl, inr, ⊎_elim, arith}
use mathlib.Core.List.Memᴰ
use Rattle.tables.specs.declared.id.ReferenceId.{ReferenceId}
use Rattle.tables.specs.declared.row.UnresolvedReference.{UnresolvedReference}
use Rattle.tables.specs.declared.row.ResolvedReference.{ResolvedReference}
use Rattle.tables.specs.declared.row.RootReference.{RootReference}
use Rattle.model.specs.declared.call.Call.{Call}
use Rattle.model.specs.declared.call.Call.TheVariants.{EnterScope, LeaveScope, Bind, DeclareReference, ResolveReferences, ResolveAllReferences}
use Rattle.model.specs.State.{Machine, Uses, fresh}
use Rattle.model.specs.Calls.{refusal, after, run}
use Rattle.laws.specs.FirstFit.{◌∈◌, Settles, LooksIn, DeferredAs, Unplaced, ResolvedBy, ListedBy, SomeCall, PlacedByACall}
use Rattle.laws.specs.OnceLaw.{of_pending, of_resolved, of_root}
use Rattle.laws.proofs.Basics.{option_cases}
use Rattle.laws.proofs.Runs.{Good, after_good, fresh_good}
use Rattle.laws.proofs.Single.{times_there, KeptSingle, after_single, fresh_single}
use Rattle.laws.proofs.Settling.{resolved_from, listed_from, left_from}
use Rattle.laws.proofs.FirstFit.{granted_is, first_fit_right}
use Rattle.laws.proofs.Granting.{refused_after}

mem_drop : {X : Type 0} (n : ℕ) (xs : List X) (x : X) → x ∈ (drop n xs) → x ∈ xs
mem_drop zero xs x h = h
mem_drop (suc n) [] x h = h
mem_drop (suc n) (y ∷ xs) x h = Memᴰ.tail (mem_drop n xs x h)

mem_take : {X : Type 0} (n : ℕ) (xs : List X) (x : X) → x ∈ (take n xs) → x ∈ xs
mem_take zero xs x h = absurd (Memᴰ.not-nil h)
mem_take (suc n) [] x h = h
mem_take (suc n) (y ∷ xs) x h = ⊎_elim Memᴰ.head (λ k. Memᴰ.tail (mem_take n xs x k)) (Memᴰ.cases_cons h)

-- a pending reference is in no other list
pub unplaced : (m : Machine) → KeptSingle m → (e : UnresolvedReference) → e ∈ m.uses.pending → (r : ReferenceId) → e.reference ≡ r → Unplaced m.uses r
unplaced m o e h r q =
    let a = o.once r.0 in
    let b = times_there of_pending r.0 m.uses.pending e h (ap (λ (x : ReferenceId). x.0) q) in
    record {
      not_resolved = λ j k p. let c = times_there of_resolved r.0 m.uses.resolved j k (ap (λ (x : ReferenceId). x.0) p) in omega arith;
      not_listed = λ j k p. let c = times_there of_root r.0 m.uses.root j k (ap (λ (x : ReferenceId). x.0) p) in omega arith;
    }

-- what is in the lists after a call was there, or the call put it there
pub record OneCall (m : Machine) (c : Call) : Type 0 where
  pub resolved : (j : ResolvedReference) → j ∈ (after m c).uses.resolved → (j ∈ m.uses.resolved) ⊎ ResolvedBy m c j
  pub listed : (k : RootReference) → k ∈ (after m c).uses.root → (k ∈ m.uses.root) ⊎ ListedBy m c k
  pub pending : (p : UnresolvedReference) → p ∈ (after m c).uses.pending
      → (p ∈ m.uses.pending) ⊎ ((p.reference.0 ≡ length m.uses.references) ⊎ ((e : UnresolvedReference) × (e ∈ m.uses.pending) × DeferredAs m e p))

module _ (m : Machine) (good : Good m) (single : KeptSingle m) where
  unmoved : (c : Call) → (after m c).uses ≡ m.uses → OneCall m c
  unmoved c e =
      record {
        resolved = λ j h. inl (subst (λ (us : Uses). j ∈ us.resolved) e h);
        listed = λ k h. inl (subst (λ (us : Uses). k ∈ us.root) e h);
        pending = λ p h. inl (subst (λ (us : Uses). p ∈ us.pending) e h);
      }

  settled : (c : Call) (start : ℕ) → Settles m (LooksIn m c) start (after m c).uses → OneCall m c
  settled c start w =
      record {
        resolved = λ j h. ⊎_elim inl
            (λ k. let f = resolved_from m (LooksIn m c) w.each j k in
            let at = mem_drop start m.uses.pending f.0 f.1 in
            inr (record { entry = f.0; waited = at; unplaced = unplaced m single f.0 at j.reference f.2.same_reference; placed = h; fits = f.2 }))
            (Memᴰ.append_cases m.uses.resolved (subst (λ js. j ∈ js) w.resolved_is h));
        listed = λ k h. ⊎_elim inl
            (λ l. let f = listed_from m (LooksIn m c) w.each k l in
            let at = mem_drop start m.uses.pending f.0 f.1 in
            inr (record { entry = f.0; waited = at; unplaced = unplaced m single f.0 at k.reference f.2.same_reference; placed = h; fits = f.2 }))
            (Memᴰ.append_cases m.uses.root (subst (λ ks. k ∈ ks) w.root_is h));
        pending = λ p h. ⊎_elim (λ k. inl (mem_take start m.uses.pending p k))
            (λ k. let f = left_from m (LooksIn m c) w.each p k in
            let at = mem_drop start m.uses.pending f.0 f.1 in
            ⊎_elim (λ q. inl (Memᴰ.cast q at)) (λ q. inr (inr (f.0, at, q))) f.2)
            (Memᴰ.append_cases (take start m.uses.pending) (subst (λ ps. p ∈ ps) w.pending_is h));
      }

  pub one_call : (c : Call) → OneCall m c
  one_call (EnterScope s) = unmoved (EnterScope s) ((first_fit_right m good single).enter_scope s)
  one_call LeaveScope = unmoved LeaveScope (first_fit_right m good single).leave_scope
  one_call (Bind d) = unmoved (Bind d) ((first_fit_right m good single).bind d)
  one_call (DeclareReference r) =
      option_cases (refusal m (DeclareReference r)) (OneCall m (DeclareReference r))
      (λ h. let e = (first_fit_right m good single).declare_reference r (granted_is m (DeclareReference r) h) in
      record {
        resolved = λ j k. inl (subst (λ (us : Uses). j ∈ us.resolved) e k);
        listed = λ j k. inl (subst (λ (us : Uses). j ∈ us.root) e k);
        pending = λ p k. ⊎_elim inl (λ l. inr (inl (ap (λ (x : UnresolvedReference). x.reference.0) (Memᴰ.eq_of_singleton l))))
            (Memᴰ.append_cases m.uses.pending (subst (λ (us : Uses). p ∈ us.pending) e k));
      })
      (λ n h. unmoved (DeclareReference r) (ap (λ (x : Machine). x.uses) (refused_after m (DeclareReference r) n h)))
  one_call (ResolveReferences start) =
      option_cases (refusal m (ResolveReferences start)) (OneCall m (ResolveReferences start))
      (λ h. settled (ResolveReferences start) start ((first_fit_right m good single).resolve_in_scope start (granted_is m (ResolveReferences start) h)))
      (λ n h. unmoved (ResolveReferences start) (ap (λ (x : Machine). x.uses) (refused_after m (ResolveReferences start) n h)))
  one_call ResolveAllReferences = settled ResolveAllReferences 0 (first_fit_right m good single).resolve_all

-- a later call
later : (m : Machine) (c : Call) (cs : List Call) (Did : Machine → Call → Type 0) → SomeCall (after m c) cs Did → SomeCall m (c ∷ cs) Did
later m c cs Did s = record { before = c ∷ s.before; call = s.call; rest = s.rest; divided = ap (λ xs. c ∷ xs) s.divided; did = s.did }

divide : (cs : List Call) (m : Machine) → Good m → KeptSingle m → (Did : Machine → Call → Type 0) (There : Uses → Type 0)
    → ((x : Machine) (c : Call) → Good x → KeptSingle x → There (after x c).uses → There x.uses ⊎ Did x c) → There (run m cs).uses → There m.uses ⊎ SomeCall m cs Did
divide [] m g o Did There one h = inl h
divide (c ∷ cs) m g o Did There one h =
    ⊎_elim
    (λ k. ⊎_elim inl (λ d. inr (record { before = []; call = c; rest = cs; divided = refl; did = d })) (one m c g o k))
    (λ s. inr (later m c cs Did s))
    (divide cs (after m c) (after_good m c g) (after_single m c o) Did There one h)

pub placed_by_a_call : PlacedByACall
placed_by_a_call setting cs =
    record {
      resolved = λ j h. ⊎_elim (λ k. absurd (Memᴰ.not-nil k)) (λ s. s)
          (divide cs (fresh setting) (fresh_good setting) (fresh_single setting) (λ m c. ResolvedBy m c j) (λ (us : Uses). j ∈ us.resolved) (λ m c g o k. (one_call m g o c).resolved j k) h);
      listed = λ k h. ⊎_elim (λ l. absurd (Memᴰ.not-nil l)) (λ s. s)
          (divide cs (fresh setting) (fresh_good setting) (fresh_single setting) (λ m c. ListedBy m c k) (λ (us : Uses). k ∈ us.root) (λ m c g o l. (one_call m g o c).listed k l) h);
    }
