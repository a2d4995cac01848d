-- No reference is in two of the lists, or twice in one.
use Rattle.std.proofs.Common.{◌≡◌, ℕ, ◌+◌, ◌≤◌, List, [], ◌∷◌, length, take, drop, sym, refl, ap, ◌∙◌, subst, ⊎_elim, arith, length-append, length-set, take-append-drop}
use mathlib.Core.List.Memᴰ
use Rattle.std.proofs.lemmas.Bool.{cases_eq}
use Rattle.tables.specs.declared.row.UnresolvedReference.{UnresolvedReference}
use Rattle.model.specs.declared.call.Call.{Call}
use Rattle.model.specs.declared.call.Call.TheVariants.{EnterScope, LeaveScope, Bind, DeclareReference, ResolveReferences, ResolveAllReferences}
use Rattle.model.specs.declared.call.NewReference.{NewReference}
use Rattle.model.specs.Basics.{the_reference}
use Rattle.model.specs.State.{Machine, Names, Uses, fresh}
use Rattle.model.specs.Resolving.{Fate, resolve_to, list_at_root, stay, settle, settle_all, keep_pending, resolve_here, resolve_end}
use Rattle.model.specs.Calls.{granted, after, run, refer}
use Rattle.laws.specs.FirstFit.{◌∈◌}
use Rattle.laws.specs.OnceLaw.{sum_of, of_pending, weight, one}
use Rattle.laws.proofs.Granting.{after_keeps}
use Rattle.laws.proofs.Weights.{sum_append, settle_weight, one_here, one_apart}

-- how often a reference stands in a column
abbrev pub times : {X : Type 0} → (X → ℕ) → ℕ → List X → ℕ
times col r xs = sum_of col (one r) xs

times_head : {X : Type 0} (col : X → ℕ) (r : ℕ) (x : X) (xs : List X) → col x ≡ r → times col r (x ∷ xs) ≡ 1 + times col r xs
times_head col r x xs h = ap (λ n. n + times col r xs) (ap (one r) h ∙ one_here r)

-- what is there is counted
pub times_there : {X : Type 0} (col : X → ℕ) (r : ℕ) (xs : List X) (x : X) → x ∈ xs → col x ≡ r → 1 ≤ times col r xs
times_there col r [] x h e = absurd (Memᴰ.not-nil h)
times_there col r (y ∷ xs) x h e =
    ⊎_elim
    (λ q. let a = times_head col r y xs (ap col (sym q) ∙ e) in omega arith)
    (λ k. let a = times_there col r xs x k e in omega arith)
    (Memᴰ.cases_cons h)

-- two that are counted once are one
pub times_same : {X : Type 0} (col : X → ℕ) (r : ℕ) (xs : List X) (x y : X) → times col r xs ≤ 1 → x ∈ xs → y ∈ xs → col x ≡ r → col y ≡ r → x ≡ y
times_same col r [] x y l h k p q = absurd (Memᴰ.not-nil h)
times_same col r (z ∷ xs) x y l h k p q =
    ⊎_elim
    (λ (a : x ≡ z). ⊎_elim
    (λ (b : y ≡ z). a ∙ sym b)
    (λ b. let u = times_head col r z xs (ap col (sym a) ∙ p) in let v = times_there col r xs y b q in absurd (omega arith))
    (Memᴰ.cases_cons k))
    (λ a. ⊎_elim
    (λ (b : y ≡ z). let u = times_head col r z xs (ap col (sym b) ∙ q) in let v = times_there col r xs x a p in absurd (omega arith))
    (λ b. times_same col r xs x y (omega arith) a b p q)
    (Memᴰ.cases_cons k))
    (Memᴰ.cases_cons h)

-- in the lists, and among the entries that wait to be settled
abbrev pub everywhere : ℕ → Uses → List UnresolvedReference → ℕ
everywhere r us es = weight (one r) us + times of_pending r es

pub record Single (us : Uses) (es : List UnresolvedReference) : Type 0 where
  pub once : (r : ℕ) → everywhere r us es ≤ 1
  pub none_past : (r : ℕ) → length us.references ≤ r → everywhere r us es ≡ 0

settle_count : (r : ℕ) (nm : Names) (us : Uses) (e : UnresolvedReference) (es : List UnresolvedReference) (f : Fate) → everywhere r (settle nm us e f) es ≡ everywhere r us (e ∷ es)
settle_count r nm us e es f = let a = settle_weight (one r) nm us e f in omega arith

pub settle_rows : (nm : Names) (us : Uses) (e : UnresolvedReference) (f : Fate) → length (settle nm us e f).references ≡ length us.references
unfolding settle
settle_rows nm us e (resolve_to s) = simp length-set
settle_rows nm us e list_at_root = refl
settle_rows nm us e (stay s) = refl

pub settle_single : (nm : Names) (us : Uses) (e : UnresolvedReference) (es : List UnresolvedReference) (f : Fate) → Single us (e ∷ es) → Single (settle nm us e f) es
settle_single nm us e es f o =
    record {
      once = λ r. subst (λ n. n ≤ 1) (sym (settle_count r nm us e es f)) (o.once r);
      none_past = λ r h. settle_count r nm us e es f ∙ o.none_past r (subst (λ n. n ≤ r) (settle_rows nm us e f) h);
    }

pub settle_all_single : (nm : Names) (fate : Uses → UnresolvedReference → Fate) (es : List UnresolvedReference) (us : Uses) → Single us es → Single (settle_all nm fate us es) []
unfolding settle_all
settle_all_single nm fate [] us o = o
settle_all_single nm fate (e ∷ es) us o = settle_all_single nm fate es (settle nm us e (fate us e)) (settle_single nm us e es (fate us e) o)

-- entries are taken out of the pending list, to be settled
pub taken_single : (us : Uses) (start : ℕ) → Single us [] → Single (keep_pending us (take start us.pending)) (drop start us.pending)
taken_single us start o =
    let same : (r : ℕ) → everywhere r (keep_pending us (take start us.pending)) (drop start us.pending) ≡ everywhere r us [] = λ r.
    let a = ap (times of_pending r) (take-append-drop start us.pending) in let b = sum_append of_pending (one r) (take start us.pending) (drop start us.pending) in omega arith in
    record {
      once = λ r. subst (λ n. n ≤ 1) (sym (same r)) (o.once r);
      none_past = λ r h. same r ∙ o.none_past r h;
    }

refer_count : (x : NewReference) (us : Uses) (r : ℕ) → everywhere r (refer x us) [] ≡ everywhere r us [] + one r (length us.references)
refer_count x us r = let a = sum_append of_pending (one r) us.pending (record { name = x.name; reference = the_reference (length us.references); scope = x.scope } ∷ []) in omega arith

refer_single : (x : NewReference) (us : Uses) → Single us [] → Single (refer x us) []
refer_single x us o =
    let n = length us.references in
    record {
      once = λ r. ⊎_elim
          (λ (q : n ≡ r). let a = o.none_past r (omega arith) in let b : one r n ≡ 1 = ap (one r) q ∙ one_here r in let c = refer_count x us r in omega arith)
          (λ (q : n ≡ r → ⊥). let a = o.once r in let b = one_apart r n q in let c = refer_count x us r in omega arith)
          (cases_eq n r);
      none_past = λ r h. let l : n + 1 ≤ r = simp length-append at h in
          let a = o.none_past r (omega arith) in let b = one_apart r n (λ q. omega arith) in let c = refer_count x us r in omega arith;
    }

abbrev pub KeptSingle : Machine → Type 0
KeptSingle m = Single m.uses []

granted_single : (m : Machine) (c : Call) → KeptSingle m → KeptSingle (granted m c)
unfolding granted resolve_here resolve_end
granted_single m (EnterScope x) o = o
granted_single m LeaveScope o = o
granted_single m (Bind d) o = o
granted_single m (DeclareReference x) o = refer_single x m.uses o
granted_single m (ResolveReferences start) o = settle_all_single m.names _ (drop start m.uses.pending) _ (taken_single m.uses start o)
granted_single m ResolveAllReferences o = settle_all_single m.names _ m.uses.pending _ (taken_single m.uses 0 o)

pub after_single : (m : Machine) (c : Call) → KeptSingle m → KeptSingle (after m c)
after_single m c o = after_keeps m c KeptSingle (λ _. granted_single m c o) o

pub run_single : (cs : List Call) (m : Machine) → KeptSingle m → KeptSingle (run m cs)
run_single [] m o = o
run_single (c ∷ cs) m o = run_single cs (after m c) (after_single m c o)

pub fresh_single : (s : ℕ) → KeptSingle (fresh s)
fresh_single s = record { once = λ r. omega arith; none_past = λ r h. refl }
