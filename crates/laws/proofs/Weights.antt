-- References are moved from list to list, and none is lost or doubled. A weight of each reference makes one law of it: the weights
-- in the three lists together are those of all references.
use Rattle.std.proofs.Common.{◌≡◌, ℕ, zero, suc, ◌+◌, ◌<◌, ◌≤◌, eqb, List, [], ◌∷◌, ◌++◌, length, filter, sym, refl, ap, ◌∙◌, ⊎_elim, not-suc-le-zero, arith}
use Rattle.std.proofs.lemmas.Bool.{cases_Bool, cond_both, cases_eq, cases_lt, eqb-true, eqb-false, eq-eqb, ne_eqb, cond-true, cond-false}
use Rattle.std.specs.List.{AllByRecursion}
use Rattle.tables.specs.declared.row.UnresolvedReference.{UnresolvedReference}
use Rattle.model.specs.State.{Names, Uses}
use Rattle.model.specs.Resolving.{Fate, resolve_to, list_at_root, stay, settle, settle_all}
use Rattle.laws.specs.OnceLaw.{total, sum_of, of_pending, weight, one}

pub sum_append : {X : Type 0} (col : X → ℕ) (w : ℕ → ℕ) (xs ys : List X) → sum_of col w (xs ++ ys) ≡ sum_of col w xs + sum_of col w ys
sum_append col w [] ys = omega arith
sum_append col w (x ∷ xs) ys = let e = sum_append col w xs ys in omega arith

module _ (w : ℕ → ℕ) where
  pub settle_weight : (nm : Names) (us : Uses) (e : UnresolvedReference) (f : Fate) → weight w (settle nm us e f) ≡ weight w us + w e.reference.0
  unfolding settle
  settle_weight nm us e (resolve_to s) = simp sum_append (omega arith)
  settle_weight nm us e list_at_root = simp sum_append (omega arith)
  settle_weight nm us e (stay s) = simp sum_append (omega arith)

  pub settle_all_weight : (nm : Names) (fate : Uses → UnresolvedReference → Fate) (es : List UnresolvedReference) (us : Uses) → weight w (settle_all nm fate us es) ≡ weight w us + sum_of of_pending w es
  unfolding settle_all
  settle_all_weight nm fate [] us = omega arith
  settle_all_weight nm fate (e ∷ es) us =
      let a = settle_all_weight nm fate es (settle nm us e (fate us e)) in
      let b = settle_weight nm us e (fate us e) in
      omega arith

pub one_here : (r : ℕ) → one r r ≡ 1
one_here r = cond-true (eqb r r) 1 0 (eq-eqb r r refl)

pub one_apart : (r k : ℕ) → (k ≡ r → ⊥) → one r k ≡ 0
one_apart r k h = cond-false (eqb k r) 1 0 (ne_eqb k r h)

pub total_one_past : (r n : ℕ) → n ≤ r → total (one r) n ≡ 0
total_one_past r zero h = refl
total_one_past r (suc n) h = let a = total_one_past r n (omega arith) in let b = one_apart r n (λ e. omega arith) in omega arith

pub total_one : (r n : ℕ) → r < n → total (one r) n ≡ 1
total_one r zero h = absurd (not-suc-le-zero h)
total_one r (suc n) h =
    ⊎_elim
    (λ (e : n ≡ r). let a = total_one_past r n (omega arith) in let b : one r n ≡ 1 = ap (one r) e ∙ one_here r in omega arith)
    (λ (e : n ≡ r → ⊥). let a = total_one r n (omega arith) in let b = one_apart r n e in omega arith)
    (cases_eq n r)

pub total_one_le : (r n : ℕ) → total (one r) n ≤ 1
total_one_le r n = ⊎_elim (λ h. let a = total_one r n h in omega arith) (λ h. let a = total_one_past r n h in omega arith) (cases_lt r n)

-- what is counted nowhere is not there
pub none_there : {X : Type 0} (col : X → ℕ) (r : ℕ) (xs : List X) → sum_of col (one r) xs ≡ 0 → AllByRecursion (λ x. col x ≡ r → ⊥) xs
none_there col r [] h = tt
none_there col r (x ∷ xs) h =
    (λ e. let a : one r (col x) ≡ 1 = ap (one r) e ∙ one_here r in omega arith, none_there col r xs (omega arith))

pub sum_ones : {X : Type 0} (col : X → ℕ) (xs : List X) → sum_of col (λ r. 1) xs ≡ length xs
sum_ones col [] = refl
sum_ones col (x ∷ xs) = let a = sum_ones col xs in omega arith

pub total_ones : (n : ℕ) → total (λ r. 1) n ≡ n
total_ones zero = refl
total_ones (suc n) = let a = total_ones n in omega arith

total_plus : (f g : ℕ → ℕ) (n : ℕ) → total (λ k. f k + g k) n ≡ total f n + total g n
total_plus f g zero = refl
total_plus f g (suc n) = let a = total_plus f g n in omega arith

total_zero : (n : ℕ) → total (λ k. 0) n ≡ 0
total_zero zero = refl
total_zero (suc n) = let a = total_zero n in omega arith

total_same : (f g : ℕ → ℕ) (n : ℕ) → ((k : ℕ) → f k ≡ g k) → total f n ≡ total g n
total_same f g zero h = refl
total_same f g (suc n) h = let a = total_same f g n h in let b = h n in omega arith

-- a list is as long as its parts by a key together
pub total_parts : {X : Type 0} (key : X → ℕ) (bound : ℕ) (xs : List X) → AllByRecursion (λ x. key x < bound) xs → total (λ k. length (filter (λ x. eqb (key x) k) xs)) bound ≡ length xs
total_parts key bound [] h = total_zero bound
total_parts key bound (x ∷ xs) h =
    let a = total_parts key bound xs h.1 in
    let b = total_one (key x) bound h.0 in
    let c = total_plus (one (key x)) (λ k. length (filter (λ y. eqb (key y) k) xs)) bound in
    let e = total_same (λ k. length (filter (λ y. eqb (key y) k) (x ∷ xs))) (λ k. one (key x) k + length (filter (λ y. eqb (key y) k) xs)) bound
    (λ k. ⊎_elim (λ t. let l = ap length (cond-true (eqb (key x) k) (x ∷ filter (λ y. eqb (key y) k) xs) (filter (λ y. eqb (key y) k) xs) t) in
    let o : one (key x) k ≡ 1 = ap (one (key x)) (sym (eqb-true (key x) k t)) ∙ one_here (key x) in omega arith)
    (λ t. let l = ap length (cond-false (eqb (key x) k) (x ∷ filter (λ y. eqb (key y) k) xs) (filter (λ y. eqb (key y) k) xs) t) in
    let o = one_apart (key x) k (λ q. eqb-false (key x) k t (sym q)) in omega arith)
    (cases_Bool (eqb (key x) k))) in
    omega arith

-- what is not there is not counted
pub none_counted : {X : Type 0} (col : X → ℕ) (r : ℕ) (xs : List X) → AllByRecursion (λ x. col x ≡ r → ⊥) xs → sum_of col (one r) xs ≡ 0
none_counted col r [] h = refl
none_counted col r (x ∷ xs) h = let a = one_apart r (col x) h.0 in let b = none_counted col r xs h.1 in omega arith

-- a reference that is only under one key is counted there as often as in all
pub counted_there : {X : Type 0} (col key : X → ℕ) (r s : ℕ) (xs : List X) → AllByRecursion (λ x. col x ≡ r → key x ≡ s) xs → sum_of col (one r) (filter (λ x. eqb (key x) s) xs) ≡ sum_of col (one r) xs
counted_there col key r s [] h = refl
counted_there {X} col key r s (x ∷ xs) h =
    let rest = filter (λ (y : X). eqb (key y) s) xs in
    let a : sum_of col (one r) rest ≡ sum_of col (one r) xs = counted_there col key r s xs h.1 in
    cond_both (eqb (key x) s) (x ∷ rest) rest (λ ys. sum_of col (one r) ys ≡ sum_of col (one r) (x ∷ xs))
    (λ _. omega arith)
    (λ f. let b = one_apart r (col x) (λ e. eqb-false (key x) s f (h.0 e)) in omega arith)
