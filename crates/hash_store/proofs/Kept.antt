-- What a write to a slot keeps of a hashed store's facts, and what it does to the pairs.
use Rattle.std.proofs.Common.{◌≡◌, ℕ, zero, suc, pred, ◌+◌, ◌-◌, ◌%◌, ◌<◌, ◌≤◌, Bool, true, false, cond, ◌&&◌, eqb, ◌≢◌, List, [], ◌∷◌, length, get_or, replicate, set, is_some, Some, None, sym, refl, ap, ◌∙◌, subst, ap₂, inl, inr, le_of_suc-le-suc, not-suc-le-zero, add-one, sub-one, arith}
use Rattle.std.specs.Cmp.{IsEquivalence}
use Rattle.std.proofs.lemmas.List.{get_or-set_same, get_or-set_other, length-set}
use Rattle.std.proofs.lemmas.Bool.{both_ways, cases_eq, cases_order, cases_Bool, and_parts, and_from, and_right, eq-eqb, eqb-true, cond-true, cond-false}
use Rattle.hash_store.specs.declared.slot.Slot.{Slot}
use Rattle.hash_store.specs.declared.slot.Slot.TheVariants.{Empty, Deleted, Full}
use Rattle.stores.specs.Pairs.{no_pairs, put, drop_pair}
use Rattle.stores.proofs.Rooms.{same_pairs}
use Rattle.hash_store.specs.Slots.{is_empty, is_full, matches, number_in, hash_in, held_by, taken, taken_within, spot, steps, Settled, Alike, Unlike, hashed}
use Rattle.hash_store.proofs.Slotted.{full_unempty, matches_full, matches_hash, unfull}

-- ---- how many slots are full

pub taken_set : {K : Type 0} (xs : List (Slot K)) (i : ℕ) (y : Slot K) → i < length xs → taken (set xs i y) + cond (is_full (get_or xs i Empty)) 1 0 ≡ taken xs + cond (is_full y) 1 0
taken_set [] i y h = absurd (not-suc-le-zero h)
taken_set (x ∷ xs) zero y h = omega arith
taken_set (x ∷ xs) (suc i) y h = let r = taken_set xs i y (le_of_suc-le-suc h) in omega arith

pub taken_all : {K : Type 0} (xs : List (Slot K)) → ((j : ℕ) → j < length xs → is_full (get_or xs j Empty) ≡ true) → taken xs ≡ length xs
taken_all [] all = refl
taken_all (x ∷ xs) all =
    let r = taken_all xs (λ j h. all (suc j) (omega arith)) in
    let f : ◌≡◌ {A = ℕ} (cond (is_full x) 1 0) 1 = ap (λ b. cond b 1 0) (all 0 (omega arith)) in
    omega arith

pub taken_none : {K : Type 0} (xs : List (Slot K)) → ((j : ℕ) → j < length xs → is_full (get_or xs j Empty) ≡ false) → taken xs ≡ 0
taken_none [] all = refl
taken_none (x ∷ xs) all =
    let r = taken_none xs (λ j h. all (suc j) (omega arith)) in
    let f : ◌≡◌ {A = ℕ} (cond (is_full x) 1 0) 0 = ap (λ b. cond b 1 0) (all 0 (omega arith)) in
    omega arith

pub taken_room : {K : Type 0} (xs : List (Slot K)) (i : ℕ) → i < length xs → is_full (get_or xs i Empty) ≡ false → taken xs < length xs
taken_room [] i h f = absurd (not-suc-le-zero h)
taken_room (x ∷ xs) zero h f = let r = taken_within xs in let z : ◌≡◌ {A = ℕ} (cond (is_full x) 1 0) 0 = ap (λ b. cond b 1 0) f in omega arith
taken_room (Empty ∷ xs) (suc i) h f = let r = taken_room xs i (le_of_suc-le-suc h) f in omega arith
taken_room (Deleted ∷ xs) (suc i) h f = let r = taken_room xs i (le_of_suc-le-suc h) f in omega arith
taken_room (Full k m n ∷ xs) (suc i) h f = let r = taken_room xs i (le_of_suc-le-suc h) f in omega arith

pub taken_some : {K : Type 0} (xs : List (Slot K)) (i : ℕ) → is_full (get_or xs i Empty) ≡ true → 1 ≤ taken xs
taken_some [] i f = absurd (both_ways false refl f)
taken_some (x ∷ xs) zero f = let z : ◌≡◌ {A = ℕ} (cond (is_full x) 1 0) 1 = ap (λ b. cond b 1 0) f in omega arith
taken_some (x ∷ xs) (suc i) f = let r = taken_some xs i f in omega arith

pub taken_more : {K : Type 0} (xs : List (Slot K)) (i : ℕ) (y : Slot K) → i < length xs → is_full (get_or xs i Empty) ≡ false → is_full y ≡ true → taken (set xs i y) ≡ taken xs + 1
taken_more xs i y l f t =
    let a : ◌≡◌ {A = ℕ} (cond (is_full (get_or xs i Empty)) 1 0) 0 = ap (λ b. cond b 1 0) f in
    let b : ◌≡◌ {A = ℕ} (cond (is_full y) 1 0) 1 = ap (λ b. cond b 1 0) t in
    let r = taken_set xs i y l in
    omega arith

pub taken_less : {K : Type 0} (xs : List (Slot K)) (i : ℕ) (y : Slot K) → i < length xs → is_full (get_or xs i Empty) ≡ true → is_full y ≡ false → taken (set xs i y) + 1 ≡ taken xs
taken_less xs i y l t f =
    let a : ◌≡◌ {A = ℕ} (cond (is_full (get_or xs i Empty)) 1 0) 1 = ap (λ b. cond b 1 0) t in
    let b : ◌≡◌ {A = ℕ} (cond (is_full y) 1 0) 0 = ap (λ b. cond b 1 0) f in
    let r = taken_set xs i y l in
    omega arith

pub taken_same : {K : Type 0} (xs : List (Slot K)) (i : ℕ) (y : Slot K) → i < length xs → is_full (get_or xs i Empty) ≡ is_full y → taken (set xs i y) ≡ taken xs
taken_same xs i y l t =
    let a : ◌≡◌ {A = ℕ} (cond (is_full (get_or xs i Empty)) 1 0) (cond (is_full y) 1 0) = ap (λ b. cond b 1 0) t in
    let r = taken_set xs i y l in
    omega arith

-- ---- a write to a slot

module _ {K : Type 0} (e : K → K → Bool) (laws : IsEquivalence e) where
  pub alike_sym : (u v : Slot K) → Alike e u v → Alike e v u
  alike_sym Empty v h = absurd h
  alike_sym Deleted v h = absurd h
  alike_sym (Full k g n) Empty h = absurd h
  alike_sym (Full k g n) Deleted h = absurd h
  alike_sym (Full k g n) (Full l m o) h = (sym h.0, laws.symm l k ∙ h.1)

module _ {K : Type 0} (xs : List (Slot K)) (i : ℕ) (y : Slot K) (in' : i < length xs) where
  -- what holds of y, and of every slot, holds of every slot after
  pub at_set : (P : ℕ → Slot K → Type 0) → P i y → (j : ℕ) → (j ≢ i → P j (get_or xs j Empty)) → P j (get_or (set xs i y) j Empty)
  at_set P h j old =
      elim (cases_eq j i) [
        | inl e ↦ subst (λ z. P z (get_or (set xs i y) z Empty)) (sym e) (subst (P i) (sym (get_or-set_same xs i y Empty in')) h)
        | inr n ↦ subst (P j) (sym (get_or-set_other xs i j y Empty n)) (old n)
      ]

  pub settled_set : is_empty y ≡ false → ((t : ℕ) → is_full y ≡ true → t < steps (length xs) (hash_in y % length xs) i → is_empty (get_or xs (spot (length xs) (hash_in y % length xs) t) Empty) ≡ false) → Settled xs → Settled (set xs i y)
  settled_set some way old j t =
      let n = length-set xs i y in
      let Way : ℕ → ℕ → Slot K → Type 0 = λ m k z. (is_full z ≡ true) × (t < steps m (hash_in z % m) k) → is_empty (get_or (set xs i y) (spot m (hash_in z % m) t) Empty) ≡ false in
      let kept : (p : ℕ) → is_empty (get_or xs p Empty) ≡ false → is_empty (get_or (set xs i y) p Empty) ≡ false = λ p h. at_set (λ _ z. is_empty z ≡ false) some p (λ _. h) in
      subst (λ m. Way m j (get_or (set xs i y) j Empty)) (sym n)
      (at_set (Way (length xs)) (λ h. kept (spot (length xs) (hash_in y % length xs) t) (way t h.0 h.1)) j (λ _ h. kept (spot (length xs) (hash_in (get_or xs j Empty) % length xs) t) (old j t h)))

  pub unlike_set : (e : K → K → Bool) (laws : IsEquivalence e) → ((j : ℕ) → j ≢ i → Alike e y (get_or xs j Empty) → ⊥) → Unlike e xs → Unlike e (set xs i y)
  unlike_set e laws apart old a b h =
      elim (cases_eq a i) [
        | inl p ↦ let n : b ≢ i = omega arith in
            apart b n (subst (λ z. Alike e y z) (get_or-set_other xs i b y Empty n) (subst (λ z. Alike e z (get_or (set xs i y) b Empty)) (ap (λ z. get_or (set xs i y) z Empty) p ∙ get_or-set_same xs i y Empty in') h.1))
        | inr n ↦ elim (cases_eq b i) [
          | inl p ↦ apart a n (alike_sym e laws (get_or xs a Empty) y (subst (λ z. Alike e (get_or xs a Empty) z) (ap (λ z. get_or (set xs i y) z Empty) p ∙ get_or-set_same xs i y Empty in') (subst (λ z. Alike e z (get_or (set xs i y) b Empty)) (get_or-set_other xs i a y Empty n) h.1)))
          | inr m ↦ old a b (h.0, subst (λ z. Alike e (get_or xs a Empty) z) (get_or-set_other xs i b y Empty m) (subst (λ z. Alike e z (get_or (set xs i y) b Empty)) (get_or-set_other xs i a y Empty n) h.1))
        ]
      ]

module _ {K : Type 0} (xs : List (Slot K)) (i : ℕ) (in' : i < length xs) where
  pub settled_deleted : Settled xs → Settled (set xs i Deleted)
  settled_deleted = settled_set xs i Deleted in' refl (λ _ f _. absurd (both_ways false refl f))

  pub unlike_deleted : (e : K → K → Bool) (laws : IsEquivalence e) → Unlike e xs → Unlike e (set xs i Deleted)
  unlike_deleted e laws = unlike_set xs i Deleted in' e laws (λ _ _ a. a)

  pub unlike_emptied : (e : K → K → Bool) (laws : IsEquivalence e) → Unlike e xs → Unlike e (set xs i Empty)
  unlike_emptied e laws = unlike_set xs i Empty in' e laws (λ _ _ a. a)

-- ---- what a search finds

module _ {K : Type 0} (e : K → K → Bool) (hash : K → ℕ) where
  pub held_none : (q : K) (xs : List (Slot K)) → ((j : ℕ) → matches e (hash q) q (get_or xs j Empty) ≡ false) → held_by e hash xs q ≡ None
  held_none q [] all = refl
  held_none q (x ∷ xs) all = ap (λ b. cond b (Some (number_in x)) (held_by e hash xs q)) (all 0) ∙ held_none q xs (λ j. all (suc j))

  pub held_here : (q : K) (xs : List (Slot K)) (i : ℕ) → matches e (hash q) q (get_or xs i Empty) ≡ true → ((j : ℕ) → j ≢ i → matches e (hash q) q (get_or xs j Empty) ≡ false) → held_by e hash xs q ≡ Some (number_in (get_or xs i Empty))
  held_here q [] i h others = absurd (both_ways false refl h)
  held_here q (x ∷ xs) zero h others = ap (λ b. cond b (Some (number_in x)) (held_by e hash xs q)) h
  held_here q (x ∷ xs) (suc i) h others =
      ap (λ b. cond b (Some (number_in x)) (held_by e hash xs q)) (others 0 (omega arith)) ∙ held_here q xs i h (λ j n. others (suc j) (λ p. n (omega arith)))

  pub held_set : (q : K) (xs : List (Slot K)) (i : ℕ) (y : Slot K) → matches e (hash q) q y ≡ false → matches e (hash q) q (get_or xs i Empty) ≡ false → held_by e hash (set xs i y) q ≡ held_by e hash xs q
  held_set q [] i y h g = refl
  held_set q (x ∷ xs) zero y h g = ap (λ b. cond b (Some (number_in y)) (held_by e hash xs q)) h ∙ sym (ap (λ b. cond b (Some (number_in x)) (held_by e hash xs q)) g)
  held_set q (x ∷ xs) (suc i) y h g = ap (λ z. cond (matches e (hash q) q x) (Some (number_in x)) z) (held_set q xs i y h g)

  -- only one slot holds a key
  pub only : (laws : IsEquivalence e) (q : K) (xs : List (Slot K)) (i : ℕ) → Unlike e xs → matches e (hash q) q (get_or xs i Empty) ≡ true → (j : ℕ) → j ≢ i → matches e (hash q) q (get_or xs j Empty) ≡ false
  only laws q xs i unlike h j n =
      elim (cases_Bool (matches e (hash q) q (get_or xs j Empty))) [
        | inr f ↦ f
        | inl m ↦ elim (cases_order i j) [
          | inl p ↦ absurd (n (sym p))
          | inr o ↦ elim o [
            | inl l ↦ absurd (unlike i j (l, alike (get_or xs i Empty) (get_or xs j Empty) h m))
            | inr l ↦ absurd (unlike j i (l, alike (get_or xs j Empty) (get_or xs i Empty) m h))
          ]
        ]
      ]
    where
      alike : (u v : Slot K) → matches e (hash q) q u ≡ true → matches e (hash q) q v ≡ true → Alike e u v
      alike Empty v a b = both_ways false refl a
      alike Deleted v a b = both_ways false refl a
      alike (Full k g o) Empty a b = both_ways false refl b
      alike (Full k g o) Deleted a b = both_ways false refl b
      alike (Full k g o) (Full l m p) a b =
          let a' = and_parts (eqb (hash q) g) (e q k) a in
          let b' = and_parts (eqb (hash q) m) (e q l) b in
          (sym (eqb-true (hash q) g a'.0) ∙ eqb-true (hash q) m b'.0, sym (laws.congr q k l a'.1) ∙ b'.1)

  -- a slot that holds k's key holds none that is not the same
  other_key : (laws : IsEquivalence e) (k q : K) (x : Slot K) → matches e (hash k) k x ≡ true → e q k ≡ false → matches e (hash q) q x ≡ false
  other_key laws k q Empty h f = refl
  other_key laws k q Deleted h f = refl
  other_key laws k q (Full l g n) h f =
      and_right (eqb (hash q) g) (e q l) (laws.symm q l ∙ sym (laws.congr k l q (and_parts (eqb (hash k) g) (e k l) h).1) ∙ laws.symm k q ∙ f)

  module _ (laws : IsEquivalence e) (hashes : (x y : K) → e x y ≡ true → hash x ≡ hash y) where
    -- keys that are the same are in the same slots
    same_slots : (k q : K) (x : Slot K) → e q k ≡ true → matches e (hash q) q x ≡ matches e (hash k) k x
    same_slots k q Empty t = refl
    same_slots k q Deleted t = refl
    same_slots k q (Full l g n) t = ap₂ (λ u v. eqb u g && v) (hashes q k t) (laws.congr q k l t)

    same_held : (k q : K) (xs : List (Slot K)) → e q k ≡ true → held_by e hash xs q ≡ held_by e hash xs k
    same_held k q [] t = refl
    same_held k q (x ∷ xs) t = ap₂ (λ b z. cond b (Some (number_in x)) z) (same_slots k q x t) (same_held k q xs t)

    full_match : (k : K) (v : ℕ) → matches e (hash k) k (Full k (hash k) v) ≡ true
    full_match k v = and_from (eqb (hash k) (hash k)) (e k k) (eq-eqb (hash k) (hash k) refl) (laws.refl k)

    pub held_put : (k : K) (v : ℕ) (xs : List (Slot K)) (i : ℕ) → i < length xs → ((j : ℕ) → j ≢ i → matches e (hash k) k (get_or xs j Empty) ≡ false) → ((q : K) → e q k ≡ false → matches e (hash q) q (get_or xs i Empty) ≡ false)
        → (q : K) → held_by e hash (set xs i (Full k (hash k) v)) q ≡ cond (e q k) (Some v) (held_by e hash xs q)
    held_put k v xs i l others old q =
        let y : Slot K = Full k (hash k) v in
        elim (cases_Bool (e q k)) [
          | inl t ↦ same_held k q (set xs i y) t
              ∙ held_here k (set xs i y) i (subst (λ z. matches e (hash k) k z ≡ true) (sym (get_or-set_same xs i y Empty l)) (full_match k v)) (λ j n. subst (λ z. matches e (hash k) k z ≡ false) (sym (get_or-set_other xs i j y Empty n)) (others j n))
              ∙ ap (λ z. Some (number_in z)) (get_or-set_same xs i y Empty l)
              ∙ sym (cond-true (e q k) (Some v) (held_by e hash xs q) t)
          | inr f ↦ held_set q xs i y (and_right (eqb (hash q) (hash k)) (e q k) f) (old q f) ∙ sym (cond-false (e q k) (Some v) (held_by e hash xs q) f)
        ]

    pub held_drop : (k : K) (xs : List (Slot K)) (i : ℕ) → i < length xs → ((j : ℕ) → j ≢ i → matches e (hash k) k (get_or xs j Empty) ≡ false) → ((q : K) → e q k ≡ false → matches e (hash q) q (get_or xs i Empty) ≡ false)
        → (q : K) → held_by e hash (set xs i Deleted) q ≡ cond (e q k) None (held_by e hash xs q)
    held_drop k xs i l others old q =
        elim (cases_Bool (e q k)) [
          | inl t ↦ same_held k q (set xs i Deleted) t
              ∙ held_none k (set xs i Deleted) (λ j. at_set xs i Deleted l (λ _ z. matches e (hash k) k z ≡ false) refl j (others j))
              ∙ sym (cond-true (e q k) None (held_by e hash xs q) t)
          | inr f ↦ held_set q xs i Deleted refl (old q f) ∙ sym (cond-false (e q k) None (held_by e hash xs q) f)
        ]

    pub held_same : (k : K) (xs : List (Slot K)) → ((j : ℕ) → matches e (hash k) k (get_or xs j Empty) ≡ false) → (q : K) → held_by e hash xs q ≡ cond (e q k) None (held_by e hash xs q)
    held_same k xs none q =
        elim (cases_Bool (e q k)) [
          | inl t ↦ same_held k q xs t ∙ held_none k xs none ∙ sym (cond-true (e q k) None (held_by e hash xs q) t)
          | inr f ↦ sym (cond-false (e q k) None (held_by e hash xs q) f)
        ]

    -- a slot that holds k's key holds it after a write of the same key
    pub settled_again : (k : K) (h v : ℕ) (xs : List (Slot K)) (i : ℕ) → h ≡ hash k → i < length xs → matches e (hash k) k (get_or xs i Empty) ≡ true → Settled xs → Settled (set xs i (Full k h v))
    settled_again k h v xs i is l m old =
        let same = matches_hash e (hash k) k (get_or xs i Empty) m ∙ sym is in
        settled_set xs i (Full k h v) l refl
        (λ t _ w. subst (λ z. is_empty (get_or xs (spot (length xs) (z % length xs) t) Empty) ≡ false) same (old i t (matches_full e (hash k) k (get_or xs i Empty) m, subst (λ z. t < steps (length xs) (z % length xs) i) (sym same) w))) old

    pub settled_new : (k : K) (h v : ℕ) (xs : List (Slot K)) (i : ℕ) → i < length xs → ((t : ℕ) → t < steps (length xs) (h % length xs) i → is_full (get_or xs (spot (length xs) (h % length xs) t) Empty) ≡ true) → Settled xs → Settled (set xs i (Full k h v))
    settled_new k h v xs i l way old = settled_set xs i (Full k h v) l refl (λ t _ w. full_unempty (get_or xs (spot (length xs) (h % length xs) t) Empty) (way t w)) old

    pub unlike_new : (k : K) (h v : ℕ) (xs : List (Slot K)) (i : ℕ) → h ≡ hash k → i < length xs → ((j : ℕ) → j ≢ i → matches e (hash k) k (get_or xs j Empty) ≡ false) → Unlike e xs → Unlike e (set xs i (Full k h v))
    unlike_new k h v xs i is l others old = unlike_set xs i (Full k h v) l e laws (λ j n a. both_ways (matches e (hash k) k (get_or xs j Empty)) (others j n) (met (get_or xs j Empty) a)) old
      where
        met : (x : Slot K) → Alike e (Full k h v) x → matches e (hash k) k x ≡ true
        met Empty a = absurd a
        met Deleted a = absurd a
        met (Full l g n) a = and_from (eqb (hash k) g) (e k l) (eq-eqb (hash k) g (sym is ∙ a.0)) a.1

    module _ (k : K) (h v n : ℕ) (xs : List (Slot K)) (i : ℕ) (is : h ≡ hash k) (in' : i < length xs) where
      pub put_again : Unlike e xs → matches e (hash k) k (get_or xs i Empty) ≡ true → hashed e hash n (set xs i (Full k h v)) ≡ put e (hashed e hash n xs) k v
      put_again unlike m =
          let others = only laws k xs i unlike m in
          same_pairs (λ q. ap (λ z. held_by e hash (set xs i (Full k z v)) q) is ∙ held_put k v xs i in' others (λ p f. other_key laws k p (get_or xs i Empty) m f) q)
          (ap (λ o. cond (is_some o) n (suc n)) (sym (held_here k xs i m others)))

      pub put_new : ((j : ℕ) → matches e (hash k) k (get_or xs j Empty) ≡ false) → is_full (get_or xs i Empty) ≡ false → hashed e hash (n + 1) (set xs i (Full k h v)) ≡ put e (hashed e hash n xs) k v
      put_new none free =
          same_pairs (λ q. ap (λ z. held_by e hash (set xs i (Full k z v)) q) is ∙ held_put k v xs i in' (λ j _. none j) (λ p _. unfull e (hash p) p (get_or xs i Empty) free) q)
          (add-one n ∙ ap (λ o. cond (is_some o) n (suc n)) (sym (held_none k xs none)))

    pub drop_held : (k : K) (n : ℕ) (xs : List (Slot K)) (i : ℕ) → i < length xs → Unlike e xs → matches e (hash k) k (get_or xs i Empty) ≡ true → hashed e hash (n - 1) (set xs i Deleted) ≡ drop_pair e (hashed e hash n xs) k
    drop_held k n xs i l unlike m =
        let others = only laws k xs i unlike m in
        same_pairs (held_drop k xs i l others (λ p f. other_key laws k p (get_or xs i Empty) m f)) (sub-one n ∙ ap (λ o. cond (is_some o) (pred n) n) (sym (held_here k xs i m others)))

    pub drop_none : (k : K) (n : ℕ) (xs : List (Slot K)) → ((j : ℕ) → matches e (hash k) k (get_or xs j Empty) ≡ false) → hashed e hash n xs ≡ drop_pair e (hashed e hash n xs) k
    drop_none k n xs none =
        same_pairs (held_same k xs none) (ap (λ o. cond (is_some o) (pred n) n) (sym (held_none k xs none)))

-- a clone of an empty slot is empty
pub only_empty : {K : Type 0} (IsClone : Slot K → Type 0) → (IsClone Deleted → ⊥) → ((k : K) (h n : ℕ) → IsClone (Full k h n) → ⊥) → (y : Slot K) → IsClone y → y ≡ Empty
only_empty IsClone deleted full Empty is = refl
only_empty IsClone deleted full Deleted is = absurd (deleted is)
only_empty IsClone deleted full (Full k h n) is = absurd (full k h n is)

-- ---- slots of which none is full

module _ {K : Type 0} (xs : List (Slot K)) where
  pub hashed_unfull : ((j : ℕ) → is_full (get_or xs j Empty) ≡ false) → (e : K → K → Bool) (hash : K → ℕ) → hashed e hash 0 xs ≡ no_pairs
  hashed_unfull none e hash = same_pairs (λ q. held_none e hash q xs (λ j. unfull e (hash q) q (get_or xs j Empty) (none j))) refl

  pub unfull_taken : taken xs ≡ 0 → (j : ℕ) → is_full (get_or xs j Empty) ≡ false
  unfull_taken z j = elim (cases_Bool (is_full (get_or xs j Empty))) [ inr f ↦ f | inl t ↦ let r = taken_some xs j t in absurd (omega arith) ]

  module _ (n : ℕ) (is : xs ≡ replicate n Empty) where
    all_empty : (j : ℕ) → get_or xs j Empty ≡ Empty
    all_empty j = ap (λ ys. get_or ys j Empty) is ∙ by n j
      where
        by : (m i : ℕ) → get_or {A = Slot K} (replicate m Empty) i Empty ≡ Empty
        by zero i = refl
        by (suc m) zero = refl
        by (suc m) (suc i) = by m i

    pub unfull_filled : (j : ℕ) → is_full (get_or xs j Empty) ≡ false
    unfull_filled j = ap is_full (all_empty j)

    pub settled_filled : Settled xs
    settled_filled j t h = absurd (both_ways (is_full (get_or xs j Empty)) (unfull_filled j) h.0)

    pub unlike_filled : (e : K → K → Bool) → Unlike e xs
    unlike_filled e i j h = subst (λ z. Alike e z (get_or xs j Empty) → ⊥) (sym (all_empty i)) (λ a. a) h.1
