-- Which pairs may move into a hole, and what a move and the end of all moves keep of a hashed store's facts.
use Rattle.std.proofs.Common.{◌≡◌, ℕ, zero, suc, ◌+◌, ◌%◌, ◌<◌, ◌≤◌, Bool, true, false, cond, ◌≢◌, List, [], ◌∷◌, length, get_or, set, Some, sym, refl, ap, ◌∙◌, subst, ap₂, inl, inr, le_of_suc-le-suc, not-suc-le-zero, add-zero, mod-lt, zero-add, arith}
use Rattle.std.specs.Cmp.{IsEquivalence}
use Rattle.std.specs.List.{swap}
use Rattle.std.proofs.lemmas.List.{get_or_default, get_or-set_same, get_or-set_other, length-set}
use Rattle.std.proofs.lemmas.Bool.{both_ways, cases_eq, cases_Bool, cases_order}
use Rattle.hash_store.specs.declared.slot.Slot.{Slot}
use Rattle.hash_store.specs.declared.slot.Slot.TheVariants.{Empty, Deleted, Full}
use Rattle.hash_store.specs.Slots.{is_empty, is_full, matches, number_in, hash_in, held_by, taken, spot, steps, Settled, Alike, Unlike, Unpassed, Nearer, hashed}
use Rattle.stores.proofs.Rooms.{same_pairs}
use Rattle.hash_store.proofs.Ring.{steps_below, spot_steps, steps_spot, spot_spot, steps_past, steps_parts}
use Rattle.hash_store.proofs.Slotted.{full_within, empty_unfull, full_unempty, unfull}
use Rattle.hash_store.proofs.Kept.{alike_sym, at_set, settled_set, settled_deleted, unlike_set, unlike_deleted, taken_less, taken_more, held_here, held_set, only}

-- each pair whose way leads past the hole is at least so many places behind it
abbrev pub Waits : {K : Type 0} → List (Slot K) → ℕ → ℕ → Type 0
Waits xs hole step = (j t : ℕ) → (is_full (get_or xs j Empty) ≡ true) × (t < steps (length xs) (hash_in (get_or xs j Empty) % length xs) j) × (spot (length xs) (hash_in (get_or xs j Empty) % length xs) t ≡ hole) → step ≤ steps (length xs) hole j

module _ {K : Type 0} (xs : List (Slot K)) (hole : ℕ) (in' : hole < length xs) where
  home_in : (j : ℕ) → hash_in (get_or xs j Empty) % length xs < length xs
  home_in j = let some : 0 < length xs = omega arith in mod-lt (hash_in (get_or xs j Empty)) some

  module _ (step at : ℕ) (is : at ≡ spot (length xs) hole step) (waits : Waits xs hole step) where
    there : (j : ℕ) → j < length xs → step ≡ steps (length xs) hole j → at ≡ j
    there j l e = is ∙ ap (spot (length xs) hole) e ∙ spot_steps (length xs) hole in' j l

    pub stopped_unpassed : is_empty (get_or xs at Empty) ≡ true → Settled xs → Unpassed xs hole
    stopped_unpassed empty settled j t p =
        let home = hash_in (get_or xs j Empty) % length xs in
        let l = full_within xs j p.0 in
        let past = steps_past (length xs) home (home_in j) hole j t l p.1 p.2 in
        let far = steps_below (length xs) home (home_in j) j l in
        let w = waits j t p in
        elim (cases_eq step (steps (length xs) hole j)) [
          | inl e ↦ both_ways (is_full (get_or xs j Empty)) (empty_unfull (get_or xs j Empty) (subst (λ z. is_empty (get_or xs z Empty) ≡ true) (there j l e) empty)) p.0
          | inr e ↦
              let before : t + step < steps (length xs) home j = omega arith in
              let inside : t + step < length xs = omega arith in
              let here : spot (length xs) home (t + step) ≡ at = sym (spot_spot (length xs) home (home_in j) t step inside) ∙ ap (λ z. spot (length xs) z step) p.2 ∙ sym is in
              both_ways (is_empty (get_or xs at Empty)) (subst (λ z. is_empty (get_or xs z Empty) ≡ false) here (settled j (t + step) (p.0, before))) empty
        ]

    pub waits_more : (is_full (get_or xs at Empty) ≡ true → steps (length xs) (hash_in (get_or xs at Empty) % length xs) at < step) → Waits xs hole (step + 1)
    waits_more late j t p =
        let home = hash_in (get_or xs j Empty) % length xs in
        let l = full_within xs j p.0 in
        let past = steps_past (length xs) home (home_in j) hole j t l p.1 p.2 in
        let w = waits j t p in
        elim (cases_eq step (steps (length xs) hole j)) [
          | inl e ↦ let near = subst (λ z. is_full (get_or xs z Empty) ≡ true → steps (length xs) (hash_in (get_or xs z Empty) % length xs) z < step) (there j l e) late p.0 in absurd (omega arith)
          | inr e ↦ omega arith
        ]

    pub nearer : 1 ≤ step → step < length xs → at < length xs → step ≤ steps (length xs) (hash_in (get_or xs at Empty) % length xs) at → Nearer xs hole at
    nearer some l a h =
        let home = hash_in (get_or xs at Empty) % length xs in
        let far : steps (length xs) hole at ≡ step = ap (steps (length xs) hole) is ∙ steps_spot (length xs) hole in' step l in
        let parts = steps_parts (length xs) home (home_in at) hole at in' a (omega arith) in
        omega arith

-- ---- a pair moves from one slot to another

-- how far all pairs are from their homes, together, from slot b on
abbrev weight : {K : Type 0} → ℕ → ℕ → Slot K → ℕ
weight n i x = cond (is_full x) (steps n (hash_in x % n) i) 0

abbrev pub strain : {K : Type 0} → ℕ → ℕ → List (Slot K) → ℕ
strain n b [] = 0
strain n b (x ∷ xs) = weight n b x + strain n (suc b) xs

strain_set : {K : Type 0} (n b : ℕ) (xs : List (Slot K)) (i : ℕ) (y : Slot K) → i < length xs → strain n b (set xs i y) + weight n (b + i) (get_or xs i Empty) ≡ strain n b xs + weight n (b + i) y
strain_set n b [] i y h = absurd (not-suc-le-zero h)
strain_set n b (x ∷ xs) zero y h = subst (λ z. weight n b y + strain n (suc b) xs + weight n z x ≡ weight n b x + strain n (suc b) xs + weight n z y) (sym (add-zero b)) (omega arith)
strain_set n b (x ∷ xs) (suc i) y h =
    let r = strain_set n (suc b) xs i y (le_of_suc-le-suc h) in
    let z : suc b + i ≡ b + suc i = omega arith in
    let s = subst (λ m. strain n (suc b) (set xs i y) + weight n m (get_or xs i Empty) ≡ strain n (suc b) xs + weight n m y) z r in
    omega arith

module _ {K : Type 0} (xs ys : List (Slot K)) (at hole : ℕ) (at_in : at < length xs) (hole_in : hole < length xs) (is : is_full (get_or xs at Empty) ≡ true) (free : get_or xs hole Empty ≡ Deleted) (swapped : ys ≡ swap xs at hole) where
  abbrev x : Slot K
  x = get_or xs at Empty

  abbrev left : List (Slot K)
  left = set xs at Deleted

  abbrev moved : List (Slot K)
  moved = set left hole x

  is_moved : ys ≡ moved
  is_moved = swapped ∙ by xs refl
    where
      by : (zs : List (Slot K)) → zs ≡ xs → swap zs at hole ≡ moved
      by [] z = absurd (let n = ap length z in omega arith)
      by (d ∷ zs) z =
          ap₂ (λ u v. set (set (d ∷ zs) at u) hole v) (get_or_default (d ∷ zs) hole d Empty (let n = ap length z in omega arith) ∙ ap (λ l. get_or l hole Empty) z ∙ free) (get_or_default (d ∷ zs) at d Empty (let n = ap length z in omega arith) ∙ ap (λ l. get_or l at Empty) z)
          ∙ ap (λ l. set (set l at Deleted) hole x) z

  hole_left : hole < length left
  hole_left = let l = length-set xs at Deleted in omega arith

  free_left : is_full (get_or left hole Empty) ≡ false
  free_left = at_set xs at Deleted at_in (λ _ z. is_full z ≡ false) refl hole (λ _. ap is_full free)

  pub moved_length : length ys ≡ length xs
  moved_length = ap length is_moved ∙ length-set left hole x ∙ length-set xs at Deleted

  pub moved_taken : taken ys ≡ taken xs
  moved_taken =
      let a = taken_less xs at Deleted at_in is refl in
      let b = taken_more left hole x hole_left free_left is in
      let c = ap taken is_moved in
      omega arith

  pub moved_settled : Nearer xs hole at → Settled xs → Settled ys
  moved_settled near settled =
      subst Settled (sym is_moved)
      (settled_set left hole x hole_left (full_unempty x is)
      (λ t _ h. subst (λ m. t < steps m (hash_in x % m) hole → is_empty (get_or left (spot m (hash_in x % m) t) Empty) ≡ false) (sym (length-set xs at Deleted)) (way t) h) (settled_deleted xs at at_in settled))
    where
      way : (t : ℕ) → t < steps (length xs) (hash_in x % length xs) hole → is_empty (get_or left (spot (length xs) (hash_in x % length xs) t) Empty) ≡ false
      way t h = at_set xs at Deleted at_in (λ _ z. is_empty z ≡ false) refl (spot (length xs) (hash_in x % length xs) t) (λ _. settled at t (is, omega arith))

  -- the slot that the pair came from is the next hole
  pub moved_free : Nearer xs hole at → get_or ys at Empty ≡ Deleted
  moved_free near =
      elim (cases_eq at hole) [
        | inl p ↦ let q = ap (steps (length xs) (hash_in (get_or xs at Empty) % length xs)) p in absurd (omega arith)
        | inr n ↦ ap (λ l. get_or l at Empty) is_moved ∙ get_or-set_other left hole at x Empty n ∙ get_or-set_same xs at Deleted Empty at_in
      ]

  pub moved_strain : Nearer xs hole at → strain (length ys) 0 ys < strain (length xs) 0 xs
  moved_strain near =
      subst (λ m. strain m 0 ys < strain (length xs) 0 xs) (sym moved_length)
      (subst (λ l. strain (length xs) 0 l < strain (length xs) 0 xs) (sym is_moved)
      (let n = length xs in
      let a = strain_set n 0 xs at Deleted at_in in
      let b = strain_set n 0 left hole x hole_left in
      let from : weight n (0 + at) x ≡ steps n (hash_in x % n) at = ap (λ c. cond c (steps n (hash_in x % n) (0 + at)) 0) is ∙ ap (steps n (hash_in x % n)) (zero-add at) in
      let to : weight n (0 + hole) x ≡ steps n (hash_in x % n) hole = ap (λ c. cond c (steps n (hash_in x % n) (0 + hole)) 0) is ∙ ap (steps n (hash_in x % n)) (zero-add hole) in
      let none : weight n (0 + hole) (get_or left hole Empty) ≡ 0 = ap (λ c. cond c (steps n (hash_in (get_or left hole Empty) % n) (0 + hole)) 0) free_left in
      omega arith))

  module _ (e : K → K → Bool) (laws : IsEquivalence e) (unlike : Unlike e xs) where
    pub moved_unlike : Unlike e ys
    moved_unlike =
        subst (Unlike e) (sym is_moved)
        (unlike_set left hole x hole_left e laws (λ j _. at_set xs at Deleted at_in (λ _ z. Alike e x z → ⊥) (gone x) j (λ n a. old j n a)) (unlike_deleted xs at at_in e laws unlike))
      where
        gone : (z : Slot K) → Alike e z Deleted → ⊥
        gone Empty a = a
        gone Deleted a = a
        gone (Full k g n) a = a

        old : (j : ℕ) → j ≢ at → Alike e x (get_or xs j Empty) → ⊥
        old j n a =
            elim (cases_order at j) [
              | inl p ↦ n (sym p)
              | inr o ↦ elim o [
                | inl l ↦ unlike at j (l, a)
                | inr l ↦ unlike j at (l, alike_sym e laws x (get_or xs j Empty) a)
              ]
            ]

    moved_held : (hash : K → ℕ) (q : K) → held_by e hash moved q ≡ held_by e hash xs q
    moved_held hash q =
        elim (cases_Bool (matches e (hash q) q x)) [
          | inl m ↦
              let others = only e hash laws q xs at unlike m in
              let here = get_or-set_same left hole x Empty hole_left in
              held_here e hash q moved hole (ap (matches e (hash q) q) here ∙ m)
              (λ j n. ap (matches e (hash q) q) (get_or-set_other left hole j x Empty n) ∙ at_set xs at Deleted at_in (λ _ z. matches e (hash q) q z ≡ false) refl j (others j))
              ∙ ap (λ z. Some (number_in z)) here ∙ sym (held_here e hash q xs at m others)
          | inr f ↦ held_set e hash q left hole x f (unfull e (hash q) q (get_or left hole Empty) free_left) ∙ held_set e hash q xs at Deleted refl f
        ]

    pub moved_hashed : (hash : K → ℕ) (n : ℕ) → hashed e hash n ys ≡ hashed e hash n xs
    moved_hashed hash n = same_pairs (λ q. ap (λ l. held_by e hash l q) is_moved ∙ moved_held hash q) refl

-- ---- the last hole is emptied

module _ {K : Type 0} (xs : List (Slot K)) (hole : ℕ) (in' : hole < length xs) where
  pub emptied_settled : Unpassed xs hole → Settled xs → Settled (set xs hole Empty)
  emptied_settled unpassed settled j t =
      let Way : ℕ → Slot K → Type 0 = λ m z. (is_full z ≡ true) × (t < steps m (hash_in z % m) j) → is_empty (get_or (set xs hole Empty) (spot m (hash_in z % m) t) Empty) ≡ false in
      subst (λ m. Way m (get_or (set xs hole Empty) j Empty)) (sym (length-set xs hole Empty))
      (at_set xs hole Empty in' (λ _ z. Way (length xs) z) (λ h. absurd (both_ways false refl h.0)) j
      (λ _ h. let p = spot (length xs) (hash_in (get_or xs j Empty) % length xs) t in
      elim (cases_eq p hole) [
        | inl e ↦ absurd (unpassed j t (h.0, h.1, e))
        | inr n ↦ ap is_empty (get_or-set_other xs hole p Empty Empty n) ∙ settled j t h
      ]))

  pub emptied_hashed : (e : K → K → Bool) (hash : K → ℕ) (n : ℕ) → is_full (get_or xs hole Empty) ≡ false → hashed e hash n (set xs hole Empty) ≡ hashed e hash n xs
  emptied_hashed e hash n free = same_pairs (λ q. held_set e hash q xs hole Empty refl (unfull e (hash q) q (get_or xs hole Empty) free)) refl
