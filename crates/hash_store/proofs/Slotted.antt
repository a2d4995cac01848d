-- What a write to a slot does to the pairs that the slots stand for.
use Rattle.std.proofs.Common.{◌≡◌, ℕ, zero, suc, ◌%◌, ◌<◌, Bool, true, false, eqb, List, [], ◌∷◌, length, get_or, sym, refl, ap, ◌∙◌, subst, inl, inr, arith}
use Rattle.std.proofs.lemmas.Bool.{both_ways, cases_eq, cases_lt, cases_Bool, and_parts, eqb-true}
use Rattle.hash_store.specs.declared.slot.Slot.{Slot}
use Rattle.hash_store.specs.declared.slot.Slot.TheVariants.{Empty, Deleted, Full}
use Rattle.hash_store.specs.Slots.{is_empty, is_full, matches, hash_in, spot, steps, Settled}
use Rattle.hash_store.proofs.Ring.{steps_below, spot_steps}

-- a place past the end reads as an empty slot
pub full_within : {K : Type 0} (xs : List (Slot K)) (j : ℕ) → is_full (get_or xs j Empty) ≡ true → j < length xs
full_within [] j h = absurd (both_ways false refl h)
full_within (x ∷ xs) zero h = omega arith
full_within (x ∷ xs) (suc j) h = let r = full_within xs j h in omega arith

pub empty_unfull : {K : Type 0} (x : Slot K) → is_empty x ≡ true → is_full x ≡ false
empty_unfull Empty y = refl
empty_unfull Deleted y = refl
empty_unfull (Full k m n) y = sym y

pub full_unempty : {K : Type 0} (x : Slot K) → is_full x ≡ true → is_empty x ≡ false
full_unempty Empty f = sym f
full_unempty Deleted f = refl
full_unempty (Full k m n) f = refl

-- a search that has gone all the way round has met every slot
pub went_round : {K : Type 0} (xs : List (Slot K)) (P : Slot K → Type 0) (home : ℕ) → home < length xs → ((s : ℕ) → s < length xs → P (get_or xs (spot (length xs) home s) Empty)) → (j : ℕ) → j < length xs → P (get_or xs j Empty)
went_round xs P home l all j h = subst (λ z. P (get_or xs z Empty)) (spot_steps (length xs) home l j h) (all (steps (length xs) home j) (steps_below (length xs) home l j h))

module _ {K : Type 0} (e : K → K → Bool) where
  pub matches_full : (g : ℕ) (q : K) (x : Slot K) → matches e g q x ≡ true → is_full x ≡ true
  matches_full g q Empty h = h
  matches_full g q Deleted h = h
  matches_full g q (Full k m n) h = refl

  pub matches_hash : (g : ℕ) (q : K) (x : Slot K) → matches e g q x ≡ true → hash_in x ≡ g
  matches_hash g q Empty h = absurd (both_ways false refl h)
  matches_hash g q Deleted h = absurd (both_ways false refl h)
  matches_hash g q (Full k m n) h = sym (eqb-true g m (and_parts (eqb g m) (e q k) h).0)

  pub unfull : (g : ℕ) (q : K) (x : Slot K) → is_full x ≡ false → matches e g q x ≡ false
  unfull g q Empty h = refl
  unfull g q Deleted h = refl
  unfull g q (Full k m n) h = absurd (both_ways true h refl)

  -- a pair that a search has not met before it stopped at an empty slot is not there
  pub stopped : (xs : List (Slot K)) (g : ℕ) (q : K) (t : ℕ) → g % length xs < length xs → t < length xs → Settled xs
      → ((s : ℕ) → s < t → matches e g q (get_or xs (spot (length xs) (g % length xs) s) Empty) ≡ false)
      → is_empty (get_or xs (spot (length xs) (g % length xs) t) Empty) ≡ true
      → (j : ℕ) → matches e g q (get_or xs j Empty) ≡ false
  stopped xs g q t home l settled before here j =
      elim (cases_Bool (matches e g q (get_or xs j Empty))) [
        | inr f ↦ f
        | inl m ↦
            let x = get_or xs j Empty in
            let f = matches_full g q x m in
            let inside = full_within xs j f in
            let h = matches_hash g q x m in
            let at = spot_steps (length xs) (g % length xs) home j inside in
            elim (cases_lt t (steps (length xs) (g % length xs) j)) [
              | inl p ↦ absurd (both_ways (is_empty (get_or xs (spot (length xs) (g % length xs) t) Empty))
                  (subst (λ z. is_empty (get_or xs (spot (length xs) (z % length xs) t) Empty) ≡ false) h (settled j t (f, subst (λ z. t < steps (length xs) (z % length xs) j) (sym h) p))) here)
              | inr p ↦ elim (cases_eq t (steps (length xs) (g % length xs) j)) [
                | inl o ↦ absurd (both_ways (is_full (get_or xs j Empty)) (empty_unfull (get_or xs j Empty) (subst (λ z. is_empty (get_or xs z Empty) ≡ true) (ap (spot (length xs) (g % length xs)) o ∙ at) here)) f)
                | inr o ↦ subst (λ z. matches e g q (get_or xs z Empty) ≡ false) at (before (steps (length xs) (g % length xs) j) (omega arith))
              ]
            ]
      ]

  pub past_end : (xs : List (Slot K)) (g : ℕ) (q : K) → ((j : ℕ) → j < length xs → matches e g q (get_or xs j Empty) ≡ false) → (j : ℕ) → matches e g q (get_or xs j Empty) ≡ false
  past_end xs g q all j =
      elim (cases_Bool (matches e g q (get_or xs j Empty))) [ inr f ↦ f | inl m ↦ all j (full_within xs j (matches_full g q (get_or xs j Empty) m)) ]
