-- Lists cut at the first element that passes a test.
use Rattle.std.proofs.Common.{◌≡◌, ℕ, suc, ◌+◌, ◌-◌, ◌<◌, ◌≤◌, Bool, true, false, not, cond, Some, None, ◌⊎◌, inl, inr, List, [], ◌∷◌, ◌++◌, length, take, drop, sym, refl, ap, ◌∙◌, add-one, arith}
use Rattle.std.specs.List.{position, position_or_len, slice_split}
use Rattle.std.specs.List as list
use Rattle.std.proofs.Math.Seq.{take-length}
use Rattle.std.proofs.lemmas.Bool.Decides.{nat_tests}
use Rattle.std.proofs.lemmas.List.{drop_all, take_rest}
use Rattle.std.proofs.lemmas.List.Recursion.{is_position_or_len}
use Rattle.model.specs.Basics.{before}
use Rattle.model.proofs.Walks.{before_short}
use Rattle.zone_text.specs.Pieces.{behind, onto_first, pieces, filled}

module _ (test : ℕ → Bool) where
  pub take_before : (bs : List ℕ) → take (length (before test bs)) bs ≡ before test bs
  take_before [] = refl
  take_before (b ∷ bs) =
      elim (test b) as (λ t. take (length (cond t [] (b ∷ before test bs))) (b ∷ bs) ≡ cond t [] (b ∷ before test bs))
      [ true ↦ refl | false ↦ ap (λ l. b ∷ l) (take_before bs) ]

  -- the separator goes too
  pub drop_before : (bs : List ℕ) → drop (suc (length (before test bs))) bs ≡ behind test bs
  drop_before [] = refl
  drop_before (b ∷ bs) =
      elim (test b) as (λ t. drop (suc (length (cond t [] (b ∷ before test bs)))) (b ∷ bs) ≡ cond t bs (behind test bs))
      [ true ↦ refl | false ↦ drop_before bs ]

  one_more : (b : ℕ) (bs : List ℕ) → length (before test (b ∷ bs)) ≡ cond (test b) 0 (1 + length (before test bs))
  one_more b bs = elim (test b) as (λ t. length (cond t [] (b ∷ before test bs)) ≡ cond t 0 (1 + length (before test bs))) [ true ↦ refl | false ↦ omega arith ]

  length_before_is : (bs : List ℕ) → length (before test bs) ≡ position_or_len test bs
  length_before_is = is_position_or_len (λ bs. length (before test bs)) test refl one_more

  -- the text cut where `position` finds a separator
  pub cut_at : (bs : List ℕ) (n : ℕ) → Some n ≡ position test bs → (take n bs ≡ before test bs) × (take (length bs - (n + 1)) (drop (n + 1) bs) ≡ behind test bs)
  cut_at bs n e =
      let at : n ≡ length (before test bs) = grind (arith, nat_tests, length_before_is bs) in
      (ap (λ k. take k bs) at ∙ take_before bs, take_rest bs (n + 1) ∙ ap (λ k. drop (k + 1) bs) at ∙ rw add-one (drop_before bs))

  pub cut_nowhere : (bs : List ℕ) → None ≡ position test bs → (bs ≡ before test bs) × ([] ≡ behind test bs)
  cut_nowhere bs e =
      let at : length bs ≡ length (before test bs) = grind (arith, nat_tests, length_before_is bs, before_short test bs) in (
        sym (take-length bs) ∙ ap (λ k. take k bs) at ∙ take_before bs,
        sym (drop_all (suc (length bs)) bs (omega arith)) ∙ ap (λ k. drop (suc k) bs) at ∙ drop_before bs,
      )

  -- the first piece of what is not empty, and the others
  pub pieces_step : (b : ℕ) (bs : List ℕ) → pieces test (b ∷ bs) ≡ before test (b ∷ bs) ∷ pieces test (behind test (b ∷ bs))
  pieces_step b [] = elim (test b) as (λ t. cond t ([] ∷ []) ((b ∷ []) ∷ []) ≡ cond t [] (b ∷ []) ∷ pieces test (cond t [] [])) [ true ↦ refl | false ↦ refl ]
  pieces_step b (d ∷ ds) =
      elim (test b) as (λ t. cond t ([] ∷ pieces test (d ∷ ds)) (onto_first b (pieces test (d ∷ ds))) ≡ cond t [] (b ∷ before test (d ∷ ds)) ∷ pieces test (cond t (d ∷ ds) (behind test (d ∷ ds))))
      [ true ↦ refl | false ↦ ap (onto_first b) (pieces_step d ds) ]

  -- the filled pieces begin at the first byte that separates nothing

  abbrev start : List ℕ → ℕ
  start bs = position_or_len (λ b. not (test b)) bs

  abbrev FirstFilled : List ℕ → List ℕ → Type 0
  FirstFilled bs rest = filled (pieces test bs) ≡ before test rest ∷ filled (pieces test (behind test rest))

  abbrev Begins : List ℕ → Type 0
  Begins bs = (start bs < length bs → FirstFilled bs (drop (start bs) bs)) × (length bs ≤ start bs → filled (pieces test bs) ≡ [])

  first_here : (b : ℕ) (bs : List ℕ) → test b ≡ false → FirstFilled (b ∷ bs) (b ∷ bs)
  first_here b bs e =
      let front : before test (b ∷ bs) ≡ b ∷ before test bs = ap (λ t. cond t [] (b ∷ before test bs)) e in
      ap filled (pieces_step b bs ∙ ap (λ p. p ∷ pieces test (behind test (b ∷ bs))) front) ∙ ap (λ p. p ∷ filled (pieces test (behind test (b ∷ bs)))) (sym front)

  begins_step : (t : Bool) (b : ℕ) (bs : List ℕ) → test b ≡ t → Begins bs → Begins (b ∷ bs)
  begins_step true b bs e h =
      let at : start (b ∷ bs) ≡ suc (start bs) = ap (λ t. cond (not (not t)) (1 + start bs) 0) e ∙ omega arith in
      let skipped : pieces test (b ∷ bs) ≡ [] ∷ pieces test bs = ap (λ t. cond t ([] ∷ pieces test bs) (onto_first b (pieces test bs))) e in (
        λ l. ap filled skipped ∙ h.0 (omega arith) ∙ sym (λ i. before test (drop (at i) (b ∷ bs)) ∷ filled (pieces test (behind test (drop (at i) (b ∷ bs))))),
        λ l. ap filled skipped ∙ h.1 (omega arith),
      )
  begins_step false b bs e h =
      let at : start (b ∷ bs) ≡ 0 = ap (λ t. cond (not (not t)) (1 + start bs) 0) e in (
        λ l. first_here b bs e ∙ sym (λ i. before test (drop (at i) (b ∷ bs)) ∷ filled (pieces test (behind test (drop (at i) (b ∷ bs))))),
        λ l. absurd (omega arith),
      )

  begins : (bs : List ℕ) → Begins bs
  begins [] = (λ l. absurd (omega arith), λ l. refl)
  begins (b ∷ bs) = begins_step (test b) b bs refl (begins bs)

  pub first_filled : (bs : List ℕ) (n : ℕ) → Some n ≡ position (λ b. not (test b)) bs → FirstFilled bs (take (length bs - n) (drop n bs))
  first_filled bs n e =
      let at : (n ≡ start bs) × (start bs < length bs) = (grind (arith, nat_tests), grind (arith, nat_tests)) in
      (begins bs).0 at.1 ∙ sym (λ i. before test (rest at.0 i) ∷ filled (pieces test (behind test (rest at.0 i))))
    where
      rest : n ≡ start bs → take (length bs - n) (drop n bs) ≡ drop (start bs) bs
      rest at = take_rest bs n ∙ ap (λ k. drop k bs) at

  pub none_filled : (bs : List ℕ) → None ≡ position (λ b. not (test b)) bs → filled (pieces test bs) ≡ []
  none_filled bs e = (begins bs).1 (grind (arith, nat_tests))

-- std's `split` has one more piece behind the last separator, which is empty if that ends the text
module _ (test : ℕ → Bool) where
  abbrev IsSplit : List (List ℕ) → List (List ℕ) → Type 0
  IsSplit split ps = (split ≡ ps) ⊎ (split ≡ ps ++ [] ∷ [])

  same_onto : (b : ℕ) (ps : List (List ℕ)) → list.onto_first b ps ≡ onto_first b ps
  same_onto b [] = refl
  same_onto b (p ∷ ps) = refl

  split_step : (t : Bool) (b : ℕ) (split ps : List (List ℕ)) → IsSplit split ps → IsSplit (cond t ([] ∷ split) (list.onto_first b split)) (cond t ([] ∷ ps) (onto_first b ps))
  split_step true b split ps (inl e) = inl (ap (λ l. [] ∷ l) e)
  split_step true b split ps (inr e) = inr (ap (λ l. [] ∷ l) e)
  split_step false b split ps (inl e) = inl (ap (list.onto_first b) e ∙ same_onto b ps)
  split_step false b split [] (inr e) = inl (ap (list.onto_first b) e)
  split_step false b split (p ∷ ps) (inr e) = inr (ap (list.onto_first b) e)

  pub split_is : (bs : List ℕ) → (slice_split test bs ≡ pieces test bs) ⊎ (slice_split test bs ≡ pieces test bs ++ [] ∷ [])
  split_is [] = inr refl
  split_is (b ∷ bs) = split_step (test b) b (slice_split test bs) (pieces test bs) (split_is bs)
