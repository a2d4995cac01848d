-- What an insertion or a removal among the first n entries does to the pairs that they stand for.
use Rattle.std.proofs.Common.{◌≡◌, ℕ, suc, pred, ◌+◌, ◌-◌, ◌<◌, ◌≤◌, Bool, false, cond, not, ◌&&◌, eqb, List, ◌++◌, length, get_or, take, drop, set, is_some, Some, None, sym, refl, ap, ap₂, ◌∙◌, subst, inl, inr, add-one, sub-one, arith}
use Rattle.std.specs.Cmp.{IsEquivalence}
use Rattle.std.specs.List.{AllPairs, copy_within, position, remove}
use Rattle.std.proofs.ByRecursion.{All-from_get_or, All-get_or}
use Rattle.std.proofs.Math.Seq.{take-set-lt, take-take}
use Rattle.std.proofs.lemmas.Bool.{cases_eq}
use Rattle.std.proofs.lemmas.List.{drop-take, take_more_set, get_or_default, get_or-set_same, get_or-set_other, get_or-take, get_or-drop, length-take-le, length-drop, length-set}
use Rattle.std.proofs.lemmas.List.Edits.{take-paste}
use Rattle.std.proofs.lemmas.List.Quantifiers.{all_pairs_push, all_pairs_remove, position-Some}
use Rattle.stores.specs.Pairs.{put, drop_pair, full}
use Rattle.stores.proofs.Rooms.{same_pairs}
use Rattle.list_store.specs.declared.entry.Entry.{Entry}
use Rattle.list_store.specs.Found.{found, Apart, listed}
use Rattle.list_store.proofs.Entries.{Missing, Hit, position_missing, position_hit, missing_found, hit_found, found_set, found_push, found_removed, found_missing}

-- what `copy_within` leaves of the first n entries, over the one at i
kept : {X : Type 0} (n i : ℕ) (xs ys : List X) → i < n → n ≤ length xs → ys ≡ copy_within xs (i + 1) n i → take (n - 1) ys ≡ remove (take n xs) i
kept n i xs ys l h is =
    let c = n - (i + 1) in
    let long = length-drop (i + 1) xs in
    let before : n - 1 ≡ i + c = omega arith in
    let all : n ≡ suc i + c = omega arith in
    ap₂ take before is
    ∙ take-paste xs i (drop (i + 1) xs) c (omega arith) (omega arith)
    ∙ ap₂ (λ ys zs. ys ++ zs) (sym (take-take i n xs (omega arith))) (ap (λ j. take c (drop j xs)) (add-one i) ∙ sym (drop-take (suc i) c xs) ∙ ap (λ m. drop (suc i) (take m xs)) (sym all))

module _ {K : Type 0} (e : K → K → Bool) where
  module _ (laws : IsEquivalence e) (n : ℕ) (xs : List (Entry K)) (k : K) (h : n ≤ length xs) where
    unread : Entry K
    unread = record { key = k; number = 0 }

    module _ (i : ℕ) (at : Some i ≡ position (λ x. e k x.key) (take n xs)) where
      hit : Hit e (take n xs) k i
      hit = position_hit e k unread (take n xs) i at

      pub hit_within : i < n
      hit_within = let f = position-Some (λ (x : Entry K). e k x.key) (take n xs) i unread (sym at) in let long = length-take-le n xs h in omega (arith, f.0)

      pub full_hit : (capacity : ℕ) → full (listed e n xs) capacity k ≡ false
      full_hit capacity = ap (λ o. not (is_some o) && eqb n capacity) (hit_found e k unread (take n xs) i hit)

      module _ (y : Entry K) (same : y.key ≡ (get_or xs i y).key) where
        pub apart_set : Apart e xs n → Apart e (set xs i y) n
        apart_set apart a b d lt within =
            let size = length-set xs i y in
            let long = length-take-le n xs h in
            let long' = length-take-le n (set xs i y) (omega arith) in
            let key : (j : ℕ) → j < n → (get_or (take n (set xs i y)) j d).key ≡ (get_or (take n xs) j d).key = λ j l. ap (λ z. z.key) (get_or-take n (set xs i y) j d l) ∙ read j d l ∙ ap (λ z. z.key) (sym (get_or-take n xs j d l)) in
            ap₂ e (key a (omega arith)) (key b (omega arith)) ∙ apart a b d lt (omega arith)
          where
            read : (j : ℕ) (d : Entry K) → j < n → (get_or (set xs i y) j d).key ≡ (get_or xs j d).key
            read j d l =
                elim (cases_eq j i) [
                  | inl s ↦ ap (λ z. (get_or (set xs i y) z d).key) s ∙ ap (λ z. z.key) (get_or-set_same xs i y d (omega (arith, hit_within))) ∙ same ∙ ap (λ z. z.key) (get_or_default xs i y d (omega (arith, hit_within))) ∙ ap (λ z. (get_or xs z d).key) (sym s)
                  | inr o ↦ ap (λ z. z.key) (get_or-set_other xs i j y d o)
                ]

        pub put_set : listed e n (set xs i y) ≡ put e (listed e n xs) k y.number
        put_set =
            let key = same ∙ ap (λ z. z.key) (sym (get_or-take n xs i y hit_within)) in
            same_pairs (λ q. ap (λ zs. found e zs q) (take-set-lt n xs i y hit_within) ∙ found_set e laws k q y.number y (take n xs) i key refl hit)
            (ap (λ o. cond (is_some o) n (suc n)) (sym (hit_found e k unread (take n xs) i hit)))

      pub apart_removed : (ys : List (Entry K)) → ys ≡ copy_within xs (i + 1) n i → Apart e xs n → Apart e ys (n - 1)
      apart_removed ys is apart =
          subst (AllPairs (λ x y. e x.key y.key ≡ false)) (sym (kept n i xs ys hit_within h is))
          (all_pairs_remove (λ x y. e x.key y.key ≡ false) (take n xs) i (omega (arith, hit_within, length-take-le n xs h)) apart)

      pub drop_removed : (ys : List (Entry K)) → ys ≡ copy_within xs (i + 1) n i → Apart e xs n → listed e (n - 1) ys ≡ drop_pair e (listed e n xs) k
      drop_removed ys is apart =
          let long = length-take-le n xs h in
          let below = hit_within in
          let f = position-Some (λ (x : Entry K). e k x.key) (take n xs) i unread (sym at) in
          let size-behind = length-drop (suc i) (take n xs) in
          let behind : Missing e (drop (suc i) (take n xs)) k =
          All-from_get_or (λ x. e k x.key ≡ false) (drop (suc i) (take n xs)) unread
          (λ j b. ap (λ z. e k z.key) (get_or-drop (suc i) (take n xs) j unread) ∙ laws.congr k (get_or (take n xs) i unread).key (get_or (take n xs) (suc i + j) unread).key f.1 ∙ apart i (suc i + j) unread (omega arith) (omega arith)) in
          same_pairs (λ q. ap (λ zs. found e zs q) (kept n i xs ys hit_within h is) ∙ found_removed e laws k q (take n xs) i hit behind)
          (sub-one n ∙ ap (λ o. cond (is_some o) (pred n) n) (sym (hit_found e k unread (take n xs) i hit)))

      pub get_hit : (d : Entry K) → Some (get_or xs i d).number ≡ found e (take n xs) k
      get_hit d = ap (λ z. Some z.number) (sym (get_or-take n xs i d hit_within)) ∙ sym (hit_found e k d (take n xs) i hit)

    module _ (none : None ≡ position (λ x. e k x.key) (take n xs)) where
      missing : Missing e (take n xs) k
      missing = position_missing e k unread (take n xs) none

      pub get_missing : None ≡ found e (take n xs) k
      get_missing = sym (missing_found e k (take n xs) missing)

      pub full_missing : (capacity : ℕ) → full (listed e n xs) capacity k ≡ eqb n capacity
      full_missing capacity = ap (λ o. not (is_some o) && eqb n capacity) (missing_found e k (take n xs) missing)

      pub drop_missing : listed e n xs ≡ drop_pair e (listed e n xs) k
      drop_missing = same_pairs (λ q. found_missing e laws k q (take n xs) missing) (ap (λ o. cond (is_some o) (pred n) n) (sym (missing_found e k (take n xs) missing)))

      module _ (v : ℕ) (room : n < length xs) where
        abbrev pub y : Entry K
        y = record { key = k; number = v }

        pub apart_push : Apart e xs n → Apart e (set xs n y) (n + 1)
        apart_push apart =
            let long = length-take-le n xs h in
            subst (AllPairs (λ u w. e u.key w.key ≡ false)) (sym (take_more_set xs n y room))
            (all_pairs_push (λ u w. e u.key w.key ≡ false) (take n xs) y apart
            (λ j d l. laws.symm (get_or (take n xs) j d).key k ∙ All-get_or (λ x. e k x.key ≡ false) (take n xs) j d l missing))

        pub put_push : listed e (n + 1) (set xs n y) ≡ put e (listed e n xs) k v
        put_push =
            same_pairs (λ q. ap (λ zs. found e zs q) (take_more_set xs n y room) ∙ found_push e laws k q v (take n xs) missing)
            (add-one n ∙ ap (λ o. cond (is_some o) n (suc n)) (sym (missing_found e k (take n xs) missing)))
