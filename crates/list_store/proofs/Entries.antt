-- What `found` answers, and what a write, a push or a removal of an entry does to it.
use Rattle.std.proofs.Common.{◌≡◌, ℕ, zero, suc, ◌<◌, Bool, true, false, cond, List, [], ◌∷◌, ◌++◌, length, get_or, drop, set, Some, None, sym, refl, ap, ◌∙◌, le_of_suc-le-suc, not-suc-le-zero, arith}
use Rattle.std.specs.Cmp.{IsEquivalence}
use Rattle.std.specs.List.{AllByRecursion, position, remove}
use Rattle.std.proofs.ByRecursion.{All-weaker, All-from_get_or}
use Rattle.std.proofs.lemmas.List.Quantifiers.{position-Some}
use Rattle.std.proofs.lemmas.List.Sums.{fails_before_first}
use Rattle.std.proofs.lemmas.Grind.{common_steps}
use Rattle.list_store.specs.declared.entry.Entry.{Entry}
use Rattle.list_store.specs.Found.{found}

again : {X : Type 0} (b : Bool) (u w l : X) → cond b u l ≡ cond b u (cond b w l)
again true u w l = refl
again false u w l = refl

past : {X : Type 0} (a b : Bool) (u w l : X) → (b ≡ true → a ≡ false) → cond a u (cond b w l) ≡ cond b w (cond a u l)
past a true u w l h = ap (λ z. cond z u w) (h refl)
past true false u w l h = refl
past false false u w l h = refl

gone : {X : Type 0} (b : Bool) (n u l : X) → (b ≡ true → l ≡ n) → l ≡ cond b n (cond b u l)
gone true n u l h = h refl
gone false n u l h = refl

module _ {K : Type 0} (e : K → K → Bool) where
  -- no entry has the same key as k
  abbrev pub Missing : List (Entry K) → K → Type 0
  Missing xs k = AllByRecursion (λ x. e k x.key ≡ false) xs

  -- the i-th entry is the first whose key is the same as k
  abbrev pub Hit : List (Entry K) → K → ℕ → Type 0
  Hit [] k i = ⊥
  Hit (x ∷ xs) k zero = e k x.key ≡ true
  Hit (x ∷ xs) k (suc i) = (e k x.key ≡ false) × Hit xs k i

  pub position_missing : (k : K) (d : Entry K) (xs : List (Entry K)) → None ≡ position (λ x. e k x.key) xs → Missing xs k
  position_missing k d xs p = All-from_get_or (λ x. e k x.key ≡ false) xs d (λ j l. fails_before_first (λ x. e k x.key) xs j d (grind (arith, common_steps)))

  hit_made : (k : K) (d : Entry K) (xs : List (Entry K)) (i : ℕ) → i < length xs → e k (get_or xs i d).key ≡ true → ((j : ℕ) → j < i → e k (get_or xs j d).key ≡ false) → Hit xs k i
  hit_made k d [] i l t before = absurd (not-suc-le-zero l)
  hit_made k d (x ∷ xs) zero l t before = t
  hit_made k d (x ∷ xs) (suc i) l t before = (before 0 (omega arith), hit_made k d xs i (le_of_suc-le-suc l) t (λ j h. before (suc j) (omega arith)))

  pub position_hit : (k : K) (d : Entry K) (xs : List (Entry K)) (i : ℕ) → Some i ≡ position (λ x. e k x.key) xs → Hit xs k i
  position_hit k d xs i p = let f = position-Some (λ x. e k x.key) xs i d (sym p) in hit_made k d xs i f.0 f.1 f.2

  pub missing_found : (k : K) (xs : List (Entry K)) → Missing xs k → found e xs k ≡ None
  missing_found k [] m = refl
  missing_found k (x ∷ xs) m = ap (λ z. cond z (Some x.number) (found e xs k)) m.0 ∙ missing_found k xs m.1

  pub hit_found : (k : K) (d : Entry K) (xs : List (Entry K)) (i : ℕ) → Hit xs k i → found e xs k ≡ Some (get_or xs i d).number
  hit_found k d [] i t = absurd t
  hit_found k d (x ∷ xs) zero t = ap (λ z. cond z (Some x.number) (found e xs k)) t
  hit_found k d (x ∷ xs) (suc i) t = ap (λ z. cond z (Some x.number) (found e xs k)) t.0 ∙ hit_found k d xs i t.1

  module _ (laws : IsEquivalence e) (k q : K) where
    turned : (x : K) → e k x ≡ true → e q x ≡ e q k
    turned x t = laws.symm q x ∙ sym (laws.congr k x q t) ∙ laws.symm k q

    other : (x : K) → e k x ≡ false → e q k ≡ true → e q x ≡ false
    other x f t = laws.congr q k x t ∙ f

    -- the number of the entry at i becomes n
    pub found_set : (n : ℕ) (y : Entry K) (xs : List (Entry K)) (i : ℕ) → y.key ≡ (get_or xs i y).key → y.number ≡ n → Hit xs k i → found e (set xs i y) q ≡ cond (e q k) (Some n) (found e xs q)
    found_set n y [] i s m t = absurd t
    found_set n y (x ∷ xs) zero s m t =
        ap (λ z. cond (e q z) (Some y.number) (found e xs q)) s
        ∙ ap (λ z. cond (e q x.key) (Some z) (found e xs q)) m
        ∙ again (e q x.key) (Some n) (Some x.number) (found e xs q)
        ∙ ap (λ z. cond z (Some n) (cond (e q x.key) (Some x.number) (found e xs q))) (turned x.key t)
    found_set n y (x ∷ xs) (suc i) s m t =
        ap (λ z. cond (e q x.key) (Some x.number) z) (found_set n y xs i s m t.1) ∙ past (e q x.key) (e q k) (Some x.number) (Some n) (found e xs q) (other x.key t.0)

    pub found_push : (n : ℕ) (xs : List (Entry K)) → Missing xs k → found e (xs ++ record { key = k; number = n } ∷ []) q ≡ cond (e q k) (Some n) (found e xs q)
    found_push n [] m = refl
    found_push n (x ∷ xs) m =
        ap (λ z. cond (e q x.key) (Some x.number) z) (found_push n xs m.1) ∙ past (e q x.key) (e q k) (Some x.number) (Some n) (found e xs q) (other x.key m.0)

    missing_other : (xs : List (Entry K)) → Missing xs k → e q k ≡ true → found e xs q ≡ None
    missing_other xs m s = missing_found q xs (All-weaker (λ y. e k y.key ≡ false) (λ y. e q y.key ≡ false) (λ y f. other y.key f s) xs m)

    pub found_removed : (xs : List (Entry K)) (i : ℕ) → Hit xs k i → Missing (drop (suc i) xs) k → found e (remove xs i) q ≡ cond (e q k) None (found e xs q)
    found_removed [] i t m = absurd t
    found_removed (x ∷ xs) zero t m =
        gone (e q k) None (Some x.number) (found e xs q) (missing_other xs m) ∙ ap (λ z. cond (e q k) None (cond z (Some x.number) (found e xs q))) (sym (turned x.key t))
    found_removed (x ∷ xs) (suc i) t m =
        ap (λ z. cond (e q x.key) (Some x.number) z) (found_removed xs i t.1 m) ∙ past (e q x.key) (e q k) (Some x.number) None (found e xs q) (other x.key t.0)

    pub found_missing : (xs : List (Entry K)) → Missing xs k → found e xs q ≡ cond (e q k) None (found e xs q)
    found_missing xs m = gone (e q k) None None (found e xs q) (missing_other xs m) ∙ sym (again (e q k) None None (found e xs q))
