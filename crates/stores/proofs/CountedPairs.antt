-- The size of a set of pairs stays the number of its keys, for every sameness that is symmetric and transitive.
use Rattle.std.proofs.Common.{◌≡◌, ℕ, suc, pred, Bool, true, false, cond, not, ◌||◌, List, [], ◌∷◌, length, is_some, Some, None, Option, sym, refl, ap, ◌∙◌, ap₂, inl, inr, arith}
use Rattle.std.proofs.lemmas.Bool.{both_ways, cases_Bool, and_parts, and_from, not-true, not_from_false}
use Rattle.std.specs.Cmp.{IsEquivalence}
use Rattle.stores.specs.Pairs.{Pairs, no_pairs, put, drop_pair}
use Rattle.stores.specs.Counting.{among, different, Counted}

abbrev minus : {K : Type 0} → (K → K → Bool) → K → List K → List K
minus e k [] = []
minus e k (x ∷ xs) = cond (e k x) xs (x ∷ minus e k xs)

pub none_counted : {K : Type 0} (e : K → K → Bool) → Counted e no_pairs
none_counted e = record { keys = []; apart = refl; total = refl; exactly = λ q. refl }

module _ {K : Type 0} (e : K → K → Bool) (laws : IsEquivalence e) where
  same_among : (q k : K) (ks : List K) → e q k ≡ true → among e q ks ≡ among e k ks
  same_among q k [] t = refl
  same_among q k (x ∷ xs) t = ap₂ ◌||◌ (laws.congr q k x t) (same_among q k xs t)

  pub put_counted : (p : Pairs K) (k : K) (n : ℕ) → Counted e p → Counted e (put e p k n)
  put_counted p k n t =
      elim (cases_Bool (is_some (p.get k))) [
        | inl h ↦ record {
          keys = t.keys;
          apart = t.apart;
          total = t.total ∙ sym (ap (λ b. cond b p.size (suc p.size)) h);
          exactly = λ q. elim (cases_Bool (e q k)) [
            | inl y ↦ ap (λ b. is_some (cond b (Some n) (p.get q))) y ∙ sym h ∙ t.exactly k ∙ sym (same_among q k t.keys y)
            | inr z ↦ ap (λ b. is_some (cond b (Some n) (p.get q))) z ∙ t.exactly q
          ];
        }
        | inr h ↦ record {
          keys = k ∷ t.keys;
          apart = and_from (not (among e k t.keys)) (different e t.keys) (not_from_false (among e k t.keys) (sym (t.exactly k) ∙ h)) t.apart;
          total = (let z = t.total in let w : suc (length t.keys) ≡ suc p.size = omega arith in w) ∙ sym (ap (λ b. cond b p.size (suc p.size)) h);
          exactly = λ q. elim (cases_Bool (e q k)) [
            | inl y ↦ ap (λ b. is_some (cond b (Some n) (p.get q))) y ∙ sym (ap (λ b. b || among e q t.keys) y)
            | inr z ↦ ap (λ b. is_some (cond b (Some n) (p.get q))) z ∙ t.exactly q ∙ sym (ap (λ b. b || among e q t.keys) z)
          ];
        }
      ]

  minus_length : (k : K) (ks : List K) → among e k ks ≡ true → suc (length (minus e k ks)) ≡ length ks
  minus_length k [] h = absurd (both_ways false refl h)
  minus_length k (x ∷ xs) h =
      elim (cases_Bool (e k x)) [
        | inl y ↦ ap (λ b. suc (length (cond b xs (x ∷ minus e k xs)))) y
        | inr z ↦ ap (λ b. suc (length (cond b xs (x ∷ minus e k xs)))) z ∙ ap suc (minus_length k xs (sym (ap (λ b. b || among e k xs) z) ∙ h))
      ]

  minus_among : (q k : K) (ks : List K) → different e ks ≡ true → among e q (minus e k ks) ≡ cond (e q k) false (among e q ks)
  minus_among q k [] d = both (e q k)
    where
      both : (b : Bool) → false ≡ cond b false false
      both true = refl
      both false = refl
  minus_among q k (x ∷ xs) d =
      let d' = and_parts (not (among e x xs)) (different e xs) d in
      elim (cases_Bool (e k x)) [
        | inl y ↦ ap (λ b. among e q (cond b xs (x ∷ minus e k xs))) y
            ∙ elim (cases_Bool (e q k)) [
              | inl t ↦ same_among q k xs t ∙ same_among k x xs y ∙ not-true (among e x xs) d'.0 ∙ sym (ap (λ b. cond b false (e q x || among e q xs)) t)
              | inr f ↦ sym (ap (λ b. cond b false (e q x || among e q xs)) f ∙ ap (λ b. b || among e q xs) (sym (laws.congr k x q y ∙ laws.symm x q) ∙ laws.symm k q ∙ f))
            ]
        | inr z ↦ ap (λ b. among e q (cond b xs (x ∷ minus e k xs))) z ∙ ap (λ b. e q x || b) (minus_among q k xs d'.1)
            ∙ elim (cases_Bool (e q k)) [
              | inl t ↦ ap (λ b. e q x || cond b false (among e q xs)) t ∙ ap (λ b. b || false) (laws.congr q k x t ∙ z) ∙ sym (ap (λ b. cond b false (e q x || among e q xs)) t)
              | inr f ↦ ap (λ b. e q x || cond b false (among e q xs)) f ∙ sym (ap (λ b. cond b false (e q x || among e q xs)) f)
            ]
      ]

  minus_different : (k : K) (ks : List K) → different e ks ≡ true → different e (minus e k ks) ≡ true
  minus_different k [] d = refl
  minus_different k (x ∷ xs) d =
      let d' = and_parts (not (among e x xs)) (different e xs) d in
      elim (cases_Bool (e k x)) [
        | inl y ↦ ap (λ b. different e (cond b xs (x ∷ minus e k xs))) y ∙ d'.1
        | inr z ↦ ap (λ b. different e (cond b xs (x ∷ minus e k xs))) z
            ∙ and_from (not (among e x (minus e k xs))) (different e (minus e k xs))
            (not_from_false (among e x (minus e k xs)) (minus_among x k xs d'.1 ∙ either (e x k) (among e x xs) (not-true (among e x xs) d'.0))) (minus_different k xs d'.1)
      ]
    where
      either : (b c : Bool) → c ≡ false → cond b false c ≡ false
      either true c h = refl
      either false c h = h

  pub drop_counted : (p : Pairs K) (k : K) → Counted e p → Counted e (drop_pair e p k)
  drop_counted p k t =
      elim (cases_Bool (is_some (p.get k))) [
        | inl h ↦ record {
          keys = minus e k t.keys;
          apart = minus_different k t.keys t.apart;
          total = (let z = t.total in let y = minus_length k t.keys (sym (t.exactly k) ∙ h) in let w : length (minus e k t.keys) ≡ pred p.size = omega arith in w) ∙ sym (ap (λ b. cond b (pred p.size) p.size) h);
          exactly = λ q. kept (e q k) (p.get q) ∙ ap (λ b. cond (e q k) false b) (t.exactly q) ∙ sym (minus_among q k t.keys t.apart);
        }
        | inr h ↦ record {
          keys = t.keys;
          apart = t.apart;
          total = t.total ∙ sym (ap (λ b. cond b (pred p.size) p.size) h);
          exactly = λ q. elim (cases_Bool (e q k)) [
            | inl y ↦ ap (λ b. is_some (cond b None (p.get q))) y ∙ sym h ∙ t.exactly k ∙ sym (same_among q k t.keys y)
            | inr z ↦ ap (λ b. is_some (cond b None (p.get q))) z ∙ t.exactly q
          ];
        }
      ]
    where
      kept : (b : Bool) (o : Option ℕ) → is_some (cond b None o) ≡ cond b false (is_some o)
      kept true o = refl
      kept false o = refl
