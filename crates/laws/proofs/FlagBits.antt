-- Flags bit by bit: a flag's digit is a bit.
use Rattle.std.proofs.Common.{◌≡◌, ℕ, zero, suc, ◌-◌, ◌*◌, ◌/◌, ◌%◌, ◌^◌, min, max, true, not, ◌&&◌, ◌||◌, eqb, ◌≢◌, false, List, [], ◌∷◌, map, sym, refl, ap, ◌∙◌, subst, ap₂, ⊎_elim, arith}
use lib.Arith.{bin_ind}
use lib.Bits.{bit_and, bit_or, and_step, or_add_and, and_le_l, and_le_r, and_zero_r}
use Rattle.std.specs.Int.{bit_at}
use Rattle.std.proofs.lemmas.Nat.{pow_pos}
use Rattle.std.proofs.lemmas.Nat.Bits.{bit_at_and, bit_at_or, bit_at_lowest, bit_at-suc, bit_at-zero, bit_at-pow_same, bit_at-pow_other, and_pow, same_from_bits}
use Rattle.std.proofs.lemmas.Bool.{eq-eqb, ne_eqb, cases_eq}
use Rattle.std.proofs.lemmas.Bool.Decides.{nat_tests}
use Rattle.tables.specs.Flags.{meets, less}
use Rattle.laws.specs.HasFlag.{has, has_one, among}

-- `and` distributes over `or`
and_or : (s a b : ℕ) → bit_and s (bit_or a b) ≡ bit_or (bit_and s a) (bit_and s b)
and_or s a b =
    same_from_bits _ _ (λ i.
    bit_at_and s (bit_or a b) i ∙ ap (min (bit_at s i)) (bit_at_or a b i) ∙ spread (bit_at s i) (bit_at a i) (bit_at b i)
    ∙ sym (bit_at_or (bit_and s a) (bit_and s b) i ∙ ap₂ max (bit_at_and s a i) (bit_at_and s b i)))
  where
    spread : (x y z : ℕ) → min x (max y z) ≡ max (min x y) (min x z)
    spread x y z = omega arith

-- it is nothing only if both are
or_none : (x y : ℕ) → not (eqb (bit_or x y) 0) ≡ (not (eqb x 0) || not (eqb y 0))
or_none x y = let e = or_add_and x y in let l = and_le_l x y in let r = and_le_r x y in grind (arith, nat_tests)

-- a set of flags is met if one of its parts is
pub meets_either : (s a b : ℕ) → meets s (bit_or a b) ≡ (meets s a || meets s b)
meets_either s a b = ap (λ x. not (eqb x 0)) (and_or s a b) ∙ or_none (bit_and s a) (bit_and s b)

-- a digit is 0 or 1
digit : (P : ℕ → Type 0) → P 0 → P 1 → (n : ℕ) → P (n % 2)
digit P a b n =
    ⊎_elim (λ (e : n % 2 ≡ 0). subst P (sym e) a)
    (λ (e : n % 2 ≢ 0). let o : n % 2 ≡ 1 = omega arith in subst P (sym o) b)
    (cases_eq (n % 2) 0)

digits : (P : ℕ → ℕ → Type 0) → P 0 0 → P 0 1 → P 1 0 → P 1 1 → (m n : ℕ) → P (m % 2) (n % 2)
digits P a b c d m n = digit (λ x. P x (n % 2)) (digit (P 0) a b n) (digit (P 1) c d n) m

-- a single flag is met if it is there
pub meets_flag : (s k : ℕ) → meets s (2 ^ k) ≡ has s (2 ^ k)
meets_flag s k =
    let p = pow_pos k in
    ap (λ x. not (eqb x 0)) (and_pow s k)
    ∙ digit (λ d. not (eqb (d * 2 ^ k) 0) ≡ eqb d 1) (ap not (eq-eqb (0 * 2 ^ k) 0 (omega arith))) (ap not (ne_eqb (1 * 2 ^ k) 0 (omega arith))) (s / 2 ^ k)

pub nothing_has : (k : ℕ) → has 0 (2 ^ k) ≡ false
nothing_has k = ap (λ x. eqb x 1) (bit_at-zero k)

pub or_has : (k a b : ℕ) → has (bit_or a b) (2 ^ k) ≡ (has a (2 ^ k) || has b (2 ^ k))
or_has k a b = ap (λ x. eqb x 1) (bit_at_or a b k) ∙ digits (λ x y. eqb (max x y) 1 ≡ (eqb x 1 || eqb y 1)) refl refl refl refl (a / 2 ^ k) (b / 2 ^ k)

bit_less : (k a b : ℕ) → bit_at (less a b) k ≡ bit_at a k - min (bit_at a k) (bit_at b k)
bit_less zero a b = bit_at_lowest (less a b) ∙ odd ∙ sym (ap₂ (λ x y. x - min x y) (bit_at_lowest a) (bit_at_lowest b))
  where
    odd : less a b % 2 ≡ a % 2 - min (a % 2) (b % 2)
    odd = let e = and_step a b in let l = and_le_l (a / 2) (b / 2) in omega arith
bit_less (suc k) a b =
    bit_at-suc (less a b) k ∙ ap (λ x. bit_at x k) half ∙ bit_less k (a / 2) (b / 2)
    ∙ sym (ap₂ (λ x y. x - min x y) (bit_at-suc a k) (bit_at-suc b k))
  where
    half : less a b / 2 ≡ less (a / 2) (b / 2)
    half = let e = and_step a b in let l = and_le_l (a / 2) (b / 2) in omega arith

pub less_has : (k a b : ℕ) → has (less a b) (2 ^ k) ≡ (has a (2 ^ k) && not (has b (2 ^ k)))
less_has k a b = ap (λ x. eqb x 1) (bit_less k a b) ∙ digits (λ x y. eqb (x - min x y) 1 ≡ (eqb x 1 && not (eqb y 1))) refl refl refl refl (a / 2 ^ k) (b / 2 ^ k)

-- a flag has itself alone
pub flag_has : (j k : ℕ) → has (2 ^ j) (2 ^ k) ≡ eqb (2 ^ k) (2 ^ j)
flag_has j k =
    ⊎_elim
    (λ (e : k ≡ j). ap (λ i. has (2 ^ j) (2 ^ i)) e ∙ ap (λ x. eqb x 1) (bit_at-pow_same j) ∙ sym (eq-eqb (2 ^ k) (2 ^ j) (ap (λ i. 2 ^ i) e)))
    (λ (n : k ≢ j).
    let other = bit_at-pow_other j k n in
    ap (λ x. eqb x 1) other ∙ sym (ne_eqb (2 ^ k) (2 ^ j) (λ e. let one = sym (ap (λ x. bit_at x k) e) ∙ bit_at-pow_same k in omega arith)))
    (cases_eq k j)

-- what is not nothing has a flag
pub some_flag : (n : ℕ) → n ≢ 0 → (k : ℕ) × (has n (2 ^ k) ≡ true)
some_flag = bin_ind (λ n. n ≢ 0 → (k : ℕ) × (has n (2 ^ k) ≡ true)) (λ h. absurd (h refl))
    (λ n ih h. ⊎_elim
    (λ (e : n % 2 ≡ 1). (0, ap (λ x. eqb x 1) (bit_at_lowest n ∙ e)))
    (λ (e : n % 2 ≢ 1). let r = ih (omega arith) in (suc r.0, ap (λ x. eqb x 1) (bit_at-suc n r.0) ∙ r.1))
    (cases_eq (n % 2) 1))

-- sets of flags, by their places

abbrev pub flags_at : List ℕ → List ℕ
flags_at ks = map (λ k. 2 ^ k) ks

abbrev pub union : List ℕ → ℕ
union [] = 0
union (f ∷ fs) = bit_or f (union fs)

pub meets_set : (s : ℕ) (ks : List ℕ) → meets s (union (flags_at ks)) ≡ has_one s (flags_at ks)
meets_set s [] = ap (λ x. not (eqb x 0)) (and_zero_r s)
meets_set s (k ∷ ks) = meets_either s (2 ^ k) (union (flags_at ks)) ∙ ap₂ (λ x y. x || y) (meets_flag s k) (meets_set s ks)

pub set_has : (k : ℕ) (js : List ℕ) → has (union (flags_at js)) (2 ^ k) ≡ among (2 ^ k) (flags_at js)
set_has k [] = nothing_has k
set_has k (j ∷ js) = or_has k (2 ^ j) (union (flags_at js)) ∙ ap₂ (λ x y. x || y) (flag_has j k) (set_has k js)
