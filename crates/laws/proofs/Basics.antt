-- Small facts on options, tests, places and bits.
use Rattle.std.proofs.Common.{◌≡◌, ℕ, zero, suc, true, eqb, List, [], ◌∷◌, get_or, set, is_some, Some, None, Option, sym, refl, ap, ◌∙◌}
use lib.Bits.{bit_and, bit_or, and_zero_r}
use Rattle.std.proofs.lemmas.Nat.{and_assoc, and_or_apart}
use Rattle.std.proofs.lemmas.Bool.{eqb-true, eq-eqb, and_parts, and_from, true≢false}
use Rattle.tables.specs.Flags.{DirectEval}
use Rattle.stores.specs.Keys.{same_scope_and_name}
use Rattle.model.specs.Basics.{maybe, place}

pub maybe_both : {X Y : Type 0} (o : Option X) (d : Y) (f : X → Y) (P : Y → Type 0)
    → (o ≡ None → P d) → ((x : X) → o ≡ Some x → P (f x)) → P (maybe o d f)
maybe_both None d f P a b = a refl
maybe_both (Some x) d f P a b = b x refl

pub option_cases : {X : Type 0} (o : Option X) (P : Type 0) → (o ≡ None → P) → ((x : X) → o ≡ Some x → P) → P
option_cases None P a b = a refl
option_cases (Some x) P a b = b x refl

pub from_is_some : {X : Type 0} (o : Option X) → is_some o ≡ true → (x : X) × (o ≡ Some x)
from_is_some None e = absurd (true≢false (sym e))
from_is_some (Some x) e = (x, refl)

pub same_true : (a b : ℕ) (c d : ℕ) → same_scope_and_name (place a c) (place b d) ≡ true → (a ≡ b) × (c ≡ d)
same_true a b c d e = let p = and_parts (eqb a b) (eqb c d) e in (eqb-true a b p.0, eqb-true c d p.1)

pub same_refl : (a c : ℕ) → same_scope_and_name (place a c) (place a c) ≡ true
same_refl a c = and_from (eqb a a) (eqb c c) (eq-eqb a a refl) (eq-eqb c c refl)

-- a row put in place of another leaves a column as it is, if it has the same there
pub set_keeps : {X : Type 0} {Y : Type 0} (g : X → Y) (d : X) (xs : List X) (i : ℕ) (v : X) (k : ℕ) → g v ≡ g (get_or xs i d) → g (get_or (set xs i v) k d) ≡ g (get_or xs k d)
set_keeps g d [] i v k e = refl
set_keeps g d (x ∷ xs) zero v zero e = e
set_keeps g d (x ∷ xs) zero v (suc k) e = refl
set_keeps g d (x ∷ xs) (suc i) v zero e = refl
set_keeps g d (x ∷ xs) (suc i) v (suc k) e = set_keeps g d xs i v k e

-- the flag that a scope is handed by a child leaves a set of other flags as it was
pub eval_apart : (set : ℕ) → bit_and DirectEval set ≡ 0 → (f g : ℕ) → bit_and (bit_or f (bit_and g DirectEval)) set ≡ bit_and f set
eval_apart set none f g = and_or_apart set f (bit_and g DirectEval) (and_assoc set g DirectEval ∙ ap (bit_and g) none ∙ and_zero_r g)
