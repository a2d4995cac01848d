-- Rows that find room.
use Rattle.std.proofs.Common.{◌≡◌, ℕ, ◌<◌, Bool, true, false, cond, ltb, List, [], ◌∷◌, ◌++◌, length, Ok, Err, Result, refl, ap, arith}
use Rattle.std.proofs.lemmas.Bool.{lt-ltb, ltb-true}
use Rattle.tables.specs.declared.refusal.Refusal.{Refusal}
use Rattle.tables.specs.Contents.{pushed, push_answer}

pub pushed_room : {X : Type 0} (most : ℕ) (xs : List X) (x : X) → length xs < most → pushed most xs x ≡ xs ++ x ∷ []
pushed_room most xs x h = ap (λ b. cond b (xs ++ x ∷ []) xs) (lt-ltb (length xs) most h)

-- by the answer of a call that adds a row

pub record Pushed {X V : Type 0} (most : ℕ) (xs : List X) (x : X) (id : ℕ → V) (v : V) : Type 0 where
  pub rows : pushed most xs x ≡ xs ++ x ∷ []
  pub number : v ≡ id (length xs)
  pub room : length xs < most

by_test : {X V : Type 0} (most : ℕ) (xs : List X) (x : X) (id : ℕ → V) (full : Refusal) (v : V) (b : Bool) → ltb (length xs) most ≡ b
    → ◌≡◌ {A = Result V Refusal} (Ok v) (cond b (Ok (id (length xs))) (Err full)) → Pushed most xs x id v
by_test most xs x id full v true t q = let l = ltb-true (length xs) most t in record { rows = pushed_room most xs x l; number = (let z : v ≡ id (length xs) = cc in z); room = l }
by_test most xs x id full v false t q = let z : ◌≡◌ {A = ℕ} 0 1 = cc in absurd (omega arith)

pub push_ok : {X V : Type 0} (most : ℕ) (xs : List X) (x : X) (id : ℕ → V) (full : Refusal) (v : V) → Ok v ≡ push_answer most xs id full → Pushed most xs x id v
push_ok most xs x id full v q = by_test most xs x id full v (ltb (length xs) most) refl q
