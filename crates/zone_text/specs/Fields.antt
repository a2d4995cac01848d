-- The words behind an operation's name, read as numbers from left to right. The first that is wrong decides.
use Rattle.std.specs.Prelude.{ℕ, List, [], ◌∷◌, Ok, Err, Result}
use Rattle.zone_text.specs.declared.operation.LineError.{LineError}
use Rattle.zone_text.specs.declared.operation.LineError.TheVariants.{TooFewNumbers, TooManyWords}
use Rattle.zone_text.specs.Numbers.{number_of}

-- the first word, as `read` has it
abbrev pub first_as : {X : Type 0} → (List ℕ → Result X LineError) → List (List ℕ) → Result X LineError
first_as read [] = Err TooFewNumbers
first_as read (w ∷ ws) = read w

abbrev pub field : ℕ → List (List ℕ) → Result ℕ LineError
field limit ws = first_as (number_of limit) ws

abbrev pub others : List (List ℕ) → List (List ℕ)
others [] = []
others (w ∷ ws) = ws

abbrev pub and_then : {X Y E : Type 0} → Result X E → (X → Result Y E) → Result Y E
and_then (Ok x) k = k x
and_then (Err e) k = Err e

-- the first word as a number of at most the limit, and then what k makes of it and the other words
abbrev pub with_number : {X : Type 0} → ℕ → List (List ℕ) → (ℕ → List (List ℕ) → Result X LineError) → Result X LineError
with_number limit ws k = and_then (field limit ws) (λ n. k n (others ws))

-- no word is left
abbrev pub ended : {X : Type 0} → List (List ℕ) → X → Result X LineError
ended [] x = Ok x
ended (w ∷ ws) x = Err TooManyWords
