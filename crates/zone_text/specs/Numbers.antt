-- Decimal numbers.
use Rattle.std.specs.Prelude.{ℕ, ◌+◌, ◌-◌, ◌*◌, ◌^◌, Bool, true, cond, not, ◌&&◌, List, [], ◌∷◌, length, Ok, Err, Result, ◌==◌, nat_le}
use Rattle.zone_text.specs.declared.operation.LineError.{LineError}
use Rattle.zone_text.specs.declared.operation.LineError.TheVariants.{NotANumber, NumberTooLarge}

abbrev pub is_digit : ℕ → Bool
is_digit b = nat_le 48 b && nat_le b 57

abbrev pub all_digits : List ℕ → Bool
all_digits [] = true
all_digits (b ∷ bs) = is_digit b && all_digits bs

-- at least one
abbrev pub is_number : List ℕ → Bool
is_number word = all_digits word && not (length word == 0)

-- the number that begins with the digits of n
abbrev pub value_from : ℕ → List ℕ → ℕ
value_from n [] = n
value_from n (b ∷ bs) = value_from (10 * n + (b - 48)) bs

-- a word as a number that fits its field
abbrev pub number_of : ℕ → List ℕ → Result ℕ LineError
number_of limit word = cond (is_number word) (cond (nat_le (value_from 0 word) limit) (Ok (value_from 0 word)) (Err NumberTooLarge)) (Err NotANumber)

-- the largest numbers of 8, 16 and 32 bits

abbrev pub most_8 : ℕ
most_8 = 2 ^ 8 - 1

abbrev pub most_16 : ℕ
most_16 = 2 ^ 16 - 1

abbrev pub most_32 : ℕ
most_32 = 2 ^ 32 - 1
