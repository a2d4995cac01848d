-- Single flags. A flag is a power of two, and flags have it if that digit of theirs is 1.
use Rattle.std.specs.Prelude.{◌≡◌, ℕ, ◌/◌, ◌%◌, ◌^◌, Bool, true, false, not, ◌&&◌, ◌||◌, List, [], ◌∷◌, ◌==◌}

abbrev pub has : ℕ → ℕ → Bool
has flags flag = flags / flag % 2 == 1

-- it has one of the flags of the list
abbrev pub has_one : ℕ → List ℕ → Bool
has_one flags [] = false
has_one flags (f ∷ fs) = has flags f || has_one flags fs

-- a number is in the list
abbrev pub among : ℕ → List ℕ → Bool
among n [] = false
among n (x ∷ xs) = n == x || among n xs

-- the number is a single flag, listed or not
abbrev pub IsFlag : ℕ → Type 0
IsFlag flag = (place : ℕ) × (flag ≡ 2 ^ place)

-- each of the list is a single flag, and no two are the same

abbrev pub AllFlags : List ℕ → Type 0
AllFlags [] = Unit {0}
AllFlags (f ∷ fs) = IsFlag f × AllFlags fs

abbrev pub different : List ℕ → Bool
different [] = true
different (f ∷ fs) = not (among f fs) && different fs

pub record SingleFlags (flags : List ℕ) : Type 0 where
  pub single : AllFlags flags
  pub apart : different flags ≡ true
