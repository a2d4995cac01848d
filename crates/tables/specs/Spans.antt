-- What making a span answers.
use Rattle.std.specs.Prelude.{◌≡◌, ℕ, ◌<◌, Some, None, Option}

-- a span of exactly these ends; none exactly if it would end before it starts
abbrev pub Spanned : {S : Type 0} → (S → ℕ) → (S → ℕ) → ℕ → ℕ → Option S → Type 0
Spanned start_of end_of start end None = end < start
Spanned start_of end_of start end (Some s) = (start_of s ≡ start) × (end_of s ≡ end)
