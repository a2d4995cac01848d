-- Sets of flags and their parts.
use Rattle.std.proofs.Common.{◌≡◌, ℕ, true, false, not, ◌||◌, eqb, sym, ap, ◌∙◌, ap₂}
use lib.Bits.{bit_or, and_comm}
use Rattle.std.proofs.lemmas.Bool.{or_parts, or_left}
use Rattle.tables.specs.Flags.{meets}
use Rattle.laws.proofs.FlagBits.{meets_either}

-- united flags meet a set if the ones or the others do
pub meets_united : (a b set : ℕ) → meets (bit_or a b) set ≡ (meets a set || meets b set)
meets_united a b set =
    ap (λ x. not (eqb x 0)) (and_comm (bit_or a b) set) ∙ meets_either set a b
    ∙ ap₂ (λ (x y : ℕ). not (eqb x 0) || not (eqb y 0)) (and_comm set a) (and_comm set b)

-- more flags meet at least what fewer did
pub meets_more : (a b set : ℕ) → meets a set ≡ true → meets (bit_or a b) set ≡ true
meets_more a b set e = meets_united a b set ∙ or_left (meets a set) (meets b set) e

pub meets_whole : (s a b : ℕ) → meets s a ≡ true → meets s (bit_or a b) ≡ true
meets_whole s a b e = meets_either s a b ∙ or_left (meets s a) (meets s b) e

pub misses_part : (s a b : ℕ) → meets s (bit_or a b) ≡ false → (meets s a ≡ false) × (meets s b ≡ false)
misses_part s a b e = or_parts (meets s a) (meets s b) (sym (meets_either s a b) ∙ e)
