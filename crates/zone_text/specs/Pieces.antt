-- Text, as its bytes, cut at separators.
use Rattle.std.specs.Prelude.{ℕ, Bool, cond, ◌||◌, List, [], ◌∷◌, ◌==◌}
use Rattle.model.specs.Basics.{before}
use Rattle.zone_text.specs.declared.separator.Separator.{Separator}
use Rattle.zone_text.specs.declared.separator.Separator.TheVariants.{Newline, Space, Hash}

abbrev pub separates : Separator → ℕ → Bool
separates Newline b = b == 10
separates Space b = b == 32 || b == 9 || b == 13
separates Hash b = b == 35

-- those behind the first that passes
abbrev pub behind : (ℕ → Bool) → List ℕ → List ℕ
behind test [] = []
behind test (b ∷ bs) = cond (test b) bs (behind test bs)

abbrev pub onto_first : ℕ → List (List ℕ) → List (List ℕ)
onto_first b [] = (b ∷ []) ∷ []
onto_first b (p ∷ ps) = (b ∷ p) ∷ ps

-- the pieces that end at a separator or at the end; nothing behind the last separator is no piece
abbrev pub pieces : (ℕ → Bool) → List ℕ → List (List ℕ)
pieces test [] = []
pieces test (b ∷ bs) = cond (test b) ([] ∷ pieces test bs) (onto_first b (pieces test bs))

abbrev pub filled : List (List ℕ) → List (List ℕ)
filled [] = []
filled ([] ∷ ps) = filled ps
filled ((b ∷ p) ∷ ps) = (b ∷ p) ∷ filled ps

abbrev pub lines : List ℕ → List (List ℕ)
lines text = pieces (separates Newline) text

-- the words of a line that has no comment
abbrev pub words : List ℕ → List (List ℕ)
words line = filled (pieces (separates Space) line)

abbrev pub uncommented : List ℕ → List ℕ
uncommented line = before (separates Hash) line
