-- How much there may be of each kind of row.
use Rattle.std.specs.Prelude.{ℕ, ◌+◌, Bool, ◌||◌, nat_le, nat_lt}

abbrev pub most_scopes : ℕ
most_scopes = 256

abbrev pub most_symbols : ℕ
most_symbols = 512

abbrev pub most_references : ℕ
most_references = 512

abbrev pub most_redeclarations : ℕ
most_redeclarations = 256

abbrev pub most_conflicts : ℕ
most_conflicts = 256

abbrev pub most_hoisted : ℕ
most_hoisted = 512

-- beside so many symbols, redeclarations, conflicts and hoisted variables there is no room for a declaration that may write to so many
-- scopes: it adds a symbol at the most, two redeclarations, and a conflict and a hoisted variable for each scope
abbrev pub no_room : ℕ → ℕ → ℕ → ℕ → ℕ → Bool
no_room symbols redeclarations conflicts hoisted scopes =
    nat_le most_symbols symbols || nat_lt most_redeclarations (redeclarations + 2) || nat_lt most_conflicts (conflicts + scopes) || nat_lt most_hoisted (hoisted + scopes)
