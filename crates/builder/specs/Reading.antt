-- What the reads answer.
use Rattle.std.specs.Prelude.{ℕ, Some, None, Option}
use Rattle.tables.specs.declared.id.SymbolId.{SymbolId}
use Rattle.model.specs.Basics.{the_symbol}

-- the symbol of a number that a store gave
abbrev pub symbol_at : Option ℕ → Option SymbolId
symbol_at None = None
symbol_at (Some n) = Some (the_symbol n)
