-- The scan of a var, one passed scope at a time.
use Rattle.std.specs.Prelude.{ℕ, cond, Some, None, Option}
use Rattle.tables.specs.Flags.{meets, ByValue}
use Rattle.tables.specs.Ids.{symbol_number}
use Rattle.tables.specs.declared.id.SymbolId.{SymbolId}
use Rattle.model.specs.Basics.{maybe}
use Rattle.model.specs.State.{Names, flags_of}
use Rattle.model.specs.Declaring.{Told, found, complain, add_symbol_redeclaration, move_binding}

-- the names after one scope, and the symbol that stopped the scan there
pub record Stepped : Type 0 where
  pub names : Names
  pub stopped : Option ℕ

abbrev pub goes_on : Names → Stepped
goes_on nm = record { names = nm; stopped = None }

abbrev pub stops : Told → ℕ → Names → ℕ → ℕ → Stepped
stops d to nm p s = record { names = move_binding (add_symbol_redeclaration d (complain d nm s) s) p to d.name s; stopped = Some s }

abbrev pub stepped_at : Told → ℕ → Names → ℕ → ℕ → Stepped
stepped_at d to nm p s = cond (meets (flags_of nm s) ByValue) (stops d to nm p s) (goes_on (complain d nm s))

abbrev pub stepped : Told → ℕ → Names → ℕ → Stepped
stepped d to nm p = maybe (found nm p d.name) (goes_on nm) (stepped_at d to nm p)

abbrev pub stepping : Names → Option SymbolId → Stepped
stepping nm r = record { names = nm; stopped = symbol_number r }
