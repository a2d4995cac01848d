-- Bindings: every binding leads to a symbol of its name and its scope, and no symbol has two bindings.
use Rattle.std.specs.Prelude.{◌≡◌, ℕ, ◌<◌, List, length, Some}
use Rattle.model.specs.declared.call.Call.{Call}
use Rattle.model.specs.State.{Names, fresh, symbol_row}
use Rattle.model.specs.Declaring.{binding}
use Rattle.model.specs.Calls.{run}

-- the symbol k exists, with this name and in this scope
pub record IsOf (nm : Names) (scope name k : ℕ) : Type 0 where
  pub there : k < length nm.symbols
  pub its_name : (symbol_row nm k).name.0 ≡ name
  pub its_scope : (symbol_row nm k).scope.0 ≡ scope

pub record BindingsRight (nm : Names) : Type 0 where
  pub leads : (scope name k : ℕ) → binding nm scope name ≡ Some k → IsOf nm scope name k
  pub one : (s n s' n' k : ℕ) → binding nm s n ≡ Some k → binding nm s' n' ≡ Some k → (s ≡ s') × (n ≡ n')

abbrev pub Bindings : Type 0
Bindings = (setting : ℕ) (cs : List Call) → BindingsRight (run (fresh setting) cs).names
