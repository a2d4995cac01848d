-- What an iterator over a scope and its ancestors has left.
use Rattle.std.specs.Prelude.{ℕ, List, []}
use Rattle.tables.specs.declared.row.ScopeRow.{ScopeRow}
use Rattle.model.specs.Basics.{maybe}
use Rattle.model.specs.Scopes.{chain, parent_of}
use Rattle.lookup.specs.declared.ancestors.Ancestors.{Ancestors}
use Rattle.lookup.specs.declared.ancestors.Walk.{Walk}
use Rattle.lookup.specs.declared.ancestors.Walk.TheVariants.{At, Past}

abbrev pub walk_left : List ScopeRow → Walk → List ℕ
walk_left rows (At s) = chain rows s.0
walk_left rows (Past s) = maybe (parent_of rows s.0) [] (chain rows)

abbrev pub ancestors_left : Ancestors → List ℕ
ancestors_left a = walk_left a.scoping.now.scopes a.walk
