-- What a declaration on a scope, and a binding that moves, leave of the stores.
use Rattle.std.proofs.Common.{◌≡◌, ℕ, ◌<◌, arith}
use Rattle.std.proofs.lemmas.Grind.{common_steps}
use Rattle.stores.specs.Keys.{same_scope_and_name}
use Rattle.stores.specs.Pairs.{drop_pair, least_capacity}
use Rattle.model.specs.Basics.{place}
use Rattle.model.specs.State.{Names}
use Rattle.model.specs.Declaring.{Told, complain, add_symbol_redeclaration, unite, declare_shadow_symbol, declare_symbol_on_scope, move_binding}

pub move_hoists : (nm : Names) (from to name s : ℕ) → (move_binding nm from to name s).hoisting ≡ nm.hoisting
unfolding move_binding
move_hoists nm from to name s = grind (arith, common_steps)

module _ (d : Told) (scope : ℕ) (nm : Names) where
  pub declare_hoists : (declare_symbol_on_scope d nm scope).names.hoisting ≡ nm.hoisting
  unfolding declare_symbol_on_scope declare_shadow_symbol unite add_symbol_redeclaration complain
  declare_hoists = grind (arith, common_steps)

  -- what was declared can move
  pub moved_room : nm.bindings.size < least_capacity → (drop_pair same_scope_and_name (declare_symbol_on_scope d nm scope).names.bindings (place scope d.name)).size < least_capacity
  unfolding declare_symbol_on_scope declare_shadow_symbol unite add_symbol_redeclaration complain
  moved_room h = grind (arith, common_steps)
