use Rattle.std.proofs.Common.{◌≡◌}
use Rattle.model.specs.Scopes.{chain}
use Rattle.lookup.specs.Ancestry.{ancestors_left}
use Rattle.lookup.specs.Seeking.{first_binding}
use Rattle.lookup.proofs.search.find_binding.Given as goal

abbrev pub invariant-loop-at : goal.invariant-loop-at
invariant-loop-at g l =
    first_binding (g.B.PairSet.pairs l.bindings) l.name.0 (ancestors_left l.at-iterator) ≡
    first_binding (g.B.PairSet.pairs l.bindings) l.name.0 (chain l.scoping.scopes l.fn.scope.0)
