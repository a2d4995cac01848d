use Rattle.std.proofs.Common.{◌≡◌, ◌+◌, ◌≤◌, length}
use Rattle.stores.specs.Pairs.{least_capacity}
use Rattle.model.specs.Basics.{before}
use Rattle.model.specs.Scopes.{is_var, passed}
use Rattle.model.specs.Declaring.{hoist_all}
use Rattle.model.specs.View.{names_of}
use Rattle.lookup.specs.Ancestry.{ancestors_left}
use Rattle.lookup.specs.NamesIn.{names_in}
use Rattle.declaring.proofs.hoist.hoist_passed.Given as goal

-- what is left to hoist gives what the whole gives, and finds room
abbrev pub invariant-loop-at : goal.invariant-loop-at
invariant-loop-at g l =
    let t = l.fn.names in
    let rows = t.scoping.scopes in
    let way = before (is_var rows) (ancestors_left l.at-iterator) in
    record {
      same : hoist_all (names_of t.scoping (g.B.PairSet.pairs t.bindings) (g.H.PairSet.pairs l.hoisting)) way l.name.0 l.symbol.0
          ≡ hoist_all (names_in g.B.PairSet.pairs g.H.PairSet.pairs t) (passed rows l.fn.from.0) l.name.0 l.symbol.0;
      room : (g.H.PairSet.pairs l.hoisting).size + length way ≤ least_capacity;
    }
