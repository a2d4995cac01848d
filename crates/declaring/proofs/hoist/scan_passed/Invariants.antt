use Rattle.std.proofs.Common.{◌≡◌, suc, ◌+◌, [], length}
use Rattle.model.specs.Basics.{maybe, scope_number}
use Rattle.model.specs.Scopes.{passed}
use Rattle.model.specs.Declaring.{scan}
use Rattle.model.specs.View.{beside_names}
use Rattle.kinds.specs.Telling.{plain}
use Rattle.lookup.specs.NamesIn.{names_in}
use Rattle.declaring.specs.Fitting.{Fits}
use Rattle.declaring.proofs.hoist.scan_passed.Given as goal

-- the scan of the scopes that are left gives what the whole gives, and finds room
abbrev pub invariant-loop-next : goal.invariant-loop-next
invariant-loop-next g l =
    let nm = names_in g.B.PairSet.pairs g.H.PairSet.pairs l.names in
    let way = maybe (scope_number l.next) [] (passed l.names.scoping.scopes) in
    record {
      same : scan (plain l.d) l.to.0 nm way ≡
          scan (plain l.d) l.to.0 (names_in g.B.PairSet.pairs g.H.PairSet.pairs l.initial.names) (passed l.initial.names.scoping.scopes l.fn.from.0);
      rest : beside_names l.names.scoping ≡ beside_names l.initial.names.scoping;
      fits : Fits nm (length way + 1);
    }

abbrev pub decreases-loop-next : goal.decreases-loop-next
decreases-loop-next g l = maybe (scope_number l.next) 0 (λ s. suc s)
