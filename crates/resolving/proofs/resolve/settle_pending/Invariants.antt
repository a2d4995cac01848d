use Rattle.resolving.proofs.Resolvings.{ResolvedTo}
use Rattle.resolving.proofs.resolve.settle_pending.Given as goal

abbrev pub invariant-loop-k : goal.invariant-loop-k
invariant-loop-k g l =
    ResolvedTo l.end (g.B.PairSet.pairs l.bindings) l.initial.start l.initial.scoping (g.R.PairSet.pairs l.initial.roots) l.scoping (g.R.PairSet.pairs l.roots) l.next l.k
