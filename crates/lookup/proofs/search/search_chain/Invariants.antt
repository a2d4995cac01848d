use Rattle.std.proofs.Common.{◌≡◌}
use Rattle.model.specs.Scopes.{chain}
use Rattle.lookup.specs.Ancestry.{ancestors_left}
use Rattle.lookup.specs.Seeking.{bound_names, seek}
use Rattle.lookup.proofs.search.search_chain.Given as goal

abbrev pub invariant-loop-at : goal.invariant-loop-at
invariant-loop-at g l =
    let rows = l.scoping.scopes in
    let nm = bound_names l.scoping.symbols (g.B.PairSet.pairs l.bindings) in
    seek rows nm l.name.0 l.flags.0 l.upto (ancestors_left l.at-iterator) ≡ seek rows nm l.name.0 l.flags.0 l.upto (chain rows l.fn.from.0)
