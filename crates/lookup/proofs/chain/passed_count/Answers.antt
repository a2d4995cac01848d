use Rattle.std.proofs.Common.{not, length, inl, ap, ◌∙◌, rules, arith}
use Rattle.std.proofs.lemmas.Iterator.Consumers.{YieldsList-at, count_from_yields_List}
use Rattle.std.proofs.lemmas.Iterator.Search.{YieldsList-from_take_while}
use Rattle.model.specs.Scopes.{is_var, passed, chain}
use Rattle.lookup.specs.Ancestry.{ancestors_left}
use Rattle.lookup.proofs.Climbs.{climbs, chain_short, taken_before}
use Rattle.lookup.proofs.chain.passed_count.Goals as goal

pub count-requires-clause-fits : goal.count-requires-clause-fits
count-requires-clause-fits c =
    let rows = c.args.scoping.now.scopes in
    let l = chain_short rows c.args.from.0 in
    let e = ap (λ a. length (ancestors_left a)) c.take_while.ensures.source in
    let f = ap (λ xs. length xs) c.ancestors_from.ensures in
    inl (omega arith)

pub returns : goal.returns
unfolding passed
returns c =
    let rows = c.args.scoping.now.scopes in
    let xs = chain rows c.args.from.0 in
    count_from_yields_List c.take_while.result c.count.result c.count.ensures.ran (YieldsList-from_take_while _ (λ s. not (is_var rows s)) (YieldsList-at c.take_while.ensures.source (climbs xs c.ancestors_from.ensures)) c.take_while.ensures.closure c.take_while.ensures.done (λ x b q k. search rules))
    ∙ ap (λ ys. length ys) (taken_before (is_var rows) xs)
