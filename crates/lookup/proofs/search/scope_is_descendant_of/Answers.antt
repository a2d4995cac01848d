use Rattle.std.proofs.Common.{eqb, ◌∙◌, rules, tests}
use Rattle.std.proofs.lemmas.Iterator.Search.{any_from_yields_List}
use Rattle.model.specs.Scopes.{is_below, chain}
use Rattle.lookup.proofs.Climbs.{climbs, any_of_list}
use Rattle.lookup.proofs.search.scope_is_descendant_of.Goals as goal

pub returns : goal.returns
unfolding is_below
returns c =
    let xs = chain c.args.scoping.now.scopes c.args.scope.0 in
    any_from_yields_List (eqb c.args.here.0) c.any.new.self _ c.any.result c.any.ensures.ran (climbs xs c.ancestors_from.ensures) (λ x b q k. search (rules, tests))
    ∙ any_of_list (eqb c.args.here.0) xs
