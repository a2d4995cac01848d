use Rattle.std.proofs.Common.{ap, ◌∙◌, rules}
use Rattle.tables.specs.Ids.{the_scope}
use Rattle.tables.specs.declared.id.ScopeId.{ScopeId}
use Rattle.model.specs.Scopes.{is_var, target, chain}
use Rattle.lookup.proofs.Climbs.{nearest}
use Rattle.lookup.proofs.chain.var_scope.Goals as goal

pub returns : goal.returns
unfolding target
returns c =
    let rows = c.args.scoping.now.scopes in
    ap (λ (s : ScopeId). s.0) c.unwrap_or.ensures
    ∙ nearest (is_var rows) c.find.new.self c.find.result (the_scope 0) (chain rows c.args.from.0) c.find.ensures.ran c.ancestors_from.ensures (λ x b q k. search rules)
