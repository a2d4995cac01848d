use Rattle.std.proofs.Common.{ap, ◌∙◌, rules}
use Rattle.tables.specs.Flags.{meets, TsConditional}
use Rattle.tables.specs.declared.id.ScopeId.{ScopeId}
use Rattle.model.specs.Scopes.{flags_in, conditional_scope, chain}
use Rattle.lookup.proofs.Climbs.{nearest}
use Rattle.lookup.proofs.chain.conditional_or_self.Goals as goal

pub returns : goal.returns
unfolding conditional_scope
returns c =
    let rows = c.args.scoping.now.scopes in
    ap (λ (s : ScopeId). s.0) c.unwrap_or.ensures
    ∙ nearest (λ p. meets (flags_in rows p) TsConditional) c.find.new.self c.find.result c.args.from (chain rows c.args.from.0) c.find.ensures.ran c.ancestors_from.ensures (λ x b q k. search rules)
