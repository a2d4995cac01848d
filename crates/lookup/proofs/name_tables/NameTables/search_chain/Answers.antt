use Rattle.std.proofs.Common.{◌∙◌}
use Rattle.model.specs.Scopes.{chain}
use Rattle.lookup.proofs.BoundNames.{seek_of_names}
use Rattle.lookup.proofs.name_tables.NameTables.search_chain.Goals as goal

pub returns : goal.returns
returns g c =
    let names = c.args.self.now in
    let rows = names.scoping.scopes in
    c.search_chain.ensures
    ∙ seek_of_names names.scoping (g.B.PairSet.pairs names.bindings) (g.H.PairSet.pairs names.hoisting) rows c.args.name.0 c.args.flags.0 c.args.upto (chain rows c.args.from.0)
