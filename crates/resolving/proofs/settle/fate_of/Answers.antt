use Rattle.std.proofs.Common.{sym, ap, ◌∙◌, rules}
use Rattle.stores.specs.Pairs.{no_pairs}
use Rattle.model.specs.Scopes.{chain}
use Rattle.model.specs.View.{names_of, uses_of}
use Rattle.lookup.proofs.BoundNames.{seek_of_names}
use Rattle.resolving.proofs.Seeks.{sought_fate, fate_told, fate_elsewhere}
use Rattle.resolving.proofs.settle.fate_of.Goals as goal

pub returns-then-is_some_and : goal.returns-then-is_some_and
returns-then-is_some_and g c =
    let t = c.args.scoping.now in
    λ h. fate_elsewhere t.scopes (names_of t (g.B.PairSet.pairs c.args.bindings.now) h) (uses_of t no_pairs) c.args.entry c.args.end (search rules)

pub returns-in-Found : goal.returns-in-Found
returns-in-Found g c =
    let t = c.args.scoping.now in
    let b = g.B.PairSet.pairs c.args.bindings.now in
    let e = c.args.entry in
    let row = c.reference_or_empty.result in
    let last = c.map-last.result in
    λ h. ap (sought_fate c.args.end) (sym c.in-Found.is) ∙
    fate_told t.scopes (names_of t b h) (uses_of t no_pairs) e c.args.end row last c.search_chain.result
    (search rules) c.reference_or_empty.ensures (search rules) (c.search_chain.ensures ∙ seek_of_names t b h t.scopes e.name.0 row.flags.0 last (chain t.scopes e.scope.0))

pub returns-in-Ended : goal.returns-in-Ended
returns-in-Ended g c =
    let t = c.args.scoping.now in
    let b = g.B.PairSet.pairs c.args.bindings.now in
    let e = c.args.entry in
    let row = c.reference_or_empty.result in
    let last = c.map-last.result in
    λ h. ap (sought_fate c.args.end) (sym c.in-Ended.is) ∙
    fate_told t.scopes (names_of t b h) (uses_of t no_pairs) e c.args.end row last c.search_chain.result
    (search rules) c.reference_or_empty.ensures (search rules) (c.search_chain.ensures ∙ seek_of_names t b h t.scopes e.name.0 row.flags.0 last (chain t.scopes e.scope.0))

pub returns-in-Passed : goal.returns-in-Passed
returns-in-Passed g c =
    let t = c.args.scoping.now in
    let b = g.B.PairSet.pairs c.args.bindings.now in
    let e = c.args.entry in
    let row = c.reference_or_empty.result in
    let last = c.map-last.result in
    λ h. search rules ∙ ap (sought_fate c.args.end) (sym c.in-Passed.is) ∙
    fate_told t.scopes (names_of t b h) (uses_of t no_pairs) e c.args.end row last c.search_chain.result
    (search rules) c.reference_or_empty.ensures (search rules) (c.search_chain.ensures ∙ seek_of_names t b h t.scopes e.name.0 row.flags.0 last (chain t.scopes e.scope.0))
