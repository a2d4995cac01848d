use Rattle.std.proofs.Common.{◌≡◌, sym, ◌∙◌, rules, tests}
use Rattle.std.specs.List.{position}
use Rattle.std.proofs.lemmas.Iterator.{YieldsList-from_slice}
use Rattle.std.proofs.lemmas.Iterator.Search.{position_from_yields_List}
use Rattle.zone_text.specs.Pieces.{separates}
use Rattle.zone_text.proofs.Cutting.{cut_at, cut_nowhere}
use Rattle.zone_text.proofs.separator.cut.Goals as goal

pub returns-in-Some : goal.returns-in-Some
returns-in-Some c =
    let found : c.position.result ≡ position (separates c.args.separator) c.args.text.now = position_from_yields_List (separates c.args.separator) _ _ c.position.result c.position.ensures.ran (YieldsList-from_slice c.args.text.now cc) (λ x b q k. search (rules, tests)) in
    let parts = cut_at (separates c.args.separator) c.args.text.now c.in-Some.end (sym c.in-Some.is ∙ found) in
    record { front = parts.0; back = parts.1 }

pub returns-in-None : goal.returns-in-None
returns-in-None c =
    let found : c.position.result ≡ position (separates c.args.separator) c.args.text.now = position_from_yields_List (separates c.args.separator) _ _ c.position.result c.position.ensures.ran (YieldsList-from_slice c.args.text.now cc) (λ x b q k. search (rules, tests)) in
    let parts = cut_nowhere (separates c.args.separator) c.args.text.now (sym c.in-None.is ∙ found) in
    record { front = parts.0; back = parts.1 }
