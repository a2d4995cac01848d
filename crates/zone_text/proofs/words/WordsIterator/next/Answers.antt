use Rattle.std.proofs.Common.{◌≡◌, ◌<◌, not, ◌∷◌, length, refl, sym, ap, arith, ◌∙◌, rules, tests}
use Rattle.std.specs.List.{position}
use Rattle.std.proofs.lemmas.Iterator.{YieldsList-from_slice}
use Rattle.std.proofs.lemmas.Iterator.Search.{position_from_yields_List}
use Rattle.zone_text.specs.declared.separator.Separator.TheVariants.{Space}
use Rattle.zone_text.specs.Pieces.{separates, words}
use Rattle.zone_text.proofs.Cutting.{first_filled, none_filled}
use Rattle.zone_text.proofs.words.WordsIterator.next.Goals as goal

pub returns-in_err-start-clause-steps : goal.returns-in_err-start-clause-steps
returns-in_err-start-clause-steps c =
    let line = c.self.inside.rest.now in
    let found : c.position.result ≡ position (λ b. not (separates Space b)) line = position_from_yields_List (λ b. not (separates Space b)) _ _ c.position.result c.position.ensures.ran (YieldsList-from_slice line cc) (λ x b q k. search (rules, tests)) in
    let none = none_filled (separates Space) line (sym c.in_err-start.was ∙ found) in
    rw (c.from_residual.ensures, ← c.self.view_is) (none, refl)

-- the line's first word is the one behind the spaces, and the others are left
pub returns : goal.returns
returns c =
    let line = c.self.inside.rest.now in
    let found : c.position.result ≡ position (λ b. not (separates Space b)) line = position_from_yields_List (λ b. not (separates Space b)) _ _ c.position.result c.position.ensures.ran (YieldsList-from_slice line cc) (λ x b q k. search (rules, tests)) in
    let first : words line ≡ c.cut.result.0.now ∷ words c.cut.result.1.now = first_filled (separates Space) line c.in_ok-start.start (sym c.in_ok-start.was ∙ found) ∙ sym (λ i. c.cut.ensures.front i ∷ words (c.cut.ensures.back i)) in
    let fewer : length (words c.cut.result.1.now) < length (words line) = omega (arith, ap length first) in
    rw (← c.self.view_is) (record { steps = first; goes = search rules })
