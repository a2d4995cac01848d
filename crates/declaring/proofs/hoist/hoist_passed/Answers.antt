use Rattle.std.proofs.Common.{ℕ, List, ◌∷◌, length, suc, ◌≡◌, sym, ap, ◌∙◌, arith}
use Rattle.std.proofs.lemmas.Grind.{common_steps}
use Rattle.stores.specs.Keys.{same_scope_and_name}
use Rattle.model.specs.Basics.{place, before}
use Rattle.model.specs.Scopes.{is_var}
use Rattle.model.specs.Declaring.{hoist_all}
use Rattle.model.specs.View.{names_of}
use Rattle.lookup.specs.Ancestry.{ancestors_left}
use Rattle.stores.proofs.Rooms.{put_room}
use Rattle.declaring.proofs.hoist.hoist_passed.Goals as goal

pub loop-at-preserved : goal.loop-at-preserved
unfolding hoist_all
loop-at-preserved g c =
    let way : List ℕ → List ℕ = before (is_var c.args.names.now.scoping.scopes) in
    let h = c.loop-at.hoisting in
    let room = c.loop-at.invariant.room in
    let more : length (way (ancestors_left c.loop-at.at-iterator)) ≡ suc (length (way (ancestors_left c.next.new.self))) = grind (arith, common_steps) in
    let enough = (g.H.PairSet.bounds h).enough in
    let pairs = put_room same_scope_and_name (g.H.PairSet.pairs h) (place c.in-Some.at.0 c.args.name.0) c.args.symbol.0 (g.H.PairSet.capacity h) (omega arith) in
    let here : way (ancestors_left c.loop-at.at-iterator) ≡ c.in-Some.at.0 ∷ way (ancestors_left c.next.new.self) = grind (arith, common_steps) in
    let hoisted = c.insert.ensures.after ∙ pairs in
    let on = ap (λ ps. hoist_all (names_of c.args.names.now.scoping (g.B.PairSet.pairs c.args.names.now.bindings) (g.H.PairSet.pairs h)) ps c.args.name.0 c.args.symbol.0) here in
    let put_in = ap (λ x. hoist_all (names_of c.args.names.now.scoping (g.B.PairSet.pairs c.args.names.now.bindings) x) (way (ancestors_left c.next.new.self)) c.args.name.0 c.args.symbol.0) hoisted in
    record { same = put_in ∙ sym on ∙ c.loop-at.invariant.same; room = grind (arith, common_steps) }
