use Rattle.std.proofs.Common.{ap, arith}
use Rattle.std.proofs.lemmas.Grind.{common_steps}
use Rattle.stores.specs.Keys.{same_scope_and_name}
use Rattle.stores.specs.Pairs.{Pairs}
use Rattle.stores.specs.declared.key.ScopeAndName.{ScopeAndName}
use Rattle.model.specs.Basics.{place}
use Rattle.model.specs.State.{Names}
use Rattle.model.specs.Declaring.{Declared, declare_moved_out}
use Rattle.kinds.specs.Telling.{plain}
use Rattle.lookup.specs.NamesIn.{names_in}
use Rattle.declaring.proofs.Kept.{move_hoists, declare_hoists, moved_room}
use Rattle.stores.proofs.Rooms.{put_room}
use Rattle.declaring.proofs.hoist.declare_moved_out.Goals as goal

pub move_binding-requires : goal.move_binding-requires
move_binding-requires g c =
    let room = moved_room (plain c.args.d) c.args.current.0 (names_in g.B.PairSet.pairs g.H.PairSet.pairs c.args.names.now) c.requires.fits.bindings in
    grind (arith, common_steps)

pub returns-clause-names : goal.returns-clause-names
unfolding declare_moved_out
returns-clause-names g c =
    let h = c.move_binding.new.names.hoisting in
    let s = c.declare_symbol_on_scope-symbol.result.0 in
    let moved = ap (λ (nm : Names). nm.hoisting.size) c.move_binding.ensures.names in
    let made = ap (λ (r : Declared). r.names.hoisting.size) c.declare_symbol_on_scope-symbol.ensures.names in
    let kept = ap (λ (p : Pairs ScopeAndName). p.size) (move_hoists (names_in g.B.PairSet.pairs g.H.PairSet.pairs c.declare_symbol_on_scope-symbol.new.names) c.args.current.0 c.var_scope-to.result.0 c.args.d.name.0 s) in
    let as_before = ap (λ (p : Pairs ScopeAndName). p.size) (declare_hoists (plain c.args.d) c.args.current.0 (names_in g.B.PairSet.pairs g.H.PairSet.pairs c.args.names.now)) in
    let room = c.requires.hoisted in
    let enough = (g.H.PairSet.bounds h).enough in
    let pairs = put_room same_scope_and_name (g.H.PairSet.pairs h) (place c.args.current.0 c.args.d.name.0) s (g.H.PairSet.capacity h) (omega arith) in
    grind (arith, common_steps)
