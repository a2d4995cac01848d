use Rattle.std.proofs.Common.{◌≡◌, ◌+◌, [], ◌∷◌, length, sym, ap, ◌∙◌, arith}
use Rattle.std.proofs.lemmas.Grind.{common_steps}
use Rattle.tables.specs.Contents.{Contents}
use Rattle.model.specs.Basics.{maybe, scope_number}
use Rattle.model.specs.Scopes.{passed, is_var, parent_of}
use Rattle.model.specs.Declaring.{scan}
use Rattle.kinds.specs.Telling.{plain}
use Rattle.model.proofs.Walks.{passed_here}
use Rattle.lookup.specs.NamesIn.{names_in}
use Rattle.declaring.proofs.Scans.{scan_step, scan_past, fits_past, passed_on}
use Rattle.declaring.proofs.hoist.scan_passed.Goals as goal
use Rattle.declaring.proofs.hoist.scan_passed.Goals.{in-None-1, in-Some+else-not-is_var}

pub returns-in-Some-scan_scope-clause-names : goal.returns-in-Some-scan_scope-clause-names
returns-in-Some-scan_scope-clause-names g c =
    let t = c.loop-next.names.scoping in
    let rows = t.scopes in
    let at = c.in-Some.at.0 in
    let way = passed_on rows c.is_var.ensures.tree at (sym c.is_var.ensures.var ∙ c.if-not-is_var.true) in
    let step = scan_step (plain c.args.d) c.args.to.0 at (names_in g.B.PairSet.pairs g.H.PairSet.pairs c.loop-next.names) (maybe (parent_of rows at) [] (passed rows)) in
    grind (arith, common_steps)

pub loop-next-preserved : goal.loop-next-preserved
loop-next-preserved g c =
    let t = c.scan_scope.new.names.scoping in
    let rows = t.scopes in
    let at = c.in-Some.at.0 in
    let kept = ap (λ (x : Contents). x.scopes) c.in_default.ensures.rest in
    let way = passed_on rows c.parent-next.ensures.tree at (ap (λ xs. is_var xs at) kept ∙ sym c.is_var.ensures.var ∙ c.if-not-is_var.true) in
    let left = maybe (scope_number c.parent-next.result) [] (passed rows) in
    let past = scan_past (plain c.args.d) c.args.to.0 at _ _ c.in_default.ensures.names left in
    let there : at ∷ left ≡ maybe (scope_number c.loop-next.next) [] (passed c.loop-next.names.scoping.scopes) = grind (arith, common_steps) in
    let long = ap (λ xs. length xs) there in
    record {
      same = grind (arith, common_steps);
      rest = c.in_default.ensures.rest ∙ c.loop-next.invariant.rest;
      fits = fits_past (plain c.args.d) c.args.to.0 at _ _ c.in_default.ensures.names _ (length left + 1) (omega arith) c.loop-next.invariant.fits;
    }

pub returns-clause-names : goal.returns-clause-names
unfolding scan
returns-clause-names g c = elim c.match-next.branch [
  | in-None-1 w ↦ grind (arith, common_steps)
  | in-Some+else-not-is_var w ↦
      let here = passed_here c.loop-next.names.scoping.scopes w.is_var.ensures.tree in
      grind (arith, common_steps, here)
]
