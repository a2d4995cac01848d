use Rattle.std.proofs.Common.{List, length, sym, ◌∙◌, ap, arith}
use Rattle.std.specs.List.{slice_get}
use Rattle.std.proofs.lemmas.Option.{slice_get-get_or}
use Rattle.tables.specs.Contents.{Contents}
use Rattle.tables.specs.declared.row.UnresolvedReference.{UnresolvedReference}
use Rattle.model.specs.View.{uses_of}
use Rattle.resolving.proofs.Resolvings.{resolved_to_more, resolved_to_all}
use Rattle.resolving.proofs.resolve.settle_pending.Goals as goal

pub loop-k-preserved : goal.loop-k-preserved
loop-k-preserved g c =
    let i = c.loop-k.invariant in
    let rows = c.pending.result.now in
    let there = slice_get-get_or rows c.loop-k.k _ (omega (arith, ap length c.pending.ensures.rows, ap length c.pending-count.ensures.rows, i.long)) in
    resolved_to_more _ _ _ _ _ _ _ _ _ _ _ c.loop-k.k _ c.fate_of-fate.result i (ap (λ (xs : List UnresolvedReference). slice_get xs c.loop-k.k) (sym c.pending.ensures.rows) ∙ there) c.fate_of-fate.ensures c.settle_entry-next.ensures

pub returns-clause-after : goal.returns-clause-after
returns-clause-after g c =
    let n = ap length c.pending-count.ensures.rows in
    λ h.
    ap (λ (t : Contents). uses_of t (g.R.PairSet.pairs c.loop-k.roots)) c.cut_pending.ensures ∙
    resolved_to_all _ _ _ _ _ _ _ _ c.loop-k.k c.loop-k.invariant (omega arith) h
