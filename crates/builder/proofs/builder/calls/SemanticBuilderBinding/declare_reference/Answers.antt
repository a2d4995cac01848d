use Rattle.std.proofs.Common.{◌≡◌, ◌<◌, [], ◌∷◌, ◌++◌, length, None, sym, ap, ◌∙◌, subst, arith}
use Rattle.tables.specs.Contents.{Contents, with_references, with_pending, pushed}
use Rattle.tables.specs.Ids.{the_reference}
use Rattle.tables.specs.declared.id.ReferenceId.{ReferenceId}
use Rattle.tables.specs.declared.row.ReferenceRow.{ReferenceRow}
use Rattle.tables.specs.declared.row.UnresolvedReference.{UnresolvedReference}
use Rattle.tables.specs.declared.refusal.Refusal.TheVariants.{ReferencesFull}
use Rattle.builder.specs.Kept.{Kept}
use Rattle.builder.proofs.Kept.{kept_referred}
use Rattle.tables.proofs.Pushes.{pushed_room, push_ok}
use Rattle.builder.proofs.builder.calls.SemanticBuilderBinding.declare_reference.Goals as goal

pub invariant_of-self-2 : goal.invariant_of-self-2
invariant_of-self-2 g c =
    let s = c.args.self.now in
    let t = s.names.scoping in
    let row : ReferenceRow = record { node = c.args.reference.node; flags = c.args.reference.flags; symbol = None } in
    let id = c.in_ok-id.id in
    let entry : UnresolvedReference = record { name = c.args.reference.name; reference = id; scope = c.args.reference.scope } in
    let p = push_ok 512 t.references row the_reference ReferencesFull id c.in_ok-id.ensures.answer in
    let is : id.0 ≡ length t.references = ap (λ (x : ReferenceId). x.0) p.number in
    let few : length t.pending < 512 = omega (arith, s.kept.counted, p.room) in
    let e = c.add_pending.ensures.after ∙ ap (λ (x : Contents). with_pending x (pushed 512 x.pending entry)) (c.in_ok-id.ensures.after ∙ ap (with_references t) p.rows)
    ∙ ap (with_pending (with_references t (t.references ++ row ∷ []))) (pushed_room 512 t.pending entry few) in
    record { kept = subst (Kept s.current.0) (sym e) (kept_referred s.current.0 t row entry is p.room s.kept) }
