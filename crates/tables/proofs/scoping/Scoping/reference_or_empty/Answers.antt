use Rattle.std.proofs.Common.{rules, ap, ◌∙◌}
use Rattle.std.specs.List.{slice_get}
use Rattle.tables.specs.EmptyRows.{no_reference}
use Rattle.tables.proofs.RowAnswers.{row_or}
use Rattle.tables.proofs.scoping.Scoping.reference_or_empty.Goals as goal

pub returns : goal.returns
returns c = row_or _ c.args.id.0 c.row_at.result _ _ no_reference (c.row_at.ensures ∙ ap (λ xs. slice_get xs c.args.id.0) c.references.ensures.rows) (λ p. search rules) c.unwrap_or_default.ensures
