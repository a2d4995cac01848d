use Rattle.std.proofs.Common.{rules, ap, ◌∙◌}
use Rattle.std.specs.List.{slice_get}
use Rattle.tables.specs.EmptyRows.{no_scope}
use Rattle.tables.proofs.RowAnswers.{row_or}
use Rattle.tables.proofs.scoping.Scoping.scope_or_empty.Goals as goal

pub returns-clause-row : goal.returns-clause-row
returns-clause-row c = row_or _ c.args.id.0 c.row_at.result _ _ no_scope (c.row_at.ensures ∙ ap (λ xs. slice_get xs c.args.id.0) c.scopes.ensures.rows) (λ p. search rules) c.unwrap_or_default.ensures
