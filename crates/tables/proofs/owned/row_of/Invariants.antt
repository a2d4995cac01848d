use Rattle.std.proofs.Common.{◌≡◌, drop}
use Rattle.std.specs.List.{slice_get}
use Rattle.tables.specs.Picked.{owned}
use Rattle.tables.proofs.owned.row_of.Given as goal

abbrev pub invariant-loop-row : goal.invariant-loop-row
invariant-loop-row g l =
    slice_get (owned g.T.OwnedRow.owner (g.T.OwnedRow.number l.owner) (drop l.row-index l.rows)) l.ahead ≡ slice_get (owned g.T.OwnedRow.owner (g.T.OwnedRow.number l.owner) l.rows) l.fn.k
