use Rattle.std.proofs.Common.{◌≡◌, ◌+◌, ◌≤◌, length, drop}
use Rattle.tables.specs.Picked.{owned}
use Rattle.tables.proofs.owned.count_of.Given as goal

abbrev pub invariant-loop-row : goal.invariant-loop-row
invariant-loop-row g l =
    (l.count + length (owned g.T.OwnedRow.owner (g.T.OwnedRow.number l.owner) (drop l.row-index l.rows)) ≡ length (owned g.T.OwnedRow.owner (g.T.OwnedRow.number l.owner) l.rows))
    × (l.count ≤ l.row-index)
