-- What a builder keeps of its current scope and its tables.
use Rattle.std.specs.Prelude.{◌≡◌, ℕ, ◌+◌, ◌<◌, ◌≤◌, length, Some}
use Rattle.std.specs.List.{slice_get}
use Rattle.tables.specs.Contents.{Contents}
use Rattle.tables.specs.Limits.{most_references}
use Rattle.tables.specs.declared.row.UnresolvedReference.{UnresolvedReference}

-- what waits is a reference that is there
abbrev pub Waits : Contents → Type 0
Waits c = (k : ℕ) (e : UnresolvedReference) → slice_get c.pending k ≡ Some e → e.reference.0 < length c.references

pub record Kept (current : ℕ) (c : Contents) : Type 0 where
  pub here : current < length c.scopes
  pub waits : Waits c
  pub counted : length c.pending + length c.resolved + length c.root ≡ length c.references
  pub few : length c.references ≤ most_references
