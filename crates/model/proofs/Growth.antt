-- How the uses grow by one entry that is settled.
use Rattle.std.proofs.Common.{◌≡◌, ℕ, ◌+◌, ◌≤◌, length, arith}
use Rattle.std.proofs.lemmas.List.{length_push, length-set}
use Rattle.tables.specs.declared.row.UnresolvedReference.{UnresolvedReference}
use Rattle.model.specs.State.{Names, Uses}
use Rattle.model.specs.Resolving.{Fate, resolve_to, list_at_root, stay, settle}

-- how many entries there are in the three lists
abbrev pub entries : Uses → ℕ
entries us = length us.pending + length us.resolved + length us.root

-- what one entry more changes of the sizes
pub record Grown (us v : Uses) : Type 0 where
  pub references : length v.references ≡ length us.references
  pub total : entries v ≡ entries us + 1
  pub resolved : length us.resolved ≤ length v.resolved
  pub root : length us.root ≤ length v.root
  pub size : v.roots.size ≤ us.roots.size + 1

pub grown : (nm : Names) (us : Uses) (e : UnresolvedReference) (f : Fate) → Grown us (settle nm us e f)
unfolding settle
grown nm us e (resolve_to s) = search (arith, length_push, length-set)
grown nm us e list_at_root = search (arith, length_push, length-set)
grown nm us e (stay s) = search (arith, length_push, length-set)
