-- What becomes of a pending entry, and what that makes of the pending list.
use Rattle.std.specs.Prelude.{◌≡◌, ℕ, ◌+◌, ◌-◌, ◌<◌, ◌≤◌, List, length, take, drop, Some, None, Option, slice_set}
use Rattle.tables.specs.declared.id.Name.{Name}
use Rattle.tables.specs.declared.row.ScopeRow.{ScopeRow}
use Rattle.tables.specs.declared.row.UnresolvedReference.{UnresolvedReference}
use Rattle.tables.specs.Contents.{Contents}
use Rattle.tables.specs.Limits.{most_references}
use Rattle.stores.specs.Pairs.{Pairs, no_pairs, least_capacity}
use Rattle.model.specs.State.{Names, Uses}
use Rattle.model.specs.Resolving.{Fate as ModelFate, resolve_to, list_at_root, stay, fate_here, fate_at_end, deferred, keep_pending, settle, settle_all}
use Rattle.model.specs.View.{names_of, uses_of, beside_uses}
use Rattle.resolving.specs.declared.fate.Fate.{Fate}
use Rattle.resolving.specs.declared.fate.Fate.TheVariants.{Resolve, ListAtRoot, Stay}
use Rattle.resolving.specs.declared.fate.EndOfScope.{EndOfScope}

-- a fate as the reference machine has it
abbrev pub fate_meant : Fate → ModelFate
fate_meant (Resolve s) = resolve_to s.0
fate_meant ListAtRoot = list_at_root
fate_meant (Stay s) = stay s.0

-- and the fate that the machine gives an entry, at the end of a scope or of the program
abbrev pub fate_in : Option EndOfScope → List ScopeRow → Names → Uses → UnresolvedReference → ModelFate
fate_in (Some end) rows = fate_here rows end.scope.0 end.parent.0
fate_in None rows = fate_at_end rows

-- the uses, with the front of the pending list alone
abbrev pub kept_front : Uses → ℕ → Uses
kept_front us kept = keep_pending us (take kept us.pending)

-- the uses once all entries from `start` on are settled
abbrev pub resolve_by : Option EndOfScope → List ScopeRow → Names → ℕ → Uses → Uses
resolve_by end rows nm start us = settle_all nm (fate_in end rows nm) (kept_front us start) (drop start us.pending)

-- the entries from `start` on are there, and so are the rows and the root lists that settling them takes
pub record HasRoom (us : Uses) (start : ℕ) : Type 0 where
  pub there : start ≤ length us.pending
  pub rows : length us.pending + length us.resolved + length us.root ≤ most_references
  pub lists : us.roots.size + (length us.pending - start) ≤ least_capacity

-- one more entry can be resolved or listed
pub record HasRoomForOne (us : Uses) : Type 0 where
  pub resolved : length us.resolved < most_references
  pub root : length us.root < most_references
  pub lists : us.roots.size < least_capacity

-- Entries that stay are written over the front of the pending list.

abbrev pub kept_by : Fate → ℕ → ℕ
kept_by (Resolve s) kept = kept
kept_by ListAtRoot kept = kept
kept_by (Stay s) kept = kept + 1

abbrev pub pending_by : Fate → List UnresolvedReference → ℕ → UnresolvedReference → List UnresolvedReference
pending_by (Resolve s) ps kept e = ps
pending_by ListAtRoot ps kept e = ps
pending_by (Stay s) ps kept e = slice_set ps kept (deferred e s.0)

-- all that settling reads of the names
abbrev pub symbols_of : Contents → Names
symbols_of c = names_of c no_pairs no_pairs

-- one entry is settled: from the old and root lists to the new ones
pub record Settled (old : Contents) (roots : Pairs Name) (new : Contents) (lists : Pairs Name) (e : UnresolvedReference) (f : Fate) (kept next : ℕ) : Type 0 where
  pub after : kept_front (uses_of new lists) next ≡ settle (symbols_of old) (kept_front (uses_of old roots) kept) e (fate_meant f)
  pub pending : new.pending ≡ pending_by f old.pending kept e
  pub count : next ≡ kept_by f kept
  pub rest : beside_uses new ≡ beside_uses old
