-- The calls: which are refused, what the others do and answer, and runs of calls.
use Rattle.std.specs.Prelude.{ℕ, suc, ◌+◌, ◌-◌, Bool, true, cond, not, ◌&&◌, ◌||◌, List, [], ◌∷◌, ◌++◌, length, Some, None, Option, Ok, Err, Result, ◌==◌, bit_and, bit_or, nat_le, nat_lt, slice_set}
use Rattle.tables.specs.Flags.{meets, less, all_scope_flags, all_reference_flags, DirectEval, StrictMode}
use Rattle.tables.specs.declared.row.ScopeRow.{ScopeRow}
use Rattle.tables.specs.declared.refusal.Refusal.{Refusal}
use Rattle.tables.specs.declared.refusal.Refusal.TheVariants.{UnlistedBits, UnknownKind, ModifierNotOfKind, SpanReversed, NoSuchScope, ScopesFull, DeclarationsFull, ReferencesFull, AtRoot, StartPastPending, StoreFull}
pub use Rattle.tables.specs.Limits.{most_scopes, most_symbols, most_references, most_redeclarations, most_conflicts, most_hoisted, no_room}
use Rattle.stores.specs.Pairs.{least_capacity}
use Rattle.model.specs.declared.call.NewScope.{NewScope}
use Rattle.model.specs.declared.call.Declaration.{Declaration}
use Rattle.model.specs.declared.call.NewReference.{NewReference}
use Rattle.model.specs.declared.call.Call.{Call}
use Rattle.model.specs.declared.call.Call.TheVariants.{EnterScope, LeaveScope, Bind, DeclareReference, ResolveReferences, ResolveAllReferences}
use Rattle.model.specs.declared.call.Granted.{Granted}
use Rattle.model.specs.declared.call.Granted.TheVariants.{Scope, Symbol, Reference, Counted}
use Rattle.model.specs.Basics.{maybe, the_scope, the_symbol, the_reference, scope_flags}
use Rattle.model.specs.Kinds.{TypeScript, kind_row, last_kind, includes, excludes, manner}
use Rattle.model.specs.State.{Names, Uses, Machine, scope_row}
use Rattle.model.specs.Scopes.{parent_of, flags_in, is_var, is_strict, chain, target, passed, conditional_scope, is_below}
use Rattle.model.specs.Declaring.{Told, Declared, declare, add_symbol_redeclaration, unite, complain, found, declare_shadow_symbol, declare_symbol_on_scope, move_binding, scan, hoist_all, declare_var, declare_moved_out}
use Rattle.model.specs.Resolving.{resolve_end, resolve_here, lookup_chain, search, settle, settle_all, fate_at_end, fate_here, has_ended}

-- `model::call::Answer`
abbrev pub Answer : Type 0
Answer = Result Granted Refusal

-- the first refusal whose condition holds

pub record Test : Type 0 where
  pub refusal : Refusal
  pub holds : Bool

infix 90 ◌if◌
abbrev pub ◌if◌ : Refusal → Bool → Test
r if b = record { refusal = r; holds = b }

abbrev pub first_of : List Test → Option Refusal
first_of [] = None
first_of (t ∷ ts) = cond t.holds (Some t.refusal) (first_of ts)

-- how many scopes a declaration may write to: a var's passed scopes and its target
abbrev pub reach : Machine → ℕ → ℕ
reach m kind = cond (kind == 1) (suc (length (passed m.scopes m.current))) 1

abbrev pub declarations_full : Machine → ℕ → Bool
declarations_full m kind =
    no_room (length m.names.symbols) (length m.names.redeclarations) (length m.names.conflicts) m.names.hoisting.size (reach m kind)

-- why a call is refused, if it is
unfoldable pub refusal : Machine → Call → Option Refusal
refusal m (EnterScope s) = first_of (UnlistedBits if nat_lt all_scope_flags s.flags.0 ∷ ScopesFull if nat_le most_scopes (length m.scopes) ∷ [])
refusal m LeaveScope = first_of (AtRoot if (m.current == 0) ∷ [])
refusal m (Bind d) =
    first_of (UnknownKind if (d.kind == 0 || nat_lt last_kind d.kind) ∷ ModifierNotOfKind if not (less d.modifiers (kind_row d.kind).modifiers == 0)
    ∷ SpanReversed if nat_lt d.end d.start ∷ DeclarationsFull if declarations_full m d.kind ∷ [])
refusal m (DeclareReference r) =
    first_of (UnlistedBits if nat_lt all_reference_flags r.flags.0 ∷ NoSuchScope if nat_le (length m.scopes) r.scope.0 ∷ ReferencesFull if nat_le most_references (length m.uses.references) ∷ [])
refusal m (ResolveReferences start) =
    first_of (AtRoot if (m.current == 0 && not (start == length m.uses.pending)) ∷ StartPastPending if nat_lt (length m.uses.pending) start ∷ [])
refusal m ResolveAllReferences = None

abbrev pub with_uses : Machine → Uses → Machine
with_uses m us = record { setting = m.setting; current = m.current; scopes = m.scopes; names = m.names; uses = us }

abbrev pub with_names : Machine → Names → Machine
with_names m nm = record { setting = m.setting; current = m.current; scopes = m.scopes; names = nm; uses = m.uses }

abbrev pub at_scope : Machine → ℕ → List ScopeRow → Machine
at_scope m s rows = record { setting = m.setting; current = s; scopes = rows; names = m.names; uses = m.uses }

-- a scope is strict if its parent is
abbrev pub child : List ScopeRow → ℕ → NewScope → ScopeRow
child rows here s = record { parent = Some (the_scope here); node = s.node; flags = scope_flags (bit_or s.flags.0 (bit_and (flags_in rows here) StrictMode)) }

abbrev pub parent_here : Machine → ℕ
parent_here m = maybe (parent_of m.scopes m.current) 0 (λ p. p)

-- a scope hands DirectEval to its parent
abbrev pub handed : List ScopeRow → ℕ → ℕ → ScopeRow
handed rows from to =
    record { parent = (scope_row rows to).parent; node = (scope_row rows to).node; flags = scope_flags (bit_or (flags_in rows to) (bit_and (flags_in rows from) DirectEval)) }

-- what a declaration tells in the current scope
abbrev pub told : Machine → Declaration → Told
told m d =
    record {
      name = d.name.0;
      start = d.start;
      end = d.end;
      node = d.node.0;
      includes = includes d.kind d.modifiers;
      excludes = excludes d.kind d.modifiers (meets m.setting TypeScript) (is_strict m.scopes m.current);
    }

abbrev pub bound : Machine → Declaration → Declared
bound m d =
    declare (manner d.kind d.modifiers (meets m.setting TypeScript) (is_strict m.scopes m.current) (is_var m.scopes m.current))
    (told m d) m.scopes m.current m.names

abbrev pub refer : NewReference → Uses → Uses
refer r us =
    record {
      references = us.references ++ record { node = r.node; flags = r.flags; symbol = None } ∷ [];
      pending = us.pending ++ record { name = r.name; reference = the_reference (length us.references); scope = r.scope } ∷ [];
      resolved = us.resolved;
      root = us.root;
      roots = us.roots;
    }

-- the machine after a call that is granted
unfoldable pub granted : Machine → Call → Machine
granted m (EnterScope s) = at_scope m (length m.scopes) (m.scopes ++ child m.scopes m.current s ∷ [])
granted m LeaveScope = at_scope m (parent_here m) (slice_set m.scopes (parent_here m) (handed m.scopes m.current (parent_here m)))
granted m (Bind d) = with_names m (bound m d).names
granted m (DeclareReference r) = with_uses m (refer r m.uses)
granted m (ResolveReferences start) = with_uses m (resolve_here m.scopes m.current m.names start m.uses)
granted m ResolveAllReferences = with_uses m (resolve_end m.scopes m.names m.uses)

-- how the lists have grown, and what is pending
abbrev pub counted : Uses → Uses → Granted
counted old new = Counted (record { resolved = length new.resolved - length old.resolved; root = length new.root - length old.root; pending = length new.pending })

-- and its answer
unfoldable pub granted_answer : Machine → Call → Granted
granted_answer m (EnterScope s) = Scope (the_scope (length m.scopes))
granted_answer m LeaveScope = Scope (the_scope (parent_here m))
granted_answer m (Bind d) = Symbol (the_symbol (bound m d).symbol)
granted_answer m (DeclareReference r) = Reference (the_reference (length m.uses.references))
granted_answer m (ResolveReferences start) = counted m.uses (resolve_here m.scopes m.current m.names start m.uses)
granted_answer m ResolveAllReferences = counted m.uses (resolve_end m.scopes m.names m.uses)

-- the machine after a call: as it was, if the call is refused
unfoldable pub after : Machine → Call → Machine
after m c = maybe (refusal m c) (granted m c) (λ n. m)

unfoldable pub answer : Machine → Call → Answer
answer m c = maybe (refusal m c) (Ok (granted_answer m c)) Err

-- the machine after a list of calls, and the answers
abbrev pub run : Machine → List Call → Machine
run m [] = m
run m (c ∷ cs) = run (after m c) cs

abbrev pub answers : Machine → List Call → List Answer
answers m [] = []
answers m (c ∷ cs) = answer m c ∷ answers (after m c) cs

-- A builder keeps its pairs in stores, which hold 512 pairs at least. Before it writes, it tests that they have room for all the keys
-- that the call may add, and else refuses with StoreFull. No run from a fresh machine comes to that.

-- the stores have room for all the keys that a call may add
abbrev pub stores_have_room : Machine → Call → Bool
stores_have_room m (EnterScope s) = true
stores_have_room m LeaveScope = true
stores_have_room m (Bind d) = nat_lt m.names.bindings.size least_capacity
stores_have_room m (DeclareReference r) = true
stores_have_room m (ResolveReferences start) = nat_le (m.uses.roots.size + (length m.uses.pending - start)) least_capacity
stores_have_room m ResolveAllReferences = nat_le (m.uses.roots.size + length m.uses.pending) least_capacity

unfoldable pub builder_refusal : Machine → Call → Option Refusal
builder_refusal m c = maybe (refusal m c) (cond (stores_have_room m c) None (Some StoreFull)) Some

unfoldable pub builder_after : Machine → Call → Machine
builder_after m c = maybe (builder_refusal m c) (granted m c) (λ n. m)

unfoldable pub builder_answer : Machine → Call → Answer
builder_answer m c = maybe (builder_refusal m c) (Ok (granted_answer m c)) Err

-- every definition of the machine, for a proof that computes it
unfoldable pub machine_opened : Unit {0}
unfolding chain target passed conditional_scope is_below add_symbol_redeclaration unite complain found declare_shadow_symbol declare_symbol_on_scope move_binding scan hoist_all declare_var declare_moved_out declare lookup_chain search settle settle_all fate_at_end has_ended fate_here resolve_end resolve_here refusal granted granted_answer after answer
machine_opened = tt
