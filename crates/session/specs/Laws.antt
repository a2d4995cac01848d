-- The laws, gathered: what holds of a binder after a list of calls from a fresh start, and of its answers.
use Rattle.std.specs.Prelude.{◌≡◌, ℕ, true, false, List, [], ◌∷◌, ◌++◌, length, take, ◌≢◌}
use Rattle.std.specs.List.{AllByRecursion}
use Rattle.tables.specs.declared.row.UnresolvedReference.{UnresolvedReference}
use Rattle.tables.specs.declared.row.ResolvedReference.{ResolvedReference}
use Rattle.tables.specs.declared.row.RootReference.{RootReference}
use Rattle.model.specs.declared.call.Call.{Call}
use Rattle.model.specs.State.{Machine, fresh}
use Rattle.model.specs.Declaring.{binding, hoisted}
use Rattle.model.specs.Calls.{Answer, run, after, answer, answers}
use Rattle.laws.specs.BindingsLaw.{BindingsRight}
use Rattle.laws.specs.Conflicts.{Writes}
use Rattle.laws.specs.EarlyErrors.{declarations, OfFour, EarlyRight}
use Rattle.laws.specs.FirstFit.{◌∈◌, flags_now, FirstFitRight, SomeCall, ResolvedBy, ListedBy}
use Rattle.laws.specs.GetIdentifierReference.{PlainValue, OnlyValues, LookedUp}
use Rattle.laws.specs.NeverFull.{HasRoom}
use Rattle.laws.specs.OnceLaw.{Placed, accepted, resolved_list, root_list, is_resolving, is_refusal, CountsGrowth}
use Rattle.laws.specs.Refused.{RefusesExactly}

-- two states are equal, list by list and key by key
pub record Equal (m n : Machine) : Type 0 where
  pub setting : m.setting ≡ n.setting
  pub current_scope : m.current ≡ n.current
  pub scope_rows : m.scopes ≡ n.scopes
  pub symbol_rows : m.names.symbols ≡ n.names.symbols
  pub reference_rows : m.uses.references ≡ n.uses.references
  pub bindings : (scope name : ℕ) → binding m.names scope name ≡ binding n.names scope name
  pub binding_count : m.names.bindings.size ≡ n.names.bindings.size
  pub hoisted_variables : (scope name : ℕ) → hoisted m.names scope name ≡ hoisted n.names scope name
  pub hoisted_count : m.names.hoisting.size ≡ n.names.hoisting.size
  pub redeclarations : m.names.redeclarations ≡ n.names.redeclarations
  pub conflicts : m.names.conflicts ≡ n.names.conflicts
  pub pending_list : m.uses.pending ≡ n.uses.pending
  pub resolved_lists : (symbol : ℕ) → resolved_list m.uses symbol ≡ resolved_list n.uses symbol
  pub root_unresolved_lists : (name : ℕ) → root_list m.uses name ≡ root_list n.uses name
  pub root_unresolved_count : m.uses.roots.size ≡ n.uses.roots.size

-- after the calls cs, which were answered by `given`, the state m. What a law says of a call, it says of whichever is made next
pub record Lawful (setting : ℕ) (cs : List Call) (m : Machine) (given : List Answer) : Type 0 where
  -- Equal: the answers so far and the state are the reference machine's
  pub answered : given ≡ answers (fresh setting) cs
  pub state : m ≡ run (fresh setting) cs
  pub equal : Equal m (run (fresh setting) cs)
  -- Refused exactly: by the first condition of the call's table that holds, and then nothing changes
  pub refuses : (c : Call) → RefusesExactly m c
  -- Once: each accepted reference is in exactly one list, once
  pub once : Placed (accepted cs given) m.names m.uses
  pub counts : (c : Call) → is_resolving c ≡ true → is_refusal (answer m c) ≡ false → CountsGrowth m (after m c) (answer m c)
  -- First fit: a call resolves a reference to the first binding that serves on its lookup chain, and leaves nothing undone
  pub first_fit : FirstFitRight m
  -- so each resolved and each root-listed reference was put there by one of the calls, by the tables at that call
  pub resolved_by_a_call : (j : ResolvedReference) → j ∈ m.uses.resolved → SomeCall (fresh setting) cs (λ n c. ResolvedBy n c j)
  pub listed_by_a_call : (k : RootReference) → k ∈ m.uses.root → SomeCall (fresh setting) cs (λ n c. ListedBy n c k)
  -- Bindings: each leads to a symbol of its name and scope, and no symbol has two
  pub bindings : BindingsRight m.names
  -- GetIdentifierReference: a plain value is looked up as ECMA-262 says, where its name was declared for values only
  pub get_identifier_reference : (c : Call) (e : UnresolvedReference) → e ∈ m.uses.pending → PlainValue (flags_now m e) → (e.name.0 ≢ 0)
      → OnlyValues setting cs e.name.0 → LookedUp m c e
  -- Early errors: with var, let, const and class alone, there is no conflict exactly if ECMA-262 has no early error
  pub early_errors : AllByRecursion OfFour (declarations (fresh setting) cs) → EarlyRight m (declarations (fresh setting) cs)
  -- Conflicts exactly: which symbol a declaration comes upon, and the conflict, redeclarations or symbol that it writes
  pub conflicts : Writes m
  -- Never full: the stores have room for every call that is granted
  pub room : HasRoom m

-- one call, made in the state old after the calls cs, answered by a, and leaving new
pub record Applied (setting : ℕ) (cs : List Call) (old : Machine) (c : Call) (a : Answer) (new : Machine) : Type 0 where
  pub answered : a ≡ answer old c
  pub state : new ≡ after old c
  pub before_it : Lawful setting cs old (answers (fresh setting) cs)
  pub after_it : Lawful setting (cs ++ c ∷ []) new (answers (fresh setting) cs ++ a ∷ [])

-- whatever calls were made before it
abbrev pub KeepsLaws : Machine → Call → Answer → Machine → Type 0
KeepsLaws old c a new = (setting : ℕ) (cs : List Call) → old ≡ run (fresh setting) cs → Applied setting cs old c a new

-- a list of calls from a fresh start: the laws hold at its end, and so they did after each answer
pub record Ran (setting : ℕ) (cs : List Call) (m : Machine) (given : List Answer) : Type 0 where
  pub at_end : Lawful setting cs m given
  pub after_each : (before rest : List Call) → cs ≡ before ++ rest → Lawful setting before (run (fresh setting) before) (take (length before) given)
