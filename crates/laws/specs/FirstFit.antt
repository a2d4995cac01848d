-- First fit: what becomes of each pending reference in a resolving call, by the tables at the call's entry.
use Rattle.std.specs.Prelude.{◌≡◌, ℕ, true, false, List, [], ◌∷◌, ◌++◌, length, take, drop, Some, None, Err, ◌≢◌}
use mathlib.Core.List.{Memᴰ}
use Rattle.tables.specs.Flags.{meets, FunctionExpression}
use Rattle.tables.specs.declared.refusal.Refusal.{Refusal}
use Rattle.tables.specs.declared.id.Name.{Name}
use Rattle.tables.specs.declared.id.ReferenceId.{ReferenceId}
use Rattle.tables.specs.declared.row.UnresolvedReference.{UnresolvedReference}
use Rattle.tables.specs.declared.row.ResolvedReference.{ResolvedReference}
use Rattle.tables.specs.declared.row.RootReference.{RootReference}
use Rattle.model.specs.declared.call.NewScope.{NewScope}
use Rattle.model.specs.declared.call.Declaration.{Declaration}
use Rattle.model.specs.declared.call.NewReference.{NewReference}
use Rattle.model.specs.declared.call.Call.{Call}
use Rattle.model.specs.declared.call.Call.TheVariants.{EnterScope, LeaveScope, Bind, DeclareReference, ResolveReferences, ResolveAllReferences}
use Rattle.model.specs.Basics.{the_reference, reference_flags}
use Rattle.model.specs.State.{Machine, Uses, fresh, flags_of, use_flags, reference_row}
use Rattle.model.specs.Scopes.{parent_of, is_plain_function}
use Rattle.model.specs.Declaring.{binding}
use Rattle.model.specs.Resolving.{can_resolve, resolved_flags, of_arguments}
use Rattle.model.specs.Calls.{answer, after, run}

-- x is in the list
infix 20 ◌∈◌
abbrev pub ◌∈◌ : {X : Type 0} → X → List X → Type 0
x ∈ xs = Memᴰ x xs

abbrev pub Granted : Machine → Call → Type 0
Granted m c = (r : Refusal) → answer m c ≢ Err r

-- the lookup chain of a pending entry

abbrev pub flags_now : Machine → UnresolvedReference → ℕ
flags_now m e = use_flags m.uses e.reference.0

-- the reference means the `arguments` of a function
abbrev pub MeansArguments : Machine → UnresolvedReference → Type 0
MeansArguments m e = of_arguments e.name.0 (flags_now m e) ≡ true

-- in the scope s the entry's name is bound to the symbol k, to which the reference can resolve; no function expression serves as `arguments`
pub record ServesAt (m : Machine) (e : UnresolvedReference) (s k : ℕ) : Type 0 where
  pub bound : binding m.names s e.name.0 ≡ Some k
  pub can : can_resolve (flags_now m e) (flags_of m.names k) ≡ true
  pub no_expression : MeansArguments m e → meets (flags_of m.names k) FunctionExpression ≡ false

abbrev pub NothingAt : Machine → UnresolvedReference → ℕ → Type 0
NothingAt m e s = (k : ℕ) → ServesAt m e s k → ⊥

-- the lookup chain goes on from s to its parent p: that of an `arguments` ends with a function that has its own
pub record GoesOn (m : Machine) (e : UnresolvedReference) (s p : ℕ) : Type 0 where
  pub parent : parent_of m.scopes s ≡ Some p
  pub no_end : MeansArguments m e → is_plain_function m.scopes s ≡ false

-- from s on, the first binding that serves is in the scope t, and leads to the symbol k
pub data FirstServing (m : Machine) (e : UnresolvedReference) : ℕ → ℕ → ℕ → Type 0 where
  serves_here : {s k : ℕ} → ServesAt m e s k → FirstServing m e s s k
  serves_above : {s p t k : ℕ} → NothingAt m e s → GoesOn m e s p → FirstServing m e p t k → FirstServing m e s t k

-- from s on, no binding serves, and t is the last scope of the chain
pub data NoneServing (m : Machine) (e : UnresolvedReference) : ℕ → ℕ → Type 0 where
  none_last : {s : ℕ} → NothingAt m e s → ((p : ℕ) → GoesOn m e s p → ⊥) → NoneServing m e s s
  none_above : {s p t : ℕ} → NothingAt m e s → GoesOn m e s p → NoneServing m e p t → NoneServing m e s t

-- no binding serves from s up to the scope here, after which the chain goes on to p
pub data PassedUp (m : Machine) (e : UnresolvedReference) (here p : ℕ) : ℕ → Type 0 where
  passed_last : NothingAt m e here → GoesOn m e here p → PassedUp m e here p here
  passed_above : {s q : ℕ} → NothingAt m e s → GoesOn m e s q → PassedUp m e here p q → PassedUp m e here p s

-- s is the scope here or one below it
pub data Below (m : Machine) (here : ℕ) : ℕ → Type 0 where
  itself : Below m here here
  child_of : {s p : ℕ} → parent_of m.scopes s ≡ Some p → Below m here p → Below m here s

-- what a call makes of an entry: m is the machine at its entry, it looks in the scopes of which Looks holds, and leaves us

-- resolved: to the first that serves
pub record ResolvedAs (m : Machine) (Looks : ℕ → Type 0) (us : Uses) (e : UnresolvedReference) (j : ResolvedReference) : Type 0 where
  pub same_reference : e.reference ≡ j.reference
  pub place_of : ℕ
  pub first : FirstServing m e e.scope.0 place_of j.symbol.0
  pub looked : Looks place_of
  -- its row has the symbol, the flags of a resolved reference, and its node as before
  pub row : reference_row us e.reference.0 ≡ record {
    node = (reference_row m.uses e.reference.0).node;
    flags = reference_flags (resolved_flags (flags_now m e) (flags_of m.names j.symbol.0));
    symbol = Some j.symbol;
  }

-- root-listed: none serves, and it is in the list that has the entry's name
pub record RootListedAs (m : Machine) (Looks : ℕ → Type 0) (us : Uses) (e : UnresolvedReference) (k : RootReference) : Type 0 where
  pub same_reference : e.reference ≡ k.reference
  pub last : ℕ
  pub none : NoneServing m e e.scope.0 last
  pub looked : Looks last
  pub list_of_name : us.roots.get e.name ≡ Some k.list

-- deferred: none serves up to the current scope, from whose parent it is looked up next
pub record DeferredAs (m : Machine) (e p : UnresolvedReference) : Type 0 where
  pub same_name : p.name ≡ e.name
  pub same_reference : p.reference ≡ e.reference
  pub passed : PassedUp m e m.current p.scope.0 e.scope.0

-- one after the other, each entry was resolved, root-listed, left as it was or deferred: so came those that are left, resolved and listed, in order
pub data Settled (m : Machine) (Looks : ℕ → Type 0) (us : Uses) : List UnresolvedReference → List UnresolvedReference → List ResolvedReference → List RootReference → Type 0 where
  no_more : Settled m Looks us [] [] [] []
  resolved : {e : UnresolvedReference} {j : ResolvedReference} {es ps : List UnresolvedReference} {js : List ResolvedReference} {ks : List RootReference}
      → ResolvedAs m Looks us e j → Settled m Looks us es ps js ks → Settled m Looks us (e ∷ es) ps (j ∷ js) ks
  root_listed : {e : UnresolvedReference} {k : RootReference} {es ps : List UnresolvedReference} {js : List ResolvedReference} {ks : List RootReference}
      → RootListedAs m Looks us e k → Settled m Looks us es ps js ks → Settled m Looks us (e ∷ es) ps js (k ∷ ks)
  outside : {e : UnresolvedReference} {es ps : List UnresolvedReference} {js : List ResolvedReference} {ks : List RootReference}
      → (Looks e.scope.0 → ⊥) → Settled m Looks us es ps js ks → Settled m Looks us (e ∷ es) (e ∷ ps) js ks
  deferred : {e p : UnresolvedReference} {es ps : List UnresolvedReference} {js : List ResolvedReference} {ks : List RootReference}
      → DeferredAs m e p → Settled m Looks us es ps js ks → Settled m Looks us (e ∷ es) (p ∷ ps) js ks

-- a call that settles the pending entries from start on
pub record Settles (m : Machine) (Looks : ℕ → Type 0) (start : ℕ) (us : Uses) : Type 0 where
  pub left : List UnresolvedReference
  pub now_resolved : List ResolvedReference
  pub now_listed : List RootReference
  pub pending_is : us.pending ≡ take start m.uses.pending ++ left
  pub resolved_is : us.resolved ≡ m.uses.resolved ++ now_resolved
  pub root_is : us.root ≡ m.uses.root ++ now_listed
  pub each : Settled m Looks us (drop start m.uses.pending) left now_resolved now_listed
  -- the rows of all other references are as they were, and a name that had a root list has the same
  pub other_rows : (r : ℕ) → ((j : ResolvedReference) → j ∈ now_resolved → j.reference.0 ≢ r) → reference_row us r ≡ reference_row m.uses r
  pub same_count : length us.references ≡ length m.uses.references
  pub lists_stay : (n : Name) (k : ℕ) → m.uses.roots.get n ≡ Some k → us.roots.get n ≡ Some k
  -- what is left is looked up from no scope in which the call looked
  pub none_left : (p : UnresolvedReference) → p ∈ left → Looks p.scope.0 → ⊥

-- each call, at the machine m
pub record FirstFitRight (m : Machine) : Type 0 where
  pub resolve_in_scope : (start : ℕ) → Granted m (ResolveReferences start) → Settles m (Below m m.current) start (after m (ResolveReferences start)).uses
  pub resolve_all : Settles m (λ _. Unit) 0 (after m ResolveAllReferences).uses
  pub all_settled : (after m ResolveAllReferences).uses.pending ≡ []
  pub none_to_resolve : Granted m (ResolveReferences (length m.uses.pending)) × (after m (ResolveReferences (length m.uses.pending)) ≡ m)
  -- one entry at the end of the pending list, and its row without a symbol
  pub declare_reference : (r : NewReference) → Granted m (DeclareReference r) → (after m (DeclareReference r)).uses ≡ record {
    references = m.uses.references ++ record { node = r.node; flags = r.flags; symbol = None } ∷ [];
    pending = m.uses.pending ++ record { name = r.name; reference = the_reference (length m.uses.references); scope = r.scope } ∷ [];
    resolved = m.uses.resolved;
    root = m.uses.root;
    roots = m.uses.roots;
  }
  -- no other call touches the references
  pub enter_scope : (s : NewScope) → (after m (EnterScope s)).uses ≡ m.uses
  pub leave_scope : (after m LeaveScope).uses ≡ m.uses
  pub bind : (d : Declaration) → (after m (Bind d)).uses ≡ m.uses
  -- and a refused one touches nothing
  pub refused : (c : Call) (r : Refusal) → answer m c ≡ Err r → after m c ≡ m

abbrev pub FirstFit : Type 0
FirstFit = (setting : ℕ) (cs : List Call) → FirstFitRight (run (fresh setting) cs)

-- the scopes in which a call looks for bindings
abbrev pub LooksIn : Machine → Call → ℕ → Type 0
LooksIn m (EnterScope x) s = ⊥
LooksIn m LeaveScope s = ⊥
LooksIn m (Bind d) s = ⊥
LooksIn m (DeclareReference r) s = ⊥
LooksIn m (ResolveReferences start) s = Below m m.current s
LooksIn m ResolveAllReferences s = Unit

-- the reference is in no symbol's resolved list, and in no root list
pub record Unplaced (us : Uses) (r : ReferenceId) : Type 0 where
  pub not_resolved : (j : ResolvedReference) → j ∈ us.resolved → j.reference ≢ r
  pub not_listed : (k : RootReference) → k ∈ us.root → k.reference ≢ r

-- the call resolved a pending reference that was in no such list
pub record ResolvedBy (m : Machine) (c : Call) (j : ResolvedReference) : Type 0 where
  pub entry : UnresolvedReference
  pub waited : entry ∈ m.uses.pending
  pub unplaced : Unplaced m.uses j.reference
  pub placed : j ∈ (after m c).uses.resolved
  pub fits : ResolvedAs m (LooksIn m c) (after m c).uses entry j

-- the call root-listed one
pub record ListedBy (m : Machine) (c : Call) (k : RootReference) : Type 0 where
  pub entry : UnresolvedReference
  pub waited : entry ∈ m.uses.pending
  pub unplaced : Unplaced m.uses k.reference
  pub placed : k ∈ (after m c).uses.root
  pub fits : RootListedAs m (LooksIn m c) (after m c).uses entry k

-- some call of cs, from m on, did it
pub record SomeCall (m : Machine) (cs : List Call) (Did : Machine → Call → Type 0) : Type 0 where
  pub before : List Call
  pub call : Call
  pub rest : List Call
  pub divided : cs ≡ before ++ call ∷ rest
  pub did : Did (run m before) call

-- each reference in a resolved list or a root list was put there by a call, by the tables at that call's entry
pub record PlacedByACallRight (setting : ℕ) (cs : List Call) : Type 0 where
  pub resolved : (j : ResolvedReference) → j ∈ (run (fresh setting) cs).uses.resolved → SomeCall (fresh setting) cs (λ m c. ResolvedBy m c j)
  pub listed : (k : RootReference) → k ∈ (run (fresh setting) cs).uses.root → SomeCall (fresh setting) cs (λ m c. ListedBy m c k)

abbrev pub PlacedByACall : Type 0
PlacedByACall = (setting : ℕ) (cs : List Call) → PlacedByACallRight setting cs
