-- References that read or write a plain value are looked up as ECMA-262's GetIdentifierReference says: an environment is asked whether it
-- has a binding for the name, whatever is bound; if it has none its outer environment is asked, and with no environment left the reference is unresolvable.
use Rattle.std.specs.Prelude.{◌≡◌, ℕ, ◌+◌, ◌<◌, ◌⊎◌, List, ◌∷◌, ◌++◌, Some, None, Option, ◌≢◌}
use Rattle.tables.specs.Flags.{Read, Write}
use Rattle.tables.specs.declared.row.UnresolvedReference.{UnresolvedReference}
use Rattle.tables.specs.declared.row.ResolvedReference.{ResolvedReference}
use Rattle.tables.specs.declared.row.RootReference.{RootReference}
use Rattle.model.specs.declared.call.Declaration.{Declaration}
use Rattle.model.specs.declared.call.Call.{Call}
use Rattle.model.specs.declared.call.Call.TheVariants.{Bind}
use Rattle.model.specs.State.{Machine, fresh}
use Rattle.model.specs.Scopes.{parent_of}
use Rattle.model.specs.Declaring.{binding}
use Rattle.model.specs.Calls.{after, run}
use Rattle.laws.specs.FirstFit.{◌∈◌, Granted, flags_now}

-- environments are scopes, and the outer environment of one is its parent
abbrev pub HasBinding : Machine → ℕ → ℕ → Type 0
HasBinding m env name = (k : ℕ) × (binding m.names env name ≡ Some k)

-- for the name, from an environment or none, the answer is the environment that is the base of the reference, or none
pub data GetIdentifierReference (m : Machine) (name : ℕ) : Option ℕ → Option ℕ → Type 0 where
  unresolvable : GetIdentifierReference m name None None
  has_binding : {env : ℕ} → HasBinding m env name → GetIdentifierReference m name (Some env) (Some env)
  ask_outer : {env : ℕ} {base : Option ℕ} → (HasBinding m env name → ⊥) → GetIdentifierReference m name (parent_of m.scopes env) base → GetIdentifierReference m name (Some env) base

-- no environment from this one up to here has a binding for the name
pub data UnboundUpTo (m : Machine) (name here : ℕ) : ℕ → Type 0 where
  at_last : (HasBinding m here name → ⊥) → UnboundUpTo m name here here
  on_the_way : {env outer : ℕ} → (HasBinding m env name → ⊥) → parent_of m.scopes env ≡ Some outer → UnboundUpTo m name here outer → UnboundUpTo m name here env

-- Read, Write or both, and nothing else
abbrev pub PlainValue : ℕ → Type 0
PlainValue flags = (flags ≡ Read) ⊎ ((flags ≡ Write) ⊎ (flags ≡ Read + Write))

-- no granted declaration of the name is of the kinds 11 to 18, which declare types
abbrev pub OnlyValues : ℕ → List Call → ℕ → Type 0
OnlyValues setting cs name =
    (before rest : List Call) (d : Declaration) → cs ≡ before ++ Bind d ∷ rest → Granted (run (fresh setting) before) (Bind d) → d.name.0 ≡ name → d.kind < 11

-- what the call c makes of the pending entry e, by the tables m at its entry
pub record LookedUp (m : Machine) (c : Call) (e : UnresolvedReference) : Type 0 where
  -- resolved: to what is bound in the base
  pub resolved : (j : ResolvedReference) → j ∈ (after m c).uses.resolved → j.reference ≡ e.reference
      → (base : ℕ) × GetIdentifierReference m e.name.0 (Some e.scope.0) (Some base) × (binding m.names base e.name.0 ≡ Some j.symbol.0)
  -- root-listed: unresolvable
  pub root_listed : (k : RootReference) → k ∈ (after m c).uses.root → k.reference ≡ e.reference → GetIdentifierReference m e.name.0 (Some e.scope.0) None
  -- still pending: not touched, or not bound up to the current scope, whose outer environment is asked next
  pub pending : (p : UnresolvedReference) → p ∈ (after m c).uses.pending → p.reference ≡ e.reference
      → (p ≡ e) ⊎ (UnboundUpTo m e.name.0 m.current e.scope.0 × (parent_of m.scopes m.current ≡ Some p.scope.0))

-- the name 0 is `arguments`
abbrev pub GetIdentifierReferenceLaw : Type 0
GetIdentifierReferenceLaw =
    (setting : ℕ) (cs : List Call) (c : Call) (e : UnresolvedReference) → e ∈ (run (fresh setting) cs).uses.pending
    → PlainValue (flags_now (run (fresh setting) cs) e) → (e.name.0 ≢ 0) → OnlyValues setting cs e.name.0 → LookedUp (run (fresh setting) cs) c e
