-- Early errors: in a run that declares with var, let, const and class alone, the conflict list is empty exactly if no scope has a name
-- lexically declared twice, or lexically declared and also var-declared in it or through it.
use Rattle.std.specs.Prelude.{◌≡◌, ℕ, ◌≤◌, false, cond, ◌≢◌, ◌⊎◌, List, [], ◌∷◌, ◌++◌, Some}
use Rattle.std.specs.List.{AllByRecursion}
use Rattle.tables.specs.declared.row.ScopeRow.{ScopeRow}
use Rattle.model.specs.declared.call.Call.{Call}
use Rattle.model.specs.declared.call.Call.TheVariants.{EnterScope, LeaveScope, Bind, DeclareReference, ResolveReferences, ResolveAllReferences}
use Rattle.model.specs.State.{Machine, fresh}
use Rattle.model.specs.Scopes.{parent_of, is_var}
use Rattle.model.specs.Calls.{after, answer, run}
use Rattle.laws.specs.Conflicts.{was_granted, Var}

-- a declaration that was granted, with the current scope and the scopes at that call
pub record Granted : Type 0 where
  pub kind : ℕ
  pub name : ℕ
  pub scope : ℕ
  pub scopes : List ScopeRow

abbrev pub granted_by : Machine → Call → List Granted
granted_by m (EnterScope s) = []
granted_by m LeaveScope = []
granted_by m (Bind d) = cond (was_granted (answer m (Bind d))) (record { kind = d.kind; name = d.name.0; scope = m.current; scopes = m.scopes } ∷ []) []
granted_by m (DeclareReference r) = []
granted_by m (ResolveReferences start) = []
granted_by m ResolveAllReferences = []

-- the granted declarations of a list of calls, in order
abbrev pub declarations : Machine → List Call → List Granted
declarations m [] = []
declarations m (c ∷ cs) = granted_by m c ++ declarations (after m c) cs

-- s is on the way from a scope up to its nearest var scope, both included
pub data OnWay (rows : List ScopeRow) (s : ℕ) : ℕ → Type 0 where
  start : OnWay rows s s
  onward : (from p : ℕ) → is_var rows from ≡ false → parent_of rows from ≡ Some p → OnWay rows s p → OnWay rows s from

-- let, const and class
abbrev pub IsLexical : ℕ → Type 0
IsLexical kind = (2 ≤ kind) × (kind ≤ 4)

-- the name is declared lexically in the scope
abbrev pub Lexical : ℕ → ℕ → Granted → Type 0
Lexical scope name g = IsLexical g.kind × (g.name ≡ name) × (g.scope ≡ scope)

-- by var, in the scope or through it
abbrev pub VarThrough : ℕ → ℕ → Granted → Type 0
VarThrough scope name g = (g.kind ≡ Var) × (g.name ≡ name) × OnWay g.scopes scope g.scope

abbrev pub OneOf : {X : Type 0} → (X → Type 0) → List X → Type 0
OneOf P [] = ⊥
OneOf P (x ∷ xs) = P x ⊎ OneOf P xs

abbrev pub TwoOf : {X : Type 0} → (X → Type 0) → List X → Type 0
TwoOf P [] = ⊥
TwoOf P (x ∷ xs) = (P x × OneOf P xs) ⊎ TwoOf P xs

abbrev pub EarlyError : List Granted → ℕ → ℕ → Type 0
EarlyError ds scope name = TwoOf (Lexical scope name) ds ⊎ (OneOf (Lexical scope name) ds × OneOf (VarThrough scope name) ds)

-- var, let, const or class
abbrev pub OfFour : Granted → Type 0
OfFour g = (1 ≤ g.kind) × (g.kind ≤ 4)

pub record EarlyRight (m : Machine) (ds : List Granted) : Type 0 where
  pub no_conflict : m.names.conflicts ≡ [] → (scope name : ℕ) → EarlyError ds scope name → ⊥
  pub no_error : ((scope name : ℕ) → EarlyError ds scope name → ⊥) → m.names.conflicts ≡ []
  -- and a conflict shows where an early error is
  pub conflict_shows : m.names.conflicts ≢ [] → (scope name : ℕ) × EarlyError ds scope name

abbrev pub EarlyErrors : Type 0
EarlyErrors = (setting : ℕ) (cs : List Call) → AllByRecursion OfFour (declarations (fresh setting) cs) → EarlyRight (run (fresh setting) cs) (declarations (fresh setting) cs)
