-- Conflicts and redeclarations: which symbol a declaration comes upon, and what it then writes.
use Rattle.std.specs.Prelude.{◌≡◌, ℕ, Bool, true, false, ◌≢◌, ◌⊎◌, List, [], ◌∷◌, ◌++◌, length, Some, None, is_ok, bit_or}
use Rattle.tables.specs.Flags.{meets, VarScope, TsConditional, FunctionExpression, ByValue}
use Rattle.tables.specs.declared.row.ScopeRow.{ScopeRow}
use Rattle.tables.specs.declared.row.SymbolRow.{SymbolRow}
use Rattle.tables.specs.declared.row.Redeclaration.{Redeclaration}
use Rattle.tables.specs.declared.row.Conflict.{Conflict}
use Rattle.model.specs.declared.call.Call.{Call}
use Rattle.model.specs.declared.call.Call.TheVariants.{EnterScope, LeaveScope, Bind, DeclareReference, ResolveReferences, ResolveAllReferences}
use Rattle.model.specs.declared.call.Declaration.{Declaration}
use Rattle.model.specs.declared.manner.Manner.TheVariants.{MovedOut}
use Rattle.model.specs.Basics.{the_name, the_scope, the_symbol, the_node, symbol_flags}
use Rattle.model.specs.Kinds.{TypeScript, manner}
use Rattle.model.specs.State.{Names, Machine, fresh, symbol_row, flags_of}
use Rattle.model.specs.Scopes.{parent_of, flags_in, is_var, is_strict}
use Rattle.model.specs.Declaring.{Told, binding, hoisted}
use Rattle.model.specs.Calls.{Answer, told, after, answer, run}

-- which symbol

-- the name leads to k in the scope: by its binding, or without one by its hoisted variable
pub data LeadsTo (nm : Names) (scope name k : ℕ) : Type 0 where
  by_binding : binding nm scope name ≡ Some k → LeadsTo nm scope name k
  by_hoisting : binding nm scope name ≡ None → hoisted nm scope name ≡ Some k → LeadsTo nm scope name k

-- beside k a name is declared in the scope: the name leads to it there, and it is no function expression
pub record Beside (nm : Names) (scope name k : ℕ) : Type 0 where
  pub leads : LeadsTo nm scope name k
  pub no_expression : meets (flags_of nm k) FunctionExpression ≡ false

-- beside no symbol that has a value
abbrev pub NoValue : Names → ℕ → ℕ → Type 0
NoValue nm scope name = (k : ℕ) → Beside nm scope name k → meets (flags_of nm k) ByValue ≡ false

-- t is the nearest scope that has a flag of the set, from a scope up
pub data Nearest (rows : List ScopeRow) (set t : ℕ) : ℕ → Type 0 where
  itself : meets (flags_in rows t) set ≡ true → Nearest rows set t t
  above : (s p : ℕ) → meets (flags_in rows s) set ≡ false → parent_of rows s ≡ Some p → Nearest rows set t p → Nearest rows set t s

-- no scope has one, from a scope up
pub data Nowhere (rows : List ScopeRow) (set : ℕ) : ℕ → Type 0 where
  at_top : (s : ℕ) → meets (flags_in rows s) set ≡ false → parent_of rows s ≡ None → Nowhere rows set s
  nor_above : (s p : ℕ) → meets (flags_in rows s) set ≡ false → parent_of rows s ≡ Some p → Nowhere rows set p → Nowhere rows set s

-- a var goes from a scope up to its nearest var scope

-- it is stopped by k, the first symbol with a value on the way
pub data StoppedBy (rows : List ScopeRow) (nm : Names) (name k : ℕ) : ℕ → Type 0 where
  stopped_here : (s : ℕ) → is_var rows s ≡ false → Beside nm s name k → meets (flags_of nm k) ByValue ≡ true → StoppedBy rows nm name k s
  stopped_above : (s p : ℕ) → is_var rows s ≡ false → NoValue nm s name → parent_of rows s ≡ Some p → StoppedBy rows nm name k p → StoppedBy rows nm name k s

-- it reaches its nearest var scope t, with no such symbol on the way
pub data Reaches (rows : List ScopeRow) (nm : Names) (name t : ℕ) : ℕ → Type 0 where
  reached : is_var rows t ≡ true → Reaches rows nm name t t
  passes : (s p : ℕ) → is_var rows s ≡ false → NoValue nm s name → parent_of rows s ≡ Some p → Reaches rows nm name t p → Reaches rows nm name t s

abbrev pub Var : ℕ
Var = 1

-- the name of a catch clause: a new symbol, whatever stands there
abbrev pub CatchName : ℕ
CatchName = 8

abbrev pub Infer : ℕ
Infer = 18

-- the scope that a declaration is made in
pub data MadeIn (m : Machine) (d : Declaration) (t : ℕ) : Type 0 where
  var_scope : d.kind ≡ Var → Reaches m.scopes m.names d.name.0 t m.current → MadeIn m d t
  conditional : d.kind ≡ Infer → Nearest m.scopes TsConditional t m.current → MadeIn m d t
  no_conditional : d.kind ≡ Infer → Nowhere m.scopes TsConditional m.current → t ≡ m.current → MadeIn m d t
  current_scope : d.kind ≢ Var → d.kind ≢ Infer → t ≡ m.current → MadeIn m d t

-- the symbol that it comes upon
pub data ComesUpon (m : Machine) (d : Declaration) (k : ℕ) : Type 0 where
  on_the_way : d.kind ≡ Var → StoppedBy m.scopes m.names d.name.0 k m.current → ComesUpon m d k
  in_scope : (t : ℕ) → d.kind ≢ CatchName → MadeIn m d t → Beside m.names t d.name.0 k → ComesUpon m d k

-- what is written

-- some redeclaration is one of k
abbrev pub Redeclared : ℕ → List Redeclaration → Type 0
Redeclared k [] = ⊥
Redeclared k (e ∷ es) = (e.symbol.0 ≡ k) ⊎ Redeclared k es

-- the name, the symbol's span, and the span of what is declared beside it
abbrev pub conflict : Told → SymbolRow → Conflict
conflict d r = record { name = the_name d.name; first_start = r.start; first_end = r.end; second_start = d.start; second_end = d.end }

-- the symbol itself, as a redeclaration
abbrev pub own_entry : ℕ → SymbolRow → Redeclaration
own_entry k r = record { symbol = the_symbol k; start = r.start; end = r.end; node = r.node; flags = r.flags }

abbrev pub new_entry : ℕ → Told → Redeclaration
new_entry k d = record { symbol = the_symbol k; start = d.start; end = d.end; node = the_node d.node; flags = symbol_flags d.includes }

-- the symbol k is declared once more, and has these flags then
pub record Again (d : Told) (old new : Names) (k flags : ℕ) : Type 0 where
  pub clashes : meets (flags_of old k) d.excludes ≡ true → new.conflicts ≡ old.conflicts ++ conflict d (symbol_row old k) ∷ []
  pub agrees : meets (flags_of old k) d.excludes ≡ false → new.conflicts ≡ old.conflicts
  pub later_one : Redeclared k old.redeclarations → new.redeclarations ≡ old.redeclarations ++ new_entry k d ∷ []
  pub first_one : (Redeclared k old.redeclarations → ⊥) → new.redeclarations ≡ old.redeclarations ++ own_entry k (symbol_row old k) ∷ new_entry k d ∷ []
  pub as_many : length new.symbols ≡ length old.symbols
  pub others : (j : ℕ) → j ≢ k → symbol_row new j ≡ symbol_row old j
  pub its_name : (symbol_row new k).name ≡ (symbol_row old k).name
  pub its_start : (symbol_row new k).start ≡ (symbol_row old k).start
  pub its_end : (symbol_row new k).end ≡ (symbol_row old k).end
  pub its_node : (symbol_row new k).node ≡ (symbol_row old k).node
  pub its_flags : flags_of new k ≡ flags

-- a new symbol, at the end of the rows
pub record NewSymbol (d : Told) (old new : Names) (scope : ℕ) : Type 0 where
  pub no_conflict : new.conflicts ≡ old.conflicts
  pub no_redeclaration : new.redeclarations ≡ old.redeclarations
  pub row : new.symbols ≡ old.symbols ++ record { name = the_name d.name; start = d.start; end = d.end; flags = symbol_flags d.includes; scope = the_scope scope; node = the_node d.node } ∷ []

-- a function in a block moves out of it
abbrev pub MovesOut : Machine → Declaration → Type 0
MovesOut m d = manner d.kind d.modifiers (meets m.setting TypeScript) (is_strict m.scopes m.current) (is_var m.scopes m.current) ≡ MovedOut

-- the scope of a symbol that is made in t: the nearest var scope, for a function that moves out to one without its name
pub data ScopeOfNew (m : Machine) (d : Declaration) (t scope : ℕ) : Type 0 where
  stays : (MovesOut m d → ⊥) → scope ≡ t → ScopeOfNew m d t scope
  name_taken : (v k : ℕ) → MovesOut m d → Nearest m.scopes VarScope v m.current → binding m.names v d.name.0 ≡ Some k → scope ≡ t → ScopeOfNew m d t scope
  moves : MovesOut m d → Nearest m.scopes VarScope scope m.current → binding m.names scope d.name.0 ≡ None → ScopeOfNew m d t scope

-- what becomes of a declaration
pub data Outcome (m : Machine) (d : Declaration) (new : Names) : Type 0 where
  -- a var that is stopped on the way leaves the symbol's flags
  stopped : (k : ℕ) → d.kind ≡ Var → StoppedBy m.scopes m.names d.name.0 k m.current → Again (told m d) m.names new k (flags_of m.names k) → Outcome m d new
  -- any other unites them with its own
  united : (t k : ℕ) → d.kind ≢ CatchName → MadeIn m d t → Beside m.names t d.name.0 k → Again (told m d) m.names new k (bit_or (flags_of m.names k) (told m d).includes) → Outcome m d new
  made : (t scope : ℕ) → MadeIn m d t → ((k : ℕ) → ComesUpon m d k → ⊥) → ScopeOfNew m d t scope → NewSymbol (told m d) m.names new scope → Outcome m d new

-- the tables tell which
pub record ToldApart (m : Machine) (d : Declaration) : Type 0 where
  pub one_symbol : (k j : ℕ) → ComesUpon m d k → ComesUpon m d j → k ≡ j
  pub one_scope : (s t : ℕ) → MadeIn m d s → MadeIn m d t → s ≡ t
  pub stopped_or_made : (k t : ℕ) → d.kind ≡ Var → StoppedBy m.scopes m.names d.name.0 k m.current → MadeIn m d t → ⊥

abbrev pub was_granted : Answer → Bool
was_granted = is_ok

abbrev pub is_bind : Call → Bool
is_bind (EnterScope s) = false
is_bind LeaveScope = false
is_bind (Bind d) = true
is_bind (DeclareReference r) = false
is_bind (ResolveReferences start) = false
is_bind ResolveAllReferences = false

pub record Writes (m : Machine) : Type 0 where
  pub no_bind : (c : Call) → is_bind c ≡ false → (after m c).names ≡ m.names
  pub no_grant : (c : Call) → was_granted (answer m c) ≡ false → (after m c).names ≡ m.names
  pub tells_apart : (d : Declaration) → ToldApart m d
  pub granted_bind : (d : Declaration) → was_granted (answer m (Bind d)) ≡ true → Outcome m d (after m (Bind d)).names

abbrev pub ConflictsExactly : Type 0
ConflictsExactly = (setting : ℕ) (cs : List Call) → Writes (run (fresh setting) cs)
