-- Eleven scripts in plain JavaScript, what each call answers, and all tables that they leave.
-- Every declaration has a span and a node of its own, so that one cannot stand for another.
use Rattle.std.specs.Prelude.{◌≡◌, ℕ, ◌+◌, cond, ◌&&◌, ◌≢◌, List, [], ◌∷◌, length, Some, None, Option, Ok, Err, ◌==◌}
use Rattle.tables.specs.Flags.{Top, Function, Arrow, CatchClause, Read, TypeUse, FunctionScopedVariable, BlockScopedVariable, CatchVariable, FunctionSymbol, FunctionExpression, Interface}
use Rattle.tables.specs.declared.id.Name.{Name}
use Rattle.tables.specs.declared.row.ScopeRow.{ScopeRow}
use Rattle.tables.specs.declared.row.SymbolRow.{SymbolRow}
use Rattle.tables.specs.declared.row.ReferenceRow.{ReferenceRow}
use Rattle.tables.specs.declared.row.Redeclaration.{Redeclaration}
use Rattle.tables.specs.declared.row.Conflict.{Conflict}
use Rattle.tables.specs.declared.row.UnresolvedReference.{UnresolvedReference}
use Rattle.tables.specs.declared.row.ResolvedReference.{ResolvedReference}
use Rattle.tables.specs.declared.row.RootReference.{RootReference}
use Rattle.tables.specs.declared.refusal.Refusal.TheVariants.{AtRoot}
use Rattle.stores.specs.Pairs.{Pairs}
use Rattle.stores.specs.declared.key.ScopeAndName.{ScopeAndName}
use Rattle.model.specs.declared.call.Call.{Call}
use Rattle.model.specs.declared.call.Call.TheVariants.{EnterScope, LeaveScope, Bind, DeclareReference, ResolveReferences, ResolveAllReferences}
use Rattle.model.specs.declared.call.Granted.TheVariants.{Scope, Symbol, Reference, Counted}
use Rattle.model.specs.Basics.{the_scope, the_symbol, the_reference, the_node, the_name, scope_flags, symbol_flags, reference_flags, place}
use Rattle.model.specs.State.{Machine, fresh}
use Rattle.model.specs.Calls.{Answer, run, answers}
use Rattle.laws.specs.KindNames.{var_kind, let_kind, function_expression_kind, catch_name_kind, interface_kind}

-- calls and answers

abbrev pub enter : ℕ → ℕ → Call
enter flags node = EnterScope (record { flags = scope_flags flags; node = the_node node })

abbrev pub fn : ℕ → Call
fn = enter Function

abbrev pub block : ℕ → Call
block = enter 0

-- a declaration without modifiers
abbrev pub bind : ℕ → ℕ → ℕ → ℕ → ℕ → Call
bind kind name start end node = Bind (record { kind = kind; modifiers = 0; name = the_name name; start = start; end = end; node = the_node node })

abbrev pub refer : ℕ → ℕ → ℕ → ℕ → Call
refer flags name scope node = DeclareReference (record { name = the_name name; scope = the_scope scope; flags = reference_flags flags; node = the_node node })

abbrev pub scope : ℕ → Answer
scope s = Ok (Scope (the_scope s))

abbrev pub symbol : ℕ → Answer
symbol s = Ok (Symbol (the_symbol s))

abbrev pub reference : ℕ → Answer
reference r = Ok (Reference (the_reference r))

-- resolved, root-listed, and pending afterwards
abbrev pub counts : ℕ → ℕ → ℕ → Answer
counts resolved root pending = Ok (Counted (record { resolved = resolved; root = root; pending = pending }))

-- rows

abbrev pub root_scope : ScopeRow
root_scope = record { parent = None; node = the_node 0; flags = scope_flags Top }

abbrev pub scope_under : ℕ → ℕ → ℕ → ScopeRow
scope_under parent node flags = record { parent = Some (the_scope parent); node = the_node node; flags = scope_flags flags }

abbrev pub symbol_of : ℕ → ℕ → ℕ → ℕ → ℕ → ℕ → SymbolRow
symbol_of name start end flags scope node =
    record { name = the_name name; start = start; end = end; flags = symbol_flags flags; scope = the_scope scope; node = the_node node }

abbrev pub declaration_of : ℕ → ℕ → ℕ → ℕ → ℕ → Redeclaration
declaration_of symbol start end node flags = record { symbol = the_symbol symbol; start = start; end = end; node = the_node node; flags = symbol_flags flags }

abbrev pub conflict_on : ℕ → ℕ → ℕ → ℕ → ℕ → Conflict
conflict_on name first_start first_end second_start second_end =
    record { name = the_name name; first_start = first_start; first_end = first_end; second_start = second_start; second_end = second_end }

abbrev pub resolved_use : ℕ → ℕ → ℕ → ReferenceRow
resolved_use node flags symbol = record { node = the_node node; flags = reference_flags flags; symbol = Some (the_symbol symbol) }

abbrev pub unresolved_use : ℕ → ℕ → ReferenceRow
unresolved_use node flags = record { node = the_node node; flags = reference_flags flags; symbol = None }

abbrev pub resolved_to : ℕ → ℕ → ResolvedReference
resolved_to symbol reference = record { symbol = the_symbol symbol; reference = the_reference reference }

abbrev pub waiting : ℕ → ℕ → ℕ → UnresolvedReference
waiting name reference scope = record { name = the_name name; reference = the_reference reference; scope = the_scope scope }

abbrev pub listed_in : ℕ → ℕ → RootReference
listed_in list reference = record { list = list; reference = the_reference reference }

-- pairs, written out

pub record Bound : Type 0 where
  pub scope : ℕ
  pub name : ℕ
  pub symbol : ℕ

abbrev pub in_scope : ℕ → ℕ → ℕ → Bound
in_scope scope name symbol = record { scope = scope; name = name; symbol = symbol }

abbrev pub bound_among : List Bound → ℕ → ℕ → Option ℕ
bound_among [] scope name = None
bound_among (b ∷ bs) scope name = cond (scope == b.scope && name == b.name) (Some b.symbol) (bound_among bs scope name)

pub record RootList : Type 0 where
  pub name : ℕ
  pub number : ℕ

abbrev pub root_list : ℕ → ℕ → RootList
root_list name number = record { name = name; number = number }

abbrev pub list_among : List RootList → ℕ → Option ℕ
list_among [] name = None
list_among (l ∷ ls) name = cond (name == l.name) (Some l.number) (list_among ls name)

-- exactly these pairs are in the set

pub record ExactlyBound (pairs : Pairs ScopeAndName) (these : List Bound) : Type 0 where
  pub each : (scope name : ℕ) → pairs.get (place scope name) ≡ bound_among these scope name
  pub count : pairs.size ≡ length these

pub record ExactlyListed (pairs : Pairs Name) (these : List RootList) : Type 0 where
  pub each : (name : ℕ) → pairs.get (the_name name) ≡ list_among these name
  pub count : pairs.size ≡ length these

-- all tables

pub record Tables : Type 0 where
  pub current : ℕ
  pub scopes : List ScopeRow
  pub symbols : List SymbolRow
  pub bindings : List Bound
  pub hoisted : List Bound
  pub redeclarations : List Redeclaration
  pub conflicts : List Conflict
  pub references : List ReferenceRow
  pub resolved : List ResolvedReference
  pub root_lists : List RootList
  pub root : List RootReference
  pub pending : List UnresolvedReference

pub record Leaves (m : Machine) (t : Tables) : Type 0 where
  pub current : m.current ≡ t.current
  pub scopes : m.scopes ≡ t.scopes
  pub symbols : m.names.symbols ≡ t.symbols
  pub bindings : ExactlyBound m.names.bindings t.bindings
  pub hoisted : ExactlyBound m.names.hoisting t.hoisted
  pub redeclarations : m.names.redeclarations ≡ t.redeclarations
  pub conflicts : m.names.conflicts ≡ t.conflicts
  pub references : m.uses.references ≡ t.references
  pub resolved : m.uses.resolved ≡ t.resolved
  pub root_lists : ExactlyListed m.uses.roots t.root_lists
  pub root : m.uses.root ≡ t.root
  pub pending : m.uses.pending ≡ t.pending

-- in plain JavaScript, and not strict

abbrev pub plain : Machine
plain = fresh 0

abbrev pub final : List Call → Machine
final = run plain

abbrev pub told : List Call → List Answer
told = answers plain

-- no scope binds a name to the symbol
abbrev pub Unbound : Machine → ℕ → Type 0
Unbound m s = (scope name : ℕ) → m.names.bindings.get (place scope name) ≢ Some s

-- the scripts

-- nothing at all
abbrev pub script_1 : List Call
script_1 = ResolveAllReferences ∷ []

-- a use before its `var`; the root cannot be left
abbrev pub script_2 : List Call
script_2 = fn 1 ∷ refer Read 7 1 2 ∷ bind var_kind 7 10 11 3 ∷ LeaveScope ∷ LeaveScope ∷ ResolveAllReferences ∷ []

-- a value is looked for past an interface of its name
abbrev pub script_3 : List Call
script_3 = bind let_kind 5 10 11 1 ∷ block 2 ∷ bind interface_kind 5 20 22 3 ∷ refer Read 5 1 4 ∷ ResolveAllReferences ∷ []

-- and a type is not
abbrev pub script_4 : List Call
script_4 = bind let_kind 5 10 11 1 ∷ block 2 ∷ bind interface_kind 5 20 22 3 ∷ refer TypeUse 5 1 4 ∷ ResolveAllReferences ∷ []

-- `arguments` is not looked for past its function
abbrev pub script_5 : List Call
script_5 = fn 1 ∷ refer Read 0 1 2 ∷ ResolveAllReferences ∷ []

-- nor when that scope ends
abbrev pub script_5_early : List Call
script_5_early = fn 1 ∷ refer Read 0 1 2 ∷ ResolveReferences 0 ∷ []

-- an arrow function has no `arguments` of its own
abbrev pub script_6 : List Call
script_6 = fn 1 ∷ bind let_kind 0 10 11 2 ∷ enter (Function + Arrow) 3 ∷ refer Read 0 2 4 ∷ ResolveAllReferences ∷ []

-- a `var` hides the name of its function expression
abbrev pub script_7 : List Call
script_7 = fn 1 ∷ bind function_expression_kind 9 10 13 2 ∷ bind var_kind 9 20 21 3 ∷ ResolveAllReferences ∷ []

-- a `var` of the name of a catch clause
abbrev pub script_8 : List Call
script_8 = fn 1 ∷ enter CatchClause 2 ∷ bind catch_name_kind 3 10 11 3 ∷ block 4 ∷ bind var_kind 3 20 22 5 ∷ ResolveAllReferences ∷ []

-- a name by `let` twice
abbrev pub script_9 : List Call
script_9 = bind let_kind 6 10 11 1 ∷ bind let_kind 6 20 22 2 ∷ ResolveAllReferences ∷ []

-- a `var` that hoists into the scope of a `let`
abbrev pub script_10 : List Call
script_10 = fn 1 ∷ bind let_kind 6 10 11 2 ∷ block 3 ∷ bind var_kind 6 20 22 4 ∷ ResolveAllReferences ∷ []

-- what was deferred from a scope is not looked for in it again
abbrev pub script_11 : List Call
script_11 = fn 1 ∷ refer Read 7 1 2 ∷ ResolveReferences 0 ∷ bind var_kind 7 10 11 3 ∷ ResolveAllReferences ∷ []

abbrev pub script_11_deferred : List Call
script_11_deferred = fn 1 ∷ refer Read 7 1 2 ∷ ResolveReferences 0 ∷ []

pub record ElevenScripts : Type 0 where
  pub answers_1 : told script_1 ≡ counts 0 0 0 ∷ []
  pub machine_1 : final script_1 ≡ plain
  pub tables_1 : Leaves (final script_1)
      (record {
        current = 0;
        scopes = root_scope ∷ [];
        symbols = [];
        bindings = [];
        hoisted = [];
        redeclarations = [];
        conflicts = [];
        references = [];
        resolved = [];
        root_lists = [];
        root = [];
        pending = [];
      })
  pub answers_2 : told script_2 ≡ scope 1 ∷ reference 0 ∷ symbol 0 ∷ scope 0 ∷ Err AtRoot ∷ counts 1 0 0 ∷ []
  pub tables_2 : Leaves (final script_2)
      (record {
        current = 0;
        scopes = root_scope ∷ scope_under 0 1 Function ∷ [];
        symbols = symbol_of 7 10 11 FunctionScopedVariable 1 3 ∷ [];
        bindings = in_scope 1 7 0 ∷ [];
        hoisted = [];
        redeclarations = [];
        conflicts = [];
        references = resolved_use 2 Read 0 ∷ [];
        resolved = resolved_to 0 0 ∷ [];
        root_lists = [];
        root = [];
        pending = [];
      })
  pub answers_3 : told script_3 ≡ symbol 0 ∷ scope 1 ∷ symbol 1 ∷ reference 0 ∷ counts 1 0 0 ∷ []
  pub tables_3 : Leaves (final script_3)
      (record {
        current = 1;
        scopes = root_scope ∷ scope_under 0 2 0 ∷ [];
        symbols = symbol_of 5 10 11 BlockScopedVariable 0 1 ∷ symbol_of 5 20 22 Interface 1 3 ∷ [];
        bindings = in_scope 1 5 1 ∷ in_scope 0 5 0 ∷ [];
        hoisted = [];
        redeclarations = [];
        conflicts = [];
        references = resolved_use 4 Read 0 ∷ [];
        resolved = resolved_to 0 0 ∷ [];
        root_lists = [];
        root = [];
        pending = [];
      })
  pub answers_4 : told script_4 ≡ symbol 0 ∷ scope 1 ∷ symbol 1 ∷ reference 0 ∷ counts 1 0 0 ∷ []
  pub tables_4 : Leaves (final script_4)
      (record {
        current = 1;
        scopes = root_scope ∷ scope_under 0 2 0 ∷ [];
        symbols = symbol_of 5 10 11 BlockScopedVariable 0 1 ∷ symbol_of 5 20 22 Interface 1 3 ∷ [];
        bindings = in_scope 1 5 1 ∷ in_scope 0 5 0 ∷ [];
        hoisted = [];
        redeclarations = [];
        conflicts = [];
        references = resolved_use 4 TypeUse 1 ∷ [];
        resolved = resolved_to 1 0 ∷ [];
        root_lists = [];
        root = [];
        pending = [];
      })
  pub answers_5 : told script_5 ≡ scope 1 ∷ reference 0 ∷ counts 0 1 0 ∷ []
  pub tables_5 : Leaves (final script_5)
      (record {
        current = 1;
        scopes = root_scope ∷ scope_under 0 1 Function ∷ [];
        symbols = [];
        bindings = [];
        hoisted = [];
        redeclarations = [];
        conflicts = [];
        references = unresolved_use 2 Read ∷ [];
        resolved = [];
        root_lists = root_list 0 0 ∷ [];
        root = listed_in 0 0 ∷ [];
        pending = [];
      })
  pub answers_5_early : told script_5_early ≡ scope 1 ∷ reference 0 ∷ counts 0 1 0 ∷ []
  -- the same machine, and resolving all then changes nothing
  pub machine_5_early : final script_5_early ≡ final script_5
  pub machine_5_again : run (final script_5_early) (ResolveAllReferences ∷ []) ≡ final script_5
  pub answers_5_again : answers (final script_5_early) (ResolveAllReferences ∷ []) ≡ counts 0 0 0 ∷ []
  pub answers_6 : told script_6 ≡ scope 1 ∷ symbol 0 ∷ scope 2 ∷ reference 0 ∷ counts 1 0 0 ∷ []
  pub tables_6 : Leaves (final script_6)
      (record {
        current = 2;
        scopes = root_scope ∷ scope_under 0 1 Function ∷ scope_under 1 3 (Function + Arrow) ∷ [];
        symbols = symbol_of 0 10 11 BlockScopedVariable 1 2 ∷ [];
        bindings = in_scope 1 0 0 ∷ [];
        hoisted = [];
        redeclarations = [];
        conflicts = [];
        references = resolved_use 4 Read 0 ∷ [];
        resolved = resolved_to 0 0 ∷ [];
        root_lists = [];
        root = [];
        pending = [];
      })
  pub answers_7 : told script_7 ≡ scope 1 ∷ symbol 0 ∷ symbol 1 ∷ counts 0 0 0 ∷ []
  pub unbound_7 : Unbound (final script_7) 0
  pub tables_7 : Leaves (final script_7)
      (record {
        current = 1;
        scopes = root_scope ∷ scope_under 0 1 Function ∷ [];
        symbols = symbol_of 9 10 13 (FunctionSymbol + FunctionExpression) 1 2 ∷ symbol_of 9 20 21 FunctionScopedVariable 1 3 ∷ [];
        bindings = in_scope 1 9 1 ∷ [];
        hoisted = [];
        redeclarations = [];
        conflicts = [];
        references = [];
        resolved = [];
        root_lists = [];
        root = [];
        pending = [];
      })
  pub answers_8 : told script_8 ≡ scope 1 ∷ scope 2 ∷ symbol 0 ∷ scope 3 ∷ symbol 0 ∷ counts 0 0 0 ∷ []
  pub tables_8 : Leaves (final script_8)
      (record {
        current = 3;
        scopes = root_scope ∷ scope_under 0 1 Function ∷ scope_under 1 2 CatchClause ∷ scope_under 2 4 0 ∷ [];
        symbols = symbol_of 3 10 11 (FunctionScopedVariable + CatchVariable) 1 3 ∷ [];
        bindings = in_scope 1 3 0 ∷ [];
        hoisted = in_scope 2 3 0 ∷ in_scope 3 3 0 ∷ [];
        redeclarations = declaration_of 0 10 11 3 (FunctionScopedVariable + CatchVariable) ∷ declaration_of 0 20 22 5 FunctionScopedVariable ∷ [];
        conflicts = [];
        references = [];
        resolved = [];
        root_lists = [];
        root = [];
        pending = [];
      })
  pub answers_9 : told script_9 ≡ symbol 0 ∷ symbol 0 ∷ counts 0 0 0 ∷ []
  pub tables_9 : Leaves (final script_9)
      (record {
        current = 0;
        scopes = root_scope ∷ [];
        symbols = symbol_of 6 10 11 BlockScopedVariable 0 1 ∷ [];
        bindings = in_scope 0 6 0 ∷ [];
        hoisted = [];
        redeclarations = declaration_of 0 10 11 1 BlockScopedVariable ∷ declaration_of 0 20 22 2 BlockScopedVariable ∷ [];
        conflicts = conflict_on 6 10 11 20 22 ∷ [];
        references = [];
        resolved = [];
        root_lists = [];
        root = [];
        pending = [];
      })
  pub answers_10 : told script_10 ≡ scope 1 ∷ symbol 0 ∷ scope 2 ∷ symbol 0 ∷ counts 0 0 0 ∷ []
  pub tables_10 : Leaves (final script_10)
      (record {
        current = 2;
        scopes = root_scope ∷ scope_under 0 1 Function ∷ scope_under 1 3 0 ∷ [];
        symbols = symbol_of 6 10 11 (BlockScopedVariable + FunctionScopedVariable) 1 2 ∷ [];
        bindings = in_scope 1 6 0 ∷ [];
        hoisted = in_scope 2 6 0 ∷ [];
        redeclarations = declaration_of 0 10 11 2 BlockScopedVariable ∷ declaration_of 0 20 22 4 FunctionScopedVariable ∷ [];
        conflicts = conflict_on 6 10 11 20 22 ∷ [];
        references = [];
        resolved = [];
        root_lists = [];
        root = [];
        pending = [];
      })
  pub answers_11 : told script_11 ≡ scope 1 ∷ reference 0 ∷ counts 0 0 1 ∷ symbol 0 ∷ counts 0 1 0 ∷ []
  -- pending from the function's parent on
  pub deferred_11 : (final script_11_deferred).uses.pending ≡ waiting 7 0 0 ∷ []
  pub tables_11 : Leaves (final script_11)
      (record {
        current = 1;
        scopes = root_scope ∷ scope_under 0 1 Function ∷ [];
        symbols = symbol_of 7 10 11 FunctionScopedVariable 1 3 ∷ [];
        bindings = in_scope 1 7 0 ∷ [];
        hoisted = [];
        redeclarations = [];
        conflicts = [];
        references = unresolved_use 2 Read ∷ [];
        resolved = [];
        root_lists = root_list 7 0 ∷ [];
        root = listed_in 0 0 ∷ [];
        pending = [];
      })
