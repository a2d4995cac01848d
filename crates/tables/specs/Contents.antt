-- What the tables hold, as lists of rows, and what each call makes of them.
use Rattle.std.specs.Prelude.{ℕ, Bool, true, cond, List, [], ◌∷◌, ◌++◌, length, Some, None, Ok, Err, Option, Result, ◌==◌, nat_lt, slice_index_or, slice_set}
use Rattle.std.specs.List.{list_any}
use Rattle.tables.specs.declared.row.ScopeRow.{ScopeRow}
use Rattle.tables.specs.declared.row.SymbolRow.{SymbolRow}
use Rattle.tables.specs.declared.row.ReferenceRow.{ReferenceRow}
use Rattle.tables.specs.declared.row.UnresolvedReference.{UnresolvedReference}
use Rattle.tables.specs.declared.row.ResolvedReference.{ResolvedReference}
use Rattle.tables.specs.declared.row.RootReference.{RootReference}
use Rattle.tables.specs.declared.row.Redeclaration.{Redeclaration}
use Rattle.tables.specs.declared.row.Conflict.{Conflict}
use Rattle.tables.specs.declared.refusal.Refusal.{Refusal}
use Rattle.tables.specs.declared.refusal.Refusal.TheVariants.{Absent, NoSuchScope, ScopesFull, DeclarationsFull}
use Rattle.tables.specs.declared.id.ScopeId.{ScopeId}
use Rattle.tables.specs.declared.flags.ScopeFlags.{ScopeFlags}
use Rattle.tables.specs.Ids.{the_scope}
use Rattle.tables.specs.EmptyRows.{no_scope}
use Rattle.tables.specs.Limits.{most_scopes, no_room}

pub record Contents : Type 0 where
  pub scopes : List ScopeRow
  pub symbols : List SymbolRow
  pub references : List ReferenceRow
  pub pending : List UnresolvedReference
  pub resolved : List ResolvedReference
  pub root : List RootReference
  pub redeclarations : List Redeclaration
  pub conflicts : List Conflict

abbrev pub empty : Contents
empty = record { scopes = []; symbols = []; references = []; pending = []; resolved = []; root = []; redeclarations = []; conflicts = [] }

abbrev pub with_scopes : Contents → List ScopeRow → Contents
with_scopes c xs = record { scopes = xs; symbols = c.symbols; references = c.references; pending = c.pending; resolved = c.resolved; root = c.root; redeclarations = c.redeclarations; conflicts = c.conflicts }

abbrev pub with_symbols : Contents → List SymbolRow → Contents
with_symbols c xs = record { scopes = c.scopes; symbols = xs; references = c.references; pending = c.pending; resolved = c.resolved; root = c.root; redeclarations = c.redeclarations; conflicts = c.conflicts }

abbrev pub with_references : Contents → List ReferenceRow → Contents
with_references c xs = record { scopes = c.scopes; symbols = c.symbols; references = xs; pending = c.pending; resolved = c.resolved; root = c.root; redeclarations = c.redeclarations; conflicts = c.conflicts }

abbrev pub with_pending : Contents → List UnresolvedReference → Contents
with_pending c xs = record { scopes = c.scopes; symbols = c.symbols; references = c.references; pending = xs; resolved = c.resolved; root = c.root; redeclarations = c.redeclarations; conflicts = c.conflicts }

abbrev pub with_resolved : Contents → List ResolvedReference → Contents
with_resolved c xs = record { scopes = c.scopes; symbols = c.symbols; references = c.references; pending = c.pending; resolved = xs; root = c.root; redeclarations = c.redeclarations; conflicts = c.conflicts }

abbrev pub with_root : Contents → List RootReference → Contents
with_root c xs = record { scopes = c.scopes; symbols = c.symbols; references = c.references; pending = c.pending; resolved = c.resolved; root = xs; redeclarations = c.redeclarations; conflicts = c.conflicts }

abbrev pub with_redeclarations : Contents → List Redeclaration → Contents
with_redeclarations c xs = record { scopes = c.scopes; symbols = c.symbols; references = c.references; pending = c.pending; resolved = c.resolved; root = c.root; redeclarations = xs; conflicts = c.conflicts }

abbrev pub with_conflicts : Contents → List Conflict → Contents
with_conflicts c xs = record { scopes = c.scopes; symbols = c.symbols; references = c.references; pending = c.pending; resolved = c.resolved; root = c.root; redeclarations = c.redeclarations; conflicts = xs }

-- a row more at the end, while there is room
abbrev pub pushed : {X : Type 0} → ℕ → List X → X → List X
pushed most xs x = cond (nat_lt (length xs) most) (xs ++ x ∷ []) xs

-- the answer to an adding call: a value made of the row's number, or a refusal
abbrev pub push_answer : {X A : Type 0} → ℕ → List X → (ℕ → A) → Refusal → Result A Refusal
push_answer most xs id full = cond (nat_lt (length xs) most) (Ok (id (length xs))) (Err full)

-- the answer to a call that reads or writes a row
abbrev pub row_answer : {X : Type 0} → Option X → Result X Refusal
row_answer None = Err Absent
row_answer (Some x) = Ok x

abbrev pub set_answer : {X : Type 0} → List X → ℕ → Result (Unit {0}) Refusal
set_answer xs i = cond (nat_lt i (length xs)) (Ok tt) (Err Absent)

-- a scope's parent, if it names one, is there
abbrev pub parent_present : List ScopeRow → Option ScopeId → Bool
parent_present xs None = true
parent_present xs (Some p) = nat_lt p.0 (length xs)

abbrev pub scope_answer : List ScopeRow → ScopeRow → Result ScopeId Refusal
scope_answer xs row = cond (parent_present xs row.parent) (push_answer most_scopes xs the_scope ScopesFull) (Err NoSuchScope)

abbrev pub scopes_added : List ScopeRow → ScopeRow → List ScopeRow
scopes_added xs row = cond (parent_present xs row.parent) (pushed most_scopes xs row) xs

abbrev pub declaration_answer : Contents → ℕ → ℕ → Result (Unit {0}) Refusal
declaration_answer c scopes hoisted = cond (no_room (length c.symbols) (length c.redeclarations) (length c.conflicts) hoisted scopes) (Err DeclarationsFull) (Ok tt)

-- the symbol was declared more than once
abbrev pub has_redeclaration : ℕ → List Redeclaration → Bool
has_redeclaration s es = list_any (λ e. e.symbol.0 == s) es

-- the rows with other flags in one
abbrev pub flagged : List ScopeRow → ℕ → ScopeFlags → List ScopeRow
flagged xs i flags = slice_set xs i (record { parent = (slice_index_or xs i no_scope).parent; node = (slice_index_or xs i no_scope).node; flags = flags })
