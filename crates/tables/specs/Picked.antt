-- The rows of one owner, in order.
use Rattle.std.specs.Prelude.{ℕ, List, nat_eq}
use Rattle.std.specs.List.{filter}
use Rattle.tables.specs.declared.row.Redeclaration.{Redeclaration}
use Rattle.tables.specs.declared.row.ResolvedReference.{ResolvedReference}
use Rattle.tables.specs.declared.row.RootReference.{RootReference}

abbrev pub owned : {X : Type 0} → (X → ℕ) → ℕ → List X → List X
owned owner s xs = filter (λ x. nat_eq (owner x) s) xs

-- the declarations of a symbol that was declared more than once
abbrev pub redeclarations_of : ℕ → List Redeclaration → List Redeclaration
redeclarations_of s es = owned (λ e. e.symbol.0) s es

-- the resolved list of a symbol
abbrev pub resolved_of : ℕ → List ResolvedReference → List ResolvedReference
resolved_of s es = owned (λ e. e.symbol.0) s es

-- the root unresolved list of a number
abbrev pub root_of : ℕ → List RootReference → List RootReference
root_of n es = owned (λ e. e.list) n es
