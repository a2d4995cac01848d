-- The search along a lookup chain, scope by scope.
use Rattle.std.specs.Prelude.{ℕ, Bool, false, cond, List, [], ◌∷◌, Some, None, Option, ◌==◌}
use Rattle.tables.specs.declared.id.ScopeId.{ScopeId}
use Rattle.tables.specs.declared.row.ScopeRow.{ScopeRow}
use Rattle.tables.specs.declared.row.SymbolRow.{SymbolRow}
use Rattle.stores.specs.Pairs.{Pairs, no_pairs}
use Rattle.stores.specs.declared.key.ScopeAndName.{ScopeAndName}
use Rattle.model.specs.Basics.{maybe, place, the_symbol}
use Rattle.model.specs.State.{Names}
use Rattle.model.specs.Resolving.{ends_at, serving_in}
use Rattle.lookup.specs.declared.sought.Sought.{Sought}
use Rattle.lookup.specs.declared.sought.Sought.TheVariants.{Found, Ended, Passed}

-- what a search reads of the names
abbrev pub bound_names : List SymbolRow → Pairs ScopeAndName → Names
bound_names symbols bindings = record { symbols = symbols; bindings = bindings; hoisting = no_pairs; redeclarations = []; conflicts = [] }

-- a search up to a scope, if one is given, looks no further
abbrev pub is_last : Option ScopeId → ℕ → Bool
is_last None s = false
is_last (Some last) s = last.0 == s

abbrev pub seek : List ScopeRow → Names → ℕ → ℕ → Option ScopeId → List ℕ → Sought
seek rows nm name flags upto [] = Passed
seek rows nm name flags upto (s ∷ ss) =
    maybe (serving_in nm name flags s)
    (cond (ends_at rows name flags s) Ended (cond (is_last upto s) Passed (seek rows nm name flags upto ss)))
    (λ n. Found (the_symbol n))

-- the first binding of a name in some scopes, whatever its symbol
abbrev pub first_binding : Pairs ScopeAndName → ℕ → List ℕ → Option ℕ
first_binding bindings name [] = None
first_binding bindings name (s ∷ ss) = maybe (bindings.get (place s name)) (first_binding bindings name ss) Some
