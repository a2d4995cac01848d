-- What a declaration does to the names.
use Rattle.std.specs.Prelude.{ℕ, cond, List, [], ◌∷◌, ◌++◌, length, is_some, Some, None, Option, bit_or, slice_set}
use Rattle.tables.specs.Flags.{meets, FunctionExpression, ByValue}
use Rattle.tables.specs.declared.row.ScopeRow.{ScopeRow}
use Rattle.tables.specs.declared.row.SymbolRow.{SymbolRow}
use Rattle.tables.specs.declared.row.Redeclaration.{Redeclaration}
use Rattle.tables.specs.declared.row.Conflict.{Conflict}
pub use Rattle.tables.specs.Contents.{has_redeclaration}
use Rattle.stores.specs.Pairs.{Pairs, put, drop_pair}
use Rattle.stores.specs.Keys.{same_scope_and_name}
use Rattle.stores.specs.declared.key.ScopeAndName.{ScopeAndName}
use Rattle.model.specs.declared.manner.Manner.{Manner}
use Rattle.model.specs.declared.manner.Manner.TheVariants.{Here, Hoisted, MovedOut, Shadow, Conditional}
use Rattle.model.specs.Basics.{maybe, place, the_scope, the_symbol, the_node, the_name, symbol_flags}
use Rattle.model.specs.State.{Names, symbol_row, flags_of}
use Rattle.model.specs.Scopes.{target, passed, conditional_scope}

-- what a declaration tells
pub record Told : Type 0 where
  pub name : ℕ
  pub start : ℕ
  pub end : ℕ
  pub node : ℕ
  pub includes : ℕ
  pub excludes : ℕ

-- the names after a declaration, and its symbol
pub record Declared : Type 0 where
  pub names : Names
  pub symbol : ℕ

abbrev pub binding : Names → ℕ → ℕ → Option ℕ
binding nm scope name = nm.bindings.get (place scope name)

abbrev pub hoisted : Names → ℕ → ℕ → Option ℕ
hoisted nm scope name = nm.hoisting.get (place scope name)

-- the steps

abbrev pub with_symbol : Names → ℕ → SymbolRow → Names
with_symbol nm s row =
    record { symbols = slice_set nm.symbols s row; bindings = nm.bindings; hoisting = nm.hoisting; redeclarations = nm.redeclarations; conflicts = nm.conflicts }

abbrev pub with_bindings : Names → Pairs ScopeAndName → Names
with_bindings nm b =
    record { symbols = nm.symbols; bindings = b; hoisting = nm.hoisting; redeclarations = nm.redeclarations; conflicts = nm.conflicts }

abbrev pub with_redeclarations : Names → List Redeclaration → Names
with_redeclarations nm es =
    record { symbols = nm.symbols; bindings = nm.bindings; hoisting = nm.hoisting; redeclarations = nm.redeclarations ++ es; conflicts = nm.conflicts }

abbrev pub with_conflicts : Names → List Conflict → Names
with_conflicts nm xs =
    record { symbols = nm.symbols; bindings = nm.bindings; hoisting = nm.hoisting; redeclarations = nm.redeclarations; conflicts = nm.conflicts ++ xs }

abbrev pub with_hoisted : Names → ℕ → ℕ → ℕ → Names
with_hoisted nm scope name s =
    record { symbols = nm.symbols; bindings = nm.bindings; hoisting = put same_scope_and_name nm.hoisting (place scope name) s; redeclarations = nm.redeclarations; conflicts = nm.conflicts }

abbrev pub with_flags : SymbolRow → ℕ → SymbolRow
with_flags r f = record { name = r.name; start = r.start; end = r.end; flags = symbol_flags f; scope = r.scope; node = r.node }

abbrev pub with_scope : SymbolRow → ℕ → SymbolRow
with_scope r s = record { name = r.name; start = r.start; end = r.end; flags = r.flags; scope = the_scope s; node = r.node }

abbrev pub first_declaration : ℕ → SymbolRow → Redeclaration
first_declaration s r = record { symbol = the_symbol s; start = r.start; end = r.end; node = r.node; flags = r.flags }

abbrev pub new_declaration : ℕ → Told → Redeclaration
new_declaration s d = record { symbol = the_symbol s; start = d.start; end = d.end; node = the_node d.node; flags = symbol_flags d.includes }

-- a redeclaration: the first one writes the symbol itself down too, as it is then
unfoldable pub add_symbol_redeclaration : Told → Names → ℕ → Names
add_symbol_redeclaration d nm s =
    with_redeclarations nm (cond (has_redeclaration s nm.redeclarations) (new_declaration s d ∷ []) (first_declaration s (symbol_row nm s) ∷ new_declaration s d ∷ []))

unfoldable pub unite : Told → Names → ℕ → Names
unite d nm s = with_symbol nm s (with_flags (symbol_row nm s) (bit_or (flags_of nm s) d.includes))

abbrev pub conflict_of : Told → SymbolRow → Conflict
conflict_of d r = record { name = the_name d.name; first_start = r.start; first_end = r.end; second_start = d.start; second_end = d.end }

-- a conflict is written if the symbol has a flag that the declaration excludes
unfoldable pub complain : Told → Names → ℕ → Names
complain d nm s = with_conflicts nm (cond (meets (flags_of nm s) d.excludes) (conflict_of d (symbol_row nm s) ∷ []) [])

-- the symbol beside which a name is declared in a scope: its binding, else its hoisted variable, and never a function expression
abbrev pub not_expression : Names → ℕ → Option ℕ
not_expression nm s = cond (meets (flags_of nm s) FunctionExpression) None (Some s)

unfoldable pub found : Names → ℕ → ℕ → Option ℕ
found nm scope name = maybe (maybe (binding nm scope name) (hoisted nm scope name) Some) None (not_expression nm)

abbrev pub new_symbol : Told → ℕ → SymbolRow
new_symbol d scope = record { name = the_name d.name; start = d.start; end = d.end; flags = symbol_flags d.includes; scope = the_scope scope; node = the_node d.node }

-- a new symbol, bound in the scope over any other
unfoldable pub declare_shadow_symbol : Told → Names → ℕ → Declared
declare_shadow_symbol d nm scope =
    record {
      names = record {
        symbols = nm.symbols ++ new_symbol d scope ∷ [];
        bindings = put same_scope_and_name nm.bindings (place scope d.name) (length nm.symbols);
        hoisting = nm.hoisting;
        redeclarations = nm.redeclarations;
        conflicts = nm.conflicts;
      };
      symbol = length nm.symbols;
    }

-- a symbol that is found is declared once more, and else a new one is made
unfoldable pub declare_symbol_on_scope : Told → Names → ℕ → Declared
declare_symbol_on_scope d nm scope =
    maybe (found nm scope d.name) (declare_shadow_symbol d nm scope)
    (λ s. record { names = unite d (add_symbol_redeclaration d (complain d nm s) s) s; symbol = s })

-- the binding of a name goes from one scope to another
abbrev pub relocate : Names → ℕ → ℕ → ℕ → ℕ → Names
relocate nm from to name s =
    with_bindings (with_symbol nm s (with_scope (symbol_row nm s) to))
    (put same_scope_and_name (drop_pair same_scope_and_name nm.bindings (place from name)) (place to name) s)

-- unless the other has the name
unfoldable pub move_binding : Names → ℕ → ℕ → ℕ → ℕ → Names
move_binding nm from to name s = cond (is_some (binding nm to name)) nm (relocate nm from to name s)

-- a var looks at the scopes on the way to its target: the first value symbol stops it, and is declared once more without uniting
unfoldable pub scan : Told → ℕ → Names → List ℕ → Declared
scan d to nm [] = declare_symbol_on_scope d nm to
scan d to nm (p ∷ ps) =
    maybe (found nm p d.name) (scan d to nm ps)
    (λ s. cond (meets (flags_of nm s) ByValue)
    (record { names = move_binding (add_symbol_redeclaration d (complain d nm s) s) p to d.name s; symbol = s })
    (scan d to (complain d nm s) ps))

unfoldable pub hoist_all : Names → List ℕ → ℕ → ℕ → Names
hoist_all nm [] name s = nm
hoist_all nm (p ∷ ps) name s = hoist_all (with_hoisted nm p name s) ps name s

unfoldable pub declare_var : Told → List ScopeRow → ℕ → Names → Declared
declare_var d rows here nm =
    let r = scan d (target rows here) nm (passed rows here) in
    record { names = hoist_all r.names (passed rows here) d.name r.symbol; symbol = r.symbol }

-- a function in a block moves to the nearest var scope, unless that has the name; the block then sees it as a hoisted variable
unfoldable pub declare_moved_out : Told → List ScopeRow → ℕ → Names → Declared
declare_moved_out d rows here nm =
    let r = declare_symbol_on_scope d nm here in
    record {
      names = cond (is_some (binding r.names (target rows here) d.name)) r.names
          (with_hoisted (move_binding r.names here (target rows here) d.name r.symbol) here d.name r.symbol);
      symbol = r.symbol;
    }

unfoldable pub declare : Manner → Told → List ScopeRow → ℕ → Names → Declared
declare Here d rows here nm = declare_symbol_on_scope d nm here
declare Hoisted d rows here nm = declare_var d rows here nm
declare MovedOut d rows here nm = declare_moved_out d rows here nm
declare Shadow d rows here nm = declare_shadow_symbol d nm here
declare Conditional d rows here nm = declare_symbol_on_scope d nm (conditional_scope rows here)
