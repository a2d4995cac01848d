-- What tables and stores stand for.
use Rattle.std.specs.Prelude.{ℕ, []}
use Rattle.tables.specs.declared.id.Name.{Name}
use Rattle.tables.specs.Contents.{Contents, with_symbols, with_redeclarations, with_conflicts, with_references, with_pending, with_resolved, with_root}
use Rattle.stores.specs.Pairs.{Pairs}
use Rattle.stores.specs.declared.key.ScopeAndName.{ScopeAndName}
use Rattle.tables.specs.declared.id.SymbolId.{SymbolId}
use Rattle.model.specs.State.{Names, Uses, Machine}
use Rattle.model.specs.Declaring.{Declared}

abbrev pub names_of : Contents → Pairs ScopeAndName → Pairs ScopeAndName → Names
names_of c b h = record { symbols = c.symbols; bindings = b; hoisting = h; redeclarations = c.redeclarations; conflicts = c.conflicts }

abbrev pub uses_of : Contents → Pairs Name → Uses
uses_of c r = record { references = c.references; pending = c.pending; resolved = c.resolved; root = c.root; roots = r }

abbrev pub machine_of : ℕ → ℕ → Contents → Pairs ScopeAndName → Pairs ScopeAndName → Pairs Name → Machine
machine_of setting current c b h r = record { setting = setting; current = current; scopes = c.scopes; names = names_of c b h; uses = uses_of c r }

-- what a declaration leaves alone in the tables
abbrev pub beside_names : Contents → Contents
beside_names c = with_symbols (with_redeclarations (with_conflicts c []) []) []

-- what resolving leaves alone in the tables
abbrev pub beside_uses : Contents → Contents
beside_uses c = with_references (with_pending (with_resolved (with_root c []) []) []) []

-- the names and the symbol after a declaration
abbrev pub declared : Contents → Pairs ScopeAndName → Pairs ScopeAndName → SymbolId → Declared
declared c b h s = record { names = names_of c b h; symbol = s.0 }
