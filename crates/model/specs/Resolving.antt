-- References, and how they find their symbols.
use Rattle.std.specs.Prelude.{ℕ, ◌+◌, Bool, cond, not, ◌&&◌, ◌||◌, List, [], ◌∷◌, ◌++◌, take, drop, Some, None, Option, ◌==◌, nat_eq, slice_set}
use Rattle.tables.specs.Flags.{meets, less, Read, ValueUse, TypeUse, ValueAsType, NamespaceUse, ByValue, ByType, ByValueAsType, ByNamespace, FunctionExpression}
use Rattle.tables.specs.declared.row.ScopeRow.{ScopeRow}
use Rattle.tables.specs.declared.row.ReferenceRow.{ReferenceRow}
use Rattle.tables.specs.declared.row.UnresolvedReference.{UnresolvedReference}
use Rattle.tables.specs.declared.id.Name.{Name}
use Rattle.stores.specs.Pairs.{Pairs, put}
use Rattle.stores.specs.Keys.{same_name}
use Rattle.model.specs.Basics.{maybe, until, any, the_name, the_scope, the_symbol, reference_flags}
use Rattle.model.specs.State.{Names, Uses, reference_row, use_flags, flags_of}
use Rattle.model.specs.Scopes.{parent_of, is_plain_function, chain, is_below}
use Rattle.model.specs.Declaring.{binding}

-- a reference of these flags can resolve to a symbol of those
abbrev pub can_resolve : ℕ → ℕ → Bool
can_resolve flags symbol =
    not (meets flags NamespaceUse && not (meets flags ValueAsType) && not (meets symbol ByNamespace))
    && ((meets flags ValueUse && meets symbol ByValue) || (meets flags TypeUse && meets symbol ByType) || (meets flags ValueAsType && meets symbol ByValueAsType))

-- the flags of a reference once it is resolved to a symbol
abbrev pub resolved_flags : ℕ → ℕ → ℕ
resolved_flags flags symbol =
    cond (meets flags ValueUse && meets symbol ByValue) (less flags TypeUse)
    (cond (meets flags NamespaceUse && meets flags Read) (less flags TypeUse) TypeUse)

-- the name 0 is `arguments`: as a value it is that of the nearest function that has its own
abbrev pub of_arguments : ℕ → ℕ → Bool
of_arguments name flags = name == 0 && meets flags (ValueUse + ValueAsType)

-- the lookup chain of such a reference ends with that function
abbrev pub ends_at : List ScopeRow → ℕ → ℕ → ℕ → Bool
ends_at rows name flags s = of_arguments name flags && is_plain_function rows s

-- the scopes in which a reference is looked for, from its lookup scope on
unfoldable pub lookup_chain : List ScopeRow → ℕ → ℕ → ℕ → List ℕ
lookup_chain rows name flags scope = until (ends_at rows name flags) (chain rows scope)

-- a symbol serves a reference that can resolve to it; the name of a function expression is no `arguments`
abbrev pub serves : Names → ℕ → ℕ → ℕ → Bool
serves nm name flags s = can_resolve flags (flags_of nm s) && not (of_arguments name flags && meets (flags_of nm s) FunctionExpression)

-- the symbol that the name is bound to in the scope, if it serves
abbrev pub serving_in : Names → ℕ → ℕ → ℕ → Option ℕ
serving_in nm name flags scope = maybe (binding nm scope name) None (λ s. cond (serves nm name flags s) (Some s) None)

unfoldable pub search : Names → ℕ → ℕ → List ℕ → Option ℕ
search nm name flags [] = None
search nm name flags (p ∷ ps) = maybe (serving_in nm name flags p) (search nm name flags ps) Some

-- what becomes of a pending entry
pub data Fate : Type 0 where
  resolve_to : ℕ → Fate
  list_at_root : Fate
  stay : ℕ → Fate

abbrev pub resolved_row : ReferenceRow → ℕ → ℕ → ReferenceRow
resolved_row r flags s = record { node = r.node; flags = reference_flags flags; symbol = Some (the_symbol s) }

-- the number of a name's root unresolved list: a new list has the next number
abbrev pub list_number : Pairs Name → ℕ → ℕ
list_number roots name = maybe (roots.get (the_name name)) roots.size (λ n. n)

abbrev pub with_list : Pairs Name → ℕ → Pairs Name
with_list roots name = maybe (roots.get (the_name name)) (put same_name roots (the_name name) roots.size) (λ n. roots)

abbrev pub deferred : UnresolvedReference → ℕ → UnresolvedReference
deferred e s = record { name = e.name; reference = e.reference; scope = the_scope s }

unfoldable pub settle : Names → Uses → UnresolvedReference → Fate → Uses
settle nm us e (resolve_to s) =
    record {
      references = slice_set us.references e.reference.0
          (resolved_row (reference_row us e.reference.0) (resolved_flags (use_flags us e.reference.0) (flags_of nm s)) s);
      pending = us.pending;
      resolved = us.resolved ++ record { symbol = the_symbol s; reference = e.reference } ∷ [];
      root = us.root;
      roots = us.roots;
    }
settle nm us e list_at_root =
    record {
      references = us.references;
      pending = us.pending;
      resolved = us.resolved;
      root = us.root ++ record { list = list_number us.roots e.name.0; reference = e.reference } ∷ [];
      roots = with_list us.roots e.name.0;
    }
settle nm us e (stay s) =
    record { references = us.references; pending = us.pending ++ deferred e s ∷ []; resolved = us.resolved; root = us.root; roots = us.roots }

-- one entry after the other
unfoldable pub settle_all : Names → (Uses → UnresolvedReference → Fate) → Uses → List UnresolvedReference → Uses
settle_all nm fate us [] = us
settle_all nm fate us (e ∷ es) = settle_all nm fate (settle nm us e (fate us e)) es

-- the entry's fate at the end: its whole lookup chain is searched
unfoldable pub fate_at_end : List ScopeRow → Names → Uses → UnresolvedReference → Fate
fate_at_end rows nm us e =
    let flags = use_flags us e.reference.0 in
    maybe (search nm e.name.0 flags (lookup_chain rows e.name.0 flags e.scope.0)) list_at_root resolve_to

-- the lookup chain up to the scope `here`
abbrev pub chain_up_to : List ScopeRow → ℕ → ℕ → ℕ → ℕ → List ℕ
chain_up_to rows here name flags scope = until (nat_eq here) (lookup_chain rows name flags scope)

-- the lookup chain of an `arguments` ends there, or before
unfoldable pub has_ended : List ScopeRow → ℕ → ℕ → ℕ → ℕ → Bool
has_ended rows here name flags scope = any (ends_at rows name flags) (until (nat_eq here) (chain rows scope))

-- the entry's fate at the end of the scope `here`: an entry from elsewhere stays as it is
unfoldable pub fate_here : List ScopeRow → ℕ → ℕ → Names → Uses → UnresolvedReference → Fate
fate_here rows here parent nm us e =
    let flags = use_flags us e.reference.0 in
    cond (is_below rows here e.scope.0)
    (maybe (search nm e.name.0 flags (chain_up_to rows here e.name.0 flags e.scope.0))
    (cond (has_ended rows here e.name.0 flags e.scope.0) list_at_root (stay parent))
    resolve_to)
    (stay e.scope.0)

abbrev pub keep_pending : Uses → List UnresolvedReference → Uses
keep_pending us ps = record { references = us.references; pending = ps; resolved = us.resolved; root = us.root; roots = us.roots }

unfoldable pub resolve_end : List ScopeRow → Names → Uses → Uses
resolve_end rows nm us = settle_all nm (fate_at_end rows nm) (keep_pending us []) us.pending

unfoldable pub resolve_here : List ScopeRow → ℕ → Names → ℕ → Uses → Uses
resolve_here rows here nm start us =
    settle_all nm (fate_here rows here (maybe (parent_of rows here) 0 (λ p. p)) nm) (keep_pending us (take start us.pending)) (drop start us.pending)
