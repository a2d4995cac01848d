-- When a call is refused, and why: exactly if the condition of that refusal holds, and that of no refusal before it in the call's table.
use Rattle.std.specs.Prelude.{◌≡◌, ℕ, suc, ◌+◌, ◌<◌, ◌≤◌, Bool, true, false, ◌&&◌, ◌||◌, ◌≢◌, ◌⊎◌, ◌↔◌, List, [], ◌∷◌, length, Some, Err, ◌==◌}
use Rattle.tables.specs.Flags.{StrictMode, Top, Function, Arrow, ClassStaticBlock, TsModuleBlock, Constructor, GetAccessor, SetAccessor, CatchClause, DirectEval, TsConditional, Read, Write, TypeUse, ValueAsType, NamespaceUse}
use Rattle.tables.specs.declared.row.ScopeRow.{ScopeRow}
use Rattle.tables.specs.declared.refusal.Refusal.{Refusal}
use Rattle.tables.specs.declared.refusal.Refusal.TheVariants.{UnlistedBits, UnknownKind, ModifierNotOfKind, SpanReversed, NoSuchScope, ScopesFull, DeclarationsFull, ReferencesFull, AtRoot, StartPastPending}
use Rattle.model.specs.declared.call.Call.{Call}
use Rattle.model.specs.declared.call.Call.TheVariants.{EnterScope, LeaveScope, Bind, DeclareReference, ResolveReferences, ResolveAllReferences}
use Rattle.model.specs.Kinds.{Declare, Async, IfBody, Unique}
use Rattle.model.specs.State.{Machine, fresh}
use Rattle.model.specs.Scopes.{parent_of, flags_in}
use Rattle.model.specs.Calls.{after, answer, run}
use Rattle.laws.specs.HasFlag.{has, has_one, among, IsFlag}
use Rattle.laws.specs.KindNames.{var_kind, let_kind, const_kind, class_kind, function_kind, function_expression_kind, parameter_kind, type_alias_kind, interface_kind, enum_kind, const_enum_kind, infer_kind}

-- flags

-- a flag is set that is not listed
abbrev pub HasUnlisted : ℕ → List ℕ → Type 0
HasUnlisted flags listed = (flag : ℕ) × IsFlag flag × (has flags flag ≡ true) × (among flag listed ≡ false)

abbrev pub listed_scope_flags : List ℕ
listed_scope_flags =
    StrictMode ∷ Top ∷ Function ∷ Arrow ∷ ClassStaticBlock ∷ TsModuleBlock ∷ Constructor ∷ GetAccessor ∷ SetAccessor ∷ CatchClause ∷ DirectEval ∷ TsConditional ∷ []

abbrev pub listed_reference_flags : List ℕ
listed_reference_flags = Read ∷ Write ∷ TypeUse ∷ ValueAsType ∷ NamespaceUse ∷ []

-- declarations

abbrev pub KnownKind : ℕ → Type 0
KnownKind kind = (var_kind ≤ kind) × (kind ≤ infer_kind)

-- what can be declared ambient
abbrev pub ambient_kinds : List ℕ
ambient_kinds = var_kind ∷ let_kind ∷ const_kind ∷ class_kind ∷ function_kind ∷ type_alias_kind ∷ interface_kind ∷ enum_kind ∷ const_enum_kind ∷ []

-- what can be async or a generator
abbrev pub async_kinds : List ℕ
async_kinds = function_kind ∷ function_expression_kind ∷ []

-- a kind takes a modifier
abbrev pub takes : ℕ → ℕ → Bool
takes kind modifier =
    among kind ambient_kinds && modifier == Declare
    || (among kind async_kinds && modifier == Async
    || (kind == function_kind && modifier == IfBody
    || kind == parameter_kind && modifier == Unique))

-- a modifier is set that the kind does not take
abbrev pub HasForeignModifier : ℕ → ℕ → Type 0
HasForeignModifier kind modifiers = (modifier : ℕ) × IsFlag modifier × (has modifiers modifier ≡ true) × (takes kind modifier ≡ false)

-- the scope holds the names of `var`
abbrev pub holds_vars : List ScopeRow → ℕ → Bool
holds_vars rows s = has_one (flags_in rows s) (Top ∷ Function ∷ ClassStaticBlock ∷ TsModuleBlock ∷ [])

-- so many scopes are on the way from a scope to the nearest that holds the names of `var`, both counted
pub data WayToVarScope (rows : List ScopeRow) : ℕ → ℕ → Type 0 where
  here : (s : ℕ) → holds_vars rows s ≡ true → WayToVarScope rows s 1
  up : (s p n : ℕ) → holds_vars rows s ≡ false → parent_of rows s ≡ Some p → WayToVarScope rows p n → WayToVarScope rows s (suc n)

-- how many scopes a declaration may write to
abbrev pub WritesTo : Machine → ℕ → ℕ → Type 0
WritesTo m kind d = ((kind ≡ var_kind) × WayToVarScope m.scopes m.current d) ⊎ ((kind ≢ var_kind) × (d ≡ 1))

-- there is room for 512 symbols, 256 redeclarations, 256 conflicts and 512 hoisted variables;
-- a declaration may write a symbol, two redeclarations, and a conflict and a hoisted variable for each of its scopes
abbrev pub NoRoom : Machine → ℕ → Type 0
NoRoom m kind =
    (512 ≤ length m.names.symbols)
    ⊎ ((254 < length m.names.redeclarations)
    ⊎ ((d : ℕ) × WritesTo m kind d × ((256 < length m.names.conflicts + d) ⊎ (512 < m.names.hoisting.size + d))))

-- the table of refusals

pub record Row : Type 1 where
  pub refusal : Refusal
  pub condition : Type 0

infix 90 ◌when◌
abbrev pub ◌when◌ : Refusal → Type 0 → Row
r when c = record { refusal = r; condition = c }

-- each call's, in order
abbrev pub table : Machine → Call → List Row
table m (EnterScope s) = UnlistedBits when HasUnlisted s.flags.0 listed_scope_flags ∷ ScopesFull when (256 ≤ length m.scopes) ∷ []
table m LeaveScope = AtRoot when (m.current ≡ 0) ∷ []
table m (Bind d) =
    UnknownKind when (¬ KnownKind d.kind)
    ∷ ModifierNotOfKind when HasForeignModifier d.kind d.modifiers
    ∷ SpanReversed when (d.end < d.start)
    ∷ DeclarationsFull when NoRoom m d.kind
    ∷ []
table m (DeclareReference r) =
    UnlistedBits when HasUnlisted r.flags.0 listed_reference_flags
    ∷ NoSuchScope when (length m.scopes ≤ r.scope.0)
    ∷ ReferencesFull when (512 ≤ length m.uses.references)
    ∷ []
table m (ResolveReferences start) =
    AtRoot when ((m.current ≡ 0) × (start ≢ length m.uses.pending))
    ∷ StartPastPending when (length m.uses.pending < start)
    ∷ []
table m ResolveAllReferences = []

-- the condition of a row with this refusal holds, and that of no row before it
abbrev pub FirstIs : List Row → Refusal → Type 0
FirstIs [] r = ⊥
FirstIs (row ∷ rows) r = (row.condition × (row.refusal ≡ r)) ⊎ ((¬ row.condition) × FirstIs rows r)

abbrev pub NoneHolds : List Row → Type 0
NoneHolds [] = Unit {0}
NoneHolds (row ∷ rows) = (¬ row.condition) × NoneHolds rows

pub record RefusesExactly (m : Machine) (c : Call) : Type 0 where
  pub refused : (r : Refusal) → answer m c ≡ Err r ↔ FirstIs (table m c) r
  -- a refused call changes nothing
  pub unchanged : (r : Refusal) → FirstIs (table m c) r → after m c ≡ m
  -- and one that no row refuses is granted
  pub granted : ((r : Refusal) → answer m c ≢ Err r) ↔ NoneHolds (table m c)

abbrev pub RefusedExactly : Type 0
RefusedExactly = (setting : ℕ) (cs : List Call) (c : Call) → RefusesExactly (run (fresh setting) cs) c
