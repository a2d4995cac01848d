-- What a reference can resolve to, what becomes of its flags, what a declaration gives its symbol, and what it may not stand beside:
-- case by case, over single flags by their names, for all flags whatever.
use Rattle.std.specs.Prelude.{◌≡◌, ℕ, Bool, true, false, not, ◌&&◌, ◌||◌, List, [], ◌∷◌, ◌++◌, ◌==◌}
use Rattle.tables.specs.Flags.{meets, StrictMode, Top, Function, Arrow, ClassStaticBlock, TsModuleBlock, Constructor, GetAccessor, SetAccessor, CatchClause, DirectEval, TsConditional, Read, Write, TypeUse, ValueAsType, NamespaceUse, FunctionScopedVariable, BlockScopedVariable, ConstVariable, Class, CatchVariable, FunctionSymbol, FunctionExpression, AsyncOrGenerator, Import, TypeImport, TypeAlias, Interface, RegularEnum, ConstEnum, EnumMember, TypeParameter, Ambient}
use Rattle.model.specs.Kinds.{Declare, Async, IfBody, Unique, includes, excludes}
use Rattle.model.specs.Resolving.{can_resolve, resolved_flags}
use Rattle.laws.specs.HasFlag.{has, has_one, among, IsFlag, SingleFlags}
use Rattle.laws.specs.KindNames.{var_kind, let_kind, const_kind, class_kind, function_kind, function_expression_kind, parameter_kind, catch_name_kind, catch_pattern_kind, import_kind, type_import_kind, type_alias_kind, interface_kind, enum_kind, const_enum_kind, enum_member_kind, type_parameter_kind, infer_kind}

-- symbols

-- variables, classes, functions, enums and their members have values
abbrev pub values : List ℕ
values = FunctionScopedVariable ∷ BlockScopedVariable ∷ Class ∷ FunctionSymbol ∷ RegularEnum ∷ ConstEnum ∷ EnumMember ∷ []

-- classes, aliases, interfaces, enums, their members and type parameters are types
abbrev pub types : List ℕ
types = Class ∷ TypeAlias ∷ Interface ∷ RegularEnum ∷ ConstEnum ∷ EnumMember ∷ TypeParameter ∷ []

abbrev pub values_and_types : List ℕ
values_and_types =
    FunctionScopedVariable ∷ BlockScopedVariable ∷ Class ∷ FunctionSymbol ∷ TypeAlias ∷ Interface ∷ RegularEnum ∷ ConstEnum ∷ EnumMember ∷ TypeParameter ∷ []

-- what may stand behind a name, by how it is used

abbrev pub is_value : ℕ → Bool
is_value s = has_one s (values ++ Import ∷ [])

abbrev pub is_type : ℕ → Bool
is_type s = has_one s (types ++ Import ∷ TypeImport ∷ [])

-- by `typeof`: a value, and an import for types alone too
abbrev pub has_typeof : ℕ → Bool
has_typeof s = has_one s (values ++ Import ∷ TypeImport ∷ [])

-- in front of the dot of a qualified name
abbrev pub has_members : ℕ → Bool
has_members s = has_one s (Import ∷ TypeImport ∷ RegularEnum ∷ ConstEnum ∷ [])

-- references

abbrev pub uses_value : ℕ → Bool
uses_value u = has_one u (Read ∷ Write ∷ [])

-- how a name is used: exactly so

pub record AsValueAlone (u : ℕ) : Type 0 where
  pub uses : uses_value u ≡ true
  pub no_type : has u TypeUse ≡ false
  pub no_typeof : has u ValueAsType ≡ false
  pub not_in_front : has u NamespaceUse ≡ false

pub record AsTypeAlone (u : ℕ) : Type 0 where
  pub no_value : uses_value u ≡ false
  pub uses : has u TypeUse ≡ true
  pub no_typeof : has u ValueAsType ≡ false
  pub not_in_front : has u NamespaceUse ≡ false

-- alone or in front of a dot
pub record ByTypeofAlone (u : ℕ) : Type 0 where
  pub no_value : uses_value u ≡ false
  pub no_type : has u TypeUse ≡ false
  pub uses : has u ValueAsType ≡ true

pub record AsFront (u : ℕ) : Type 0 where
  pub no_typeof : has u ValueAsType ≡ false
  pub in_front : has u NamespaceUse ≡ true

pub record Unused (u : ℕ) : Type 0 where
  pub no_value : uses_value u ≡ false
  pub no_type : has u TypeUse ≡ false
  pub no_typeof : has u ValueAsType ≡ false

pub record CanResolveTo : Type 0 where
  -- a value reference reaches variables, classes, functions, enums, enum members and imports
  pub a_value : (u s : ℕ) → AsValueAlone u → can_resolve u s ≡ is_value s
  -- a type reference reaches classes, aliases, interfaces, enums, enum members, type parameters, imports and type imports
  pub a_type : (u s : ℕ) → AsTypeAlone u → can_resolve u s ≡ is_type s
  -- a reference by `typeof` reaches what has a value, and imports of both kinds
  pub a_typeof : (u s : ℕ) → ByTypeofAlone u → can_resolve u s ≡ has_typeof s
  -- the front of a qualified name reaches imports of both kinds and enums, and no other; as a value only if it is one
  pub a_front_of_type : (u s : ℕ) → AsFront u → has u TypeUse ≡ true → can_resolve u s ≡ has_members s
  pub a_front_of_value : (u s : ℕ) → AsFront u → has u TypeUse ≡ false → uses_value u ≡ true → can_resolve u s ≡ (has_members s && is_value s)
  -- what uses nothing reaches nothing
  pub nothing : (u s : ℕ) → Unused u → can_resolve u s ≡ false
  -- and one that is used in several ways reaches what any of them reaches
  pub any_way : (u s : ℕ)
      → can_resolve u s
      ≡ ((not (has u NamespaceUse) || has u ValueAsType || has_members s)
      && (uses_value u && is_value s || has u TypeUse && is_type s || has u ValueAsType && has_typeof s))

-- the flags of a reference afterwards

-- Type is gone, and every other flag is as it was
abbrev pub LosesType : ℕ → ℕ → Type 0
LosesType before after = (flag : ℕ) → IsFlag flag → has after flag ≡ (has before flag && not (flag == TypeUse))

-- Type, and no other flag
abbrev pub TypeAlone : ℕ → Type 0
TypeAlone after = (flag : ℕ) → IsFlag flag → has after flag ≡ (flag == TypeUse)

pub record ResolvedFlags : Type 0 where
  -- a value reference that reached a value loses Type and keeps every other
  pub to_value : (u s : ℕ) → uses_value u ≡ true → is_value s ≡ true → LosesType u (resolved_flags u s)
  -- and so does one that reads through the front of a qualified name, whatever it reached
  pub through_namespace : (u s : ℕ) → has u NamespaceUse ≡ true → has u Read ≡ true → LosesType u (resolved_flags u s)
  -- any other is a type reference from then on: one that uses no value,
  pub no_value_use : (u s : ℕ) → uses_value u ≡ false → TypeAlone (resolved_flags u s)
  -- and one that reached no value, unless it reads through a namespace
  pub to_no_value : (u s : ℕ) → is_value s ≡ false → has u NamespaceUse ≡ false → TypeAlone (resolved_flags u s)
  pub to_no_value_unread : (u s : ℕ) → is_value s ≡ false → has u Read ≡ false → TypeAlone (resolved_flags u s)

-- what a declaration may not stand beside

-- whatever the modifiers and the mode
abbrev pub Excludes : ℕ → List ℕ → Type 0
Excludes kind flags = (s modifiers : ℕ) (typescript strict : Bool) → meets s (excludes kind modifiers typescript strict) ≡ has_one s flags

pub record Excluded : Type 0 where
  -- a `var` may stand beside a var, a parameter and a function, and beside no other value
  pub by_var : Excludes var_kind (BlockScopedVariable ∷ Class ∷ RegularEnum ∷ ConstEnum ∷ EnumMember ∷ [])
  -- a `let` or `const` may not stand beside any value
  pub by_let : Excludes let_kind values
  pub by_const : Excludes const_kind values
  -- a class may not stand beside a value or a type, but an interface and a function
  pub by_class : Excludes class_kind (FunctionScopedVariable ∷ BlockScopedVariable ∷ Class ∷ TypeAlias ∷ RegularEnum ∷ ConstEnum ∷ EnumMember ∷ TypeParameter ∷ [])
  -- under TypeScript a function may stand beside a function and a class, and beside no other value
  pub by_function_in_typescript : (s modifiers : ℕ) (strict : Bool)
      → meets s (excludes function_kind modifiers true strict) ≡ has_one s (FunctionScopedVariable ∷ BlockScopedVariable ∷ RegularEnum ∷ ConstEnum ∷ EnumMember ∷ [])
  -- in plain JavaScript beside a var too
  pub by_function_strict : (s modifiers : ℕ)
      → meets s (excludes function_kind modifiers false true) ≡ has_one s (BlockScopedVariable ∷ RegularEnum ∷ ConstEnum ∷ EnumMember ∷ [])
  pub by_function : (s modifiers : ℕ) (strict : Bool) → has modifiers IfBody ≡ false
      → meets s (excludes function_kind modifiers false strict) ≡ has_one s (BlockScopedVariable ∷ RegularEnum ∷ ConstEnum ∷ EnumMember ∷ [])
  -- and as the body of an `if`, not in strict mode, beside anything
  pub by_function_in_if : (s modifiers : ℕ) → has modifiers IfBody ≡ true → meets s (excludes function_kind modifiers false false) ≡ false
  -- the name of a function expression likewise
  pub by_function_expression_in_typescript : (s modifiers : ℕ) (strict : Bool)
      → meets s (excludes function_expression_kind modifiers true strict)
      ≡ has_one s (FunctionScopedVariable ∷ BlockScopedVariable ∷ RegularEnum ∷ ConstEnum ∷ EnumMember ∷ [])
  pub by_function_expression : (s modifiers : ℕ) (strict : Bool)
      → meets s (excludes function_expression_kind modifiers false strict) ≡ has_one s (BlockScopedVariable ∷ RegularEnum ∷ ConstEnum ∷ EnumMember ∷ [])
  -- a parameter is as a var; where parameters have to be unique, or in strict mode, not beside a var or a parameter either
  pub by_parameter : (s modifiers : ℕ) (typescript : Bool) → has modifiers Unique ≡ false
      → meets s (excludes parameter_kind modifiers typescript false) ≡ has_one s (BlockScopedVariable ∷ Class ∷ RegularEnum ∷ ConstEnum ∷ EnumMember ∷ [])
  pub by_unique_parameter : (s modifiers : ℕ) (typescript strict : Bool) → has modifiers Unique ≡ true
      → meets s (excludes parameter_kind modifiers typescript strict)
      ≡ has_one s (FunctionScopedVariable ∷ BlockScopedVariable ∷ Class ∷ RegularEnum ∷ ConstEnum ∷ EnumMember ∷ [])
  pub by_strict_parameter : (s modifiers : ℕ) (typescript : Bool)
      → meets s (excludes parameter_kind modifiers typescript true)
      ≡ has_one s (FunctionScopedVariable ∷ BlockScopedVariable ∷ Class ∷ RegularEnum ∷ ConstEnum ∷ EnumMember ∷ [])
  -- the name of a catch clause may stand beside anything, and a name in its pattern beside no value
  pub by_catch_name : Excludes catch_name_kind []
  pub by_catch_pattern : Excludes catch_pattern_kind values
  -- no two imports of a name, for values or types
  pub by_import : Excludes import_kind (Import ∷ TypeImport ∷ [])
  pub by_type_import : Excludes type_import_kind (Import ∷ TypeImport ∷ [])
  -- a type alias may not stand beside any type
  pub by_type_alias : Excludes type_alias_kind types
  -- an interface may merge with an interface or a class, and with no other type
  pub by_interface : Excludes interface_kind (TypeAlias ∷ RegularEnum ∷ ConstEnum ∷ EnumMember ∷ TypeParameter ∷ [])
  -- an enum may merge with an enum of its kind, const or not, and with no other value or type
  pub by_enum : Excludes enum_kind (FunctionScopedVariable ∷ BlockScopedVariable ∷ Class ∷ FunctionSymbol ∷ TypeAlias ∷ Interface ∷ ConstEnum ∷ EnumMember ∷ TypeParameter ∷ [])
  pub by_const_enum : Excludes const_enum_kind (FunctionScopedVariable ∷ BlockScopedVariable ∷ Class ∷ FunctionSymbol ∷ TypeAlias ∷ Interface ∷ RegularEnum ∷ EnumMember ∷ TypeParameter ∷ [])
  -- an enum member may not stand beside any value or type
  pub by_enum_member : Excludes enum_member_kind values_and_types
  -- a type parameter and an `infer` may not stand beside any type but a type parameter
  pub by_type_parameter : Excludes type_parameter_kind (Class ∷ TypeAlias ∷ Interface ∷ RegularEnum ∷ ConstEnum ∷ EnumMember ∷ [])
  pub by_infer : Excludes infer_kind (Class ∷ TypeAlias ∷ Interface ∷ RegularEnum ∷ ConstEnum ∷ EnumMember ∷ [])

-- what a declaration gives its symbol: these flags, Ambient after `declare`, AsyncOrGenerator for such a function, and no other
abbrev pub Gives : ℕ → List ℕ → Type 0
Gives kind flags =
    (modifiers flag : ℕ) → IsFlag flag
    → has (includes kind modifiers) flag ≡ (among flag flags || flag == Ambient && has modifiers Declare || flag == AsyncOrGenerator && has modifiers Async)

pub record Given : Type 0 where
  pub by_var : Gives var_kind (FunctionScopedVariable ∷ [])
  pub by_let : Gives let_kind (BlockScopedVariable ∷ [])
  pub by_const : Gives const_kind (BlockScopedVariable ∷ ConstVariable ∷ [])
  pub by_class : Gives class_kind (Class ∷ [])
  pub by_function : Gives function_kind (FunctionSymbol ∷ [])
  pub by_function_expression : Gives function_expression_kind (FunctionSymbol ∷ FunctionExpression ∷ [])
  pub by_parameter : Gives parameter_kind (FunctionScopedVariable ∷ [])
  pub by_catch_name : Gives catch_name_kind (FunctionScopedVariable ∷ CatchVariable ∷ [])
  pub by_catch_pattern : Gives catch_pattern_kind (BlockScopedVariable ∷ CatchVariable ∷ [])
  pub by_import : Gives import_kind (Import ∷ [])
  pub by_type_import : Gives type_import_kind (TypeImport ∷ [])
  pub by_type_alias : Gives type_alias_kind (TypeAlias ∷ [])
  pub by_interface : Gives interface_kind (Interface ∷ [])
  pub by_enum : Gives enum_kind (RegularEnum ∷ [])
  pub by_const_enum : Gives const_enum_kind (ConstEnum ∷ [])
  pub by_enum_member : Gives enum_member_kind (EnumMember ∷ [])
  pub by_type_parameter : Gives type_parameter_kind (TypeParameter ∷ [])
  pub by_infer : Gives infer_kind (TypeParameter ∷ [])

-- the names are of single flags, each its own

pub record NamesOfFlags : Type 0 where
  pub of_scopes : SingleFlags (StrictMode ∷ Top ∷ Function ∷ Arrow ∷ ClassStaticBlock ∷ TsModuleBlock ∷ Constructor ∷ GetAccessor ∷ SetAccessor ∷ CatchClause ∷ DirectEval ∷ TsConditional ∷ [])
  pub of_references : SingleFlags (Read ∷ Write ∷ TypeUse ∷ ValueAsType ∷ NamespaceUse ∷ [])
  pub of_symbols : SingleFlags (FunctionScopedVariable ∷ BlockScopedVariable ∷ ConstVariable ∷ Class ∷ CatchVariable ∷ FunctionSymbol ∷ FunctionExpression ∷ AsyncOrGenerator ∷ Import ∷ TypeImport ∷ TypeAlias ∷ Interface ∷ RegularEnum ∷ ConstEnum ∷ EnumMember ∷ TypeParameter ∷ Ambient ∷ [])
  pub of_modifiers : SingleFlags (Declare ∷ Async ∷ IfBody ∷ Unique ∷ [])

pub record FlagsInWords : Type 0 where
  pub names_of_flags : NamesOfFlags
  pub can_resolve_to : CanResolveTo
  pub resolved_to : ResolvedFlags
  pub excluded : Excluded
  pub given : Given
