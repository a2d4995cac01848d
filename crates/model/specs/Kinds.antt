-- The kinds of declaration: the modifiers that each takes, the flags that it gives its symbol, and the flags beside which it may not stand.
use Rattle.std.specs.Prelude.{ℕ, ◌+◌, Bool, cond, not, ◌&&◌, ◌||◌, List, [], ◌∷◌, ◌==◌, bit_or, slice_index_or}
use Rattle.tables.specs.Flags.{meets, less, FunctionScopedVariable, BlockScopedVariable, ConstVariable, Class, CatchVariable, FunctionSymbol, FunctionExpression, AsyncOrGenerator, Import, TypeImport, TypeAlias, Interface, RegularEnum, ConstEnum, EnumMember, TypeParameter, Ambient, Value, TypeLike, ValueOrType}
use Rattle.model.specs.declared.manner.Manner.{Manner}
use Rattle.model.specs.declared.manner.Manner.TheVariants.{Here, Hoisted, MovedOut, Shadow, Conditional}

-- settings

abbrev pub TypeScript : ℕ
TypeScript = 1

abbrev pub StrictRoot : ℕ
StrictRoot = 2

-- modifiers

-- `declare`
abbrev pub Declare : ℕ
Declare = 1

-- an async function or a generator
abbrev pub Async : ℕ
Async = 2

-- a function that is the body of an `if`
abbrev pub IfBody : ℕ
IfBody = 4

-- parameters that have to be unique, or are not simple
abbrev pub Unique : ℕ
Unique = 8

pub record KindRow : Type 0 where
  pub modifiers : ℕ
  pub includes : ℕ
  pub excludes : ℕ

abbrev pub kind : ℕ → ℕ → ℕ → KindRow
kind m i e = record { modifiers = m; includes = i; excludes = e }

-- by the kind's number; the excludes of functions and parameters depend on more, see below
abbrev pub kinds : List KindRow
kinds =
    -- 0 is no kind
    kind 0 0 0
    -- 1 var, 2 let, 3 const
    ∷ kind Declare FunctionScopedVariable (less Value (FunctionScopedVariable + FunctionSymbol))
    ∷ kind Declare BlockScopedVariable Value
    ∷ kind Declare (BlockScopedVariable + ConstVariable) Value
    -- 4 class
    ∷ kind Declare Class (less ValueOrType (Interface + FunctionSymbol))
    -- 5 function, 6 function expression
    ∷ kind (Declare + Async + IfBody) FunctionSymbol (less Value (FunctionSymbol + Class))
    ∷ kind Async (FunctionSymbol + FunctionExpression) (less Value (FunctionSymbol + Class))
    -- 7 parameter
    ∷ kind Unique FunctionScopedVariable (less Value (FunctionScopedVariable + FunctionSymbol))
    -- 8 catch name, 9 name in a catch pattern
    ∷ kind 0 (FunctionScopedVariable + CatchVariable) 0
    ∷ kind 0 (BlockScopedVariable + CatchVariable) Value
    -- 10 import, 11 type import
    ∷ kind 0 Import (Import + TypeImport)
    ∷ kind 0 TypeImport (Import + TypeImport)
    -- 12 type alias, 13 interface
    ∷ kind Declare TypeAlias TypeLike
    ∷ kind Declare Interface (less TypeLike (Interface + Class))
    -- 14 enum, 15 const enum, 16 enum member
    ∷ kind Declare RegularEnum (less ValueOrType RegularEnum)
    ∷ kind Declare ConstEnum (less ValueOrType ConstEnum)
    ∷ kind 0 EnumMember ValueOrType
    -- 17 type parameter, 18 infer
    ∷ kind 0 TypeParameter (less TypeLike TypeParameter)
    ∷ kind 0 TypeParameter (less TypeLike TypeParameter)
    ∷ []

abbrev pub last_kind : ℕ
last_kind = 18

abbrev pub kind_row : ℕ → KindRow
kind_row k = slice_index_or kinds k (kind 0 0 0)

-- what a declaration gives its symbol
abbrev pub includes : ℕ → ℕ → ℕ
includes k modifiers = bit_or (bit_or (kind_row k).includes (cond (meets modifiers Declare) Ambient 0)) (cond (meets modifiers Async) AsyncOrGenerator 0)

abbrev pub is_function : ℕ → Bool
is_function k = k == 5 || k == 6

-- what it may not stand beside, under TypeScript or not, in a scope that is strict or not
abbrev pub excludes : ℕ → ℕ → Bool → Bool → ℕ
excludes k modifiers typescript strict =
    -- without TypeScript a function may stand beside a var too, and beside anything as the body of an `if`, if not strict
    cond (is_function k && not typescript)
    (cond (k == 5 && meets modifiers IfBody && not strict) 0 (less (kind_row k).excludes FunctionScopedVariable))
    -- parameters that have to be unique
    (cond (k == 7 && (meets modifiers Unique || strict)) (bit_or (kind_row k).excludes FunctionScopedVariable)
    (kind_row k).excludes)

-- how it finds its scope, under TypeScript or not, from a current scope that is strict or not, and a var scope or not
abbrev pub manner : ℕ → ℕ → Bool → Bool → Bool → Manner
manner k modifiers typescript strict var =
    cond (k == 1) Hoisted
    (cond (k == 8) Shadow
    (cond (k == 18) Conditional
    (cond (k == 5 && not (meets modifiers Async) && not typescript && not strict && not var) MovedOut Here)))
