-- The flags, and the sets that are made of them. Flags are bits, so a set of flags is the sum of its flags.
use Rattle.std.specs.Prelude.{ℕ, ◌+◌, ◌-◌, Bool, not, ◌==◌, bit_and, bit_or}

-- at least one flag of the set is among the flags
abbrev pub meets : ℕ → ℕ → Bool
meets flags set = not ((bit_and flags set) == 0)

-- the flags of the first that the second lacks
abbrev pub less : ℕ → ℕ → ℕ
less a b = a - bit_and a b

-- scopes

abbrev pub StrictMode : ℕ
StrictMode = 1

abbrev pub Top : ℕ
Top = 2

abbrev pub Function : ℕ
Function = 4

abbrev pub Arrow : ℕ
Arrow = 8

abbrev pub ClassStaticBlock : ℕ
ClassStaticBlock = 16

abbrev pub TsModuleBlock : ℕ
TsModuleBlock = 32

abbrev pub Constructor : ℕ
Constructor = 64

abbrev pub GetAccessor : ℕ
GetAccessor = 128

abbrev pub SetAccessor : ℕ
SetAccessor = 256

abbrev pub CatchClause : ℕ
CatchClause = 512

abbrev pub DirectEval : ℕ
DirectEval = 1024

abbrev pub TsConditional : ℕ
TsConditional = 2048

-- the scopes that hold the names of `var`
abbrev pub VarScope : ℕ
VarScope = Top + Function + ClassStaticBlock + TsModuleBlock

abbrev pub all_scope_flags : ℕ
all_scope_flags = 4095

-- references

abbrev pub Read : ℕ
Read = 1

abbrev pub Write : ℕ
Write = 2

abbrev pub TypeUse : ℕ
TypeUse = 4

abbrev pub ValueAsType : ℕ
ValueAsType = 8

abbrev pub NamespaceUse : ℕ
NamespaceUse = 16

-- a reference to a value reads or writes it
abbrev pub ValueUse : ℕ
ValueUse = Read + Write

abbrev pub all_reference_flags : ℕ
all_reference_flags = 31

-- symbols

abbrev pub FunctionScopedVariable : ℕ
FunctionScopedVariable = 1

abbrev pub BlockScopedVariable : ℕ
BlockScopedVariable = 2

abbrev pub ConstVariable : ℕ
ConstVariable = 4

abbrev pub Class : ℕ
Class = 8

abbrev pub CatchVariable : ℕ
CatchVariable = 16

abbrev pub FunctionSymbol : ℕ
FunctionSymbol = 32

abbrev pub FunctionExpression : ℕ
FunctionExpression = 64

abbrev pub AsyncOrGenerator : ℕ
AsyncOrGenerator = 128

abbrev pub Import : ℕ
Import = 256

abbrev pub TypeImport : ℕ
TypeImport = 512

abbrev pub TypeAlias : ℕ
TypeAlias = 1024

abbrev pub Interface : ℕ
Interface = 2048

abbrev pub RegularEnum : ℕ
RegularEnum = 4096

abbrev pub ConstEnum : ℕ
ConstEnum = 8192

abbrev pub EnumMember : ℕ
EnumMember = 16384

abbrev pub TypeParameter : ℕ
TypeParameter = 32768

abbrev pub Ambient : ℕ
Ambient = 65536

abbrev pub all_symbol_flags : ℕ
all_symbol_flags = 131071

-- what has a value
abbrev pub Value : ℕ
Value = FunctionScopedVariable + BlockScopedVariable + Class + FunctionSymbol + RegularEnum + ConstEnum + EnumMember

-- what is a type
abbrev pub TypeLike : ℕ
TypeLike = Class + TypeAlias + Interface + RegularEnum + ConstEnum + EnumMember + TypeParameter

abbrev pub ValueOrType : ℕ
ValueOrType = bit_or Value TypeLike

-- what a reference to a value, to a type, by `typeof` and to the front of a qualified name can resolve to
abbrev pub ByValue : ℕ
ByValue = Value + Import

abbrev pub ByType : ℕ
ByType = TypeLike + Import + TypeImport

abbrev pub ByValueAsType : ℕ
ByValueAsType = Value + Import + TypeImport

abbrev pub ByNamespace : ℕ
ByNamespace = Import + TypeImport + RegularEnum + ConstEnum
