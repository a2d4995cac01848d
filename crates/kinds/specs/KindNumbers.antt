-- The number of each kind of declaration.
use Rattle.std.specs.Prelude.{ℕ, cond, Some, None, Option, ◌==◌}
use Rattle.kinds.specs.declared.kind.Kind.{Kind}
use Rattle.kinds.specs.declared.kind.Kind.TheVariants.{Var, Let, Const, Class, Function, FunctionExpression, Parameter, CatchName, CatchPattern, Import, TypeImport, TypeAlias, Interface, Enum, ConstEnum, EnumMember, TypeParameter, Infer}

abbrev pub number_of : Kind → ℕ
number_of Var = 1
number_of Let = 2
number_of Const = 3
number_of Class = 4
number_of Function = 5
number_of FunctionExpression = 6
number_of Parameter = 7
number_of CatchName = 8
number_of CatchPattern = 9
number_of Import = 10
number_of TypeImport = 11
number_of TypeAlias = 12
number_of Interface = 13
number_of Enum = 14
number_of ConstEnum = 15
number_of EnumMember = 16
number_of TypeParameter = 17
number_of Infer = 18

abbrev pub kind_of : ℕ → Option Kind
kind_of n =
    cond (n == 1) (Some Var)
    (cond (n == 2) (Some Let)
    (cond (n == 3) (Some Const)
    (cond (n == 4) (Some Class)
    (cond (n == 5) (Some Function)
    (cond (n == 6) (Some FunctionExpression)
    (cond (n == 7) (Some Parameter)
    (cond (n == 8) (Some CatchName)
    (cond (n == 9) (Some CatchPattern)
    (cond (n == 10) (Some Import)
    (cond (n == 11) (Some TypeImport)
    (cond (n == 12) (Some TypeAlias)
    (cond (n == 13) (Some Interface)
    (cond (n == 14) (Some Enum)
    (cond (n == 15) (Some ConstEnum)
    (cond (n == 16) (Some EnumMember)
    (cond (n == 17) (Some TypeParameter)
    (cond (n == 18) (Some Infer)
    None)))))))))))))))))
