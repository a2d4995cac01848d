-- The kinds of declaration by their names.
use Rattle.std.specs.Prelude.{ℕ}

abbrev pub var_kind : ℕ
var_kind = 1

abbrev pub let_kind : ℕ
let_kind = 2

abbrev pub const_kind : ℕ
const_kind = 3

abbrev pub class_kind : ℕ
class_kind = 4

abbrev pub function_kind : ℕ
function_kind = 5

abbrev pub function_expression_kind : ℕ
function_expression_kind = 6

abbrev pub parameter_kind : ℕ
parameter_kind = 7

abbrev pub catch_name_kind : ℕ
catch_name_kind = 8

-- a name in the pattern of a catch clause
abbrev pub catch_pattern_kind : ℕ
catch_pattern_kind = 9

abbrev pub import_kind : ℕ
import_kind = 10

abbrev pub type_import_kind : ℕ
type_import_kind = 11

abbrev pub type_alias_kind : ℕ
type_alias_kind = 12

abbrev pub interface_kind : ℕ
interface_kind = 13

abbrev pub enum_kind : ℕ
enum_kind = 14

abbrev pub const_enum_kind : ℕ
const_enum_kind = 15

abbrev pub enum_member_kind : ℕ
enum_member_kind = 16

abbrev pub type_parameter_kind : ℕ
type_parameter_kind = 17

-- the type variable of an `infer`
abbrev pub infer_kind : ℕ
infer_kind = 18
