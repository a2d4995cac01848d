-- What is said of a text that is no operation list.
use Rattle.std.specs.Prelude.{ℕ, List, ◌++◌, codes, decimal}
use Rattle.zone_text.specs.declared.operation.LineError.{LineError}
use Rattle.zone_text.specs.declared.operation.LineError.TheVariants.{UnknownWord, TooFewNumbers, TooManyWords, NotANumber, NumberTooLarge, SettingNotFirst}
use Rattle.zone_text.specs.declared.script.BadLine.{BadLine}
use Rattle.zone_text.specs.declared.script.ParseError.{ParseError}
use Rattle.zone_text.specs.declared.script.ParseError.TheVariants.{Line, NoMemory}

abbrev pub error_text : LineError → List ℕ
error_text UnknownWord = codes "the first word names no operation"
error_text TooFewNumbers = codes "too few numbers"
error_text TooManyWords = codes "too many words"
error_text NotANumber = codes "a word is no decimal number"
error_text NumberTooLarge = codes "a number is too large for its field"
error_text SettingNotFirst = codes "a setting has to be the first operation"

abbrev pub bad_line_text : BadLine → List ℕ
bad_line_text b = codes "line " ++ (decimal b.number ++ (codes ": " ++ error_text b.error))

abbrev pub parse_error_text : ParseError → List ℕ
parse_error_text (Line bad) = bad_line_text bad
parse_error_text NoMemory = codes "out of memory"
