use Rattle.std.proofs.Common.{◌≡◌, ◌≤◌, true, drop}
use Rattle.zone_text.specs.Numbers.{all_digits, value_from}
use Rattle.zone_text.proofs.number.number.Given as goal

abbrev pub invariant-loop-byte : goal.invariant-loop-byte
invariant-loop-byte l = (all_digits (drop l.byte-index l.word) ≡ true) × (value_from l.value (drop l.byte-index l.word) ≡ value_from 0 l.word) × (l.value ≤ l.limit)
