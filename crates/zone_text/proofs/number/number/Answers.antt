use Rattle.std.proofs.Common.{◌≡◌, ℕ, ◌+◌, ◌-◌, ◌*◌, ◌≤◌, List, [], ◌∷◌, get_or, drop, arith}
use Rattle.std.proofs.lemmas.List.{at_drop_more}
use Rattle.std.proofs.lemmas.Bool.Decides.{nat_tests}
use Rattle.zone_text.specs.Numbers.{value_from}
use Rattle.zone_text.proofs.number.number.Goals as goal

value_grows : (n : ℕ) (bs : List ℕ) → n ≤ value_from n bs
value_grows n [] = omega arith
value_grows n (b ∷ bs) = omega (arith, value_grows (10 * n + (b - 48)) bs)

pub returns-then-value-limit-clause-value : goal.returns-then-value-limit-clause-value
returns-then-value-limit-clause-value c =
    let w = c.args.word.now in
    let i = c.loop-byte.byte-index in
    let r : value_from c.loop-byte.value (drop i w) ≡ value_from (10 * c.loop-byte.value + (get_or w i 0 - 48)) (drop (i + 1) w) = at_drop_more (value_from c.loop-byte.value) w i 0 (omega arith) in
    let grown = value_grows (10 * c.loop-byte.value + (get_or w i 0 - 48)) (drop (i + 1) w) in
    grind (arith, nat_tests)
