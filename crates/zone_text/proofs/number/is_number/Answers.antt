use Rattle.std.proofs.Common.{◌≡◌, ◌&&◌, ℕ, List, [], ◌∷◌, refl, ap, arith, rules, tests}
use Rattle.std.specs.List.{list_all}
use Rattle.std.proofs.lemmas.Bool.Decides.{nat_tests}
use Rattle.std.proofs.lemmas.Iterator.{YieldsList-from_slice}
use Rattle.std.proofs.lemmas.Iterator.Search.{all_from_yields_List}
use Rattle.zone_text.specs.Numbers.{is_digit, all_digits}
use Rattle.zone_text.proofs.number.is_number.Goals as goal

all_is : (bs : List ℕ) → list_all is_digit bs ≡ all_digits bs
all_is [] = refl
all_is (b ∷ bs) = ap (λ r. is_digit b && r) (all_is bs)

pub returns-then-not-is_empty : goal.returns-then-not-is_empty
returns-then-not-is_empty c =
    let all : c.all.result ≡ list_all is_digit c.args.word.now = all_from_yields_List is_digit _ _ c.all.result c.all.ensures.ran (YieldsList-from_slice c.args.word.now cc) (λ x b q k. search (rules, tests)) in
    grind (arith, nat_tests, all_is c.args.word.now)
