-- The flags of var, let, const and class.
use Rattle.std.proofs.Common.{◌≡◌, ℕ, zero, suc, ◌+◌, Bool, true, false, cond, ◌||◌, refl, ap, ◌∙◌, arith}
use lib.Bits.{bit_or}
use Rattle.std.proofs.Math.Bool.{or-false}
use Rattle.std.proofs.lemmas.Bool.{cond_both, or_left, or_from}
use Rattle.tables.specs.Flags.{meets, less, FunctionScopedVariable, BlockScopedVariable, Class, FunctionSymbol, FunctionExpression, RegularEnum, ConstEnum, EnumMember, Import, Ambient, AsyncOrGenerator, ByValue}
use Rattle.model.specs.declared.manner.Manner.TheVariants.{Here}
use Rattle.model.specs.Kinds.{Declare, Async, includes, excludes, manner}
use Rattle.laws.specs.EarlyErrors.{IsLexical}
use Rattle.laws.proofs.FlagBits.{meets_either}
use Rattle.laws.proofs.FlagSets.{meets_united, meets_whole, misses_part}

-- what let and class give, and var beside them
abbrev pub Lex : ℕ
Lex = BlockScopedVariable + Class

abbrev pub Any : ℕ
Any = FunctionScopedVariable + BlockScopedVariable + Class

abbrev enums : ℕ
enums = RegularEnum + ConstEnum + EnumMember

-- what none of the four gives
abbrev pub Odd : ℕ
Odd = FunctionExpression + enums

pub record Plain (flags : ℕ) : Type 0 where
  pub odd : meets flags Odd ≡ false
  pub valued : meets flags Any ≡ true

pub plain_value : (f : ℕ) → Plain f → meets f ByValue ≡ true
plain_value f p = meets_whole f Any (FunctionSymbol + enums + Import) p.valued

pub plain_no_expression : (f : ℕ) → Plain f → meets f FunctionExpression ≡ false
plain_no_expression f p = (misses_part f FunctionExpression enums p.odd).0

-- the flags with those of a declaration of the four
pub plain_united : (f g : ℕ) → Plain f → Plain g → Plain (bit_or f g)
plain_united f g p q =
    record {
      odd = meets_united f g Odd ∙ or_from (meets f Odd) (meets g Odd) p.odd q.odd;
      valued = meets_united f g Any ∙ or_left (meets f Any) (meets g Any) p.valued;
    }

pub lex_united : (f g : ℕ) → meets g Lex ≡ false → meets (bit_or f g) Lex ≡ meets f Lex
lex_united f g e = meets_united f g Lex ∙ ap (λ b. meets f Lex || b) e ∙ or-false (meets f Lex)

-- a property of let, const and class
lexical_kinds : (P : ℕ → Type 0) → P 2 → P 3 → P 4 → (k : ℕ) → IsLexical k → P k
lexical_kinds P a b c zero h = let l = h.0 in absurd (omega arith)
lexical_kinds P a b c (suc zero) h = let l = h.0 in absurd (omega arith)
lexical_kinds P a b c (suc (suc zero)) h = a
lexical_kinds P a b c (suc (suc (suc zero))) h = b
lexical_kinds P a b c (suc (suc (suc (suc zero)))) h = c
lexical_kinds P a b c (suc (suc (suc (suc (suc k))))) h = let l = h.1 in absurd (omega arith)

-- whatever the modifiers add
modified : (base modifiers : ℕ) (P : ℕ → Type 0) → P (bit_or (bit_or base Ambient) AsyncOrGenerator) → P (bit_or (bit_or base Ambient) 0) → P (bit_or (bit_or base 0) AsyncOrGenerator) → P (bit_or (bit_or base 0) 0)
    → P (bit_or (bit_or base (cond (meets modifiers Declare) Ambient 0)) (cond (meets modifiers Async) AsyncOrGenerator 0))
modified base modifiers P a b c d =
    cond_both (meets modifiers Declare) Ambient 0 (λ x. P (bit_or (bit_or base x) (cond (meets modifiers Async) AsyncOrGenerator 0)))
    (λ _. cond_both (meets modifiers Async) AsyncOrGenerator 0 (λ y. P (bit_or (bit_or base Ambient) y)) (λ _. a) (λ _. b))
    (λ _. cond_both (meets modifiers Async) AsyncOrGenerator 0 (λ y. P (bit_or (bit_or base 0) y)) (λ _. c) (λ _. d))

abbrev PlainLex : Bool → ℕ → Type 0
PlainLex b f = Plain f × (meets f Lex ≡ b)

pub lexical_includes : (modifiers k : ℕ) → IsLexical k → PlainLex true (includes k modifiers)
lexical_includes modifiers =
    lexical_kinds (λ k. PlainLex true (includes k modifiers))
    (modified 2 modifiers (PlainLex true) (record { odd = refl; valued = refl }, refl) (record { odd = refl; valued = refl }, refl) (record { odd = refl; valued = refl }, refl) (record { odd = refl; valued = refl }, refl))
    (modified 6 modifiers (PlainLex true) (record { odd = refl; valued = refl }, refl) (record { odd = refl; valued = refl }, refl) (record { odd = refl; valued = refl }, refl) (record { odd = refl; valued = refl }, refl))
    (modified 8 modifiers (PlainLex true) (record { odd = refl; valued = refl }, refl) (record { odd = refl; valued = refl }, refl) (record { odd = refl; valued = refl }, refl) (record { odd = refl; valued = refl }, refl))

pub var_includes : (modifiers : ℕ) → PlainLex false (includes 1 modifiers)
var_includes modifiers =
    modified 1 modifiers (PlainLex false) (record { odd = refl; valued = refl }, refl) (record { odd = refl; valued = refl }, refl) (record { odd = refl; valued = refl }, refl) (record { odd = refl; valued = refl }, refl)

-- let, const and class may stand beside none of the four
pub lexical_excludes : (f modifiers : ℕ) (typescript strict : Bool) → Plain f → (k : ℕ) → IsLexical k → meets f (excludes k modifiers typescript strict) ≡ true
lexical_excludes f modifiers typescript strict p =
    lexical_kinds (λ k. meets f (excludes k modifiers typescript strict) ≡ true)
    (meets_whole f Any (FunctionSymbol + enums) p.valued)
    (meets_whole f Any (FunctionSymbol + enums) p.valued)
    (meets_whole f Any (less (excludes 4 modifiers typescript strict) Any) p.valued)

-- var may not stand beside let, const and class
pub var_excludes : (f modifiers : ℕ) (typescript strict : Bool) → Plain f → meets f (excludes 1 modifiers typescript strict) ≡ meets f Lex
var_excludes f modifiers typescript strict p =
    meets_either f Lex enums ∙ ap (λ b. meets f Lex || b) (misses_part f FunctionExpression enums p.odd).1 ∙ or-false (meets f Lex)

pub lexical_manner : (modifiers : ℕ) (typescript strict var : Bool) (k : ℕ) → IsLexical k → manner k modifiers typescript strict var ≡ Here
lexical_manner modifiers typescript strict var = lexical_kinds (λ k. manner k modifiers typescript strict var ≡ Here) refl refl refl
