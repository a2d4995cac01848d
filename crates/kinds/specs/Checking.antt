-- What the checks of a declaration pass on, and what it tells then.
use Rattle.std.specs.Prelude.{◌≡◌, ℕ, suc, Bool, cond, not, ◌||◌, List, [], ◌∷◌, length, Some, None, Ok, Err, Option, Result, ◌==◌, nat_lt}
use Rattle.tables.specs.Flags.{less}
use Rattle.tables.specs.declared.refusal.Refusal.{Refusal}
use Rattle.tables.specs.declared.refusal.Refusal.TheVariants.{UnknownKind, ModifierNotOfKind, SpanReversed}
use Rattle.model.specs.declared.call.Declaration.{Declaration}
use Rattle.model.specs.declared.manner.Manner.{Manner}
use Rattle.model.specs.Kinds.{kind_row, last_kind, includes, excludes, manner}
use Rattle.tables.specs.declared.row.ScopeRow.{ScopeRow}
use Rattle.model.specs.Scopes.{passed}
use Rattle.model.specs.Declaring.{Told}
use Rattle.model.specs.Calls.{first_of, ◌if◌}
use Rattle.kinds.specs.declared.checked.Checked.{Checked}
use Rattle.kinds.specs.KindNumbers.{number_of}

-- the refusals that need no tables
abbrev pub unfit : Declaration → Option Refusal
unfit d =
    first_of (UnknownKind if (d.kind == 0 || nat_lt last_kind d.kind) ∷ ModifierNotOfKind if not (less d.modifiers (kind_row d.kind).modifiers == 0)
    ∷ SpanReversed if nat_lt d.end d.start ∷ [])

-- the same declaration
pub record Same (d : Declaration) (c : Checked) : Type 0 where
  pub kind : number_of c.kind ≡ d.kind
  pub modifiers : c.modifiers.0 ≡ d.modifiers
  pub name : c.name.0 ≡ d.name.0
  pub start : c.span.start ≡ d.start
  pub end : c.span.end ≡ d.end
  pub node : c.node.0 ≡ d.node.0

abbrev pub Checks : Declaration → Result Checked Refusal → Type 0
Checks d (Ok c) = (unfit d ≡ None) × Same d c
Checks d (Err e) = unfit d ≡ Some e

-- what it tells, under TypeScript or not, in a scope that is strict or not
abbrev pub tells_of : Checked → Bool → Bool → Told
tells_of c typescript strict =
    record {
      name = c.name.0;
      start = c.span.start;
      end = c.span.end;
      node = c.node.0;
      includes = includes (number_of c.kind) c.modifiers.0;
      excludes = excludes (number_of c.kind) c.modifiers.0 typescript strict;
    }

abbrev pub manner_of : Checked → Bool → Bool → Bool → Manner
manner_of c typescript strict var = manner (number_of c.kind) c.modifiers.0 typescript strict var

-- how many scopes it may write to
abbrev pub reach_of : Checked → List ScopeRow → ℕ → ℕ
reach_of c rows here = cond (number_of c.kind == 1) (suc (length (passed rows here))) 1
