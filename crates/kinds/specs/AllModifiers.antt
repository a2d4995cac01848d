-- The modifiers that are listed.
use Rattle.std.specs.Prelude.{ℕ, ◌+◌}
use Rattle.model.specs.Kinds.{Declare, Async, IfBody, Unique}

abbrev pub all_modifiers : ℕ
all_modifiers = Declare + Async + IfBody + Unique
