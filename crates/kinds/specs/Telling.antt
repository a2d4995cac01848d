-- What a declaration tells, and the row of its kind, in plain numbers.
use Rattle.model.specs.Kinds.{KindRow}
use Rattle.model.specs.Declaring.{Told}
use Rattle.kinds.specs.declared.kind.table.KindRow.{KindRow as CodeRow}
use Rattle.kinds.specs.declared.told.Told.{Told as CodeTold}

abbrev pub plain : CodeTold → Told
plain d = record { name = d.name.0; start = d.span.start; end = d.span.end; node = d.node.0; includes = d.includes.0; excludes = d.excludes.0 }

abbrev pub plain_row : CodeRow → KindRow
plain_row r = record { modifiers = r.modifiers.0; includes = r.includes.0; excludes = r.excludes.0 }
