use Rattle.std.proofs.Common.{◌≡◌, ◌+◌, length, drop}
use Rattle.std.specs.List.{slice_split}
use Rattle.zone_text.specs.declared.separator.Separator.TheVariants.{Newline}
use Rattle.zone_text.specs.Pieces.{separates}
use Rattle.zone_text.specs.Scripts.{content, with_lines, text_meaning}
use Rattle.zone_text.proofs.script.parse.Given as goal

abbrev pub invariant-loop-index : goal.invariant-loop-index
invariant-loop-index l = with_lines (length l.yielded + 1) (content l.script) (drop (length l.yielded) (slice_split (separates Newline) l.text)) ≡ text_meaning l.text
