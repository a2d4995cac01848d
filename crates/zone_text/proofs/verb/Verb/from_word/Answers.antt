use Rattle.std.proofs.Common.{codes, sym, ap, arith, rules}
use Rattle.std.proofs.lemmas.Slice.Eq.{text_from_reads}
use Rattle.zone_text.specs.Lines.{verb_of}
use Rattle.zone_text.proofs.verb.Verb.from_word.Goals as goal

pub returns-in-setting : goal.returns-in-setting
returns-in-setting c = sym (ap verb_of (text_from_reads c.args.word.now (codes "setting") (omega arith) (search rules)))

pub returns-in-resolve : goal.returns-in-resolve
returns-in-resolve c = sym (ap verb_of (text_from_reads c.args.word.now (codes "resolve") (omega arith) (search rules)))

pub returns-in-reference : goal.returns-in-reference
returns-in-reference c = sym (ap verb_of (text_from_reads c.args.word.now (codes "reference") (omega arith) (search rules)))

pub returns-in-114 : goal.returns-in-114
returns-in-114 c = sym (ap verb_of (text_from_reads c.args.word.now (codes "resolve-all") (omega arith) (search rules)))
