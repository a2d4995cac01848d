use Rattle.laws.proofs.FlagWords.{flags_in_words}
use Rattle.laws.proofs.words.flags_stand_in_words.Goals as goal

pub returns : goal.returns
returns c = flags_in_words
