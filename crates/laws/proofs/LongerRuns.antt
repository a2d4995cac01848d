use Rattle.std.proofs.Common.{List, [], ◌∷◌, refl, ap}
use Rattle.model.specs.Calls.{Answer, after, answer}
use Rattle.laws.specs.LongerRuns.{OneLonger, LongerFromShorter}

pub longer_law : LongerFromShorter
longer_law m [] c = record { state = refl; answered = refl }
longer_law m (b ∷ cs) c =
    let shorter : OneLonger (after m b) cs c = longer_law (after m b) cs c in
    record { state = shorter.state; answered = ap {B = List Answer} (λ rest. answer m b ∷ rest) shorter.answered }
