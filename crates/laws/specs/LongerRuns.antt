-- Longer from shorter: a run of one call more is the shorter run and then that call.
use Rattle.std.specs.Prelude.{◌≡◌, List, [], ◌∷◌, ◌++◌}
use Rattle.model.specs.declared.call.Call.{Call}
use Rattle.model.specs.State.{Machine}
use Rattle.model.specs.Calls.{run, after, answer, answers}

pub record OneLonger (m : Machine) (cs : List Call) (c : Call) : Type 0 where
  pub state : run m (cs ++ c ∷ []) ≡ after (run m cs) c
  -- no earlier answer changes
  pub answered : answers m (cs ++ c ∷ []) ≡ answers m cs ++ answer (run m cs) c ∷ []

abbrev pub LongerFromShorter : Type 0
LongerFromShorter = (m : Machine) (cs : List Call) (c : Call) → OneLonger m cs c
