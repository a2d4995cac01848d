-- A binder goes on as the reference machine does, one call after the other.
use Rattle.std.proofs.Common.{◌≡◌, ℕ, List, [], ◌∷◌, ◌++◌, sym, ap, ◌∙◌}
use Rattle.model.specs.declared.call.Call.{Call}
use Rattle.model.specs.State.{Machine, fresh}
use Rattle.model.specs.Calls.{Answer, run, answers, answer, builder_after, builder_answer}
use Rattle.laws.proofs.Limits.{never_full_law}
use Rattle.laws.proofs.LongerRuns.{longer_law}

module _ (setting : ℕ) (cs : List Call) (c : Call) where
  -- one call more, by a binder whose state is the machine's after the calls before
  pub next_state : (m n : Machine) → m ≡ run (fresh setting) cs → n ≡ builder_after m c → n ≡ run (fresh setting) (cs ++ c ∷ [])
  next_state m n e h = h ∙ ap (λ x. builder_after x c) e ∙ (never_full_law setting cs).same_after c ∙ sym (longer_law (fresh setting) cs c).state

  pub next_answer : (m : Machine) (a : Answer) → m ≡ run (fresh setting) cs → a ≡ builder_answer m c → a ≡ answer (run (fresh setting) cs) c
  next_answer m a e h = h ∙ ap (λ x. builder_answer x c) e ∙ (never_full_law setting cs).same_answer c

  pub next_answers : (m : Machine) (a : Answer) → m ≡ run (fresh setting) cs → a ≡ builder_answer m c → answers (fresh setting) cs ++ a ∷ [] ≡ answers (fresh setting) (cs ++ c ∷ [])
  next_answers m a e h = ap {B = List Answer} (λ x. answers (fresh setting) cs ++ x ∷ []) (next_answer m a e h) ∙ sym (longer_law (fresh setting) cs c).answered
