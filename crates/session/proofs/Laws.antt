-- The laws of the reference machine, at a binder that does what it does.
use Rattle.std.proofs.Common.{◌≡◌, ℕ, List, [], ◌∷◌, ◌++◌, length, take, sym, refl, ap, ◌∙◌, subst}
use Rattle.model.specs.declared.call.Call.{Call}
use Rattle.model.specs.State.{Machine, fresh}
use Rattle.model.specs.Calls.{Answer, run, after, answer, answers, builder_after, builder_answer}
use Rattle.laws.proofs.EarlyRuns.{early_errors_law}
use Rattle.laws.proofs.FirstFit.{first_fit}
use Rattle.laws.proofs.GetIdentifierReference.{get_identifier_reference_law}
use Rattle.laws.proofs.Limits.{never_full_law}
use Rattle.laws.proofs.OnceRuns.{once_law, counts_law}
use Rattle.laws.proofs.Outcomes.{conflicts_law}
use Rattle.laws.proofs.PlacedByACall.{placed_by_a_call}
use Rattle.laws.proofs.RefusedExactly.{refused_exactly}
use Rattle.laws.proofs.Runs.{bindings_law}
use Rattle.session.specs.Laws.{Equal, Lawful, KeepsLaws, Ran}
use Rattle.session.proofs.Steps.{next_state, next_answer, next_answers}

equal_self : (m : Machine) → Equal m m
equal_self m =
    record {
      setting = refl;
      current_scope = refl;
      scope_rows = refl;
      symbol_rows = refl;
      reference_rows = refl;
      bindings = λ scope name. refl;
      binding_count = refl;
      hoisted_variables = λ scope name. refl;
      hoisted_count = refl;
      redeclarations = refl;
      conflicts = refl;
      pending_list = refl;
      resolved_lists = λ symbol. refl;
      root_unresolved_lists = λ name. refl;
      root_unresolved_count = refl;
    }

machine_lawful : (setting : ℕ) (cs : List Call) → Lawful setting cs (run (fresh setting) cs) (answers (fresh setting) cs)
machine_lawful setting cs =
    record {
      answered = refl;
      state = refl;
      equal = equal_self (run (fresh setting) cs);
      refuses = refused_exactly setting cs;
      once = once_law setting cs;
      counts = counts_law setting cs;
      first_fit = first_fit setting cs;
      resolved_by_a_call = (placed_by_a_call setting cs).resolved;
      listed_by_a_call = (placed_by_a_call setting cs).listed;
      bindings = bindings_law setting cs;
      get_identifier_reference = get_identifier_reference_law setting cs;
      early_errors = early_errors_law setting cs;
      conflicts = conflicts_law setting cs;
      room = never_full_law setting cs;
    }

pub lawful : (setting : ℕ) (cs : List Call) (m : Machine) (given : List Answer) → m ≡ run (fresh setting) cs → given ≡ answers (fresh setting) cs → Lawful setting cs m given
lawful setting cs m given e h =
    subst (λ x. Lawful setting cs x given) (sym e) (subst (Lawful setting cs (run (fresh setting) cs)) (sym h) (machine_lawful setting cs))

pub applied : (old : Machine) (c : Call) (a : Answer) (new : Machine) → a ≡ builder_answer old c → new ≡ builder_after old c → KeepsLaws old c a new
applied old c a new p q setting cs e =
    record {
      answered = next_answer setting cs c old a e p ∙ ap (λ x. answer x c) (sym e);
      state = q ∙ ap (λ x. builder_after x c) e ∙ (never_full_law setting cs).same_after c ∙ ap (λ x. after x c) (sym e);
      before_it = lawful setting cs old (answers (fresh setting) cs) e refl;
      after_it = lawful setting (cs ++ c ∷ []) new (answers (fresh setting) cs ++ a ∷ []) (next_state setting cs c old new e q) (next_answers setting cs c old a e p);
    }

-- the first answers are those of the first calls
first_answers : (m : Machine) (before rest : List Call) → take (length before) (answers m (before ++ rest)) ≡ answers m before
first_answers m [] rest = refl
first_answers m (c ∷ before) rest = ap {B = List Answer} (λ x. answer m c ∷ x) (first_answers (after m c) before rest)

pub ran : (setting : ℕ) (cs : List Call) (m : Machine) (given : List Answer) → m ≡ run (fresh setting) cs → given ≡ answers (fresh setting) cs → Ran setting cs m given
ran setting cs m given e h =
    record {
      at_end = lawful setting cs m given e h;
      after_each = λ before rest split. lawful setting before (run (fresh setting) before) (take (length before) given) refl
          (ap {B = List Answer} (take (length before)) (h ∙ ap (answers (fresh setting)) split) ∙ first_answers (fresh setting) before rest);
    }
