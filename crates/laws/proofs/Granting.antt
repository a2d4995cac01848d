-- What a call answers and leaves, by its refusal, and its refusal by the answer.
use Rattle.std.proofs.Common.{◌≡◌, Some, None, Ok, Err, ap}
use Rattle.tables.specs.declared.refusal.Refusal.{Refusal}
use Rattle.model.specs.declared.call.Call.{Call}
use Rattle.model.specs.Basics.{maybe}
use Rattle.model.specs.State.{Machine}
use Rattle.model.specs.Calls.{refusal, granted, granted_answer, after, answer}
use Rattle.laws.proofs.Basics.{maybe_both, option_cases}

module _ (m : Machine) (c : Call) where
  pub granted_answers : refusal m c ≡ None → answer m c ≡ Ok (granted_answer m c)
  unfolding answer
  granted_answers h = ap (λ o. maybe o (Ok (granted_answer m c)) Err) h

  pub granted_after : refusal m c ≡ None → after m c ≡ granted m c
  unfolding after
  granted_after h = ap (λ o. maybe o (granted m c) (λ r. m)) h

  pub refused_answers : (r : Refusal) → refusal m c ≡ Some r → answer m c ≡ Err r
  unfolding answer
  refused_answers r h = ap (λ o. maybe o (Ok (granted_answer m c)) Err) h

  pub refused_after : (r : Refusal) → refusal m c ≡ Some r → after m c ≡ m
  unfolding after
  refused_after r h = ap (λ o. maybe o (granted m c) (λ r. m)) h

  -- what a granted call and no call keep, every call keeps
  pub after_keeps : (P : Machine → Type 0) → (refusal m c ≡ None → P (granted m c)) → P m → P (after m c)
  unfolding after
  after_keeps P g h = maybe_both (refusal m c) (granted m c) (λ r. m) P g (λ _ _. h)

  pub refused_by_answer : (r : Refusal) → answer m c ≡ Err r → refusal m c ≡ Some r
  refused_by_answer r e =
      option_cases (refusal m c) (refusal m c ≡ Some r)
      (λ h. let z = granted_answers h in cc)
      (λ n h. let z = refused_answers n h in cc)
