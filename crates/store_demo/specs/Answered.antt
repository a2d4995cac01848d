-- What a store answers after an exercise.
use Rattle.std.specs.Prelude.{Bool}
use Rattle.store_demo.specs.declared.exercise.Answers.{Answers}
use Rattle.store_demo.specs.Exercise.{exercised}

abbrev pub answers : {K : Type 0} → (K → K → Bool) → K → K → Answers
answers same kept removed =
    record {
      kept = (exercised same kept removed).get kept;
      removed = (exercised same kept removed).get removed;
      count = (exercised same kept removed).size;
    }
