-- The eleven scripts, by computation.
use Rattle.std.proofs.Common.{◌≡◌, ℕ, Bool, true, false, cond, ◌&&◌, eqb, ◌≢◌, Some, None, Option, refl, ap}
use Rattle.model.specs.Calls.{machine_opened}
use Rattle.laws.specs.Scripts.{ElevenScripts}

-- a pair that is replaced
over : {X : Type 0} (b : Bool) (x y z : X) → cond b x (cond b y z) ≡ cond b x z
over true x y z = refl
over false x y z = refl

-- the second symbol, or none, is not the first
second_or_none : (b : Bool) → cond {A = Option ℕ} b (Some 1) (cond b (Some 0) None) ≢ Some 0
second_or_none true e = cc
second_or_none false e = cc

-- a pair that is dropped
gone : {X : Type 0} (b : Bool) (x y : X) → cond b x (cond b y x) ≡ x
gone true x y = refl
gone false x y = refl

pub eleven_scripts : ElevenScripts
unfolding machine_opened
eleven_scripts =
    record {
      answers_1 = refl;
      machine_1 = refl;
      tables_1 = record { current = refl; scopes = refl; symbols = refl; bindings = record { each = λ s n. refl; count = refl }; hoisted = record { each = λ s n. refl; count = refl }; redeclarations = refl; conflicts = refl; references = refl; resolved = refl; root_lists = record { each = λ n. refl; count = refl }; root = refl; pending = refl };
      answers_2 = refl;
      tables_2 = record { current = refl; scopes = refl; symbols = refl; bindings = record { each = λ s n. refl; count = refl }; hoisted = record { each = λ s n. refl; count = refl }; redeclarations = refl; conflicts = refl; references = refl; resolved = refl; root_lists = record { each = λ n. refl; count = refl }; root = refl; pending = refl };
      answers_3 = refl;
      tables_3 = record { current = refl; scopes = refl; symbols = refl; bindings = record { each = λ s n. refl; count = refl }; hoisted = record { each = λ s n. refl; count = refl }; redeclarations = refl; conflicts = refl; references = refl; resolved = refl; root_lists = record { each = λ n. refl; count = refl }; root = refl; pending = refl };
      answers_4 = refl;
      tables_4 = record { current = refl; scopes = refl; symbols = refl; bindings = record { each = λ s n. refl; count = refl }; hoisted = record { each = λ s n. refl; count = refl }; redeclarations = refl; conflicts = refl; references = refl; resolved = refl; root_lists = record { each = λ n. refl; count = refl }; root = refl; pending = refl };
      answers_5 = refl;
      tables_5 = record { current = refl; scopes = refl; symbols = refl; bindings = record { each = λ s n. refl; count = refl }; hoisted = record { each = λ s n. refl; count = refl }; redeclarations = refl; conflicts = refl; references = refl; resolved = refl; root_lists = record { each = λ n. refl; count = refl }; root = refl; pending = refl };
      answers_5_early = refl;
      machine_5_early = refl;
      machine_5_again = refl;
      answers_5_again = refl;
      answers_6 = refl;
      tables_6 = record { current = refl; scopes = refl; symbols = refl; bindings = record { each = λ s n. refl; count = refl }; hoisted = record { each = λ s n. refl; count = refl }; redeclarations = refl; conflicts = refl; references = refl; resolved = refl; root_lists = record { each = λ n. refl; count = refl }; root = refl; pending = refl };
      answers_7 = refl;
      unbound_7 = λ s n. second_or_none (eqb s 1 && eqb n 9);
      tables_7 = record { current = refl; scopes = refl; symbols = refl; bindings = record { each = λ s n. over (eqb s 1 && eqb n 9) (Some 1) (Some 0) None; count = refl }; hoisted = record { each = λ s n. refl; count = refl }; redeclarations = refl; conflicts = refl; references = refl; resolved = refl; root_lists = record { each = λ n. refl; count = refl }; root = refl; pending = refl };
      answers_8 = refl;
      tables_8 = record { current = refl; scopes = refl; symbols = refl; bindings = record { each = λ s n. ap (cond (eqb s 1 && eqb n 3) (Some 0)) (gone (eqb s 2 && eqb n 3) None (Some 0)); count = refl }; hoisted = record { each = λ s n. refl; count = refl }; redeclarations = refl; conflicts = refl; references = refl; resolved = refl; root_lists = record { each = λ n. refl; count = refl }; root = refl; pending = refl };
      answers_9 = refl;
      tables_9 = record { current = refl; scopes = refl; symbols = refl; bindings = record { each = λ s n. refl; count = refl }; hoisted = record { each = λ s n. refl; count = refl }; redeclarations = refl; conflicts = refl; references = refl; resolved = refl; root_lists = record { each = λ n. refl; count = refl }; root = refl; pending = refl };
      answers_10 = refl;
      tables_10 = record { current = refl; scopes = refl; symbols = refl; bindings = record { each = λ s n. refl; count = refl }; hoisted = record { each = λ s n. refl; count = refl }; redeclarations = refl; conflicts = refl; references = refl; resolved = refl; root_lists = record { each = λ n. refl; count = refl }; root = refl; pending = refl };
      answers_11 = refl;
      deferred_11 = refl;
      tables_11 = record { current = refl; scopes = refl; symbols = refl; bindings = record { each = λ s n. refl; count = refl }; hoisted = record { each = λ s n. refl; count = refl }; redeclarations = refl; conflicts = refl; references = refl; resolved = refl; root_lists = record { each = λ n. refl; count = refl }; root = refl; pending = refl };
    }
