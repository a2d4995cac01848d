-- Never full: no run makes a store hold more than its least capacity, and none comes to a call that would.
use Rattle.std.specs.Prelude.{◌≡◌, ℕ, ◌+◌, ◌≤◌, true, List, length, None}
use Rattle.stores.specs.Pairs.{least_capacity}
use Rattle.model.specs.declared.call.Call.{Call}
use Rattle.model.specs.State.{Machine, fresh}
use Rattle.model.specs.Calls.{run, refusal, after, answer, stores_have_room, builder_after, builder_answer}

pub record HasRoom (m : Machine) : Type 0 where
  pub one_for_each_symbol : m.names.bindings.size ≤ length m.names.symbols
  pub bindings : m.names.bindings.size ≤ least_capacity
  pub hoisted : m.names.hoisting.size ≤ least_capacity
  -- the names with a root unresolved list, and those that may come
  pub one_for_each_reference : m.uses.roots.size + length m.uses.pending ≤ length m.uses.references
  pub roots : m.uses.roots.size + length m.uses.pending ≤ least_capacity
  -- a call that is not refused has room
  pub for_call : (c : Call) → refusal m c ≡ None → stores_have_room m c ≡ true
  -- so a builder goes on and answers as the machine does
  pub same_after : (c : Call) → builder_after m c ≡ after m c
  pub same_answer : (c : Call) → builder_answer m c ≡ answer m c

abbrev pub NeverFull : Type 0
NeverFull = (setting : ℕ) (cs : List Call) → HasRoom (run (fresh setting) cs)
