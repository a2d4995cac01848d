use Rattle.std.proofs.Common.{◌≡◌, ◌≤◌, length, take, vec_items, vec_len, vec_capacity}
use Rattle.model.specs.State.{fresh}
use Rattle.model.specs.Calls as machine
use Rattle.session.proofs.run.run.Given as goal

-- the calls so far are made, from a fresh start, and there is room for the answers of all
abbrev pub invariant-loop-call : goal.invariant-loop-call
invariant-loop-call g l =
    record {
      state : g.T.Binding.state l.binder ≡ machine.run (fresh l.fn.setting.bits) (take l.call-index l.calls);
      answered : vec_items l.answers ≡ machine.answers (fresh l.fn.setting.bits) (take l.call-index l.calls);
      as_many : vec_len l.answers ≡ l.call-index;
      room : length l.calls ≤ vec_capacity l.answers;
    }
