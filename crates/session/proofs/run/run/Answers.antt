use Rattle.std.proofs.Common.{◌≡◌, take, ap, ◌∙◌, arith}
use Rattle.std.proofs.lemmas.List.{take_all}
use Rattle.model.specs.State.{fresh}
use Rattle.model.specs.Calls as machine
use Rattle.session.proofs.Laws.{ran}
use Rattle.session.proofs.run.run.Goals as goal

pub returns-clause-lawful : goal.returns-clause-lawful
returns-clause-lawful g c =
    let setting = c.args.setting.bits in
    let calls = c.args.calls.now in
    let all : take c.loop-call.call-index calls ≡ calls = take_all c.loop-call.call-index calls (omega arith) in
    let after = c.loop-call.invariant.state ∙ ap (machine.run (fresh setting)) all in
    let answered = c.loop-call.invariant.answered ∙ ap (machine.answers (fresh setting)) all in
    ran setting calls _ _ after answered
