use Rattle.std.proofs.Common.{rules, Err, ap, ◌∙◌}
use Rattle.std.proofs.lemmas.Result.{err_from_is_err_and}
use Rattle.credential.specs.declared.refusals.Refusal.{Refusal}
use Rattle.credential.specs.Refusals.{named, answered}
use Rattle.register.proofs.Outcomes.{appended_refused, appended_taken}
use Rattle.register.proofs.record_list.RecordListRegister.append.Goals as goal

pub returns-in_err-room-clause-answer : goal.returns-in_err-room-clause-answer
returns-in_err-room-clause-answer c =
    let p = err_from_is_err_and c.from_residual.result c.from_residual.ensures.1 in
    ap answered p.1 ∙ ap (λ (e : Refusal). Err (named e)) p.2 ∙ (appended_refused _ _ c.args.credential _ c.count.ensures.value c.in_err-room.ensures).0

pub returns-in_err-room-clause-list : goal.returns-in_err-room-clause-list
returns-in_err-room-clause-list c = (appended_refused _ _ c.args.credential _ c.count.ensures.value c.in_err-room.ensures).1

pub returns-clause-answer : goal.returns-clause-answer
returns-clause-answer c = (appended_taken _ _ c.args.credential _ c.count.ensures.value c.in_ok-room.ensures).0

pub returns-clause-list : goal.returns-clause-list
returns-clause-list c = search (rules, (appended_taken _ _ c.args.credential _ c.count.ensures.value c.in_ok-room.ensures).1)
