use Rattle.std.proofs.Common.{[], ◌∷◌, length, vec_items, Err, ap, ◌∙◌, arith, length-append}
use Rattle.std.proofs.lemmas.Result.{err_from_is_err_and}
use Rattle.credential.specs.declared.refusals.Refusal.{Refusal}
use Rattle.credential.specs.Refusals.{named, answered}
use Rattle.page.specs.Pages.{credentials_of}
use Rattle.register.proofs.Texts.{text_length, text_more}
use Rattle.register.proofs.Outcomes.{appended_refused, appended_taken, room-within}
use Rattle.register.proofs.page_text.PageTextRegister.append.Goals as goal

pub returns-in_err-room-clause-answer : goal.returns-in_err-room-clause-answer
returns-in_err-room-clause-answer c =
    let p = err_from_is_err_and c.from_residual.result c.from_residual.ensures.1 in
    ap answered p.1 ∙ ap (λ (e : Refusal). Err (named e)) p.2 ∙ (appended_refused _ _ c.args.credential _ c.count.ensures.value c.in_err-room.ensures).0

pub returns-in_err-room-clause-list : goal.returns-in_err-room-clause-list
returns-in_err-room-clause-list c = (appended_refused _ _ c.args.credential _ c.count.ensures.value c.in_err-room.ensures).1

pub returns-clause-answer : goal.returns-clause-answer
returns-clause-answer c = (appended_taken _ _ c.args.credential _ c.count.ensures.value c.in_ok-room.ensures).0

pub put_line-requires : goal.put_line-requires
put_line-requires c =
    let bs = vec_items c.args.self.now.text in
    let n = text_length bs c.args.self.now.lawful in
    let r = room-within c.count.result 128 c.in_ok-room.ensures (omega (arith, c.count.ensures.value, c.args.self.now.within)) in
    omega (arith, c.count.ensures.value, c.args.self.now.text.ok.0)

pub invariant_of-self : goal.invariant_of-self
invariant_of-self c =
    let bs = vec_items c.args.self.now.text in
    let h = room-within c.count.result 128 c.in_ok-room.ensures (omega (arith, c.count.ensures.value, c.args.self.now.within)) in
    let r = text_more bs c.args.self.now.lawful _ c.args.credential (omega (arith, c.count.ensures.value, h)) c.put_line.ensures.items in
    record {
      lawful = r.0;
      within = omega (arith, c.count.ensures.value, h, ap length r.1, length-append (credentials_of bs) (c.args.credential ∷ []));
      room = omega (arith, c.put_line.ensures.capacity);
    }

pub returns-clause-list : goal.returns-clause-list
returns-clause-list c =
    let h = room-within c.count.result 128 c.in_ok-room.ensures (omega (arith, c.count.ensures.value, c.args.self.now.within)) in
    (text_more (vec_items c.args.self.now.text) c.args.self.now.lawful _ c.args.credential (omega (arith, c.count.ensures.value, h)) c.put_line.ensures.items).1
    ∙ (appended_taken _ _ c.args.credential _ c.count.ensures.value c.in_ok-room.ensures).1
