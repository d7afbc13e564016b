use Rattle.std.proofs.Common.{◌-◌, length, take, drop, vec_items, Err, ap, ◌∙◌, arith, length-append, length-drop}
use Rattle.std.proofs.lemmas.List.{length-take-le}
use Rattle.std.proofs.lemmas.Result.{err_from_is_err_and}
use Rattle.credential.specs.declared.refusals.Refusal.{Refusal}
use Rattle.credential.specs.Refusals.{named, answered}
use Rattle.page.specs.Pages.{credentials_of}
use Rattle.register.proofs.Texts.{text_length, text_less}
use Rattle.register.proofs.Outcomes.{withdrawn_refused, withdrawn_taken, located-within}
use Rattle.register.proofs.page_text.PageTextRegister.withdraw.Goals as goal

pub returns-in_err-locate-clause-answer : goal.returns-in_err-locate-clause-answer
returns-in_err-locate-clause-answer c =
    let p = err_from_is_err_and c.from_residual.result c.from_residual.ensures.1 in
    ap answered p.1 ∙ ap (λ (e : Refusal). Err (named e)) p.2 ∙ (withdrawn_refused _ c.args.place _ c.count.ensures.value c.in_err-locate.ensures).0

pub returns-in_err-locate-clause-list : goal.returns-in_err-locate-clause-list
returns-in_err-locate-clause-list c = (withdrawn_refused _ c.args.place _ c.count.ensures.value c.in_err-locate.ensures).1

pub returns-clause-answer : goal.returns-clause-answer
returns-clause-answer c = (withdrawn_taken _ c.args.place _ c.count.ensures.value c.in_ok-locate.ensures).0

pub drain-requires-clause-in_bounds : goal.drain-requires-clause-in_bounds
drain-requires-clause-in_bounds c =
    let n = text_length (vec_items c.args.self.now.text) c.args.self.now.lawful in
    let w = located-within c.args.place c.count.result c.in_ok-locate.ensures in
    omega (arith, c.count.ensures.value, w.0, w.1, c.args.self.now.text.ok.0)

pub invariant_of-self : goal.invariant_of-self
invariant_of-self c =
    let bs = vec_items c.args.self.now.text in
    let cs = credentials_of bs in
    let w = located-within c.args.place c.count.result c.in_ok-locate.ensures in
    let r = text_less bs c.args.self.now.lawful _ c.args.place w.0 (omega (arith, c.count.ensures.value, w.1)) (omega arith) (c.drop.ensures.items ∙ c.drain.ensures.kept) in
    record {
      lawful = r.0;
      within = omega (arith, c.count.ensures.value, w.1, ap length r.1, length-append (take (c.args.place - 1) cs) (drop c.args.place cs), length-take-le (c.args.place - 1) cs (omega (arith, c.count.ensures.value, w.1)), length-drop c.args.place cs);
      room = omega (arith, c.drop.ensures.capacity, c.drain.ensures.capacity);
    }

pub returns-clause-list : goal.returns-clause-list
returns-clause-list c =
    let bs = vec_items c.args.self.now.text in
    let w = located-within c.args.place c.count.result c.in_ok-locate.ensures in
    (text_less bs c.args.self.now.lawful _ c.args.place w.0 (omega (arith, c.count.ensures.value, w.1)) (omega arith) (c.drop.ensures.items ∙ c.drain.ensures.kept)).1
    ∙ (withdrawn_taken _ c.args.place _ c.count.ensures.value c.in_ok-locate.ensures).1
