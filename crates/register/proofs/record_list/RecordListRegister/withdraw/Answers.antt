use Rattle.std.proofs.Common.{rules, ◌≡◌, ℕ, suc, ◌-◌, ◌++◌, take, drop, vec_items, Err, ap, ◌∙◌, arith}
use Rattle.std.proofs.lemmas.Result.{err_from_is_err_and}
use Rattle.credential.specs.declared.refusals.Refusal.{Refusal}
use Rattle.credential.specs.Refusals.{named, answered}
use Rattle.register.proofs.Outcomes.{withdrawn_refused, withdrawn_taken, located-within}
use Rattle.register.proofs.record_list.RecordListRegister.withdraw.Goals as goal

pub returns-in_err-locate-clause-answer : goal.returns-in_err-locate-clause-answer
returns-in_err-locate-clause-answer c =
    let p = err_from_is_err_and c.from_residual.result c.from_residual.ensures.1 in
    ap answered p.1 ∙ ap (λ (e : Refusal). Err (named e)) p.2 ∙ (withdrawn_refused _ c.args.place _ c.count.ensures.value c.in_err-locate.ensures).0

pub returns-in_err-locate-clause-list : goal.returns-in_err-locate-clause-list
returns-in_err-locate-clause-list c = (withdrawn_refused _ c.args.place _ c.count.ensures.value c.in_err-locate.ensures).1

pub returns-clause-answer : goal.returns-clause-answer
returns-clause-answer c = (withdrawn_taken _ c.args.place _ c.count.ensures.value c.in_ok-locate.ensures).0

pub returns-clause-list : goal.returns-clause-list
returns-clause-list c =
    let xs = vec_items c.args.self.now.records in
    let w = located-within c.args.place c.count.result c.in_ok-locate.ensures in
    let p : suc (c.args.place - 1) ≡ c.args.place = omega arith in
    search (rules, ap (λ (k : ℕ). take (c.args.place - 1) xs ++ drop k xs) p ∙ (withdrawn_taken _ c.args.place _ c.count.ensures.value c.in_ok-locate.ensures).1)
