use Rattle.std.proofs.Common.{◌≡◌, ◌&&◌, eqb, true, sym, ap, ◌∙◌, subst}
use Rattle.std.proofs.lemmas.Bool.{not-false}
use Rattle.credential.specs.Credentials.{head_of}
use Rattle.credential.specs.declared.roles.Role.{Role}
use Rattle.checker.specs.Questions.{served_by}
use Rattle.checker.proofs.Rules.{linked_serves}
use Rattle.checker.proofs.questions.Question.serves.Goals as goal

pub returns-in-Linked : goal.returns-in-Linked
returns-in-Linked c =
    let q = c.args.self in
    let h : c.head.result ≡ c.in-Linked.head = c.head.ensures ∙ ap head_of c.in-Linked.is in
    let same = λ (r : Role). eqb r.owner.number q.about.role.owner.number && eqb r.name.number q.about.role.name.number in
    let about : same c.in-Linked.head ≡ true = subst (λ (r : Role). same r ≡ true) h (not-false _ (sym c.ne.ensures ∙ c.if-ne.false)) in
    c.linked.ensures
    ∙ sym (linked_serves q.want q.number q.tables.verdicts.now q.tables.numbers.now q.about c.in-Linked.head c.in-Linked.first c.in-Linked.second about)
    ∙ ap (served_by q) (sym c.in-Linked.is)
