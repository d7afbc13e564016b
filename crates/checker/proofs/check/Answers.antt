use Rattle.std.proofs.Common.{◌∙◌, subst}
use Rattle.credential.specs.Refusals.{answered}
use Rattle.model.specs.Tables.{table}
use Rattle.model.proofs.Laws.{laws_of_certificates}
use Rattle.checker.specs.Checks.{Checked}
use Rattle.checker.proofs.Unique.{one_answer, accepted_is_the_model, certificates_accepted, same_answer}
use Rattle.checker.proofs.check.Goals as goal

pub returns : goal.returns
returns g c =
    let list = g.S.Source.list c.args.source.now in
    let t = table c.args.verdicts.now c.args.numbers.now in
    let r = answered c.check_list.result in
    let says : Checked list t r = subst (λ xs. Checked xs t r) (c.list.ensures.value ∙ c.load-credentials.ensures) c.check_list.ensures in
    record {
      says = says;
      alone = one_answer;
      sound = accepted_is_the_model list t r says;
      complete = certificates_accepted list t r says;
      order = same_answer list t r says;
      laws = laws_of_certificates;
    }
