use Rattle.std.proofs.Common.{Ok, refl, subst}
use Rattle.std.proofs.lemmas.Result.{err_from_is_err_and}
use Rattle.credential.specs.Refusals.{named}
use Rattle.model.specs.Tables.{table}
use Rattle.evaluator.specs.Evaluations.{Evaluated}
use Rattle.history.specs.Contents.{Contents}
use Rattle.vault.proofs.Standing.{lawful-kept, certify_taken, certify-refused}
use Rattle.vault.proofs.vaults.tables.Vault+R+Certifying.certify.Goals as goal

pub returns-in_err-rounds-clause-happened : goal.returns-in_err-rounds-clause-happened
returns-in_err-rounds-clause-happened g c =
    let p = err_from_is_err_and c.from_residual.result c.from_residual.ensures.1 in
    rw (p.1, p.2, ← c.self.view_is)
    (certify-refused _ refl (table c.args.verdicts.now c.args.numbers.now) (table c.evaluate.new.verdicts c.evaluate.new.numbers) (named c.in_err-rounds.field-0.0) c.in_err-rounds.ensures.says)

pub keep-requires-clause-lawful : goal.keep-requires-clause-lawful
keep-requires-clause-lawful g c = λ _. lawful-kept c.evaluate.new.verdicts c.evaluate.new.numbers c.in_ok-rounds.ensures.says.1.lawful

pub returns-clause-happened : goal.returns-clause-happened
returns-clause-happened g c =
    rw (← c.self.view_is)
    (certify_taken _ refl (table c.args.verdicts.now c.args.numbers.now) (table c.evaluate.new.verdicts c.evaluate.new.numbers) c.in_ok-rounds.rounds _ c.keep.ensures c.in_ok-rounds.ensures.says)

pub returns-clause-tables : goal.returns-clause-tables
returns-clause-tables g c =
    subst (λ (v : Contents). Evaluated v.list (table c.args.verdicts.now c.args.numbers.now) (Ok c.in_ok-rounds.rounds) (table c.evaluate.new.verdicts c.evaluate.new.numbers))
    c.self.view_is c.in_ok-rounds.ensures.says
