use Rattle.std.proofs.Common.{subst}
use Rattle.std.proofs.lemmas.Result.{err_from_is_err_and}
use Rattle.credential.specs.Refusals.{answered}
use Rattle.model.specs.Tables.{table}
use Rattle.checker.specs.Checks.{Checked}
use Rattle.checker.proofs.Readings.{tables_read, tables_refused}
use Rattle.checker.proofs.Rules.{walked}
use Rattle.checker.proofs.check_list.Goals as goal

pub returns-in_err-tables : goal.returns-in_err-tables
returns-in_err-tables c =
    let p = err_from_is_err_and c.from_residual.result c.from_residual.ensures.1 in
    rw (p.1, p.2) (tables_refused c.args.credentials.now c.args.verdicts.now c.args.numbers.now _ c.in_err-tables.ensures)

pub returns : goal.returns
returns c =
    let t = c.in_ok-tables.tables in
    let r = tables_read c.args.verdicts.now c.args.numbers.now (table t.verdicts.now t.numbers.now) c.in_ok-tables.ensures in
    subst (λ x. Checked c.args.credentials.now x (answered c.check_entries.result)) r.0
    (walked c.args.credentials.now t.verdicts.now t.numbers.now r.1 t.lawful (answered c.check_entries.result) c.check_entries.ensures)
