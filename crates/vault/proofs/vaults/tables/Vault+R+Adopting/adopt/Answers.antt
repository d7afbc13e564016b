use Rattle.std.proofs.Common.{refl}
use Rattle.std.proofs.lemmas.Result.{err_from_is_err_and}
use Rattle.credential.specs.Refusals.{named}
use Rattle.model.specs.Tables.{table}
use Rattle.vault.proofs.Standing.{lawful-kept, adopt_taken, adopt-refused}
use Rattle.vault.proofs.vaults.tables.Vault+R+Adopting.adopt.Goals as goal

pub returns-in_err-check : goal.returns-in_err-check
returns-in_err-check g c =
    let p = err_from_is_err_and c.from_residual.result c.from_residual.ensures.1 in
    rw (p.1, p.2, ← c.self.view_is) (adopt-refused _ refl (table c.args.verdicts.now c.args.numbers.now) (named c.in_err-check.field-0.0) c.in_err-check.ensures.says)

pub keep-requires-clause-lawful : goal.keep-requires-clause-lawful
keep-requires-clause-lawful g c = λ _. lawful-kept c.args.verdicts.now c.args.numbers.now c.in_ok-check.ensures.says.lawful

pub returns : goal.returns
returns g c =
    rw (← c.self.view_is) (adopt_taken _ refl (table c.args.verdicts.now c.args.numbers.now) _ c.keep.ensures c.in_ok-check.ensures.says)
