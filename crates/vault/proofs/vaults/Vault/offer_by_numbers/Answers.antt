use Rattle.std.proofs.lemmas.Result.{err_from_is_err_and}
use Rattle.credential.specs.Refusals.{named}
use Rattle.vault.proofs.Stating.{numbers-refused}
use Rattle.vault.proofs.vaults.Vault.offer_by_numbers.Goals as goal

pub returns-in_err-membership : goal.returns-in_err-membership
returns-in_err-membership g c =
    let p = err_from_is_err_and c.from_residual.result c.from_residual.ensures.1 in
    rw (p.1, p.2) (numbers-refused _ c.args.self.now c.args.owner c.args.name c.args.member (named c.in_err-membership.field-0.0) c.in_err-membership.ensures)
