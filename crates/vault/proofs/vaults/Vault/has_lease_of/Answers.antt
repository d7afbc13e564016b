use Rattle.std.proofs.Common.{sym, ◌∙◌}
use Rattle.vault.proofs.vaults.Vault.has_lease_of.Goals as goal

pub returns-then-vault-self : goal.returns-then-vault-self
returns-then-vault-self g c =
    rw (← c.self.view_is) (
      (λ q.
          let w = c.has.ensures.0 q in
          (sym c.vault.ensures ∙ c.if-vault-self.true, (w.0, w.1, (w.2.0, w.2.1 ∙ c.serial.ensures)))),
      λ f. c.has.ensures.1 (f.1.0, f.1.1, (f.1.2.0, f.1.2.1 ∙ sym c.serial.ensures)),
    )
