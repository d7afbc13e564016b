use Rattle.std.proofs.Common.{sym, refl, ◌∙◌, subst, inl, rules}
use Rattle.std.specs.Fn.{FnOnceReturnsAtMut}
use Rattle.vault.proofs.vaults.Vault.settle.Goals as goal
use Rattle.vault.proofs.vaults.Vault.settle.Goals.{in-Ok, in-Err}

pub returns : goal.returns
returns g c =
    let own = sym c.vault.ensures ∙ c.if-vault-self.false in
    let called : FnOnceReturnsAtMut g.F.FnOnce c.args.call c.self.inside.ledger c.call.result c.call.new.arg2 = search rules in
    rw (← c.self.view_is) (elim c.match-call.branch [
      | in-Ok w ↦ rw w.result-is (refl, own, record { old = c.self.inside.ledger; new = c.call.new.arg2; is_old = refl; called = subst (λ r. FnOnceReturnsAtMut g.F.FnOnce c.args.call c.self.inside.ledger r c.call.new.arg2) w.in-Ok.is called; becomes = refl })
      | in-Err w ↦ rw w.result-is (refl, inl (own, record { old = c.self.inside.ledger; new = c.call.new.arg2; is_old = refl; called = subst (λ r. FnOnceReturnsAtMut g.F.FnOnce c.args.call c.self.inside.ledger r c.call.new.arg2) w.in-Err.is called; becomes = refl }))
    ])
