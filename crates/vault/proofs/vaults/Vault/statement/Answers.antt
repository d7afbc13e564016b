use Rattle.std.proofs.Common.{ℕ, List, ap, ◌∙◌, subst}
use Rattle.history.specs.Contents.{Contents}
use Rattle.history.specs.Statement.{units}
use Rattle.vault.specs.Ledgers.{AllTallied}
use Rattle.vault.specs.Settling.{ledger_of}
use Rattle.vault.specs.Statements.{statement_answer, statement_after}
use Rattle.vault.proofs.Stating.{same-statement}
use Rattle.vault.proofs.vaults.Vault.statement.Goals as goal

pub returns : goal.returns
returns g c =
    let t = subst (λ (v : Contents). AllTallied (ledger_of v) c.tallies-tallies.result) c.self.view_is c.tallies-tallies.ensures in
    let q = same-statement units c.args.self.now c.tallies-tallies.result t in
    record {
      answers = c.write_statement.ensures.answers ∙ ap (λ (text : List ℕ). statement_answer text c.args.out.now) q;
      after = c.write_statement.ensures.after ∙ ap (λ (text : List ℕ). statement_after text c.args.out.now) q;
    }
