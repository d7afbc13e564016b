use Rattle.std.proofs.Common.{◌≡◌, sym, arith, rules}
use Rattle.std.proofs.lemmas.Result.{err_from_is_err_and}
use Rattle.credential.specs.Memberships.{place}
use Rattle.checker.specs.Rules.{entry_refusal}
use Rattle.checker.proofs.Rules.{walk_more}
use Rattle.checker.proofs.tables.Tables.check_entries.Goals as goal

pub returns-in_err-check_entry : goal.returns-in_err-check_entry
returns-in_err-check_entry c =
    let p = err_from_is_err_and c.from_residual.result c.from_residual.ensures.1 in
    let here : place c.unwrap.result ≡ c.loop-index.index = search rules in
    rw (p.1, p.2) (c.unwrap.result, sym c.in_err-check_entry.ensures, λ k h. c.loop-index.invariant k (omega arith))

pub loop-index-preserved : goal.loop-index-preserved
loop-index-preserved c =
    walk_more (entry_refusal c.args.credentials.now c.args.self.verdicts.now c.args.self.numbers.now) c.unwrap.result c.loop-index.index
    (search rules) (sym c.in_ok-check_entry.ensures) c.loop-index.invariant
