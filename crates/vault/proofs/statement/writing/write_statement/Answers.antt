use Rattle.std.proofs.Common.{ℕ, length, Ok, sym, ap, ◌∙◌, rules}
use Rattle.std.proofs.lemmas.Bool.{cond-false, le-ltb}
use Rattle.vault.proofs.Filling.{statement_filled}
use Rattle.vault.proofs.statement.writing.write_statement.Goals as goal

pub returns : goal.returns
returns c =
    let p = statement_filled c.args.units.now c.args.tallies.now c.write_role_lines-end.result c.sum_rows.result c.args.out.now c.write_role_lines-end.new.out c.write_total_line.new.line
    (search rules) c.write_role_lines-end.ensures.value c.sum_rows.ensures c.write_total_line.ensures (search rules) c.write_role_lines-end.ensures.after in
    record {
      answers = ap (λ (n : ℕ). Ok n) p.0 ∙ sym (cond-false _ _ _ (le-ltb (length c.args.out.now) 663 (search rules)));
      after = p.1;
    }
