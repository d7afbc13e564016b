use Rattle.std.proofs.Common.{◌++◌, ◌∙◌, rules}
use Rattle.vault.proofs.Filling.{line_filled}
use Rattle.vault.proofs.statement.writing.write_total_line.Goals as goal

pub returns : goal.returns
returns c =
    line_filled c.args.line.now c.write_blanks.new.columns c.write_row.new.line (search rules) (search rules)
    ∙ (λ j. c.write_blanks.ensures j ++ c.write_row.ensures j)
