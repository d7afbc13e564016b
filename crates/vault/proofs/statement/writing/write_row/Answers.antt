use Rattle.std.proofs.Common.{rules}
use Rattle.vault.proofs.Filling.{row_filled}
use Rattle.vault.proofs.statement.writing.write_row.Goals as goal

pub returns : goal.returns
returns c =
    row_filled c.args.row c.args.line.now c.write_number.new.columns c.write_number-2.new.columns c.write_number-3.new.columns c.write_number-4.new.columns c.write_number-5.new.columns
    (search rules) (search rules) (search rules) (search rules) (search rules) (search rules)
