use Rattle.std.proofs.Common.{◌∙◌, rules}
use Rattle.page.proofs.Writing.{one_line}
use Rattle.page.proofs.lines.write_line.Goals as goal

pub returns : goal.returns
returns c = record { answers = search rules; after = one_line c.args.credential c.args.out.now c.copy_from_slice.new.self (search rules) (c.copy_from_slice.ensures.after ∙ c.line_of.ensures) }
