use Rattle.std.proofs.Common.{◌≡◌, ℕ, List, ◌++◌, ap, ◌∙◌, rules}
use Rattle.page.specs.Numerals.{numeral}
use Rattle.vault.proofs.Filling.{line_filled}
use Rattle.vault.proofs.statement.writing.write_role_line.Goals as goal

pub returns : goal.returns
returns c =
    let name : c.write_number.new.columns ≡ numeral 3 c.args.name = search rules in
    line_filled c.args.line.now c.write_number.new.columns c.write_row.new.line (search rules) (search rules)
    ∙ ap (λ (t : List ℕ). t ++ c.write_row.new.line) name
    ∙ ap (λ (t : List ℕ). numeral 3 c.args.name ++ t) c.write_row.ensures
