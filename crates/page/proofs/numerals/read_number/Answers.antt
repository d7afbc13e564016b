use Rattle.std.proofs.Common.{ℕ, Option, sym, subst}
use Rattle.page.specs.Numerals.{Numbered}
use Rattle.page.proofs.NumberTrip.{numbered}
use Rattle.page.proofs.numerals.read_number.Goals as goal

pub returns : goal.returns
returns c = record {
  value = c.number_in.ensures;
  numeral = subst (λ (o : Option ℕ). Numbered c.args.columns.now o) (sym c.number_in.ensures) (numbered c.args.columns.now);
}
