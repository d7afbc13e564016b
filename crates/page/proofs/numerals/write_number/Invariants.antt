use Rattle.std.proofs.Common.{◌≡◌, ◌++◌, length, drop}
use Rattle.page.specs.Numerals.{lead, numeral}
use Rattle.page.proofs.numerals.write_number.Given as goal

abbrev pub invariant-loop-i : goal.invariant-loop-i
invariant-loop-i l = lead l.i l.rest ++ drop l.i l.columns ≡ numeral (length l.columns) l.number
