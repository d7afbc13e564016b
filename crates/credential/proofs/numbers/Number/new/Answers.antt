use Rattle.std.proofs.Common.{sym}
use Rattle.credential.proofs.Ranges.{number_of-is}
use Rattle.credential.proofs.numbers.Number.new.Goals as goal

pub returns-then-number : goal.returns-then-number
returns-then-number g c = sym (number_of-is _)
