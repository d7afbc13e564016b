use Rattle.std.proofs.Common.{◌≡◌, ◌^◌, ◌<◌, drop}
use Rattle.page.specs.Numerals.{leading}
use Rattle.page.proofs.numerals.read_leading.Given as goal

abbrev pub invariant-loop-byte : goal.invariant-loop-byte
invariant-loop-byte l = (leading 0 l.columns ≡ leading l.value (drop l.byte-index l.columns)) × (l.value < 10 ^ l.byte-index)
