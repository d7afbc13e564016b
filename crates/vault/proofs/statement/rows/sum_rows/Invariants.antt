use Rattle.std.proofs.Common.{◌≡◌, length, drop}
use Rattle.vault.specs.Statements.{sums_to, Few}
use Rattle.vault.proofs.statement.rows.sum_rows.Given as goal

abbrev pub invariant-loop-tally : goal.invariant-loop-tally
invariant-loop-tally l =
    let n = length l.yielded in
    record {
      sums : l.sum ≡ sums_to n l.units l.tallies;
      few : Few n l.sum;
      tallies : l.tally-iterator.a.rest.now ≡ drop n l.tallies;
      units : l.tally-iterator.b.rest.now ≡ drop n l.units;
    }
