use Rattle.std.proofs.Common.{◌≤◌, refl, mul-le-mul, arith}
use Rattle.vault.proofs.statement.rows.row_of.Goals as goal

pub returns : goal.returns
returns c =
    let most : c.args.units ≤ 65535 = omega arith in
    record {
      value = refl;
      few = record {
        given = omega (arith, c.args.tally.given_few);
        declined = omega (arith, c.args.tally.declined_few);
        handed_back = omega (arith, c.args.tally.handed_back_few);
        opened = omega (arith, c.args.tally.open_few);
        units = mul-le-mul c.args.tally.open_few most;
      };
    }
