use Rattle.std.proofs.Common.{sym, rules}
use Rattle.page.proofs.Digits.{leading_more, leading_stop, leading-all, few_digits}
use Rattle.page.proofs.numerals.read_leading.Goals as goal

pub next_column-requires : goal.next_column-requires
next_column-requires c = few_digits c.loop-byte.value c.loop-byte.byte-index 8 c.loop-byte.invariant.1 (search rules)

pub returns-in_err-value : goal.returns-in_err-value
returns-in_err-value c =
    rw c.from_residual.ensures
    (record {
      value = sym (leading_stop c.args.columns.now c.loop-byte.byte-index c.loop-byte.value (search rules)
          (sym c.in_err-value.ensures) c.loop-byte.invariant.0);
      small = tt;
    })

pub loop-byte-preserved : goal.loop-byte-preserved
loop-byte-preserved c =
    leading_more c.args.columns.now c.loop-byte.byte-index c.loop-byte.value (search rules) c.in_ok-value.value
    (sym c.in_ok-value.ensures) c.loop-byte.invariant.1 c.loop-byte.invariant.0

pub returns : goal.returns
returns c = record {
  value = sym (leading-all c.args.columns.now c.loop-byte.byte-index c.loop-byte.value (search rules) c.loop-byte.invariant.0);
  small = few_digits c.loop-byte.value c.loop-byte.byte-index 8 c.loop-byte.invariant.1 (search rules);
}
