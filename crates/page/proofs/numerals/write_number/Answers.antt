use Rattle.std.proofs.Common.{ℕ, ap, ◌∙◌, arith, rules}
use Rattle.page.specs.Numerals.{numeral}
use Rattle.page.proofs.Digits.{no_columns, numeral-last, lead_more, lead-all}
use Rattle.page.proofs.numerals.write_number.Goals as goal
use Rattle.page.proofs.numerals.write_number.Goals.{then-rest-eq0, else-rest-eq0}

pub loop-i-init : goal.loop-i-init
loop-i-init c = numeral-last c.args.columns.now c.args.number c.last_digit.result c.last_digit.ensures (omega arith)

pub returns-then-width-eq0 : goal.returns-then-width-eq0
returns-then-width-eq0 c = no_columns c.args.columns.now c.args.number c.if-width-eq0.true

pub loop-i-preserved : goal.loop-i-preserved
loop-i-preserved c =
    lead_more c.loop-i.columns c.loop-i.i c.loop-i.rest c.if-rest-eq0.columns 0 c.args.number c.loop-i-test.true
    (search rules)
    (elim c.if-rest-eq0.branch [ then-rest-eq0 w ↦ search rules | else-rest-eq0 w ↦ search rules ])
    c.loop-i.invariant

pub returns : goal.returns
returns c =
    lead-all c.loop-i.columns _ c.loop-i.i c.loop-i.rest c.loop-i-test.false c.loop-i.invariant
    ∙ ap (λ (w : ℕ). numeral w c.args.number) (search rules)
