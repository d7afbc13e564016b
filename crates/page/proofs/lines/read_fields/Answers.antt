use Rattle.std.proofs.Common.{List, sym, ap, ◌∙◌}
use Rattle.std.proofs.lemmas.Result.{err_from_is_err_and}
use Rattle.credential.specs.declared.letters.Mark.{Mark}
use Rattle.page.specs.Lines.{read_field, read_fields}
use Rattle.page.proofs.Collecting.{collect_stop, array_more, array_all}
use Rattle.page.proofs.lines.read_fields.Goals as goal

pub loop-k-preserved : goal.loop-k-preserved
loop-k-preserved c =
    array_more 6 (read_field c.marks-marks.result.now c.args.text.now c.args.line) c.loop-k.k c.loop-k.field-items _ c.loop-k.invariant.1 c.loop-k.invariant.0
    c.in_ok-field.field-0 c.loop-k-test.true
    (rw (sym c.at.ensures.bytes, sym c.at.ensures.line, sym c.at.ensures.column) (sym c.in_ok-field.ensures))

pub returns-in_err-field : goal.returns-in_err-field
returns-in_err-field c =
    let p = err_from_is_err_and c.from_residual.result c.from_residual.ensures.1 in
    rw (p.1, p.2)
    (sym (collect_stop 6 (read_field c.marks-marks.result.now c.args.text.now c.args.line) c.loop-k.k _ _ c.loop-k-test.true c.loop-k.invariant.0 _
    (rw (sym c.at.ensures.bytes, sym c.at.ensures.line, sym c.at.ensures.column) (sym c.in_err-field.ensures)))
    ∙ ap (λ (ms : List Mark). read_fields ms c.args.text.now c.args.line) c.marks-marks.ensures)

pub returns : goal.returns
returns c =
    sym (array_all 6 (read_field c.marks-marks.result.now c.args.text.now c.args.line) c.loop-k.k c.loop-k.field-items _ c.loop-k.invariant.1 c.loop-k.invariant.0 c.loop-k-test.false)
    ∙ ap (λ (ms : List Mark). read_fields ms c.args.text.now c.args.line) c.marks-marks.ensures
