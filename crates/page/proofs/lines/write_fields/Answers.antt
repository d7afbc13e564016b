use Rattle.std.proofs.Common.{ℕ, ◌+◌, ◌-◌, ◌*◌, Option, ◌++◌, length, get_or, take, drop, sym, ap, ◌∙◌, rules}
use borrow.Rule.Slice.PartMut.{put_mid}
use Rattle.std.proofs.lemmas.Iterator.{YieldsList-from_slice, YieldsList-from_zip}
use Rattle.std.proofs.lemmas.Iterator.Consumers.{YieldsList-from_enumerate, YieldsList-turn}
use Rattle.std.proofs.lemmas.List.{length_push}
use Rattle.credential.specs.declared.letters.Mark.{Mark}
use Rattle.credential.specs.declared.letters.Mark.TheVariants.{Entity as E}
use Rattle.credential.specs.Letters.{marks_of}
use Rattle.credential.proofs.Fields.{six_marks}
use Rattle.page.specs.Fields.{field_text}
use Rattle.page.specs.Lines.{fields_text}
use Rattle.page.proofs.Writing.{fields_none, fields_more, pair_at}
use Rattle.page.proofs.lines.write_fields.Goals as goal

pub loop-k-init : goal.loop-k-init
loop-k-init c = fields_none (marks_of c.args.letter) c.args.fields c.args.line.now

pub loop-k-preserved : goal.loop-k-preserved
loop-k-preserved c =
    let ms = marks_of c.args.letter in
    let vs = c.args.fields in
    let line = c.args.line.now in
    let n = length c.loop-k.yielded in
    let p =
    pair_at ms vs n c.in-Some.k c.in-Some.mark.now c.in-Some.field.now (six_marks c.args.letter) (search rules)
    (YieldsList-turn (YieldsList-from_enumerate {s = c.into_iter-k-iterator.result} (YieldsList-from_zip (YieldsList-from_slice ms (cc)) (YieldsList-from_slice vs (cc))) (cc)) c.loop-k.yielded c.loop-k.k-iterator c.loop-k.yielded_by c.next.result c.next.new.self
    (c.in-Some.k, (c.in-Some.mark, c.in-Some.field)) c.in-Some.is c.next.ensures.steps) in
    ap (λ (j : ℕ). put_mid (3 * j + 1) (3 * j + 1 + 3 - (3 * j + 1)) c.loop-k.line c.write_field.new.columns) p.1
    ∙ fields_more n ms vs (take 1 line) line c.loop-k.line c.write_field.new.columns (six_marks c.args.letter) (search rules) (search rules) p.0
    (c.write_field.ensures ∙ ap (λ (m : Mark). field_text m c.in-Some.field.now) p.2 ∙ ap (λ (v : Option ℕ). field_text (get_or ms n E) v) p.3)
    c.loop-k.invariant
    ∙ ap (λ (j : ℕ). (take 1 line ++ fields_text (take j ms) (take j vs)) ++ drop (3 * j + 1) line) (sym (length_push c.loop-k.yielded (c.in-Some.k, (c.in-Some.mark, c.in-Some.field))))
