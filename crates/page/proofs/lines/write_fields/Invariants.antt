use Rattle.std.proofs.Common.{◌≡◌, ◌+◌, ◌*◌, ◌++◌, length, take, drop}
use Rattle.credential.specs.Letters.{marks_of}
use Rattle.page.specs.Lines.{fields_text}
use Rattle.page.proofs.lines.write_fields.Given as goal

abbrev pub invariant-loop-k : goal.invariant-loop-k
invariant-loop-k l =
    l.line
    ≡ (take 1 l.initial.line ++ fields_text (take (length l.yielded) (marks_of l.fn.letter)) (take (length l.yielded) l.fn.fields)) ++ drop (3 * length l.yielded + 1) l.initial.line
