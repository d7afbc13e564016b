use Rattle.std.proofs.Common.{◌≡◌, ◌-◌, length, take}
use Rattle.page.specs.Lines.{collected, read_field, read_fields}
use Rattle.page.proofs.Collecting.{behind}
use Rattle.page.proofs.lines.read_fields.Given as goal

abbrev pub invariant-loop-k : goal.invariant-loop-k
invariant-loop-k l =
    (read_fields l.marks l.text l.line ≡ behind (take l.k l.field-items) (collected (6 - l.k) (read_field l.marks l.text l.line) l.k))
    × (length l.field-items ≡ 6)
