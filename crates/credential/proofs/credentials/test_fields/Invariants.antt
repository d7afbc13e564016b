use Rattle.std.proofs.Common.{◌≡◌}
use Rattle.credential.specs.Letters.{marks_of}
use Rattle.credential.specs.Credentials.{fitted}
use Rattle.credential.proofs.credentials.test_fields.Given as goal

abbrev pub invariant-loop-mark : goal.invariant-loop-mark
invariant-loop-mark l = fitted (marks_of l.fn.letter) l.fn.fields ≡ fitted l.mark-iterator.a.rest.now l.mark-iterator.b.rest.now
