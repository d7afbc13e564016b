use Rattle.std.proofs.Common.{◌≡◌, ◌≤◌, length, drop, vec_items, vec_len, vec_capacity}
use Rattle.register_tests.specs.Calls.{undriven, driven}
use Rattle.register_tests.proofs.Driving.{held}
use Rattle.register_tests.proofs.drive.Given as goal

abbrev pub invariant-loop-call : goal.invariant-loop-call
invariant-loop-call g l = record {
  driven : driven g.R.Register.CAPACITY (undriven (g.R.Source.list l.initial.register)) l.calls
      ≡ driven g.R.Register.CAPACITY (held (vec_items l.answers) (g.R.Source.list l.register)) (drop l.call-index l.calls);
  count : vec_len l.answers ≡ l.call-index;
  room : length l.calls ≤ vec_capacity l.answers;
}
