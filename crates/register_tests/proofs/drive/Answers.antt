use Rattle.std.proofs.Common.{List, vec_items, Result, sym, ap, ◌∙◌, rules}
use Rattle.credential.specs.declared.refusals.Refusal.{Refusal}
use Rattle.register_tests.specs.Calls.{Driven, driven}
use Rattle.register_tests.proofs.Driving.{held, driven_more, driven-all}
use Rattle.register_tests.proofs.drive.Goals as goal

pub loop-call-init : goal.loop-call-init
loop-call-init g c =
    let m = c.in_ok-answers.ensures in
    record {
      driven = ap (λ (us : List (Result (Unit {0}) Refusal)). driven g.R.Register.CAPACITY (held us (g.R.Source.list c.args.register.now)) c.args.calls.now) (sym m.items);
      count = m.len;
      room = m.capacity;
    }

pub loop-call-preserved : goal.loop-call-preserved
loop-call-preserved g c = record {
  driven = c.loop-call.invariant.driven
      ∙ driven_more g.R.Register.CAPACITY c.args.calls.now c.loop-call.call-index (vec_items c.loop-call.answers) (vec_items c.push_reserved.new.self) (g.R.Source.list c.loop-call.register) (g.R.Source.list c.carry_out.new.register)
      _ c.carry_out.result c.loop-call-test.true c.call-item.is c.carry_out.ensures.answer c.push_reserved.ensures.items c.carry_out.ensures.list;
  count = search rules;
  room = search rules;
}

pub returns : goal.returns
returns g c =
    let o = c.loop-call.invariant.driven ∙ driven-all g.R.Register.CAPACITY c.args.calls.now c.loop-call.call-index _ c.loop-call-test.false in
    record { answers = sym (ap (λ (d : Driven). d.answers) o); list = sym (ap (λ (d : Driven). d.list) o) }
