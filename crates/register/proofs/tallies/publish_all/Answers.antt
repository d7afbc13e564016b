use Rattle.std.proofs.Common.{length, drop, sym, ap, ◌∙◌, arith}
use Rattle.register.specs.declared.tallies.Tally.{Tally}
use Rattle.register.specs.Tallies.{Outcomes, published_all}
use Rattle.register.proofs.Walks.{published_here, published_past}
use Rattle.register.proofs.tallies.publish_all.Goals as goal

pub loop-credential-preserved : goal.loop-credential-preserved
loop-credential-preserved g c =
    let rest = drop c.next.new.self.given (g.S.Source.list c.next.new.self.source.now) in
    record {
      published = c.loop-credential.invariant.published
          ∙ published_here g.R.Register.CAPACITY c.loop-credential.tally (g.R.Source.list c.loop-credential.register) _ (g.R.Source.list c.publish.new.self) rest _ c.in-Some.credential
          c.in-Some.ensures.steps c.publish.ensures.answer c.publish.ensures.list
          ∙ ap (λ (t : Tally). published_all g.R.Register.CAPACITY t (g.R.Source.list c.publish.new.self) rest) (sym c.count.ensures.value);
      counted = omega (arith, ap length c.in-Some.ensures.steps, c.loop-credential.invariant.counted, c.count.ensures.total);
    }

pub returns-clause-tally : goal.returns-clause-tally
returns-clause-tally g c =
    sym (ap (λ (o : Outcomes). o.tally)
    (c.loop-credential.invariant.published ∙ published_past g.R.Register.CAPACITY c.loop-credential.tally (g.R.Source.list c.loop-credential.register) _ c.in-None.ensures.steps.0))

pub returns-clause-list : goal.returns-clause-list
returns-clause-list g c =
    sym (ap (λ (o : Outcomes). o.list)
    (c.loop-credential.invariant.published ∙ published_past g.R.Register.CAPACITY c.loop-credential.tally (g.R.Source.list c.loop-credential.register) _ c.in-None.ensures.steps.0))
