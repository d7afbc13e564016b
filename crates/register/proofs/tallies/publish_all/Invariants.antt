use Rattle.std.proofs.Common.{◌≡◌, ◌+◌, length, drop}
use Rattle.register.specs.Tallies.{none, total, published_all}
use Rattle.register.proofs.tallies.publish_all.Given as goal

abbrev pub invariant-loop-credential : goal.invariant-loop-credential
invariant-loop-credential g l =
    let left = drop l.credential-iterator.given (g.S.Source.list l.credential-iterator.source.now) in
    record {
      published : published_all g.R.Register.CAPACITY none (g.R.Source.list l.initial.register) (g.S.Source.list l.source)
          ≡ published_all g.R.Register.CAPACITY l.tally (g.R.Source.list l.register) left;
      counted : total l.tally + length left ≡ length (g.S.Source.list l.source);
    }
