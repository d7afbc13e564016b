use Rattle.std.proofs.Common.{length, sym, ap, ◌∙◌, arith}
use Rattle.credential.proofs.Placed.{first_left, none_left, placed_within}
use Rattle.credential.proofs.sources.listing.ListingIterator.next.Goals as goal

pub returns-in_err-credential-clause-steps : goal.returns-in_err-credential-clause-steps
returns-in_err-credential-clause-steps g c =
    let none = none_left (g.S.Source.list c.args.self.now.source.now) c.args.self.now.given (sym c.at.ensures ∙ c.in_err-credential.was) in
    rw c.from_residual.ensures (none, none)

pub invariant_of-self : goal.invariant_of-self
invariant_of-self g c =
    let within = placed_within (g.S.Source.list c.args.self.now.source.now) c.args.self.now.given _ (sym c.at.ensures ∙ c.in_ok-credential.was) in
    let few = c.args.self.now.few in
    record { given_few = omega (arith, within, few); few = few }

pub returns-clause-steps : goal.returns-clause-steps
returns-clause-steps g c = first_left (g.S.Source.list c.args.self.now.source.now) c.args.self.now.given _ (sym c.at.ensures ∙ c.in_ok-credential.was)

pub returns-clause-goes : goal.returns-clause-goes
returns-clause-goes g c =
    let left = ap length (first_left (g.S.Source.list c.args.self.now.source.now) c.args.self.now.given _ (sym c.at.ensures ∙ c.in_ok-credential.was)) in
    record { on = λ _. (tt, tt, omega (arith, left)); keeps = tt; rests = λ _. tt }
