use Rattle.std.proofs.Common.{rules}
use Rattle.credential.proofs.Placing.{at_place}
use Rattle.credential.proofs.memberships.Membership.place.Goals as goal

pub returns : goal.returns
returns c = record { value = search rules; within = search rules; back = at_place c.args.self }
