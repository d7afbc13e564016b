use Rattle.std.proofs.Common.{◌≡◌, ◌≤◌, Option, sym, subst, MatchOption}
use Rattle.credential.specs.declared.memberships.Membership.{Membership}
use Rattle.credential.specs.Memberships.{place}
use Rattle.credential.proofs.Placing.{place_back}
use Rattle.credential.proofs.memberships.Membership.at.Goals as goal

pub returns : goal.returns
returns c = record {
  value = c.read_place.ensures;
  back = subst (λ (o : Option Membership). MatchOption o (16384 ≤ c.args.index) (λ m. place m ≡ c.args.index)) (sym c.read_place.ensures) (place_back c.args.index);
}
