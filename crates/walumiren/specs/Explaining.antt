-- The ground clauses that an explanation names.
use Rattle.std.specs.Prelude.{List, [], ◌∷◌, ◌++◌, Some, None, Option}
use Rattle.std.proofs.Math.Option.{none, some}
use Rattle.std.proofs.Math.Option as options
use Rattle.credential.specs.declared.memberships.Membership.{Membership}
use Rattle.model.specs.Clauses as clauses
use Rattle.walumiren.specs.declared.clauses.Body.{Body}

abbrev pub listed : Option Membership → List Membership
listed (Some m) = m ∷ []
listed None = []

abbrev pub perhaps : Option Membership → options.Option Membership
perhaps (Some m) = some m
perhaps None = none

-- a body as the model has it
abbrev pub bodied : Body → clauses.Body
bodied b = record { positive = listed b.first ++ listed b.second; negated = perhaps b.negated }
