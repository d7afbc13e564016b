use Rattle.std.proofs.Common.{[], ◌∷◌, sym, refl, subst}
use mathlib.Core.Option.{none}
use Rattle.credential.specs.declared.credentials.Credential.{Credential}
use Rattle.model.specs.Clauses.{of, Gives, head}
use Rattle.walumiren.proofs.clauses.bodies.clause_body.Goals as goal

-- the clause goes through the entity that was passed
pub returns-in_ok-through-in-Linked : goal.returns-in_ok-through-in-Linked
returns-in_ok-through-in-Linked c =
    subst (λ (k : Credential).
    Gives k (of (head k) c.args.member)
    (record {
      positive = of (record { owner = c.in-Linked.head.owner; name = c.in-Linked.first }) c.in_ok-through-in-Linked.through
          ∷ of (record { owner = c.in_ok-through-in-Linked.through; name = c.in-Linked.second }) c.args.member ∷ [];
      negated = none;
    }))
    (sym c.in-Linked.is) (refl, (c.in_ok-through-in-Linked.through, refl))
