use Rattle.std.proofs.Common.{sym, ap, ◌∙◌}
use Rattle.register.specs.Registers.{Outcome}
use Rattle.register.proofs.Outcomes.{published_standing, published_appended}
use Rattle.register.proofs.registers.Register.publish.Goals as goal

pub returns-then-stands-clause-answer : goal.returns-then-stands-clause-answer
returns-then-stands-clause-answer g c = (published_standing _ _ c.args.credential (sym c.if-stands.true ∙ c.stands.ensures.value)).0

pub returns-then-stands-clause-list : goal.returns-then-stands-clause-list
returns-then-stands-clause-list g c = (published_standing _ _ c.args.credential (sym c.if-stands.true ∙ c.stands.ensures.value)).1

pub returns-clause-answer : goal.returns-clause-answer
returns-clause-answer g c =
    c.append.ensures.answer ∙ ap (λ (o : Outcome). o.answer) (published_appended _ _ c.args.credential (sym c.if-stands.false ∙ c.stands.ensures.value))

pub returns-clause-list : goal.returns-clause-list
returns-clause-list g c =
    c.append.ensures.list ∙ ap (λ (o : Outcome). o.list) (published_appended _ _ c.args.credential (sym c.if-stands.false ∙ c.stands.ensures.value))
