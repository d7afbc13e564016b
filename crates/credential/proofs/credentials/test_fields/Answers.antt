use Rattle.std.proofs.Common.{sym, ◌∙◌, inl, inr, ⊎_elim}
use Rattle.credential.proofs.Fields.{fitted_end}
use Rattle.credential.proofs.credentials.test_fields.Goals as goal

pub returns : goal.returns
returns c = sym (c.loop-mark.invariant ∙ fitted_end _ _ (⊎_elim (λ h. inl h.1.0) (λ h. inr h.1.0) c.in-None.ensures.steps))
