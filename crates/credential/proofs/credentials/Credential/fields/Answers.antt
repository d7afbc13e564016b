use Rattle.std.proofs.Common.{ℕ, List, Option, ap, ◌∙◌}
use Rattle.credential.specs.Letters.{marks_of}
use Rattle.credential.specs.Credentials.{letter_of, fitted, credential_of}
use Rattle.credential.proofs.Building.{fields_fit, made_of_fields}
use Rattle.credential.proofs.credentials.Credential.fields.Goals as goal

pub returns : goal.returns
returns c = record {
  value = c.fields_of.ensures;
  fit = ap (λ (fs : List (Option ℕ)). fitted (marks_of (letter_of c.args.self)) fs) c.fields_of.ensures ∙ fields_fit c.args.self;
  back = ap (λ (fs : List (Option ℕ)). credential_of (letter_of c.args.self) fs) c.fields_of.ensures ∙ made_of_fields c.args.self;
}
