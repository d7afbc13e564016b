-- What a question asks of its tables.
use Rattle.std.specs.Prelude.{ℕ, Bool, ◌&&◌, List}
use Rattle.credential.specs.declared.credentials.Credential.{Credential}
use Rattle.credential.specs.Numbers.{RoleName}
use Rattle.model.specs.Grounds.{place_of}
use Rattle.checker.specs.declared.literals.Sign.{Sign}
use Rattle.checker.specs.declared.literals.Sign.TheVariants.{Positive}
use Rattle.checker.specs.declared.questions.Question.{Question}
use Rattle.checker.specs.Rules.{asked, literal_at, serves}

module _ (q : Question) where
  -- the entry of (a, r, d) passes as a literal of the sign
  abbrev pub literal_passes : Sign → ℕ → ℕ → ℕ → Bool
  literal_passes s a r d = literal_at s q.want q.number q.tables.verdicts.now q.tables.numbers.now (place_of a r d)

  -- y links the membership's owner to its member
  abbrev pub links : RoleName → RoleName → ℕ → Bool
  links first second y =
      literal_passes Positive q.about.role.owner.number first.number y && literal_passes Positive y second.number q.about.member.number

  -- some ground clause passes that the credential gives; that one of them gives
  abbrev pub served_by : Credential → Bool
  served_by c = serves q.want q.number q.tables.verdicts.now q.tables.numbers.now q.about c

  abbrev pub asked_of : List Credential → Bool
  asked_of cs = asked q.want cs q.tables.verdicts.now q.tables.numbers.now q.about
