-- The table of marks, and which fields fit them.
use Rattle.std.specs.Prelude.{ℕ, cond, List, [], ◌∷◌, ◌==◌, Some, None, Ok, Err, Option, Result, nat_le}
use Rattle.credential.specs.Refusals.{Named, refused, refused_at}
use Rattle.credential.specs.declared.letters.Letter.{Letter}
use Rattle.credential.specs.declared.letters.Letter.TheVariants.{Member, Inclusion, Linked, Intersection, Exclusion}
use Rattle.credential.specs.declared.letters.Mark.{Mark}
use Rattle.credential.specs.declared.letters.Mark.TheVariants.{Entity as E, RoleName as N, Blank as O}
use Rattle.credential.specs.declared.letters.Misfit.{Misfit}
use Rattle.credential.specs.declared.letters.Misfit.TheVariants.{Form, Range}

-- the byte that stands for a letter on a page
abbrev pub letter_byte : Letter → ℕ
letter_byte Member = 77
letter_byte Inclusion = 73
letter_byte Linked = 76
letter_byte Intersection = 78
letter_byte Exclusion = 88

-- the letter that a byte stands for, if it stands for one
abbrev pub letter_in : ℕ → Option Letter
letter_in b =
    cond (b == 77) (Some Member)
    (cond (b == 73) (Some Inclusion)
    (cond (b == 76) (Some Linked)
    (cond (b == 78) (Some Intersection)
    (cond (b == 88) (Some Exclusion) None))))

-- the marks of a letter's fields A, r, B, s, C and t: an entity, a role name or a blank
abbrev pub marks_of : Letter → List Mark
marks_of Member = E ∷ N ∷ E ∷ O ∷ O ∷ O ∷ []
marks_of Inclusion = E ∷ N ∷ E ∷ N ∷ O ∷ O ∷ []
marks_of Linked = E ∷ N ∷ O ∷ N ∷ O ∷ N ∷ []
marks_of Intersection = E ∷ N ∷ E ∷ N ∷ E ∷ N ∷ []
marks_of Exclusion = E ∷ N ∷ E ∷ N ∷ E ∷ N ∷ []

-- a number from 1 to the most of its mark
abbrev pub ranged : ℕ → ℕ → Result (Unit {0}) Misfit
ranged most n = cond (nat_le 1 n) (cond (nat_le n most) (Ok tt) (Err Range)) (Err Range)

-- a field fits its mark, or why it does not
abbrev pub tested : Mark → Option ℕ → Result (Unit {0}) Misfit
tested E (Some n) = ranged 32 n
tested E None = Err Form
tested N (Some n) = ranged 16 n
tested N None = Err Form
tested O (Some n) = Err Form
tested O None = Ok tt

-- the refusal of a misfit outside pages, and on a page
abbrev pub unplaced : Misfit → Named
unplaced Form = refused 4
unplaced Range = refused 5

abbrev pub placed_at : ℕ → ℕ → Misfit → Named
placed_at line column Form = refused_at 4 line column
placed_at line column Range = refused_at 5 line column
