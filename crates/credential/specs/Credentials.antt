-- A credential by its letter and its six fields.
use Rattle.std.specs.Prelude.{ℕ, List, [], ◌∷◌, Some, None, Ok, Err, Option, Result, slice_index_or}
use Rattle.credential.specs.declared.roles.Role.{Role}
use Rattle.credential.specs.declared.letters.Letter.{Letter}
use Rattle.credential.specs.declared.letters.Letter.TheVariants as Letters
use Rattle.credential.specs.declared.letters.Mark.{Mark}
use Rattle.credential.specs.declared.letters.Misfit.{Misfit}
use Rattle.credential.specs.declared.credentials.Credential.{Credential}
use Rattle.credential.specs.declared.credentials.Credential.TheVariants.{Member, Inclusion, Linked, Intersection, Exclusion}
use Rattle.credential.specs.Refusals.{Named, refused, on_ok}
use Rattle.credential.specs.declared.numbers.Number.{Number}
use Rattle.credential.specs.Numbers.{Entity, RoleName, number_of}
use Rattle.credential.specs.Letters.{marks_of, tested, unplaced}

abbrev pub letter_of : Credential → Letter
letter_of (Member h d) = Letters.Member
letter_of (Inclusion h f) = Letters.Inclusion
letter_of (Linked h s t) = Letters.Linked
letter_of (Intersection h f g) = Letters.Intersection
letter_of (Exclusion h f g) = Letters.Exclusion

-- the role that it is about
abbrev pub head_of : Credential → Role
head_of (Member h d) = h
head_of (Inclusion h f) = h
head_of (Linked h s t) = h
head_of (Intersection h f g) = h
head_of (Exclusion h f g) = h

-- the fields A, r, B, s, C and t
abbrev pub fields_of : Credential → List (Option ℕ)
fields_of (Member h d) = Some h.owner.number ∷ Some h.name.number ∷ Some d.number ∷ None ∷ None ∷ None ∷ []
fields_of (Inclusion h f) = Some h.owner.number ∷ Some h.name.number ∷ Some f.owner.number ∷ Some f.name.number ∷ None ∷ None ∷ []
fields_of (Linked h s t) = Some h.owner.number ∷ Some h.name.number ∷ None ∷ Some s.number ∷ None ∷ Some t.number ∷ []
fields_of (Intersection h f g) =
    Some h.owner.number ∷ Some h.name.number ∷ Some f.owner.number ∷ Some f.name.number ∷ Some g.owner.number ∷ Some g.name.number ∷ []
fields_of (Exclusion h f g) =
    Some h.owner.number ∷ Some h.name.number ∷ Some f.owner.number ∷ Some f.name.number ∷ Some g.owner.number ∷ Some g.name.number ∷ []

-- what stands in a field of numbers up to a most
abbrev pub filled : (most : ℕ) → Option ℕ → Result (Number most) Named
filled most None = Err (refused 4)
filled most (Some n) = number_of most n

abbrev pub entity_in : Option ℕ → Result Entity Named
entity_in f = filled 32 f

abbrev pub role_name_in : Option ℕ → Result RoleName Named
role_name_in f = filled 16 f

abbrev pub role_in : Option ℕ → Option ℕ → Result Role Named
role_in a r = on_ok (entity_in a) (λ owner. on_ok (role_name_in r) (λ name. Ok (record { owner = owner; name = name })))

-- a misfit as a refusal that names nothing
abbrev pub without_place : Result (Unit {0}) Misfit → Result (Unit {0}) Named
without_place (Ok u) = Ok u
without_place (Err e) = Err (unplaced e)

-- every field fits its mark, or the first from the left that does not
unfoldable pub fitted : List Mark → List (Option ℕ) → Result (Unit {0}) Named
fitted [] fs = Ok tt
fitted (m ∷ ms) [] = Ok tt
fitted (m ∷ ms) (f ∷ fs) = on_ok (without_place (tested m f)) (λ _. fitted ms fs)

-- the credential of a letter, of those of the six fields that it has
abbrev pub built_by : Letter → Role → List (Option ℕ) → Result Credential Named
built_by Letters.Member h fs = on_ok (entity_in (slice_index_or fs 2 None)) (λ d. Ok (Member h d))
built_by Letters.Inclusion h fs = on_ok (role_in (slice_index_or fs 2 None) (slice_index_or fs 3 None)) (λ f. Ok (Inclusion h f))
built_by Letters.Linked h fs = on_ok (role_name_in (slice_index_or fs 3 None)) (λ s. on_ok (role_name_in (slice_index_or fs 5 None)) (λ t. Ok (Linked h s t)))
built_by Letters.Intersection h fs = on_ok (role_in (slice_index_or fs 2 None) (slice_index_or fs 3 None)) (λ f. on_ok (role_in (slice_index_or fs 4 None) (slice_index_or fs 5 None)) (λ g. Ok (Intersection h f g)))
built_by Letters.Exclusion h fs = on_ok (role_in (slice_index_or fs 2 None) (slice_index_or fs 3 None)) (λ f. on_ok (role_in (slice_index_or fs 4 None) (slice_index_or fs 5 None)) (λ g. Ok (Exclusion h f g)))

abbrev pub built_of : Letter → List (Option ℕ) → Result Credential Named
built_of l fs = on_ok (role_in (slice_index_or fs 0 None) (slice_index_or fs 1 None)) (λ h. built_by l h fs)

-- the credential of a letter and six fields, or the refusal
abbrev pub credential_of : Letter → List (Option ℕ) → Result Credential Named
credential_of l fs = on_ok (fitted (marks_of l) fs) (λ _. built_of l fs)
