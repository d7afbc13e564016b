-- A line: as it is read, and as it is written.
use Rattle.std.specs.Prelude.{ℕ, zero, suc, ◌+◌, ◌*◌, cond, List, [], ◌∷◌, ◌++◌, length, Ok, Err, Option, Result, ◌==◌, slice_index, slice_index_or}
use Rattle.std.specs.Option.{ok_or}
use Rattle.credential.specs.declared.credentials.Credential.{Credential}
use Rattle.credential.specs.declared.letters.Letter.{Letter}
use Rattle.credential.specs.declared.letters.Mark.{Mark}
use Rattle.credential.specs.declared.letters.Mark.TheVariants.{Entity as E}
use Rattle.credential.specs.Refusals.{Named, refused_at, on_ok}
use Rattle.credential.specs.Letters.{letter_byte, letter_in, marks_of}
use Rattle.credential.specs.Credentials.{letter_of, fields_of, credential_of}
use Rattle.page.specs.Fields.{field_at, value_of, field_text}

-- the n answers of f from place k on, or the first refusal among them
unfoldable pub collected : {X : Type 0} → ℕ → (ℕ → Result X Named) → ℕ → Result (List X) Named
collected zero f k = Ok []
collected (suc n) f k = on_ok (f k) (λ x. on_ok (collected n f (k + 1)) (λ xs. Ok (x ∷ xs)))

-- a letter by its byte
abbrev pub read_letter : ℕ → ℕ → Result Letter Named
read_letter b line = ok_or (letter_in b) (refused_at 3 line 1)

-- what stands in field k, from 0, under a row of marks
abbrev pub read_field : List Mark → List ℕ → ℕ → ℕ → Result (Option ℕ) Named
read_field ms text line k = value_of (slice_index_or ms k E) (field_at text k) line (3 * k + 2)

-- what stands in the six fields
abbrev pub read_fields : List Mark → List ℕ → ℕ → Result (List (Option ℕ)) Named
read_fields ms text line = collected 6 (read_field ms text line) 0

-- the credential of a line, or of what is left of the page where that is shorter
abbrev pub read_line : List ℕ → ℕ → Result Credential Named
read_line text line =
    cond (length text == 20)
    (cond (slice_index text 19 == 10)
    (on_ok (read_letter (slice_index text 0) line) (λ l. on_ok (read_fields (marks_of l) text line) (λ fs. credential_of l fs)))
    (Err (refused_at 2 line 20)))
    (Err (refused_at 2 line 20))

-- fields as they are written
unfoldable pub fields_text : List Mark → List (Option ℕ) → List ℕ
fields_text [] vs = []
fields_text (m ∷ ms) [] = []
fields_text (m ∷ ms) (v ∷ vs) = field_text m v ++ fields_text ms vs

-- a credential as its line
abbrev pub line_of : Credential → List ℕ
line_of c = letter_byte (letter_of c) ∷ (fields_text (marks_of (letter_of c)) (fields_of c) ++ (10 ∷ []))
