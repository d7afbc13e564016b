-- The refusals: for each case its number, together with the values that it names.
use Rattle.std.specs.Prelude.{ℕ, ◌-◌, List, [], ◌∷◌, Some, None, Ok, Err, codes, Option, Result, slice_index_or}
use Rattle.credential.specs.declared.refusals.Refusal.{Refusal}
use Rattle.credential.specs.declared.refusals.Refusal.TheVariants.{PageTooLong, LineUnended, UnknownLetter, FieldForm, FieldRange, Form, Range, AlreadyStands, RegisterFull, NoSuchPlace, BufferTooShort, WrongLength, EntryUnlawful, TrueUnproved, FalseUnrefuted, UndefinedProved, UndefinedUnsupported, NoCertificate, MembershipFalse, MembershipUndefined, BookFull, OffersSpent, SlipUnknown}

-- a refusal by its number and what it names: nothing, a line and a column of a page, or a place of a table
pub data Named : Type 0 where
  refused : (number : ℕ) → Named
  refused_at : (number line column : ℕ) → Named
  refused_entry : (number place : ℕ) → Named

abbrev pub named : Refusal → Named
named PageTooLong = refused_at 1 0 0
named (LineUnended line) = refused_at 2 line 20
named (UnknownLetter line) = refused_at 3 line 1
named (FieldForm line column) = refused_at 4 line column
named (FieldRange line column) = refused_at 5 line column
named Form = refused 4
named Range = refused 5
named AlreadyStands = refused 6
named RegisterFull = refused 7
named NoSuchPlace = refused 8
named BufferTooShort = refused 9
named WrongLength = refused 10
named (EntryUnlawful place) = refused_entry 11 place
named (TrueUnproved place) = refused_entry 12 place
named (FalseUnrefuted place) = refused_entry 13 place
named (UndefinedProved place) = refused_entry 14 place
named (UndefinedUnsupported place) = refused_entry 15 place
named NoCertificate = refused 16
named MembershipFalse = refused 17
named MembershipUndefined = refused 18
named BookFull = refused 19
named OffersSpent = refused 20
named SlipUnknown = refused 21

-- what a call answered: its value, seen as f sees it, or its refusal with what that names
abbrev pub answer : {T U : Type 0} → (T → U) → Result T Refusal → Result U Named
answer f (Ok x) = Ok (f x)
answer f (Err e) = Err (named e)

abbrev pub answered : {T : Type 0} → Result T Refusal → Result T Named
answered r = answer (λ x. x) r

-- go on with what was answered, or stop at a refusal
abbrev pub on_ok : {A B E : Type 0} → Result A E → (A → Result B E) → Result B E
on_ok (Ok x) f = f x
on_ok (Err e) f = Err e

-- its number alone
abbrev pub number_in : Named → ℕ
number_in (refused n) = n
number_in (refused_at n line column) = n
number_in (refused_entry n place) = n

-- the line and the column that it names, if it names them
abbrev pub position_in : Named → Option (ℕ × ℕ)
position_in (refused n) = None
position_in (refused_at n line column) = Some (line, column)
position_in (refused_entry n place) = None

-- the place of the entry that it names, if it names one
abbrev pub entry_in : Named → Option ℕ
entry_in (refused n) = None
entry_in (refused_at n line column) = None
entry_in (refused_entry n place) = Some place

-- the conditions in words, by rising number
abbrev pub words : List (List ℕ)
words =
    codes "the page has more than 5120 bytes"
    ∷ codes "column 20 of the line is missing or is not a newline"
    ∷ codes "the letter is none of M, I, L, N and X"
    ∷ codes "a field is blank where a number belongs, filled where a blank belongs, or of unlawful form"
    ∷ codes "a number is outside the range of its field"
    ∷ codes "the credential already stands"
    ∷ codes "the register is full"
    ∷ codes "no credential stands at the place"
    ∷ codes "the buffer has fewer than 20 bytes for each credential"
    ∷ codes "a table does not have 16384 entries, or the statement's buffer has fewer than 663 bytes"
    ∷ codes "the entry has another verdict than T, F and U, or a number outside 1 to 16384"
    ∷ codes "the T entry lacks its clause"
    ∷ codes "the F entry has a clause without what F needs"
    ∷ codes "the U entry has a clause that is all true"
    ∷ codes "the U entry lacks its supporting clause"
    ∷ codes "no certificate stands"
    ∷ codes "the membership is false"
    ∷ codes "the membership is undefined"
    ∷ codes "the book has 256 open leases"
    ∷ codes "the vault has given 999999 offers"
    ∷ codes "the slip has another vault number, or its lease is not open in the state that the call needs"
    ∷ []

-- its condition in words
abbrev pub words_in : Named → List ℕ
words_in e = slice_index_or words (number_in e - 1) []
