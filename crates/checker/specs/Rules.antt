-- The tests of an entry, as the code asks them: whether some ground clause passes.
use Rattle.std.specs.Prelude.{ℕ, Bool, cond, not, ◌&&◌, ◌||◌, List, length, Some, None, Option, Ok, Err, Result, ◌==◌, nat_le, nat_lt, position, slice_index}
use Rattle.std.specs.List.{zip}
use Rattle.credential.specs.Memberships.{place}
use Rattle.credential.specs.Refusals.{Named, refused, refused_entry}
use Rattle.credential.specs.declared.memberships.Membership.{Membership}
use Rattle.credential.specs.declared.credentials.Credential.{Credential}
use Rattle.model.specs.Grounds.{any, clauses, passes}
use Rattle.model.specs.Tables.{Table, table}
use Rattle.model.specs.Verdicts.{byte_of}
use Rattle.model.specs.declared.verdicts.Verdict.TheVariants.{True, False, Undefined}
use Rattle.checker.specs.declared.literals.Sign.{Sign}
use Rattle.checker.specs.declared.literals.Sign.TheVariants.{Positive, Negated}
use Rattle.checker.specs.declared.wants.Want.{Want}
use Rattle.checker.specs.declared.wants.Want.TheVariants.{Proved, Unrefuted, AllTrue, Possible}

-- one of the three verdicts, and a number in range
abbrev pub lawful : ℕ → ℕ → Bool
lawful v n = (v == byte_of True || (v == byte_of False || v == byte_of Undefined)) && (nat_le 1 n && nat_le n 16384)

abbrev pub lawful_at : List ℕ → List ℕ → ℕ → Bool
lawful_at vs ms p = lawful (slice_index vs p) (slice_index ms p)

-- the first place whose entry is not lawful
abbrev pub first_unlawful : List ℕ → List ℕ → Option ℕ
first_unlawful vs ms = position (λ e. not (lawful e.0 e.1)) (zip vs ms)

-- the tables, or the refusal of the first entry that is not lawful
abbrev pub unless_unlawful : Table → Option ℕ → Result Table Named
unless_unlawful t (Some p) = Err (refused_entry 11 p)
unless_unlawful t None = Ok t

-- the tables in two lists, or the refusal of another length
abbrev pub tables_in : List ℕ → List ℕ → Result Table Named
tables_in vs ms =
    cond (length vs == 16384) (cond (length ms == 16384) (unless_unlawful (table vs ms) (first_unlawful vs ms)) (Err (refused 10))) (Err (refused 10))

-- whether a literal of the sign with the entry v, m passes at number n
abbrev pub literal_ok : Sign → Want → ℕ → ℕ → ℕ → Bool
literal_ok Positive Proved n v m = v == byte_of True && nat_lt m n
literal_ok Positive Unrefuted n v m = not (v == byte_of False && nat_le m n)
literal_ok Positive AllTrue n v m = v == byte_of True
literal_ok Positive Possible n v m = v == byte_of True || (v == byte_of Undefined && nat_lt m n)
literal_ok Negated Proved n v m = v == byte_of False && nat_lt m n
literal_ok Negated Unrefuted n v m = not (v == byte_of True && nat_lt m n)
literal_ok Negated AllTrue n v m = v == byte_of False
literal_ok Negated Possible n v m = not (v == byte_of True)

-- the entry at a place passes as a literal of the sign
abbrev pub literal_at : Sign → Want → ℕ → List ℕ → List ℕ → ℕ → Bool
literal_at s w n vs ms p = literal_ok s w n (slice_index vs p) (slice_index ms p)

-- some ground clause that the credential gives of the membership passes
abbrev pub serves : Want → ℕ → List ℕ → List ℕ → Membership → Credential → Bool
serves w n vs ms m c = any (passes (literal_at Positive w n vs ms) (literal_at Negated w n vs ms)) (clauses c m.role.owner.number m.role.name.number m.member.number)

-- some ground clause of the membership passes, at the number of its entry
unfoldable pub asked : Want → List Credential → List ℕ → List ℕ → Membership → Bool
asked w cs vs ms m = any (serves w (slice_index ms (place m)) vs ms m) cs

-- the entry meets its rule, or the refusal
abbrev pub entry_refusal : List Credential → List ℕ → List ℕ → Membership → Result (Unit {0}) Named
entry_refusal cs vs ms m =
    cond (slice_index vs (place m) == byte_of True) (cond (asked Proved cs vs ms m) (Ok tt) (Err (refused_entry 12 (place m))))
    (cond (slice_index vs (place m) == byte_of False) (cond (asked Unrefuted cs vs ms m) (Err (refused_entry 13 (place m))) (Ok tt))
    (cond (asked AllTrue cs vs ms m) (Err (refused_entry 14 (place m)))
    (cond (asked Possible cs vs ms m) (Ok tt) (Err (refused_entry 15 (place m))))))
