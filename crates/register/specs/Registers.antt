-- What a register answers, and what it holds after each call.
use Rattle.std.specs.Prelude.{ℕ, ◌-◌, ◌≤◌, Bool, false, cond, ◌&&◌, List, [], ◌∷◌, ◌++◌, length, take, drop, Ok, Err, Result, ◌==◌, nat_le}
use Rattle.std.proofs.Common.{lit≤}
use Rattle.credential.specs.declared.credentials.Credential.{Credential}
use Rattle.credential.specs.Refusals.{Named, refused}
use Rattle.register.specs.Standing.{stands}

-- a capacity is from 1 to 192
abbrev pub IsCapacity : ℕ → Type 0
IsCapacity n = (1 ≤ n) × (n ≤ 192)

pub capacity_of_records : IsCapacity 192
capacity_of_records = (lit≤ tt, lit≤ tt)

pub capacity_of_text : IsCapacity 128
capacity_of_text = (lit≤ tt, lit≤ tt)

-- a call's answer, and the list after it
pub record Outcome : Type 0 where
  pub answer : Result (Unit {0}) Named
  pub list : List Credential

-- a refusal leaves the list xs as it was; a call that is taken leaves ys
abbrev pub becoming : List Credential → List Credential → Result (Unit {0}) Named → Outcome
becoming xs ys (Ok u) = record { answer = Ok u; list = ys }
becoming xs ys (Err e) = record { answer = Err e; list = xs }

-- a credential is refused if it stands, then if the register is full
abbrev pub admitted : (standing full : Bool) → Result (Unit {0}) Named
admitted standing full = cond standing (Err (refused 6)) (cond full (Err (refused 7)) (Ok tt))

-- publishing c into a register of that capacity puts it at the end
unfoldable pub published : ℕ → List Credential → Credential → Outcome
published capacity xs c = becoming xs (xs ++ c ∷ []) (admitted (stands xs c) (length xs == capacity))

-- one more is refused if the register is full
abbrev pub roomy : (count capacity : ℕ) → Result (Unit {0}) Named
roomy count capacity = admitted false (count == capacity)

-- putting c at the end of a register of that capacity, whether it stands or not
unfoldable pub appended : ℕ → List Credential → Credential → Outcome
appended capacity xs c = becoming xs (xs ++ c ∷ []) (roomy (length xs) capacity)

-- a place is refused outside 1 to the count
abbrev pub located : (place count : ℕ) → Result (Unit {0}) Named
located place count = cond (nat_le 1 place && nat_le place count) (Ok tt) (Err (refused 8))

-- withdrawing takes out the credential at a place from 1, and keeps the order of the others
unfoldable pub withdrawn : List Credential → ℕ → Outcome
withdrawn xs p = becoming xs (take (p - 1) xs ++ drop p xs) (located p (length xs))
