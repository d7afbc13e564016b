-- The entity or role name that a number stands for, or the refusal of a number out of range.
use Rattle.std.specs.Prelude.{◌≡◌, ℕ, ◌≤◌, Bool, true, false, Ok, Err, Result, nat_le, refl}
use Rattle.std.proofs.Common.{leb-true}
use Rattle.credential.specs.declared.numbers.Number.{Number}
use Rattle.credential.specs.Refusals.{Named, refused}

-- an entity: a number from 1 to 32
abbrev pub Entity : Type 0
Entity = Number 32

-- a role name: a number from 1 to 16
abbrev pub RoleName : Type 0
RoleName = Number 16

-- what a range gives of a number, by the two tests of its bounds
abbrev pub within : {X : Type 0} (most n : ℕ) → (1 ≤ n → n ≤ most → X) → (l h : Bool) → nat_le 1 n ≡ l → nat_le n most ≡ h → Result X Named
within most n make true true p q = Ok (make (leb-true 1 n p) (leb-true n most q))
within most n make true false p q = Err (refused 5)
within most n make false true p q = Err (refused 5)
within most n make false false p q = Err (refused 5)

-- the number from 1 to a most
abbrev pub number_of : (most n : ℕ) → Result (Number most) Named
number_of most n = within most n (λ low high. record { number = n; low = low; high = high }) (nat_le 1 n) (nat_le n most) refl refl

abbrev pub entity_of : ℕ → Result Entity Named
entity_of n = number_of 32 n

abbrev pub role_name_of : ℕ → Result RoleName Named
role_name_of n = number_of 16 n
