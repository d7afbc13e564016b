-- The place of a membership in a table, and back.
use Rattle.std.specs.Prelude.{ℕ, ◌+◌, ◌-◌, ◌*◌, ◌/◌, ◌%◌, cond, Some, None, Option, nat_lt}
use Rattle.std.specs.Result.{result_ok}
use Rattle.credential.specs.declared.memberships.Membership.{Membership}
use Rattle.credential.specs.Numbers.{entity_of, role_name_of}

-- by owner, then role name, then member
abbrev pub place : Membership → ℕ
place m = ((m.role.owner.number - 1) * 16 + (m.role.name.number - 1)) * 32 + (m.member.number - 1)

abbrev pub on_some : {A B : Type 0} → Option A → (A → Option B) → Option B
on_some (Some x) f = f x
on_some None f = None

-- the membership at a place, absent past the last of the 16,384
abbrev pub membership_at : ℕ → Option Membership
membership_at p =
    cond (nat_lt p 16384)
    (on_some (result_ok (entity_of (p / 512 + 1))) (λ owner.
    on_some (result_ok (role_name_of (p / 32 % 16 + 1))) (λ name.
    on_some (result_ok (entity_of (p % 32 + 1))) (λ member. Some (record { role = record { owner = owner; name = name }; member = member })))))
    None
