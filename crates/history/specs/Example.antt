-- A worked history: refusals, a certificate, two offers, one drawn and one declined, and the statement after them.
use Rattle.std.specs.Prelude.{◌≡◌, ℕ, T, List, [], ◌∷◌, ◌++◌, Ok, codes, nat_le}
use Rattle.std.proofs.Common.{lit≤}
use Rattle.credential.specs.declared.credentials.Credential.{Credential}
use Rattle.credential.specs.declared.credentials.Credential.TheVariants.{Member, Exclusion}
use Rattle.credential.specs.declared.memberships.Membership.{Membership}
use Rattle.credential.specs.Numbers.{Entity}
use Rattle.credential.specs.declared.roles.Role.{Role}
use Rattle.credential.specs.Refusals.{refused as by}
use Rattle.model.specs.Tables.{Table}
use Rattle.evaluator.specs.Evaluations.{Evaluated}
use Rattle.history.specs.Events.{Making, Slip, History, certifying, withdraw, offer, hand_back, certified, offered, drawn, declined, refused}
use Rattle.history.specs.Law.{Conforms}
use Rattle.history.specs.Statement.{units, statement_by}

-- an entity, and a role of the entity 1
abbrev pub entity : (k : ℕ) → T (nat_le 1 k) → T (nat_le k 32) → Entity
entity k low high = record { number = k; low = lit≤ {m = 1} {n = k} low; high = lit≤ {m = k} {n = 32} high }

abbrev pub role : (k : ℕ) → T (nat_le 1 k) → T (nat_le k 16) → Role
role k low high = record { owner = entity 1 tt tt; name = record { number = k; low = lit≤ {m = 1} {n = k} low; high = lit≤ {m = k} {n = 16} high } }

-- `1.3 <- 1.1 - 1.2`, `1.1 <- 2`, `1.1 <- 3` and `1.2 <- 2`
abbrev pub page : List Credential
page =
    Exclusion (role 3 tt tt) (role 1 tt tt) (role 2 tt tt)
    ∷ Member (role 1 tt tt) (entity 2 tt tt)
    ∷ Member (role 1 tt tt) (entity 3 tt tt)
    ∷ Member (role 2 tt tt) (entity 2 tt tt)
    ∷ []

-- a vault with the number 7
abbrev pub made : Making
made =
    record {
      kind = certifying;
      vault = 7;
      capacity = 192;
      list = page;
      numbered = lit≤ {m = 7} {n = 65535} tt;
      some_room = lit≤ {m = 1} {n = 192} tt;
      most_room = lit≤ {m = 192} {n = 192} tt;
      fits = lit≤ {m = 4} {n = 192} tt;
    }

-- its slips
abbrev pub slip : ℕ → Slip
slip n = record { vault = 7; serial = n }

-- the entity 3 in 1.3
abbrev pub member : Membership
member = record { role = role 3 tt tt; member = entity 3 tt tt }

-- the latest first; the table b was filled with t, in n rounds
abbrev pub happened : Table → Table → ℕ → History
happened b t n =
    refused (hand_back (slip 2)) (by 21)
    ∷ declined (slip 2)
    ∷ offered member (slip 2)
    ∷ drawn (slip 1) (slip 1)
    ∷ offered member (slip 1)
    ∷ certified b t n
    ∷ refused (offer 1 3 33) (by 5)
    ∷ refused (offer 1 3 3) (by 16)
    ∷ refused (withdraw 5) (by 8)
    ∷ []

-- with what evaluate answers over the page, that history conforms, and its statement has these two lines
abbrev pub Example : Type 0
Example =
    (b t : Table) (n : ℕ)
    → Evaluated page b (Ok n) t
    → Conforms made (happened b t n)
    × (statement_by units (happened b t n) ≡ codes "  3      2      1      0      1      1" ++ (10 ∷ (codes "         2      1      0      1      1" ++ (10 ∷ []))))
