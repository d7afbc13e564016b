-- Worked cases: credentials with their least certificate, and tables that are refused.
use Rattle.std.specs.Prelude.{◌≡◌, ℕ, T, List, [], ◌∷◌, ◌++◌, Ok, Err, codes, nat_le}
use Rattle.std.proofs.Common.{lit≤}
use Rattle.credential.specs.Numbers.{Entity, RoleName}
use Rattle.credential.specs.declared.roles.Role.{Role}
use Rattle.credential.specs.declared.credentials.Credential.{Credential}
use Rattle.credential.specs.declared.credentials.Credential.TheVariants.{Member, Inclusion, Exclusion}
use Rattle.credential.specs.Refusals.{refused_entry}
use Rattle.page.specs.Pages.{read_page}
use Rattle.checker.specs.Checks.{Checked}
use Rattle.model.specs.Tables.{Table, Least}
use Rattle.cases.specs.Sparse.{Row, row, whole}

infix 80 ◌·◌
-- the entity k, the role name k, and the role a.r
abbrev pub entity : (k : ℕ) → T (nat_le 1 k) → T (nat_le k 32) → Entity
entity k low high = record { number = k; low = lit≤ {m = 1} {n = k} low; high = lit≤ {m = k} {n = 32} high }

abbrev pub name : (k : ℕ) → T (nat_le 1 k) → T (nat_le k 16) → RoleName
name k low high = record { number = k; low = lit≤ {m = 1} {n = k} low; high = lit≤ {m = k} {n = 16} high }

abbrev pub e1 : Entity
e1 = entity 1 tt tt

abbrev pub e2 : Entity
e2 = entity 2 tt tt

abbrev pub e3 : Entity
e3 = entity 3 tt tt

abbrev pub e4 : Entity
e4 = entity 4 tt tt

abbrev pub e5 : Entity
e5 = entity 5 tt tt

abbrev pub r1 : RoleName
r1 = name 1 tt tt

abbrev pub r2 : RoleName
r2 = name 2 tt tt

abbrev pub r3 : RoleName
r3 = name 3 tt tt

abbrev pub ◌·◌ : Entity → RoleName → Role
a · r = record { owner = a; name = r }

-- what is asked: that the table is the least certificate, or that it is refused with a number at a place
pub data Expected : Type 0 where
  is_least : Expected
  is_refused : (number place : ℕ) → Expected

-- credentials, and the entries of a table other than F 1
pub record Case : Type 0 where
  pub creds : List Credential
  pub rows : List Row
  pub expected : Expected

-- two roles that each exclude the other, and one that excludes itself
abbrev pub circle : List Credential
circle = Exclusion (e1 · r1) (e2 · r1) (e3 · r1) ∷ Exclusion (e3 · r1) (e2 · r1) (e1 · r1) ∷ Member (e2 · r1) e4 ∷ []

-- the first as a page
abbrev pub circle_page : List ℕ
circle_page = codes "X  1  1  2  1  3  1" ++ (10 ∷ (codes "X  3  1  2  1  1  1" ++ (10 ∷ (codes "M  2  1  4         " ++ (10 ∷ [])))))

abbrev pub self_excluding : List Credential
self_excluding = Exclusion (e1 · r1) (e1 · r2) (e1 · r1) ∷ Member (e1 · r2) e5 ∷ Inclusion (e1 · r3) (e1 · r1) ∷ []

abbrev pub cases : List Case
cases =
    record { creds = circle; rows = row 1 1 4 85 1 ∷ row 3 1 4 85 1 ∷ row 2 1 4 84 1 ∷ []; expected = is_least }
    ∷ record { creds = circle; rows = row 3 1 4 85 1 ∷ row 2 1 4 84 1 ∷ []; expected = is_refused 13 3 }
    ∷ record { creds = circle; rows = row 1 1 4 84 3 ∷ row 3 1 4 70 2 ∷ row 2 1 4 84 1 ∷ []; expected = is_refused 13 1027 }
    ∷ record { creds = circle; rows = row 1 1 4 84 2 ∷ row 3 1 4 70 2 ∷ row 2 1 4 84 1 ∷ []; expected = is_refused 12 3 }
    ∷ record {
      creds = Member (e1 · r1) e2 ∷ Inclusion (e1 · r1) (e2 · r1) ∷ Inclusion (e2 · r1) (e1 · r1) ∷ [];
      rows = row 1 1 2 84 1 ∷ row 2 1 2 84 2 ∷ [];
      expected = is_least;
    }
    ∷ record {
      creds = Exclusion (e1 · r3) (e1 · r1) (e1 · r2) ∷ Member (e1 · r1) e2 ∷ Member (e1 · r1) e3 ∷ Member (e1 · r2) e2 ∷ [];
      rows = row 1 1 2 84 1 ∷ row 1 1 3 84 1 ∷ row 1 2 2 84 1 ∷ row 1 3 2 70 2 ∷ row 1 3 3 84 2 ∷ [];
      expected = is_least;
    }
    ∷ record { creds = self_excluding; rows = row 1 1 5 85 1 ∷ row 1 2 5 84 1 ∷ row 1 3 5 85 2 ∷ []; expected = is_least }
    ∷ record { creds = self_excluding; rows = row 1 1 5 85 1 ∷ row 1 2 5 84 1 ∷ row 1 3 5 85 1 ∷ []; expected = is_refused 15 68 }
    ∷ []

-- the table is what the case expects
abbrev pub MeetsExpected : List Credential → Table → Expected → Type 0
MeetsExpected creds t is_least = Least creds t
MeetsExpected creds t (is_refused number place) = Checked creds t (Err (refused_entry number place))

abbrev pub AllHold : List Case → Type 0
AllHold [] = Unit {0}
AllHold (c ∷ cs) = MeetsExpected c.creds (whole c.rows) c.expected × AllHold cs

-- the page has these credentials, and every case holds
abbrev pub CasesHold : Type 0
CasesHold = (read_page circle_page ≡ Ok circle) × AllHold cases
