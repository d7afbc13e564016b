-- What a check answers.
use Rattle.std.specs.Prelude.{◌≡◌, ℕ, ◌<◌, ◌≤◌, ◌⊎◌, List, Ok, Err, Result}
use Rattle.credential.specs.Memberships.{place}
use Rattle.credential.specs.Refusals.{Named, refused, refused_at, refused_entry}
use Rattle.credential.specs.declared.memberships.Membership.{Membership}
use Rattle.credential.specs.declared.credentials.Credential.{Credential}
use Rattle.model.specs.Tables.{Table, Sized, Lawful, IsT, IsF, IsU, TClause, FClauses, NoTrueClause, UClause, verdict, number, Certifies, Least}
use Rattle.model.specs.Theorems.{ShowsTheModel, SameMembers}

-- the first unlawful entry is at p
pub record Unlawful (t : Table) (p : ℕ) : Type 0 where
  pub sizes : Sized t
  pub before : (m : Membership) → place m < p → Lawful t m
  pub there : (m : Membership) × (place m ≡ p) × ¬ (Lawful t m)

module _ (creds : List Credential) (t : Table) where
  -- the entry meets its rule
  pub record Meets (m : Membership) : Type 0 where
    pub if_T : IsT t m → TClause creds t m
    pub if_F : IsF t m → FClauses creds t m
    pub if_U : IsU t m → NoTrueClause creds t m × UClause creds t m

  -- the entry breaks the rule with this number; a U is asked for 14 first
  abbrev pub Breaks : ℕ → Membership → Type 0
  Breaks n m =
      ((n ≡ 12) × IsT t m × ¬ (TClause creds t m))
      ⊎ (((n ≡ 13) × IsF t m × ¬ (FClauses creds t m))
      ⊎ (((n ≡ 14) × IsU t m × ¬ (NoTrueClause creds t m))
      ⊎ ((n ≡ 15) × IsU t m × NoTrueClause creds t m × ¬ (UClause creds t m))))

  -- all entries are lawful, and the first that breaks a rule is at p, with the number n
  pub record Broken (n p : ℕ) : Type 0 where
    pub sizes : Sized t
    pub lawful : (m : Membership) → Lawful t m
    pub before : (m : Membership) → place m < p → Meets m
    pub there : (m : Membership) × (place m ≡ p) × Breaks n m

-- what each answer says of the table
abbrev pub Checked : List Credential → Table → Result (Unit {0}) Named → Type 0
Checked creds t (Ok u) = Certifies creds t
Checked creds t (Err (refused n)) = (n ≡ 10) × ¬ (Sized t)
Checked creds t (Err (refused_at n line column)) = ⊥
Checked creds t (Err (refused_entry n p)) = ((n ≡ 11) × Unlawful t p) ⊎ Broken creds t n p

-- a table has one answer, and the same for the same credentials in another order
abbrev pub OneAnswer : Type 0
OneAnswer = (creds : List Credential) (t : Table) (r s : Result (Unit {0}) Named) → Checked creds t r → Checked creds t s → r ≡ s

abbrev pub SameAnswer : List Credential → Table → Result (Unit {0}) Named → Type 0
SameAnswer creds t r = (others : List Credential) → SameMembers creds others → Checked others t r

-- an accepted table has the model's verdict at every place, and no number below the least certificate's
abbrev pub AcceptedIsTheModel : List Credential → Table → Result (Unit {0}) Named → Type 0
AcceptedIsTheModel creds t r =
    r ≡ Ok tt
    → ShowsTheModel creds t
    × ((least : Table) → Least creds least → (m : Membership) → (verdict t m ≡ verdict least m) × (number least m ≤ number t m))

-- every certificate is accepted, the least one among them
abbrev pub CertificatesAccepted : List Credential → Table → Result (Unit {0}) Named → Type 0
CertificatesAccepted creds t r = (Certifies creds t → r ≡ Ok tt) × (Least creds t → r ≡ Ok tt)

-- f finds nothing at any membership, or says e at the first by place where it does
abbrev pub Walked : (Membership → Result (Unit {0}) Named) → Result (Unit {0}) Named → Type 0
Walked f (Ok u) = (m : Membership) → f m ≡ Ok tt
Walked f (Err e) = (m : Membership) × (f m ≡ Err e) × ((k : Membership) → place k < place m → f k ≡ Ok tt)
