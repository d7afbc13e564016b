-- What holds of every history that conforms.
use Rattle.std.specs.Prelude.{◌≡◌, ℕ, zero, suc, ◌+◌, ◌<◌, ◌≤◌, ◌⊎◌, ◌↔◌, List, [], ◌∷◌, map, length, Ok, Err, Result}
use Rattle.std.proofs.Math.Option.{some}
use Rattle.credential.specs.declared.memberships.Membership.{Membership}
use Rattle.credential.specs.Refusals.{Named, refused as by, on_ok}
use Rattle.credential.specs.Numbers.{entity_of, role_name_of}
use Rattle.model.specs.Clauses.{Among}
use Rattle.model.specs.Stages.{IsModelTrue, IsModelFalse, IsModelUndefined}
use Rattle.model.specs.Tables.{Table, number, verdict}
use Rattle.model.specs.Theorems.{ShowsTheModel, SameMembers}
use Rattle.checker.specs.Checks.{Checked}
use Rattle.evaluator.specs.Evaluations.{Evaluated}
use Rattle.history.specs.Events.{Making, Call, Event, History, publish, withdraw, certify, adopt, offer, draw, decline, hand_back, certified, adopted, refused, call, asked, Taken}
use Rattle.history.specs.Words.{standing, certificate, Lease, leases, open_leases, offers_given, given, declined_of, handed_back_of, open_of}
use Rattle.history.specs.Law.{InRange, facts, Due, Conforms}

-- the membership of three plain numbers, or the refusal of one that is out of range
abbrev pub membership_of : ℕ → ℕ → ℕ → Result Membership Named
membership_of a r d =
    on_ok (entity_of a) (λ owner. on_ok (role_name_of r) (λ name. on_ok (entity_of d) (λ member. Ok (record { role = record { owner = owner; name = name }; member = member }))))

-- it is the one that the numbers ask for, and 5 is given where there is none
abbrev pub Numbered : ℕ → ℕ → ℕ → Result Membership Named → Type 0
Numbered a r d (Ok m) = asked m ≡ offer a r d
Numbered a r d (Err e) = (e ≡ by 5) × ¬ (InRange a r d)

-- plain numbers tell their membership
abbrev pub NumbersTell : Type 0
NumbersTell = (a r d : ℕ) → Numbered a r d (membership_of a r d)

-- one answer is due to a call
abbrev pub OneAnswer : Type 0
OneAnswer = (k : Making) (h : History) (e f : Event) → Due (facts k h) e → Due (facts k h) f → call e ≡ call f → e ≡ f

-- what a vault finds out for a call: whether the credential stands, what evaluate leaves and answers, what check answers
abbrev pub Found : Making → History → Call → Type 0
Found k h (publish c) = Among c (standing k h) ⊎ ¬ (Among c (standing k h))
Found k h (withdraw p) = Unit {0}
Found k h (certify b) = (r : Result ℕ Named) × (t : Table) × Evaluated (standing k h) b r t
Found k h (adopt t) = (r : Result (Unit {0}) Named) × Checked (standing k h) t r
Found k h (offer a r d) = Unit {0}
Found k h (draw s) = Unit {0}
Found k h (decline s) = Unit {0}
Found k h (hand_back s) = Unit {0}

-- an answer is due to every call
abbrev pub SomeAnswer : Type 0
SomeAnswer = (k : Making) (h : History) → Conforms k h → (c : Call) → Found k h c → (e : Event) × (call e ≡ c) × Due (facts k h) e

-- while a certificate stands, an offer within the limits is taken exactly when the model of the standing credentials makes the membership true
abbrev pub OffersFollow : Type 0
OffersFollow =
    (k : Making) (h : History) (e : Event) (m : Membership) (t : Table)
    → Conforms k (e ∷ h)
    → call e ≡ asked m
    → certificate h ≡ some t
    → open_leases h < 256
    → offers_given h < 999999
    → Taken e ↔ IsModelTrue (standing k h) m

-- and it is refused by 17 exactly when the model makes the membership false, and by 18 exactly when the model leaves it undefined, whatever the limits
abbrev pub RefusalsFollow : Type 0
RefusalsFollow =
    (k : Making) (h : History) (e : Event) (m : Membership) (t : Table)
    → Conforms k (e ∷ h)
    → call e ≡ asked m
    → certificate h ≡ some t
    → ((e ≡ refused (asked m) (by 17)) ↔ IsModelFalse (standing k h) m)
    × ((e ≡ refused (asked m) (by 18)) ↔ IsModelUndefined (standing k h) m)

-- a table accepted by either vault has the model's verdicts, and so has the certificate as long as it stands
abbrev pub TablesModel : Type 0
TablesModel =
    ((k : Making) (h : History) (b t : Table) (n : ℕ) → Conforms k (certified b t n ∷ h) → ShowsTheModel (standing k h) t)
    × ((k : Making) (h : History) (t : Table) → Conforms k (adopted t ∷ h) → ShowsTheModel (standing k h) t)
    × ((k : Making) (h : History) (t : Table) → Conforms k h → certificate h ≡ some t → ShowsTheModel (standing k h) t)

-- where the same credentials stand, a table that a certify filled is to be adopted, and any table to be adopted has numbers at least as large
abbrev pub FilledIsAdopted : Type 0
FilledIsAdopted =
    (k l : Making) (g h : History) (b t : Table) (n : ℕ)
    → Due (facts k g) (certified b t n)
    → SameMembers (standing k g) (standing l h)
    → Due (facts l h) (adopted t)
    × ((u : Table) → Due (facts l h) (adopted u) → (m : Membership) → (verdict u m ≡ verdict t m) × (number t m ≤ number u m))

-- for any weight of a lease, what was given is what was declined, what was handed back and what is open
abbrev pub Balances : Type 0
Balances =
    (k : Making) (h : History)
    → Conforms k h
    → (w : Lease → ℕ)
    → given w h ≡ declined_of w h + handed_back_of w h + open_of w h

-- n, n - 1 and so on to 1
abbrev pub falling : ℕ → List ℕ
falling zero = []
falling (suc n) = suc n ∷ falling n

-- the serials are 1 to the number of offers given, each given once
abbrev pub SerialsRise : Type 0
SerialsRise = (k : Making) (h : History) → Conforms k h → map (λ (l : Lease). l.serial) (leases h) ≡ falling (offers_given h)

-- the limits are never passed
abbrev pub LimitsKept : Type 0
LimitsKept =
    (k : Making) (h : History)
    → Conforms k h
    → (length (standing k h) ≤ k.capacity) × (open_leases h ≤ 256) × (offers_given h ≤ 999999)
