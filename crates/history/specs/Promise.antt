-- The whole promise about a vault, its history and its contents.
use Rattle.std.specs.Prelude.{◌≡◌, ℕ, ◌+◌, ◌<◌, ◌≤◌, Bool, false, ◌↔◌, List, ◌∷◌, ◌++◌}
use Rattle.std.proofs.Math.Option.{some}
use Rattle.credential.specs.declared.memberships.Membership.{Membership}
use Rattle.credential.specs.Refusals.{refused as by}
use Rattle.model.specs.Stages.{IsModelTrue, IsModelFalse, IsModelUndefined}
use Rattle.model.specs.Tables.{Table, number}
use Rattle.model.specs.Theorems.{ShowsTheModel, SameMembers}
use Rattle.history.specs.Events.{Making, Event, History, adopt, certified, adopted, refused, call, asked, Taken, HasCall}
use Rattle.history.specs.Words.{HasItemAt, standing, certificate, Lease, leases, ended, held, open_leases, offers_given, given, declined_of, handed_back_of}
use Rattle.history.specs.Law.{facts, Due, Conforms}
use Rattle.history.specs.Contents.{Contents, record_of, in_book, Keeps}
use Rattle.history.specs.Statement.{statement, statement_by}

-- g is what had happened at some time
abbrev pub Past : History → History → Type 0
Past g h = (since : History) × (since ++ g ≡ h)

-- the lease was given and has not ended, and it is held or not
abbrev pub OpenLease : History → Lease → Bool → Type 0
OpenLease h l s = ((i : ℕ) × HasItemAt (leases h) i l) × (ended h l.serial ≡ false) × (held h l.serial ≡ s)

-- what holds of a vault with this making, this history and these contents
pub record Promise (k : Making) (h : History) (v : Contents) : Type 0 where
  -- every call was answered as the conditions say, judged by the making, the calls before it and what it brought, and no other answer was due
  pub answers_due : (g : History) (e f : Event) → Past (e ∷ g) h → HasCall k.kind (call e) × Due (facts k g) e × (Due (facts k g) f → call f ≡ call e → f ≡ e)
  -- while a certificate stood, an offer within the limits was taken exactly when the model of the credentials then standing made the membership true
  pub offers_follow : (g : History) (e : Event) (m : Membership) (t : Table)
      → Past (e ∷ g) h
      → call e ≡ asked m
      → certificate g ≡ some t
      → open_leases g < 256
      → offers_given g < 999999
      → Taken e ↔ IsModelTrue (standing k g) m
  -- and it was refused by 17 exactly when that model made the membership false, and by 18 exactly when it left it undefined
  pub refusals_follow : (g : History) (e : Event) (m : Membership) (t : Table)
      → Past (e ∷ g) h
      → call e ≡ asked m
      → certificate g ≡ some t
      → ((e ≡ refused (asked m) (by 17)) ↔ IsModelFalse (standing k g) m)
      × ((e ≡ refused (asked m) (by 18)) ↔ IsModelUndefined (standing k g) m)
  -- an accepted table had that model's verdict at every place
  pub filled_show_the_model : (g : History) (b t : Table) (n : ℕ) → Past (certified b t n ∷ g) h → ShowsTheModel (standing k g) t
  pub adopted_show_the_model : (g : History) (t : Table) → Past (adopted t ∷ g) h → ShowsTheModel (standing k g) t
  -- for any weight of a lease, what was given is what was declined, what was handed back and what is open in the book; `for r` counts the leases of a role name
  pub leases_conserved : (w : Lease → ℕ) → given w h ≡ declined_of w h + handed_back_of w h + in_book (λ l b. w l) v.book
  -- a lease is open by the calls exactly when the book has a record of it in its state, and no serial has two
  pub leases_recorded : (l : Lease) (s : Bool) → OpenLease h l s ↔ ((i : ℕ) × HasItemAt v.book i (record_of s l))
  pub recorded_once : (i j : ℕ) (l m : Lease) (s t : Bool)
      → HasItemAt v.book i (record_of s l)
      → HasItemAt v.book j (record_of t m)
      → l.serial ≡ m.serial
      → i ≡ j
  -- the statement's figures are those of the calls
  pub statement_due : (units : List ℕ) → statement units v ≡ statement_by units h

-- contents that agree with a history meet the promise
abbrev pub PromiseMet : Type 0
PromiseMet = (k : Making) (h : History) (v : Contents) → Keeps k h v → Promise k h v

-- between two vaults: where a certify taken in the one and a call of the other found the same credentials, the other accepts the table filled, and what it accepts has numbers at least as large
abbrev pub VaultsAgree : Making → History → Making → History → Type 0
VaultsAgree k g l h =
    (i j : History) (b t : Table) (n : ℕ) (e : Event)
    → Past (certified b t n ∷ i) g
    → Past (e ∷ j) h
    → SameMembers (standing k i) (standing l j)
    → (call e ≡ adopt t → e ≡ adopted t) × ((u : Table) → e ≡ adopted u → (m : Membership) → number t m ≤ number u m)

-- any two histories that conform agree so
abbrev pub AgreementMet : Type 0
AgreementMet = (k l : Making) (g h : History) → Conforms k g → Conforms l h → VaultsAgree k g l h
