-- The law: when a call is taken and what it then gives, and by which refusal it is refused.
use Rattle.std.specs.Prelude.{◌≡◌, ℕ, suc, ◌<◌, ◌≤◌, List, [], ◌∷◌, length, Ok, Err}
use Rattle.std.proofs.Math.Option.{Option, none, some}
use Rattle.credential.specs.declared.credentials.Credential.{Credential}
use Rattle.credential.specs.declared.memberships.Membership.{Membership}
use Rattle.credential.specs.Refusals.{Named, refused}
use Rattle.model.specs.Clauses.{Among}
use Rattle.model.specs.Tables.{Table, IsT, IsF, IsU}
use Rattle.checker.specs.Checks.{Checked}
use Rattle.evaluator.specs.Evaluations.{Evaluated}
use Rattle.history.specs.Events.{Making, Slip, Call, Event, History, publish, withdraw, certify, adopt, offer, draw, decline, hand_back, published, withdrawn, certified, adopted, offered, drawn, declined, handed_back, refused as was-refused, call, asked, HasCall}
use Rattle.history.specs.Words.{standing, certificate, open_leases, offers_given, IsOffered, IsHeld}

-- the numbers are those of a membership
abbrev pub InRange : ℕ → ℕ → ℕ → Type 0
InRange a r d = ((1 ≤ a) × (a ≤ 32)) × ((1 ≤ r) × (r ≤ 16)) × ((1 ≤ d) × (d ≤ 32))

-- the facts that a call is judged by
pub record Facts : Type 1 where
  pub vault : ℕ
  pub capacity : ℕ
  pub list : List Credential
  pub certificate : Option Table
  pub opens : ℕ
  pub givens : ℕ
  pub Offered : ℕ → Type 0
  pub Held : ℕ → Type 0

-- those of a history
abbrev pub facts : Making → History → Facts
facts k h =
    record {
      vault = k.vault;
      capacity = k.capacity;
      list = standing k h;
      certificate = certificate h;
      opens = open_leases h;
      givens = offers_given h;
      Offered = IsOffered h;
      Held = IsHeld h;
    }

-- the slip is this vault's and its lease is in the state that the call needs
abbrev pub Fits : Facts → (ℕ → Type 0) → Slip → Type 0
Fits f In-state s = (s.vault ≡ f.vault) × In-state s.serial

-- the certificate that stands has this verdict for the membership
abbrev pub Stands : Facts → (Table → Membership → Type 0) → Membership → Type 0
Stands f Is m = (t : Table) × (f.certificate ≡ some t) × Is t m

-- a call is refused by its condition, those before it not holding
pub data Refuses (f : Facts) : Call → Named → Type 0 where
  already_stands : {c : Credential} → Among c f.list → Refuses f (publish c) (refused 6)
  register_full : {c : Credential} → ¬ (Among c f.list) → length f.list ≡ f.capacity → Refuses f (publish c) (refused 7)
  no_such_place : {p : ℕ} → ¬ ((1 ≤ p) × (p ≤ length f.list)) → Refuses f (withdraw p) (refused 8)
  -- as evaluate answers over the standing credentials
  not_evaluated : {b : Table} {e : Named} (t : Table) → Evaluated f.list b (Err e) t → Refuses f (certify b) e
  -- as check answers over the standing credentials
  not_accepted : {t : Table} {e : Named} → Checked f.list t (Err e) → Refuses f (adopt t) e
  out_of_range : {a r d : ℕ} → ¬ (InRange a r d) → Refuses f (offer a r d) (refused 5)
  no_certificate : {a r d : ℕ} → InRange a r d → f.certificate ≡ none → Refuses f (offer a r d) (refused 16)
  is_false : {a r d : ℕ} (m : Membership) → asked m ≡ offer a r d → Stands f IsF m → Refuses f (offer a r d) (refused 17)
  is_undefined : {a r d : ℕ} (m : Membership) → asked m ≡ offer a r d → Stands f IsU m → Refuses f (offer a r d) (refused 18)
  book_full : {a r d : ℕ} (m : Membership) → asked m ≡ offer a r d → Stands f IsT m → f.opens ≡ 256 → Refuses f (offer a r d) (refused 19)
  all_given : {a r d : ℕ} (m : Membership)
      → asked m ≡ offer a r d
      → Stands f IsT m
      → f.opens < 256
      → f.givens ≡ 999999
      → Refuses f (offer a r d) (refused 20)
  not_to_draw : {s : Slip} → ¬ (Fits f f.Offered s) → Refuses f (draw s) (refused 21)
  not_to_decline : {s : Slip} → ¬ (Fits f f.Offered s) → Refuses f (decline s) (refused 21)
  not_to_hand_back : {s : Slip} → ¬ (Fits f f.Held s) → Refuses f (hand_back s) (refused 21)

-- the event was due by these facts
abbrev pub Due : Facts → Event → Type 0
Due f (published c) = (¬ (Among c f.list)) × (length f.list < f.capacity)
Due f (withdrawn p) = (1 ≤ p) × (p ≤ length f.list)
Due f (certified b t n) = Evaluated f.list b (Ok n) t
Due f (adopted t) = Checked f.list t (Ok tt)
Due f (offered m s) =
    Stands f IsT m
    × (f.opens < 256)
    × (f.givens < 999999)
    × (s ≡ record { vault = f.vault; serial = suc f.givens })
Due f (drawn s l) = Fits f f.Offered s × (l ≡ s)
Due f (declined s) = Fits f f.Offered s
Due f (handed_back s) = Fits f f.Held s
Due f (was-refused c e) = Refuses f c e

-- every event answers a call of that kind of vault, and was due when it happened
abbrev pub Conforms : Making → History → Type 0
Conforms k [] = Unit {0}
Conforms k (e ∷ h) = Conforms k h × HasCall k.kind (call e) × Due (facts k h) e
