-- How a call changes what a vault holds, and what it is judged by there.
use Rattle.std.specs.Prelude.{◌≡◌, ℕ, suc, ◌-◌, ◌<◌, ◌↔◌, List, [], ◌∷◌, ◌++◌, take, drop, slice_index, slice_index_or, slice_set}
use Rattle.std.proofs.Math.Option.{Option, none, some}
use Rattle.credential.specs.declared.credentials.Credential.{Credential}
use Rattle.credential.specs.declared.memberships.Membership.{Membership}
use Rattle.credential.specs.Numbers.{RoleName}
use Rattle.credential.specs.Memberships.{place}
use Rattle.model.specs.Tables.{Table, table, verdict}
use Rattle.history.specs.Events.{Making, Event, History, published, withdrawn, certified, adopted, offered, drawn, declined, handed_back, refused, call, HasCall}
use Rattle.history.specs.Words.{HasItemAt, standing, certificate, Lease, open_leases, offers_given, IsOffered, IsHeld}
use Rattle.history.specs.Law.{Facts, facts, Due}
use Rattle.history.specs.Contents.{Entry, is_free, is_offered, is_held, Figures, Contents, in_book, one_more, Keeps}

-- the contents with another list and other verdicts; with other figures and another book
abbrev pub relisted : List Credential → Option (List ℕ) → Contents → Contents
relisted cs vs v = record { kind = v.kind; number = v.number; capacity = v.capacity; list = cs; kept = vs; figures = v.figures; book = v.book }

abbrev pub rebooked : Figures → List Entry → Contents → Contents
rebooked f es v = record { kind = v.kind; number = v.number; capacity = v.capacity; list = v.list; kept = v.kept; figures = f; book = es }

-- one more offer given, declined, or lease handed back, for a role name
abbrev pub one_given : RoleName → Figures → Figures
one_given r f = record { total = suc f.total; givens = one_more r f.givens; declineds = f.declineds; handed_backs = f.handed_backs }

abbrev pub one_declined : RoleName → Figures → Figures
one_declined r f = record { total = f.total; givens = f.givens; declineds = one_more r f.declineds; handed_backs = f.handed_backs }

abbrev pub one_handed_back : RoleName → Figures → Figures
one_handed_back r f = record { total = f.total; givens = f.givens; declineds = f.declineds; handed_backs = one_more r f.handed_backs }

-- the first free record
abbrev pub FirstFree : List Entry → ℕ → Type 0
FirstFree es i = HasItemAt es i is_free × ((j : ℕ) (d : Entry) → j < i → ¬ (slice_index_or es j d ≡ is_free))

-- the record of the lease with a serial, in a state
abbrev pub RecordOf : (Lease → Entry) → List Entry → ℕ → ℕ → Lease → Type 0
RecordOf state es n i l = HasItemAt es i (state l) × (l.serial ≡ n)

-- the contents after an event
abbrev pub After : Contents → Event → Contents → Type 0
After v (published c) w = w ≡ relisted (v.list ++ c ∷ []) none v
After v (withdrawn p) w = w ≡ relisted (take (p - 1) v.list ++ drop p v.list) none v
After v (certified b t n) w = w ≡ relisted v.list (some t.verdicts) v
After v (adopted t) w = w ≡ relisted v.list (some t.verdicts) v
After v (offered m s) w =
    (i : ℕ)
    × FirstFree v.book i
    × (w ≡ rebooked (one_given m.role.name v.figures) (slice_set v.book i (is_offered (record { serial = s.serial; membership = m }))) v)
After v (drawn s l) w =
    (i : ℕ) × (x : Lease) × RecordOf is_offered v.book s.serial i x × (w ≡ rebooked v.figures (slice_set v.book i (is_held x)) v)
After v (declined s) w =
    (i : ℕ)
    × (x : Lease)
    × RecordOf is_offered v.book s.serial i x
    × (w ≡ rebooked (one_declined x.membership.role.name v.figures) (slice_set v.book i is_free) v)
After v (handed_back s) w =
    (i : ℕ)
    × (x : Lease)
    × RecordOf is_held v.book s.serial i x
    × (w ≡ rebooked (one_handed_back x.membership.role.name v.figures) (slice_set v.book i is_free) v)
After v (refused c e) w = w ≡ v

-- a call of the vault that was due, and after which the contents are these, keeps the agreement
abbrev pub CallsKeep : Type 0
CallsKeep =
    (k : Making) (h : History) (v w : Contents) (e : Event)
    → Keeps k h v
    → HasCall k.kind (call e)
    → Due (facts k h) e
    → After v e w
    → Keeps k (e ∷ h) w

-- what the contents say of the words that the law judges by
pub record Says (k : Making) (h : History) (v : Contents) : Type 0 where
  pub list : standing k h ≡ v.list
  pub none_stands : v.kept ≡ none → certificate h ≡ none
  pub one_stands : (vs : List ℕ) → v.kept ≡ some vs → (t : Table) × (certificate h ≡ some t) × ((m : Membership) → verdict t m ≡ slice_index vs (place m))
  pub count_open : open_leases h ≡ in_book (λ l b. 1) v.book
  pub count_given : offers_given h ≡ v.figures.total
  pub offered_ones : (n : ℕ) → IsOffered h n ↔ ((i : ℕ) × (l : Lease) × RecordOf is_offered v.book n i l)
  pub held_ones : (n : ℕ) → IsHeld h n ↔ ((i : ℕ) × (l : Lease) × RecordOf is_held v.book n i l)
  pub free_one : open_leases h < 256 → (i : ℕ) × FirstFree v.book i

-- contents that agree with a history say its words
abbrev pub ContentsSay : Type 0
ContentsSay = (k : Making) (h : History) (v : Contents) → Keeps k h v → Says k h v

-- a certificate of which the verdicts alone are kept
abbrev pub certificate_of : Option (List ℕ) → Option Table
certificate_of none = none
certificate_of (some vs) = some (table vs [])

-- the facts as the contents show them
abbrev pub seen : Contents → Facts
seen v =
    record {
      vault = v.number;
      capacity = v.capacity;
      list = v.list;
      certificate = certificate_of v.kept;
      opens = in_book (λ l b. 1) v.book;
      givens = v.figures.total;
      Offered = λ n. (i : ℕ) × (l : Lease) × RecordOf is_offered v.book n i l;
      Held = λ n. (i : ℕ) × (l : Lease) × RecordOf is_held v.book n i l;
    }

-- one more event of every history that the contents kept
abbrev pub Stepped : Contents → Event → Contents → Type 0
Stepped v e w = (k : Making) (h : History) → Keeps k h v → Keeps k (e ∷ h) w

-- a call that was due by what the vault held is such a step
abbrev pub StepsKeep : Type 0
StepsKeep = (v w : Contents) (e : Event) → HasCall v.kind (call e) → Due (seen v) e → After v e w → Stepped v e w
