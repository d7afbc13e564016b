-- The words of the law, each read off what happened.
use Rattle.std.specs.Prelude.{◌≡◌, ℕ, ◌+◌, ◌-◌, ◌<◌, Bool, true, false, cond, ◌||◌, List, [], ◌∷◌, ◌++◌, map, length, take, drop, ◌==◌, slice_index_or}
use Rattle.std.proofs.Math.Option.{Option, none, some}
use Rattle.credential.specs.declared.credentials.Credential.{Credential}
use Rattle.credential.specs.declared.memberships.Membership.{Membership}
use Rattle.model.specs.Tables.{Table}
use Rattle.history.specs.Events.{Making, Slip, Event, History, published, withdrawn, certified, adopted, offered, drawn, declined, handed_back, refused}

-- the sum of a weight over a list
abbrev pub total : {X : Type 0} → (X → ℕ) → List X → ℕ
total w [] = 0
total w (x ∷ xs) = w x + total w xs

-- the list has this one at a place
abbrev pub HasItemAt : {X : Type 0} → List X → ℕ → X → Type 0
HasItemAt {X} xs i x = (i < length xs) × ((d : X) → slice_index_or xs i d ≡ x)

-- 1 for yes, 0 for no
abbrev pub one_if : Bool → ℕ
one_if b = cond b 1 0

-- the number is one of the list
abbrev pub among : ℕ → List ℕ → Bool
among n [] = false
among n (x ∷ xs) = n == x || among n xs

-- one thing for a publish, a withdraw and a table accepted, and another for any other event
abbrev pub on_register : {X : Type 0} → (Credential → X) → (ℕ → X) → (Table → X) → X → Event → X
on_register f g u other (published c) = f c
on_register f g u other (withdrawn p) = g p
on_register f g u other (certified b t n) = u t
on_register f g u other (adopted t) = u t
on_register f g u other (offered m s) = other
on_register f g u other (drawn s l) = other
on_register f g u other (declined s) = other
on_register f g u other (handed_back s) = other
on_register f g u other (refused c e) = other

-- the standing credentials: the list at the making, changed by every publish and withdraw taken
abbrev pub standing : Making → History → List Credential
standing k [] = k.list
standing k (e ∷ h) = on_register (λ c. standing k h ++ c ∷ []) (λ p. take (p - 1) (standing k h) ++ drop p (standing k h)) (λ t. standing k h) (standing k h) e

-- the certificate that stands: the latest table accepted, unless a publish or withdraw was taken since
abbrev pub certificate : History → Option Table
certificate [] = none
certificate (e ∷ h) = on_register (λ c. none) (λ p. none) some (certificate h) e

-- a lease: its serial, and the membership offered
pub record Lease : Type 0 where
  pub serial : ℕ
  pub membership : Membership

-- a list with one thing more for an offer, a draw, a decline and a hand back that is taken, if any, and unchanged by any other event
abbrev pub on_lease : {X : Type 0} → (Membership → Slip → List X) → (Slip → List X) → (Slip → List X) → (Slip → List X) → Event → List X → List X
on_lease o d c b (published x) xs = xs
on_lease o d c b (withdrawn p) xs = xs
on_lease o d c b (certified y t n) xs = xs
on_lease o d c b (adopted t) xs = xs
on_lease o d c b (offered m s) xs = o m s ++ xs
on_lease o d c b (drawn s l) xs = d s ++ xs
on_lease o d c b (declined s) xs = c s ++ xs
on_lease o d c b (handed_back s) xs = b s ++ xs
on_lease o d c b (refused x e) xs = xs

-- nothing for a slip; the serial of a slip
abbrev none_of : {X : Type 0} → Slip → List X
none_of s = []

abbrev its_serial : Slip → List ℕ
its_serial s = s.serial ∷ []

-- the leases, each from the offer taken that gave its serial
abbrev pub leases : History → List Lease
leases [] = []
leases (e ∷ h) = on_lease (λ m s. record { serial = s.serial; membership = m } ∷ []) none_of none_of none_of e (leases h)

-- the serials of the draws taken, of the declines taken, of the hand backs taken
abbrev pub draws : History → List ℕ
draws [] = []
draws (e ∷ h) = on_lease (λ m s. []) its_serial none_of none_of e (draws h)

abbrev pub declines : History → List ℕ
declines [] = []
declines (e ∷ h) = on_lease (λ m s. []) none_of its_serial none_of e (declines h)

abbrev pub hand_backs : History → List ℕ
hand_backs [] = []
hand_backs (e ∷ h) = on_lease (λ m s. []) none_of none_of its_serial e (hand_backs h)

-- how many were given
abbrev pub offers_given : History → ℕ
offers_given h = length (leases h)

-- a serial's lease was ended by a decline or a hand back; it was drawn
abbrev pub ended : History → ℕ → Bool
ended h n = among n (declines h) || among n (hand_backs h)

abbrev pub held : History → ℕ → Bool
held h n = among n (draws h)

-- a lease is open from the offer that gave its serial until its end: offered until it is drawn, and held from then on
abbrev pub IsOpen : History → ℕ → Type 0
IsOpen h n = (among n (map (λ (l : Lease). l.serial) (leases h)) ≡ true) × (ended h n ≡ false)

abbrev pub IsOffered : History → ℕ → Type 0
IsOffered h n = IsOpen h n × (held h n ≡ false)

abbrev pub IsHeld : History → ℕ → Type 0
IsHeld h n = IsOpen h n × (held h n ≡ true)

-- the sum of a weight over the open leases; the weight may ask whether the lease is held
abbrev pub open_by : (Lease → Bool → ℕ) → History → ℕ
open_by w h = total (λ l. cond (ended h l.serial) 0 (w l (held h l.serial))) (leases h)

-- how many are open
abbrev pub open_leases : History → ℕ
open_leases h = open_by (λ l b. 1) h

-- the weight of the lease with a serial
abbrev pub weight_of : (Lease → ℕ) → History → ℕ → ℕ
weight_of w h n = total (λ l. cond (l.serial == n) (w l) 0) (leases h)

-- the sum of a weight over the leases given, those declined, those handed back, and those open
abbrev pub given : (Lease → ℕ) → History → ℕ
given w h = total w (leases h)

abbrev pub declined_of : (Lease → ℕ) → History → ℕ
declined_of w h = total (weight_of w h) (declines h)

abbrev pub handed_back_of : (Lease → ℕ) → History → ℕ
handed_back_of w h = total (weight_of w h) (hand_backs h)

abbrev pub open_of : (Lease → ℕ) → History → ℕ
open_of w h = open_by (λ l b. w l) h

-- 1 for the leases of the role name with this number: its weight counts them
abbrev pub for : ℕ → Lease → ℕ
for r l = one_if (l.membership.role.name.number == r)
