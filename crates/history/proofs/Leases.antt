-- Serials rise by one, and every lease is declined, handed back or open.
use Rattle.std.proofs.Common.{◌≡◌, ℕ, suc, ◌+◌, ◌<◌, ◌≤◌, Bool, true, false, cond, ◌||◌, eqb, List, [], ◌∷◌, map, length, sym, refl, ap, subst, ap₂, arith}
use Rattle.std.proofs.lemmas.Bool.{false≢true, eqb-true, eqb-false, eq-eqb, ne_eqb}
use Rattle.std.proofs.ByRecursion.{All-weaker}
use Rattle.std.specs.List.{AllByRecursion as All}
use Rattle.history.specs.Events.{Making, Slip, History, published, withdrawn, certified, adopted, offered, drawn, declined, handed_back, refused}
use Rattle.history.specs.Words.{total, among, Lease, leases, draws, declines, hand_backs, ended, held, IsOpen, weight_of, offers_given}
use Rattle.history.specs.Law.{Conforms}
use Rattle.history.specs.Theorems.{falling, Balances, SerialsRise}
use Rattle.history.proofs.Sums.{total_zero, total_same_all, total_balance}

abbrev pub serial-of : Lease → ℕ
serial-of l = l.serial

-- each serial is one more than the number of leases before it
abbrev Falls : List Lease → Type 0
Falls [] = Unit {0}
Falls (l ∷ ls) = (l.serial ≡ suc (length ls)) × Falls ls

falls_falling : (ls : List Lease) → Falls ls → map serial-of ls ≡ falling (length ls)
falls_falling [] f = refl
falls_falling (l ∷ ls) f = ap₂ ◌∷◌ f.0 (falls_falling ls f.1)

-- the weight of the leases with a serial
abbrev pub weighed : ℕ → (Lease → ℕ) → Lease → ℕ
weighed n w l = cond (eqb l.serial n) (w l) 0

-- no lease has a serial above the number of leases
none_above : (n : ℕ) (w : Lease → ℕ) (ls : List Lease) → Falls ls → length ls < n → total (weighed n w) ls ≡ 0
none_above n w [] f h = refl
none_above n w (l ∷ ls) f h =
    let k : l.serial ≡ n → ⊥ = omega (arith, f.0) in
    rw (ne_eqb l.serial n k) (omega (arith, none_above n w ls f.1 (omega arith)))

-- a serial that is among them has one lease, and no other
abbrev TheLease : ℕ → List Lease → Type 0
TheLease n ls = (l : Lease) × (l.serial ≡ n) × (n ≤ length ls) × ((w : Lease → ℕ) → total (weighed n w) ls ≡ w l)

pub the_lease : (n : ℕ) (ls : List Lease) → Falls ls → among n (map serial-of ls) ≡ true → TheLease n ls
the_lease n [] f e = absurd (false≢true e)
the_lease n (l ∷ ls) f e = go (eqb n l.serial) refl e (the_lease n ls f.1)
  where
    go : (b : Bool) → eqb n l.serial ≡ b → (b || among n (map serial-of ls)) ≡ true → (among n (map serial-of ls) ≡ true → TheLease n ls) → TheLease n (l ∷ ls)
    go true q e r =
        let s = eqb-true n l.serial q in (
          l,
          sym s,
          omega (arith, s, f.0),
          λ w. let z = none_above n w ls f.1 (omega (arith, s, f.0)) in rw (eq-eqb l.serial n (sym s)) (omega arith),
        )
    go false q e r =
        let i = r e in
        let k : l.serial ≡ n → ⊥ = λ s. eqb-false n l.serial q (sym s) in
        (i.0, i.1, omega (arith, i.2), λ w. rw (ne_eqb l.serial n k) (omega (arith, i.3 w)))

abbrev Within : ℕ → List ℕ → Type 0
Within b ns = All (λ x. x ≤ b) ns

-- what a history leaves in order: its leases fall, and the serials drawn, declined and handed back were given
abbrev pub Orderly : History → Type 0
Orderly h = Falls (leases h) × Within (offers_given h) (draws h) × Within (offers_given h) (declines h) × Within (offers_given h) (hand_backs h)

wider : (b : ℕ) (ns : List ℕ) → Within b ns → Within (suc b) ns
wider b ns a = All-weaker (λ x. x ≤ b) (λ x. x ≤ suc b) (λ x l. omega arith) ns a

was_given : (h : History) → Orderly h → (n : ℕ) → IsOpen h n → n ≤ offers_given h
was_given h o n i = (the_lease n (leases h) o.0 i.0).2

pub orderly : (k : Making) (h : History) → Conforms k h → Orderly h
orderly k [] c = (tt, tt, tt, tt)
orderly k (published x ∷ h) c = orderly k h c.0
orderly k (withdrawn p ∷ h) c = orderly k h c.0
orderly k (certified b t n ∷ h) c = orderly k h c.0
orderly k (adopted t ∷ h) c = orderly k h c.0
orderly k (refused x e ∷ h) c = orderly k h c.0
orderly k (offered m s ∷ h) c =
    let o = orderly k h c.0 in (
      (ap (λ (x : Slip). x.serial) c.2.3, o.0),
      wider (offers_given h) (draws h) o.1,
      wider (offers_given h) (declines h) o.2,
      wider (offers_given h) (hand_backs h) o.3,
    )
orderly k (drawn s l ∷ h) c = let o = orderly k h c.0 in (o.0, (was_given h o s.serial c.2.0.1.0, o.1), o.2, o.3)
orderly k (declined s ∷ h) c = let o = orderly k h c.0 in (o.0, o.1, (was_given h o s.serial c.2.1.0, o.2), o.3)
orderly k (handed_back s ∷ h) c = let o = orderly k h c.0 in (o.0, o.1, o.2, (was_given h o s.serial c.2.1.0, o.3))

pub serials_rise : SerialsRise
serials_rise k h c = falls_falling (leases h) (orderly k h c).0

-- a number above all of a list is not among them
not_among : (n b : ℕ) (ns : List ℕ) → Within b ns → b < n → among n ns ≡ false
not_among n b [] a l = refl
not_among n b (x ∷ ns) a l =
    let k : n ≡ x → ⊥ = omega (arith, a.0) in
    rw (ne_eqb n x k) (not_among n b ns a.1 l)

-- a new lease's serial is no old one
module _ (h : History) (o : Orderly h) (l : Lease) (new : l.serial ≡ suc (offers_given h)) where
  pub new_open : ended h l.serial ≡ false
  new_open =
      let a = not_among l.serial (offers_given h) (declines h) o.2 (omega arith) in
      let b = not_among l.serial (offers_given h) (hand_backs h) o.3 (omega arith) in
      rw (a, b)

  pub new_not_held : held h l.serial ≡ false
  new_not_held = not_among l.serial (offers_given h) (draws h) o.1 (omega arith)

  weighed_before : (w : Lease → ℕ) (n : ℕ) → n ≤ offers_given h → weighed n w l + weight_of w h n ≡ weight_of w h n
  weighed_before w n v =
      let k : l.serial ≡ n → ⊥ = omega arith in
      rw (ne_eqb l.serial n k) (omega arith)

  pub summed-before : (w : Lease → ℕ) (ns : List ℕ) → Within (offers_given h) ns → total (λ n. weighed n w l + weight_of w h n) ns ≡ total (weight_of w h) ns
  summed-before w ns v = total_same_all _ _ ns (All-weaker (λ n. n ≤ offers_given h) _ (λ n u. weighed_before w n u) ns v)

-- what ends with a serial that has not ended is the weight of its lease
module _ (h : History) (n : ℕ) (still : ended h n ≡ false) where
  pub not_ended : (s : ℕ) → eqb s n ≡ true → ended h s ≡ false
  not_ended s e = subst (λ (x : ℕ). ended h x ≡ false) (sym (eqb-true s n e)) still

  ends_here : (gone : Bool) (s v : ℕ) (b : Bool) → eqb s n ≡ b → gone ≡ (b || ended h s) → cond (ended h s) 0 v + 0 ≡ cond gone 0 v + cond b v 0
  ends_here gone s v true e g = rw (g, not_ended s e) (omega arith)
  ends_here gone s v false e g = rw g (omega arith)

  pub ends_one : (w : Lease → ℕ) (gone : ℕ → Bool) → ((x : ℕ) → gone x ≡ (eqb x n || ended h x))
      → total (λ l. cond (ended h l.serial) 0 (w l)) (leases h) ≡ total (λ l. cond (gone l.serial) 0 (w l)) (leases h) + weight_of w h n
  ends_one w gone g =
      let a = total_balance (λ (l : Lease). cond (ended h l.serial) 0 (w l)) (λ l. 0) (λ l. cond (gone l.serial) 0 (w l)) (weighed n w)
      (λ l. ends_here (gone l.serial) l.serial (w l) (eqb l.serial n) refl (g l.serial)) (leases h) in
      omega (arith, a, total_zero (leases h))

or_swap : (q a b : Bool) → (a || (q || b)) ≡ (q || (a || b))
or_swap true true b = refl
or_swap true false b = refl
or_swap false a b = refl

or_group : (q a b : Bool) → ((q || a) || b) ≡ (q || (a || b))
or_group true a b = refl
or_group false a b = refl

pub declined_ends : (h : History) (s : Slip) (x : ℕ) → ended (declined s ∷ h) x ≡ (eqb x s.serial || ended h x)
declined_ends h s x = or_group (eqb x s.serial) (among x (declines h)) (among x (hand_backs h))

pub handed_back_ends : (h : History) (s : Slip) (x : ℕ) → ended (handed_back s ∷ h) x ≡ (eqb x s.serial || ended h x)
handed_back_ends h s x = or_swap (eqb x s.serial) (among x (declines h)) (among x (hand_backs h))

pub balances : Balances
balances k [] c w = refl
balances k (published x ∷ h) c w = balances k h c.0 w
balances k (withdrawn p ∷ h) c w = balances k h c.0 w
balances k (certified b t n ∷ h) c w = balances k h c.0 w
balances k (adopted t ∷ h) c w = balances k h c.0 w
balances k (refused x e ∷ h) c w = balances k h c.0 w
balances k (drawn s l ∷ h) c w = balances k h c.0 w
balances k (offered m s ∷ h) c w =
    let o = orderly k h c.0 in
    let l : Lease = record { serial = s.serial; membership = m } in
    let new : l.serial ≡ suc (offers_given h) = ap (λ (x : Slip). x.serial) c.2.3 in
    let a = summed-before h o l new w (declines h) o.2 in
    let b = summed-before h o l new w (hand_backs h) o.3 in
    let d : cond (ended h l.serial) 0 (w l) ≡ w l = rw (new_open h o l new) in
    omega (arith, a, b, d, balances k h c.0 w)
balances k (declined s ∷ h) c w =
    omega (arith, ends_one h s.serial c.2.1.0.1 w (ended (declined s ∷ h)) (declined_ends h s), balances k h c.0 w)
balances k (handed_back s ∷ h) c w =
    omega (arith, ends_one h s.serial c.2.1.0.1 w (ended (handed_back s ∷ h)) (handed_back_ends h s), balances k h c.0 w)
