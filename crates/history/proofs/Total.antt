-- An answer is due to every call.
use Rattle.std.proofs.Common.{◌≡◌, ℕ, suc, ◌<◌, ◌≤◌, Bool, true, false, ◌⊎◌, length, Ok, Err, refl, inl, inr, arith}
use mathlib.Core.Option.{Option, none, some}
use Rattle.std.proofs.lemmas.Bool.{cases_lt, cases_eq, cases_Bool, both_ways}
use Rattle.credential.specs.declared.credentials.Credential.{Credential}
use Rattle.credential.specs.declared.memberships.Membership.{Membership}
use Rattle.credential.specs.Refusals.{Named}
use Rattle.model.specs.Tables.{Table, IsT, IsF, IsU}
use Rattle.history.specs.Events.{Making, Slip, Call, Event, History, publish, withdraw, certify, adopt, offer, draw, decline, hand_back, published, withdrawn, certified, adopted, offered, drawn, declined, handed_back, refused, call, asked}
use Rattle.history.specs.Words.{standing, certificate, ended, held, open_leases, offers_given, IsOpen, IsOffered, IsHeld}
use Rattle.history.specs.Law.{facts, Due, Conforms, Refuses, InRange, Fits, already_stands, register_full, no_such_place, not_evaluated, not_accepted, out_of_range, no_certificate, is_false, is_undefined, book_full, all_given, not_to_draw, not_to_decline, not_to_hand_back}
use Rattle.history.specs.Theorems.{Found, SomeAnswer}
use Rattle.history.proofs.Limits.{limits_kept}
use Rattle.history.proofs.Offers.{stands-certified}

-- it holds or it does not
abbrev Sure : Type 0 → Type 0
Sure P = P ⊎ ¬ P

both : {P Q : Type 0} → Sure P → Sure Q → Sure (P × Q)
both (inl p) (inl q) = inl (p, q)
both (inl p) (inr q) = inr (λ x. q x.1)
both (inr p) q = inr (λ x. p x.0)

all_three : {P Q R : Type 0} → Sure P → Sure Q → Sure R → Sure (P × Q × R)
all_three (inl p) (inl q) (inl r) = inl (p, q, r)
all_three (inl p) (inl q) (inr r) = inr (λ x. r x.2)
all_three (inl p) (inr q) r = inr (λ x. q x.1)
all_three (inr p) q r = inr (λ x. p x.0)

le_sure : (a b : ℕ) → Sure (a ≤ b)
le_sure a b = go (cases_lt b a)
  where
    go : (b < a) ⊎ (a ≤ b) → Sure (a ≤ b)
    go (inl l) = inr (λ m. omega arith)
    go (inr l) = inl l

is_true : (b : Bool) → Sure (b ≡ true)
is_true b = go (cases_Bool b)
  where
    go : (b ≡ true) ⊎ (b ≡ false) → Sure (b ≡ true)
    go (inl e) = inl e
    go (inr e) = inr (λ f. both_ways b e f)

is_not : (b : Bool) → Sure (b ≡ false)
is_not b = go (cases_Bool b)
  where
    go : (b ≡ true) ⊎ (b ≡ false) → Sure (b ≡ false)
    go (inl e) = inr (λ f. both_ways b f e)
    go (inr e) = inl e

module _ (k : Making) (h : History) where
  abbrev DueTo : Call → Type 0
  DueTo c = (e : Event) × (call e ≡ c) × Due (facts k h) e

  refusal : (c : Call) (e : Named) → Refuses (facts k h) c e → DueTo c
  refusal c e r = (refused c e, refl, r)

  is_open : (n : ℕ) → Sure (IsOpen h n)
  is_open n = both (is_true _) (is_not (ended h n))

  to_offered : (s : Slip) → Sure (Fits (facts k h) (IsOffered h) s)
  to_offered s = both (cases_eq s.vault k.vault) (both (is_open s.serial) (is_not (held h s.serial)))

  to_held : (s : Slip) → Sure (Fits (facts k h) (IsHeld h) s)
  to_held s = both (cases_eq s.vault k.vault) (both (is_open s.serial) (is_true (held h s.serial)))

  to_draw : (s : Slip) → Sure (Fits (facts k h) (IsOffered h) s) → DueTo (draw s)
  to_draw s (inl f) = (drawn s s, refl, (f, refl))
  to_draw s (inr f) = refusal _ _ (not_to_draw f)

  to_decline : (s : Slip) → Sure (Fits (facts k h) (IsOffered h) s) → DueTo (decline s)
  to_decline s (inl f) = (declined s, refl, f)
  to_decline s (inr f) = refusal _ _ (not_to_decline f)

  to_hand_back : (s : Slip) → Sure (Fits (facts k h) (IsHeld h) s) → DueTo (hand_back s)
  to_hand_back s (inl f) = (handed_back s, refl, f)
  to_hand_back s (inr f) = refusal _ _ (not_to_hand_back f)

  to_withdraw : (p : ℕ) → Sure ((1 ≤ p) × (p ≤ length (standing k h))) → DueTo (withdraw p)
  to_withdraw p (inl f) = (withdrawn p, refl, f)
  to_withdraw p (inr f) = refusal _ _ (no_such_place f)

  to_certify : (b : Table) → Found k h (certify b) → DueTo (certify b)
  to_certify b (Ok n, t, x) = (certified b t n, refl, x)
  to_certify b (Err e, t, x) = refusal _ _ (not_evaluated t x)

  to_adopt : (t : Table) → Found k h (adopt t) → DueTo (adopt t)
  to_adopt t (Ok u, x) = (adopted t, refl, x)
  to_adopt t (Err e, x) = refusal _ _ (not_accepted x)

  module _ (c : Conforms k h) where
    to_publish : (x : Credential) → Found k h (publish x) → (length (standing k h) < k.capacity) ⊎ (k.capacity ≤ length (standing k h)) → DueTo (publish x)
    to_publish x (inl f) l = refusal _ _ (already_stands f)
    to_publish x (inr f) (inl l) = (published x, refl, (f, l))
    to_publish x (inr f) (inr l) = let e : length (standing k h) ≡ k.capacity = omega (arith, (limits_kept k h c).0) in refusal _ _ (register_full f e)

    by_verdict : (m : Membership) (t : Table) → certificate h ≡ some t → IsT t m ⊎ (IsF t m ⊎ IsU t m)
        → (open_leases h < 256) ⊎ (256 ≤ open_leases h) → (offers_given h < 999999) ⊎ (999999 ≤ offers_given h) → DueTo (asked m)
    by_verdict m t e (inl v) (inl a) (inl b) = (offered m (record { vault = k.vault; serial = suc (offers_given h) }), refl, ((t, e, v), a, b, refl))
    by_verdict m t e (inl v) (inl a) (inr b) = let q : offers_given h ≡ 999999 = omega (arith, (limits_kept k h c).2) in refusal _ _ (all_given m refl (t, e, v) a q)
    by_verdict m t e (inl v) (inr a) b = let q : open_leases h ≡ 256 = omega (arith, (limits_kept k h c).1) in refusal _ _ (book_full m refl (t, e, v) q)
    by_verdict m t e (inr (inl v)) a b = refusal _ _ (is_false m refl (t, e, v))
    by_verdict m t e (inr (inr v)) a b = refusal _ _ (is_undefined m refl (t, e, v))

    to_offer : (a r d : ℕ) → Sure (InRange a r d) → DueTo (offer a r d)
    to_offer a r d (inr f) = refusal _ _ (out_of_range f)
    to_offer a r d (inl f) = go (certificate h) refl
      where
        m : Membership
        m = record { role = record { owner = record { number = a; low = f.0.0; high = f.0.1 }; name = record { number = r; low = f.1.0; high = f.1.1 } }; member = record { number = d; low = f.2.0; high = f.2.1 } }

        go : (o : Option Table) → certificate h ≡ o → DueTo (offer a r d)
        go none e = refusal _ _ (no_certificate f e)
        go (some t) e = by_verdict m t e ((stands-certified k h t c e).lawful m).0 (cases_lt (open_leases h) 256) (cases_lt (offers_given h) 999999)

pub some_answer : SomeAnswer
some_answer k h c (publish x) f = to_publish k h c x f (cases_lt (length (standing k h)) k.capacity)
some_answer k h c (withdraw p) f = to_withdraw k h p (both (le_sure 1 p) (le_sure p (length (standing k h))))
some_answer k h c (certify b) f = to_certify k h b f
some_answer k h c (adopt t) f = to_adopt k h t f
some_answer k h c (offer a r d) f =
    to_offer k h c a r d (all_three (both (le_sure 1 a) (le_sure a 32)) (both (le_sure 1 r) (le_sure r 16)) (both (le_sure 1 d) (le_sure d 32)))
some_answer k h c (draw s) f = to_draw k h s (to_offered k h s)
some_answer k h c (decline s) f = to_decline k h s (to_offered k h s)
some_answer k h c (hand_back s) f = to_hand_back k h s (to_held k h s)
