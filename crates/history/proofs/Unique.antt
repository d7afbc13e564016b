-- One answer is due to a call.
use Rattle.std.proofs.Common.{◌≡◌, ℕ, ◌≤◌, cond, eqb, Ok, Err, Result, sym, refl, ap, ◌∙◌, subst, ap₂, arith}
use mathlib.Core.Option.{none, some}
use Rattle.std.proofs.lemmas.Bool.{ne_eqb}
use Rattle.credential.specs.declared.credentials.Credential.{Credential}
use Rattle.credential.specs.declared.memberships.Membership.{Membership}
use Rattle.credential.specs.Refusals.{Named, refused as by}
use Rattle.model.specs.Tables.{Table, verdict}
use Rattle.model.proofs.Leastness.{least_certificate_certifies, no_certificate_below_the_least}
use Rattle.model.proofs.Order.{order_does_not_matter}
use Rattle.checker.proofs.Unique.{one_answer as one-check}
use Rattle.evaluator.proofs.Unique.{one_evaluation}
use Rattle.history.specs.Events.{Slip, Call, Event, publish, withdraw, certify, adopt, offer, draw, decline, hand_back, published, withdrawn, certified, adopted, offered, drawn, declined, handed_back, refused, call, asked}
use Rattle.history.specs.Words.{standing}
use Rattle.history.specs.Law.{Facts, facts, Due, Refuses, InRange, already_stands, register_full, no_such_place, not_evaluated, not_accepted, out_of_range, no_certificate, is_false, is_undefined, book_full, all_given, not_to_draw, not_to_decline, not_to_hand_back}
use Rattle.history.specs.Theorems.{OneAnswer, FilledIsAdopted}
use Rattle.history.proofs.Asked.{same_asked, in_range}
use Rattle.history.proofs.Offers.{none_stands, same-verdict}

abbrev answered_by : {X : Type 0} → X → Result X Named → X
answered_by d (Ok x) = x
answered_by d (Err e) = d

abbrev refused_by : {X : Type 0} → Named → Result X Named → Named
refused_by d (Ok x) = d
refused_by d (Err e) = e

abbrev is_ok : {X : Type 0} → Result X Named → ℕ
is_ok (Ok x) = 1
is_ok (Err e) = 0

same_err : {X : Type 0} (e f : Named) → ◌≡◌ {A = Result X Named} (Err e) (Err f) → e ≡ f
same_err e f q = ap (refused_by e) q

ok_or_err : {X : Type 0} (x : X) (e : Named) → ◌≡◌ {A = Result X Named} (Ok x) (Err e) → ⊥
ok_or_err x e q = let z : ◌≡◌ {A = ℕ} 1 0 = ap is_ok q in absurd (omega arith)

-- the number that refuses an offer by its verdict, the leases open and the offers given, or 0
abbrev outcome : ℕ → ℕ → ℕ → ℕ
outcome v o g = cond (eqb v 70) 17 (cond (eqb v 85) 18 (cond (eqb o 256) 19 (cond (eqb g 999999) 20 0)))

module _ (j : Facts) where
  -- what answers an offer: 0 for taken, or the number that refuses it
  data Cause (a r d : ℕ) : ℕ → Type 0 where
    by_range : ¬ (InRange a r d) → Cause a r d 5
    by_none : InRange a r d → j.certificate ≡ none → Cause a r d 16
    by_verdict : {n : ℕ} (m : Membership) (t : Table) → asked m ≡ offer a r d → j.certificate ≡ some t → outcome (verdict t m) j.opens j.givens ≡ n → Cause a r d n

  same_cause : (a r d n o : ℕ) → Cause a r d n → Cause a r d o → n ≡ o
  same_cause a r d n o (by_range x) (by_range y) = refl
  same_cause a r d n o (by_range x) (by_none y e) = absurd (x y)
  same_cause a r d n o (by_range x) (by_verdict m t w e f) = absurd (x (in_range a r d m w))
  same_cause a r d n o (by_none x e) (by_range y) = absurd (y x)
  same_cause a r d n o (by_none x e) (by_none y f) = refl
  same_cause a r d n o (by_none x e) (by_verdict m t w g f) = absurd (none_stands t j.certificate e g)
  same_cause a r d n o (by_verdict m t w e f) (by_range y) = absurd (y (in_range a r d m w))
  same_cause a r d n o (by_verdict m t w e f) (by_none y g) = absurd (none_stands t j.certificate g e)
  same_cause a r d n o (by_verdict m t w e f) (by_verdict x u v g l) =
      sym f ∙ ap (λ (y : ℕ). outcome y j.opens j.givens) (same-verdict j.certificate m x t u (offer a r d) w v e g) ∙ l

  taken_cause : (a r d : ℕ) (m : Membership) (s : Slip) → asked m ≡ offer a r d → Due j (offered m s) → Cause a r d 0
  taken_cause a r d m s q x =
      let o : j.opens ≡ 256 → ⊥ = omega (arith, x.1) in
      let g : j.givens ≡ 999999 → ⊥ = omega (arith, x.2) in
      by_verdict m x.0.0 q x.0.1 (rw (x.0.2, ne_eqb j.opens 256 o, ne_eqb j.givens 999999 g))

  refused_cause : (a r d : ℕ) (e : Named) → Refuses j (offer a r d) e → (n : ℕ) × (e ≡ by n) × (5 ≤ n) × Cause a r d n
  refused_cause a r d e (out_of_range x) = (5, refl, omega arith, by_range x)
  refused_cause a r d e (no_certificate x y) = (16, refl, omega arith, by_none x y)
  refused_cause a r d e (is_false m q s) = (17, refl, omega arith, by_verdict m s.0 q s.1 (rw s.2))
  refused_cause a r d e (is_undefined m q s) = (18, refl, omega arith, by_verdict m s.0 q s.1 (rw s.2))
  refused_cause a r d e (book_full m q s o) = (19, refl, omega arith, by_verdict m s.0 q s.1 (rw (s.2, o)))
  refused_cause a r d e (all_given m q s o g) =
      let f : j.opens ≡ 256 → ⊥ = omega (arith, o) in
      (20, refl, omega arith, by_verdict m s.0 q s.1 (rw (s.2, ne_eqb j.opens 256 f, g)))

  -- two refusals of one call are the same
  same_refusal : (c : Call) (e f : Named) → Refuses j c e → Refuses j c f → e ≡ f
  same_refusal (publish c) e f (already_stands a) (already_stands b) = refl
  same_refusal (publish c) e f (already_stands a) (register_full b l) = absurd (b a)
  same_refusal (publish c) e f (register_full a l) (already_stands b) = absurd (a b)
  same_refusal (publish c) e f (register_full a l) (register_full b m) = refl
  same_refusal (withdraw w) e f (no_such_place a) (no_such_place b) = refl
  same_refusal (certify b) e f (not_evaluated t x) (not_evaluated u y) = same_err e f (one_evaluation j.list b t u (Err e) (Err f) x y).0
  same_refusal (adopt t) e f (not_accepted x) (not_accepted y) = same_err e f (one-check j.list t (Err e) (Err f) x y)
  same_refusal (offer a r d) e f x y =
      let u = refused_cause a r d e x in
      let v = refused_cause a r d f y in
      u.1 ∙ ap (λ (n : ℕ). by n) (same_cause a r d u.0 v.0 u.3 v.3) ∙ sym v.1
  same_refusal (draw s) e f (not_to_draw a) (not_to_draw b) = refl
  same_refusal (decline s) e f (not_to_decline a) (not_to_decline b) = refl
  same_refusal (hand_back s) e f (not_to_hand_back a) (not_to_hand_back b) = refl

  -- an event in which a call was taken
  data Takes : Call → Event → Type 0 where
    takes_publish : {c : Credential} → Due j (published c) → Takes (publish c) (published c)
    takes_withdraw : {p : ℕ} → Due j (withdrawn p) → Takes (withdraw p) (withdrawn p)
    takes_certify : {b t : Table} {n : ℕ} → Due j (certified b t n) → Takes (certify b) (certified b t n)
    takes_adopt : {t : Table} → Due j (adopted t) → Takes (adopt t) (adopted t)
    takes_offer : {a r d : ℕ} {m : Membership} {s : Slip} → asked m ≡ offer a r d → Due j (offered m s) → Takes (offer a r d) (offered m s)
    takes_draw : {s l : Slip} → Due j (drawn s l) → Takes (draw s) (drawn s l)
    takes_decline : {s : Slip} → Due j (declined s) → Takes (decline s) (declined s)
    takes_hand_back : {s : Slip} → Due j (handed_back s) → Takes (hand_back s) (handed_back s)

  same_taken : (c : Call) (e f : Event) → Takes c e → Takes c f → e ≡ f
  same_taken (publish c) e f (takes_publish x) (takes_publish y) = refl
  same_taken (withdraw w) e f (takes_withdraw x) (takes_withdraw y) = refl
  same_taken (certify b) e f (takes_certify {t = t} {n = n} x) (takes_certify {t = u} {n = o} y) =
      let q = one_evaluation j.list b t u (Ok n) (Ok o) x y in
      ap₂ (certified b) q.1 (ap (answered_by n) q.0)
  same_taken (adopt t) e f (takes_adopt x) (takes_adopt y) = refl
  same_taken (offer a r d) e f (takes_offer {m = m} w x) (takes_offer {m = u} v y) = ap₂ offered (same_asked m u (w ∙ sym v)) (x.3 ∙ sym y.3)
  same_taken (draw s) e f (takes_draw x) (takes_draw y) = ap (drawn s) (x.1 ∙ sym y.1)
  same_taken (decline s) e f (takes_decline x) (takes_decline y) = refl
  same_taken (hand_back s) e f (takes_hand_back x) (takes_hand_back y) = refl

  -- no call is both taken and refused
  taken_refused : (c : Call) (e : Event) (f : Named) → Takes c e → Refuses j c f → ⊥
  taken_refused (publish c) e f (takes_publish x) (already_stands a) = x.0 a
  taken_refused (publish c) e f (takes_publish x) (register_full a l) = omega (arith, l, x.1)
  taken_refused (withdraw w) e f (takes_withdraw x) (no_such_place a) = a x
  taken_refused (certify b) e f (takes_certify {t = t} {n = n} x) (not_evaluated u y) = ok_or_err n f (one_evaluation j.list b t u (Ok n) (Err f) x y).0
  taken_refused (adopt t) e f (takes_adopt x) (not_accepted y) = ok_or_err tt f (one-check j.list t (Ok tt) (Err f) x y)
  taken_refused (offer a r d) e f (takes_offer {m = m} {s = s} w x) y =
      let u = refused_cause a r d f y in
      omega (arith, u.2, same_cause a r d 0 u.0 (taken_cause a r d m s w x) u.3)
  taken_refused (draw s) e f (takes_draw x) (not_to_draw a) = a x.0
  taken_refused (decline s) e f (takes_decline x) (not_to_decline a) = a x
  taken_refused (hand_back s) e f (takes_hand_back x) (not_to_hand_back a) = a x

  -- a call with its answer
  data Answers (c : Call) (e : Event) : Type 0 where
    takes : Takes c e → Answers c e
    refuses : (f : Named) → e ≡ refused c f → Refuses j c f → Answers c e

  answers : (e : Event) → Due j e → Answers (call e) e
  answers (published c) x = takes (takes_publish x)
  answers (withdrawn p) x = takes (takes_withdraw x)
  answers (certified b t n) x = takes (takes_certify x)
  answers (adopted t) x = takes (takes_adopt x)
  answers (offered m s) x = takes (takes_offer refl x)
  answers (drawn s l) x = takes (takes_draw x)
  answers (declined s) x = takes (takes_decline x)
  answers (handed_back s) x = takes (takes_hand_back x)
  answers (refused c f) x = refuses f refl x

  one : (c : Call) (e f : Event) → Answers c e → Answers c f → e ≡ f
  one c e f (takes x) (takes y) = same_taken c e f x y
  one c e f (takes x) (refuses n q y) = absurd (taken_refused c e n x y)
  one c e f (refuses n p x) (takes y) = absurd (taken_refused c f n y x)
  one c e f (refuses n p x) (refuses o q y) = p ∙ ap (refused c) (same_refusal c n o x y) ∙ sym q

pub one_answer : OneAnswer
one_answer k h e f x y q =
    let j = facts k h in
    one j (call f) e f (subst (λ (c : Call). Answers j c e) q (answers j e x)) (answers j f y)

pub filled_is_adopted : FilledIsAdopted
filled_is_adopted k l g h b t n x same =
    let least = ((order_does_not_matter (standing k g) (standing l h) same).3 t).1 x.1 in
    (least_certificate_certifies (standing l h) t least, λ u y m. no_certificate_below_the_least (standing l h) t u least y m)
