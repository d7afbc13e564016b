-- What the calls on leases are in a vault's history.
use Rattle.std.proofs.Common.{◌≡◌, ℕ, ◌<◌, Bool, true, false, cond, ◌||◌, eqb, ◌≢◌, ◌⊎◌, List, [], get_or, Ok, Err, Result, sym, refl, ap, ◌∙◌, subst, inl, inr, arith}
use mathlib.Core.Option.{some}
use Rattle.std.proofs.lemmas.Bool.{eqb-true}
use Rattle.credential.specs.declared.memberships.Membership.{Membership}
use Rattle.credential.specs.Memberships.{place}
use Rattle.credential.specs.Refusals.{Named, named, refused, answered}
use Rattle.credential.specs.declared.refusals.Refusal.{Refusal}
use Rattle.model.specs.Tables.{Table, table, verdict}
use Rattle.history.specs.Events as events
use Rattle.history.specs.Events.{Event, call, asked, HasCall}
use Rattle.history.specs.Words.{Lease}
use Rattle.history.specs.Law.{Due, Refuses, Fits, not_to_draw, not_to_decline, not_to_hand_back, no_certificate, is_false, is_undefined, book_full, all_given}
use Rattle.history.specs.Contents.{Contents, Entry, is_offered, is_held}
use Rattle.history.specs.Steps.{After, seen, RecordOf, certificate_of}
use Rattle.history.proofs.Asked.{in_range}
use Rattle.history.proofs.Judging.{verdict-kept}
use Rattle.vault.specs.declared.ledger.Ledger.{Ledger}
use Rattle.vault.specs.declared.slips.Returned.{Returned}
use Rattle.vault.specs.declared.slips.Slip.{Slip}
use Rattle.vault.specs.Slips.{slip_of}
use Rattle.vault.specs.Settling.{ledger_of, posting, Calls, Settles}
use Rattle.vault.specs.Ledgers.{Posted, posted, opens, Lent, Turned, drawn_at, declined_at, handed_back_at}
use Rattle.vault.specs.Verdicts.{is_verdict, kept_if, LawfulWhile, judged_by, judged}
use Rattle.vault.specs.Vaults.{Happened, answer_event, draw_event, decline_event, hand_back_event, spent}
use Rattle.vault.proofs.Happening.{happened, never, same_refusal}

module _ (v : Contents) (s : events.Slip) where
  -- a call on a slip whose lease is in the state that the call needs is taken, and any other is refused
  turned_happens : (c : events.Call) (e : Event) (state : Lease → Entry) (change : ℕ → Lease → Posted → Posted)
      → HasCall v.kind (call e)
      → HasCall v.kind c
      → (Fits (seen v) (λ n. (i : ℕ) × (l : Lease) × RecordOf state v.book n i l) s → Due (seen v) e)
      → ((i : ℕ) (x : Lease) → RecordOf state v.book s.serial i x → After v e (posting (change i x (ledger_of v)) v))
      → (¬ (Fits (seen v) (λ n. (i : ℕ) × (l : Lease) × RecordOf state v.book n i l) s) → Refuses (seen v) c (refused 21))
      → s.vault ≡ v.number
      → (r : Result (Unit {0}) Named) (q : Posted)
      → Turned state change (ledger_of v) s.serial r q
      → Happened v (answer_event c e r) (posting q v)
  turned_happens c e state change he hc due after not own (Ok u) q t =
      happened v (posting q v) e he (due (own, (t.0, t.1, t.2)))
      (subst (λ (p : Posted). After v e (posting p v)) (sym t.3) (after t.0 t.1 t.2))
  turned_happens c e state change he hc due after not own (Err f) q t =
      subst (λ (x : Named). Happened v (events.refused c x) (posting q v)) (sym t.0)
      (happened v (posting q v) (events.refused c (refused 21)) hc (not (λ w. t.1 w.1.0 w.1.1 w.1.2)) (ap (λ (p : Posted). posting p v) t.2))

-- a call on a slip, by what it does with the ledger
module _ {S : Type 0} (v w : Contents) (s : Slip S) (Call : Ledger → Result (Unit {0}) Refusal → Ledger → Type 0) (r : Result (Slip S) (Returned (Slip S))) (q : Settles Call s v r w) where
  settles_happens : (c : events.Call) (e : Event) (state : Lease → Entry) (change : ℕ → Lease → Posted → Posted)
      → HasCall v.kind (call e)
      → HasCall v.kind c
      → (Fits (seen v) (λ n. (i : ℕ) × (l : Lease) × RecordOf state v.book n i l) (slip_of s) → Due (seen v) e)
      → ((i : ℕ) (x : Lease) → RecordOf state v.book s.serial i x → After v e (posting (change i x (ledger_of v)) v))
      → (¬ (Fits (seen v) (λ n. (i : ℕ) × (l : Lease) × RecordOf state v.book n i l) (slip_of s)) → Refuses (seen v) c (refused 21))
      → ((l : Ledger) (a : Result (Unit {0}) Refusal) (m : Ledger) → Call l a m → Turned state change (posted l) s.serial (answered a) (posted m))
      → Happened v (answer_event c e (spent r)) w
  settles_happens c e state change he hc due after not turned = go r q
    where
      called : s.vault ≡ v.number → (a : Result (Unit {0}) Refusal) → Calls Call v a w → Happened v (answer_event c e (answered a)) w
      called own a k =
          subst (λ (x : Contents). Happened v (answer_event c e (answered a)) x) (sym k.becomes)
          (turned_happens v (slip_of s) c e state change he hc due after not own (answered a) (posted k.new)
          (subst (λ (p : Posted). Turned state change p s.serial (answered a) (posted k.new)) k.is_old (turned k.old a k.new k.called)))

      foreign : ¬ (s.vault ≡ v.number) → (f : Named) → f ≡ refused 21 → w ≡ v → Happened v (events.refused c f) w
      foreign n f p e = subst (λ (x : Named). Happened v (events.refused c x) w) (sym p) (happened v w (events.refused c (refused 21)) hc (not (λ f. n f.0)) e)

      go : (r : Result (Slip S) (Returned (Slip S))) → Settles Call s v r w → Happened v (answer_event c e (spent r)) w
      go (Ok t) k = called k.1 (Ok tt) k.2
      go (Err b) k = either k.1
        where
          either : ((s.vault ≡ v.number) × Calls Call v (Err b.why) w) ⊎ ((s.vault ≢ v.number) × (named b.why ≡ refused 21) × (w ≡ v)) → Happened v (events.refused c (named b.why)) w
          either (inl x) = called x.0 (Err b.why) x.1
          either (inr x) = foreign x.0 (named b.why) x.1 x.2

  pub draw_settles : ((l : Ledger) (a : Result (Unit {0}) Refusal) (m : Ledger) → Call l a m → Turned is_offered drawn_at (posted l) s.serial (answered a) (posted m)) → Happened v (draw_event (slip_of s) (spent r)) w
  draw_settles = settles_happens (events.draw (slip_of s)) (events.drawn (slip_of s) (slip_of s)) is_offered drawn_at tt tt (λ f. (f, refl)) (λ i x t. (i, x, t, refl)) not_to_draw

  pub decline_settles : ((l : Ledger) (a : Result (Unit {0}) Refusal) (m : Ledger) → Call l a m → Turned is_offered declined_at (posted l) s.serial (answered a) (posted m)) → Happened v (decline_event (slip_of s) (spent r)) w
  decline_settles = settles_happens (events.decline (slip_of s)) (events.declined (slip_of s)) is_offered declined_at tt tt (λ f. f) (λ i x t. (i, x, t, refl)) not_to_decline

  pub hand_back_settles : ((l : Ledger) (a : Result (Unit {0}) Refusal) (m : Ledger) → Call l a m → Turned is_held handed_back_at (posted l) s.serial (answered a) (posted m)) → Happened v (hand_back_event (slip_of s) (spent r)) w
  hand_back_settles = settles_happens (events.hand_back (slip_of s)) (events.handed_back (slip_of s)) is_held handed_back_at tt tt (λ f. f) (λ i x t. (i, x, t, refl)) not_to_hand_back

-- the verdict that is neither T nor F is U
the_third : (v : ℕ) → is_verdict v ≡ true → eqb v 84 ≡ false → eqb v 70 ≡ false → v ≡ 85
the_third v l t f = go (eqb v 84) (eqb v 70) (eqb v 85) refl t f l
  where
    go : (a b c : Bool) → eqb v 85 ≡ c → a ≡ false → b ≡ false → (a || (b || c)) ≡ true → v ≡ 85
    go true b c e p q w = let z : ◌≡◌ {A = ℕ} 0 1 = cc in absurd (omega arith)
    go false true c e p q w = let z : ◌≡◌ {A = ℕ} 0 1 = cc in absurd (omega arith)
    go false false true e p q w = eqb-true v 85 e
    go false false false e p q w = let z : ◌≡◌ {A = ℕ} 0 1 = cc in absurd (omega arith)

module _ (v : Contents) (m : Membership) (stands : Bool) (vs : List ℕ) (k : v.kept ≡ kept_if stands vs) where
  byte : ℕ
  byte = get_or vs (place m) 0

  shown : (n : ℕ) → stands ≡ true → byte ≡ n → (t : Table) × (certificate_of v.kept ≡ some t) × (verdict t m ≡ n)
  unfolding byte
  shown n s b = (table vs [], ap certificate_of (k ∙ ap (λ (x : Bool). kept_if x vs) s), verdict-kept vs m ∙ b)

  abbrev judged_if : (s t f : Bool) → Result (Unit {0}) Named
  judged_if s t f = cond s (judged_by t f) (Err (refused 16))

  judged_is : (s : Bool) → judged m (kept_if s vs) ≡ judged_if s (eqb byte 84) (eqb byte 70)
  unfolding byte
  judged_is true = refl
  judged_is false = refl

  -- an offer that the certificate does not bear out
  pub offer-judged : LawfulWhile stands vs → (e : Named) → Err e ≡ judged m (kept_if stands vs) → Happened v (events.refused (asked m) e) v
  unfolding byte
  offer-judged l e j = go stands (eqb byte 84) (eqb byte 70) refl refl refl (j ∙ judged_is stands)
    where
      refusing : (f : Named) → e ≡ f → Refuses (seen v) (asked m) f → Happened v (events.refused (asked m) e) v
      refusing f p r = subst (λ (x : Named). Happened v (events.refused (asked m) x) v) (sym p) (happened v v (events.refused (asked m) f) tt r refl)

      go : (s t f : Bool) → stands ≡ s → eqb byte 84 ≡ t → eqb byte 70 ≡ f
          → Err e ≡ judged_if s t f
          → Happened v (events.refused (asked m) e) v
      go false t f s p q w =
          refusing (refused 16) (same_refusal w) (no_certificate (in_range _ _ _ m refl) (ap certificate_of (k ∙ ap (λ (x : Bool). kept_if x vs) s)))
      go true true f s p q w = never (sym w)
      go true false true s p q w = refusing (refused 17) (same_refusal w) (is_false m refl (shown 70 s (eqb-true byte 70 q)))
      go true false false s p q w = refusing (refused 18) (same_refusal w) (is_undefined m refl (shown 85 s (the_third byte (l s m) p q)))

  judged_true : {u : Unit {0}} → Ok u ≡ judged m (kept_if stands vs) → (t : Table) × (certificate_of v.kept ≡ some t) × (verdict t m ≡ 84)
  unfolding byte
  judged_true j = go stands (eqb byte 84) (eqb byte 70) refl refl (j ∙ judged_is stands)
    where
      go : (s t f : Bool) → stands ≡ s → eqb byte 84 ≡ t
          → Ok tt ≡ judged_if s t f
          → (t : Table) × (certificate_of v.kept ≡ some t) × (verdict t m ≡ 84)
      go false t f s p w = never w
      go true true f s p w = shown 84 s (eqb-true byte 84 p)
      go true false true s p w = never w
      go true false false s p w = never w

  -- an offer that it does, by the limits
  pub offer_lent : {u : Unit {0}} → Ok u ≡ judged m (kept_if stands vs) → (n : ℕ) (q : Posted) → Lent (ledger_of v) m (Ok n) q
      → (s : events.Slip) → s ≡ record { vault = v.number; serial = n }
      → Happened v (events.offered m s) (posting q v)
  offer_lent j n q t s e =
      subst (λ (x : events.Slip). Happened v (events.offered m x) (posting q v)) (sym e)
      (happened v (posting q v) (events.offered m (record { vault = v.number; serial = n })) tt
      (judged_true j, t.0, t.1, (λ i. record { vault = v.number; serial = t.2 i }))
      (t.3.0, t.3.1, ap (λ (p : Posted). posting p v) t.3.2))

  pub offer_limited : {u : Unit {0}} → Ok u ≡ judged m (kept_if stands vs) → (e : Named) (q : Posted) → Lent (ledger_of v) m (Err e) q
      → Happened v (events.refused (asked m) e) (posting q v)
  offer_limited j e q t = go t.1
    where
      refusing : (f : Named) → e ≡ f → Refuses (seen v) (asked m) f → Happened v (events.refused (asked m) e) (posting q v)
      refusing f p r =
          subst (λ (x : Named). Happened v (events.refused (asked m) x) (posting q v)) (sym p)
          (happened v (posting q v) (events.refused (asked m) f) tt r (ap (λ (p : Posted). posting p v) t.0))

      go : ((e ≡ refused 19) × (opens (ledger_of v) ≡ 256)) ⊎ ((e ≡ refused 20) × (opens (ledger_of v) < 256) × (v.figures.total ≡ 999999)) → Happened v (events.refused (asked m) e) (posting q v)
      go (inl w) = refusing (refused 19) w.0 (book_full m refl (judged_true j) w.1)
      go (inr w) = refusing (refused 20) w.0 (all_given m refl (judged_true j) w.1 w.2)
