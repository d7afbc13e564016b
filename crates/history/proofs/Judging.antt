-- What is due by the contents is due by the history that they keep.
use Rattle.std.proofs.Common.{◌≡◌, ℕ, List, [], get_or, refl, ap, ◌∙◌, subst, arith}
use mathlib.Core.Option.{Option, none, some}
use Rattle.credential.specs.Memberships.{place}
use Rattle.credential.specs.declared.memberships.Membership.{Membership}
use Rattle.credential.specs.Refusals.{Named}
use Rattle.model.specs.Tables.{Table, table, verdict}
use Rattle.history.specs.Events.{Making, Call, Event, History, publish, withdraw, certify, adopt, offer, draw, decline, hand_back, published, withdrawn, certified, adopted, offered, drawn, declined, handed_back, refused, call, HasCall}
use Rattle.history.specs.Words.{Lease, standing, certificate, open_leases, offers_given}
use Rattle.history.specs.Law.{Facts, facts, Due, Refuses, already_stands, register_full, no_such_place, not_evaluated, not_accepted, out_of_range, no_certificate, is_false, is_undefined, book_full, all_given, not_to_draw, not_to_decline, not_to_hand_back}
use Rattle.history.specs.Contents.{Contents, is_offered, is_held, verdicts_of, Keeps}
use Rattle.history.specs.Steps.{certificate_of, seen, RecordOf, Says, StepsKeep}
use Rattle.history.proofs.Keeping.{calls_keep}
use Rattle.history.proofs.Reading.{contents_say}

-- a verdict kept is the certificate's
pub verdict-kept : (vs : List ℕ) (m : Membership) → verdict (table vs []) m ≡ get_or vs (place m) 0
unfolding verdict
verdict-kept vs m = refl

-- the verdicts kept stand as the certificate does
none_kept : (o : Option Table) → certificate_of (verdicts_of o) ≡ none → o ≡ none
none_kept none e = refl
none_kept (some t) e = let z : ◌≡◌ {A = ℕ} 0 1 = cc in absurd (omega arith)

one_kept : (o : Option Table) (m : Membership) (b : ℕ) → (t : Table) × (certificate_of (verdicts_of o) ≡ some t) × (verdict t m ≡ b) → (u : Table) × (o ≡ some u) × (verdict u m ≡ b)
unfolding verdict
one_kept none m b s = let q = s.1 in let z : ◌≡◌ {A = ℕ} 0 1 = cc in absurd (omega arith)
one_kept (some u) m b s =
    let q : some (table u.verdicts []) ≡ some s.0 = s.1 in
    let e : table u.verdicts [] ≡ s.0 = cc in
    (u, refl, ap (λ (t : Table). verdict t m) e ∙ s.2)

module _ (k : Making) (h : History) (v : Contents) (a : Keeps k h v) where
  says : Says k h v
  says = contents_say k h v a

  -- the facts of the history, but for what the contents show of the certificate and the leases
  between : Facts
  between =
      record {
        vault = k.vault;
        capacity = k.capacity;
        list = standing k h;
        certificate = certificate_of (verdicts_of (certificate h));
        opens = open_leases h;
        givens = offers_given h;
        Offered = λ n. (i : ℕ) × (l : Lease) × RecordOf is_offered v.book n i l;
        Held = λ n. (i : ℕ) × (l : Lease) × RecordOf is_held v.book n i l;
      }

  shown : seen v ≡ between
  unfolding between
  shown = λ i. record {
    vault = a.made.1 i;
    capacity = a.made.2 i;
    list = a.list i;
    certificate = certificate_of (a.kept i);
    opens = a.book.1 (λ l b. 1) i;
    givens = a.figures.0 i;
    Offered = λ n. (i : ℕ) × (l : Lease) × RecordOf is_offered v.book n i l;
    Held = λ n. (i : ℕ) × (l : Lease) × RecordOf is_held v.book n i l;
  }

  refused_alike : (c : Call) (e : Named) → Refuses between c e → Refuses (facts k h) c e
  unfolding between
  refused_alike (publish c) e (already_stands x) = already_stands x
  refused_alike (publish c) e (register_full x l) = register_full x l
  refused_alike (withdraw p) e (no_such_place x) = no_such_place x
  refused_alike (certify b) e (not_evaluated t x) = not_evaluated t x
  refused_alike (adopt t) e (not_accepted x) = not_accepted x
  refused_alike (offer o r d) e (out_of_range x) = out_of_range x
  refused_alike (offer o r d) e (no_certificate x y) = no_certificate x (none_kept (certificate h) y)
  refused_alike (offer o r d) e (is_false m q s) = is_false m q (one_kept (certificate h) m 70 s)
  refused_alike (offer o r d) e (is_undefined m q s) = is_undefined m q (one_kept (certificate h) m 85 s)
  refused_alike (offer o r d) e (book_full m q s x) = book_full m q (one_kept (certificate h) m 84 s) x
  refused_alike (offer o r d) e (all_given m q s x y) = all_given m q (one_kept (certificate h) m 84 s) x y
  refused_alike (draw s) e (not_to_draw x) = not_to_draw (λ f. x (f.0, (says.offered_ones s.serial).0 f.1))
  refused_alike (decline s) e (not_to_decline x) = not_to_decline (λ f. x (f.0, (says.offered_ones s.serial).0 f.1))
  refused_alike (hand_back s) e (not_to_hand_back x) = not_to_hand_back (λ f. x (f.0, (says.held_ones s.serial).0 f.1))

  due_alike : (e : Event) → Due between e → Due (facts k h) e
  unfolding between
  due_alike (published c) x = x
  due_alike (withdrawn p) x = x
  due_alike (certified b t n) x = x
  due_alike (adopted t) x = x
  due_alike (offered m s) x = (one_kept (certificate h) m 84 x.0, x.1, x.2, x.3)
  due_alike (drawn s l) x = ((x.0.0, (says.offered_ones s.serial).1 x.0.1), x.1)
  due_alike (declined s) x = (x.0, (says.offered_ones s.serial).1 x.1)
  due_alike (handed_back s) x = (x.0, (says.held_ones s.serial).1 x.1)
  due_alike (refused c e) x = refused_alike c e x

pub steps_keep : StepsKeep
steps_keep v w e c d f k h a =
    calls_keep k h v w e a (subst (λ x. HasCall x (call e)) a.made.0 c)
    (due_alike k h v a e (subst (λ (x : Facts). Due x e) (shown k h v a) d)) f
