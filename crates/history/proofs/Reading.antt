-- What the contents say of the words that the law judges by.
use Rattle.std.proofs.Common.{◌≡◌, ℕ, zero, suc, ◌<◌, ◌≤◌, Bool, true, false, cond, ◌&&◌, eqb, List, [], ◌∷◌, map, get_or, sym, refl, ap, ◌∙◌, subst, le_of_suc-le-suc, not-suc-le-zero, arith}
use mathlib.Core.Option.{Option, none, some}
use Rattle.std.proofs.lemmas.Bool.{false≢true, eqb-true, eq-eqb, and_parts, or_right}
use Rattle.credential.specs.declared.memberships.Membership.{Membership}
use Rattle.credential.specs.Memberships.{place}
use Rattle.model.specs.Tables.{Table, verdict}
use Rattle.history.specs.Events.{Making, History}
use Rattle.history.specs.Words.{HasItemAt, one_if, among, certificate, Lease, leases, ended, held, open_by, open_leases, IsOpen}
use Rattle.history.specs.Contents.{Entry, is_free, is_offered, is_held, Contents, record_of, opened, verdicts_of, Keeps}
use Rattle.history.specs.Steps.{FirstFree, ContentsSay}
use Rattle.history.proofs.Sums.{total_le, total-at, one_at, first_without}
use Rattle.history.proofs.Leases.{serial-of, the_lease, orderly, weighed, not_ended}
use Rattle.history.proofs.Keeping.{opened_of}

none_if : (o : Option Table) → none ≡ verdicts_of o → o ≡ none
none_if none e = refl
none_if (some t) e = let z : ◌≡◌ {A = ℕ} 0 1 = cc in absurd (omega arith)

some_if : (o : Option Table) (vs : List ℕ) → some vs ≡ verdicts_of o → (t : Table) × (o ≡ some t) × ((m : Membership) → verdict t m ≡ get_or vs (place m) 0)
unfolding verdict
some_if none vs e = let z : ◌≡◌ {A = ℕ} 0 1 = cc in absurd (omega arith)
some_if (some t) vs e = let q : vs ≡ t.verdicts = cc in (t, refl, λ m. ap (λ (xs : List ℕ). get_or xs (place m) 0) (sym q))

-- 1 for an open lease with this serial in this state
abbrev state_of : ℕ → Bool → Lease → Bool → ℕ
state_of n s l b = one_if (eqb l.serial n && eqb (one_if b) (one_if s))

pub same_bool : (b s : Bool) → eqb (one_if b) (one_if s) ≡ true → b ≡ s
same_bool true true e = refl
same_bool true false e = absurd (false≢true e)
same_bool false true e = absurd (false≢true e)
same_bool false false e = refl

pub yes_if : (b : Bool) → 1 ≤ one_if b → b ≡ true
yes_if true l = refl
yes_if false l = absurd (not-suc-le-zero l)

state_parts : (n : ℕ) (s : Bool) (l : Lease) (b : Bool) → 1 ≤ state_of n s l b → (l.serial ≡ n) × (b ≡ s)
state_parts n s l b e =
    let p = and_parts (eqb l.serial n) (eqb (one_if b) (one_if s)) (yes_if _ e) in
    (eqb-true l.serial n p.0, same_bool b s p.1)

state_from : (n : ℕ) (s : Bool) (l : Lease) (b : Bool) → l.serial ≡ n → b ≡ s → state_of n s l b ≡ 1
state_from n s l b e f = rw (eq-eqb l.serial n e, f, eq-eqb (one_if s) (one_if s) refl)

-- the entry with weight is open
open_entry : (w : Lease → Bool → ℕ) (e : Entry) → 1 ≤ opened w e → (s : Bool) × (l : Lease) × (e ≡ record_of s l) × (1 ≤ w l s)
open_entry w is_free h = absurd (not-suc-le-zero h)
open_entry w (is_offered l) h = (false, l, refl, h)
open_entry w (is_held l) h = (true, l, refl, h)

-- an open lease with weight has not ended
open_lease : (b : Bool) (n : ℕ) → 1 ≤ cond b 0 n → (b ≡ false) × (1 ≤ n)
open_lease true n h = absurd (not-suc-le-zero h)
open_lease false n h = (refl, h)

-- the one at a place of the leases was given
given-at : (ls : List Lease) (i : ℕ) (l : Lease) → HasItemAt ls i l → among l.serial (map serial-of ls) ≡ true
given-at [] i l a = absurd (not-suc-le-zero a.0)
given-at (x ∷ ls) zero l a = let e : eqb l.serial x.serial ≡ true = eq-eqb l.serial x.serial (ap serial-of (sym (a.1 x))) in rw e
given-at (x ∷ ls) (suc i) l a = or_right (eqb l.serial x.serial) (among l.serial (map serial-of ls)) (given-at ls i l (le_of_suc-le-suc a.0, a.1))

module _ (k : Making) (h : History) (v : Contents) (a : Keeps k h v) where
  -- the open leases with weight, and the open records with weight
  pub find_record : (w : Lease → Bool → ℕ) → 1 ≤ open_by w h → (i : ℕ) × (s : Bool) × (l : Lease) × HasItemAt v.book i (record_of s l) × (1 ≤ w l s)
  find_record w o =
      let f = one_at (opened w) v.book (omega (arith, o, a.book.1 w)) in
      let e = open_entry w f.1 f.3 in
      (f.0, e.0, e.1, (f.2.0, λ d. f.2.1 d ∙ e.2), e.3)

  pub find_lease : (w : Lease → Bool → ℕ) (i : ℕ) (s : Bool) (l : Lease) → HasItemAt v.book i (record_of s l) → 1 ≤ w l s
      → (j : ℕ) × (x : Lease) × HasItemAt (leases h) j x × (ended h x.serial ≡ false) × (1 ≤ w x (held h x.serial))
  find_lease w i s l at o =
      let c = total-at (opened w) v.book i (record_of s l) at in
      let f = one_at (λ (x : Lease). cond (ended h x.serial) 0 (w x (held h x.serial))) (leases h) (omega (arith, c, opened_of w s l, a.book.1 w)) in
      let e = open_lease (ended h f.1.serial) (w f.1 (held h f.1.serial)) f.3 in
      (f.0, f.1, f.2, e.0, e.1)

  counted : (n : ℕ) (s : Bool) → IsOpen h n → held h n ≡ s → 1 ≤ open_by (state_of n s) h
  counted n s o e =
      let t = the_lease n (leases h) (orderly k h a.conforms).0 o.0 in
      let z = total_le (weighed n (λ l. 1)) (λ (l : Lease). cond (ended h l.serial) 0 (state_of n s l (held h l.serial))) (λ l. here l.serial (eqb l.serial n) refl) (leases h) in
      omega (arith, z, t.3 (λ l. 1))
    where
      here : (x : ℕ) (b : Bool) → eqb x n ≡ b → cond b 1 0 ≤ cond (ended h x) 0 (one_if (b && eqb (one_if (held h x)) (one_if s)))
      here x true q =
          let f : held h x ≡ s = subst (λ (y : ℕ). held h y ≡ s) (sym (eqb-true x n q)) e in
          rw (not_ended h n o.1 x q, f, eq-eqb (one_if s) (one_if s) refl) (omega arith)
      here x false q = omega arith

  in_state : (n : ℕ) (s : Bool) → IsOpen h n → held h n ≡ s → (i : ℕ) × (l : Lease) × HasItemAt v.book i (record_of s l) × (l.serial ≡ n)
  in_state n s o e =
      let f = find_record (state_of n s) (counted n s o e) in
      let p = state_parts n s f.2 f.1 f.4 in
      (f.0, f.2, subst (λ (b : Bool). HasItemAt v.book f.0 (record_of b f.2)) p.1 f.3, p.0)

  pub from_record : (n i : ℕ) (s : Bool) (l : Lease) → HasItemAt v.book i (record_of s l) → l.serial ≡ n → IsOpen h n × (held h n ≡ s)
  from_record n i s l at e =
      let f = find_lease (state_of n s) i s l at (omega (arith, state_from n s l s e refl)) in
      let p = state_parts n s f.1 (held h f.1.serial) f.4 in (
        (subst (λ (x : ℕ). among x (map serial-of (leases h)) ≡ true) p.0 (given-at (leases h) f.0 f.1 f.2), subst (λ (x : ℕ). ended h x ≡ false) p.0 f.3),
        subst (λ (x : ℕ). held h x ≡ s) p.0 p.1,
      )

  free_entry : (e : Entry) → opened (λ l b. 1) e ≡ 0 → e ≡ is_free
  free_entry is_free z = refl
  free_entry (is_offered l) z = absurd (omega (arith, z))
  free_entry (is_held l) z = absurd (omega (arith, z))

  taken_entry : (e : Entry) → 1 ≤ opened (λ l b. 1) e → ¬ (e ≡ is_free)
  taken_entry e z q = omega (arith, z, ap (opened (λ l b. 1)) q)

  find_free : open_leases h < 256 → (i : ℕ) × FirstFree v.book i
  find_free l =
      let f = first_without (opened (λ l b. 1)) v.book (omega (arith, l, a.book.0, a.book.1 (λ l b. 1))) in
      (f.0, ((f.2.0, λ d. f.2.1 d ∙ free_entry f.1 f.3), λ j d b. taken_entry (get_or v.book j d) (f.4 j d b)))

pub contents_say : ContentsSay
contents_say k h v a =
    record {
      list = sym a.list;
      none_stands = λ e. none_if (certificate h) (sym e ∙ a.kept);
      one_stands = λ vs e. some_if (certificate h) vs (sym e ∙ a.kept);
      count_open = sym (a.book.1 (λ l b. 1));
      count_given = sym a.figures.0;
      offered_ones = λ n. (
        (λ o. let f = in_state k h v a n false o.0 o.1 in (f.0, f.1, (f.2, f.3))),
        λ f. from_record k h v a n f.0 false f.1 f.2.0 f.2.1,
      );
      held_ones = λ n. (
        (λ o. let f = in_state k h v a n true o.0 o.1 in (f.0, f.1, (f.2, f.3))),
        λ f. from_record k h v a n f.0 true f.1 f.2.0 f.2.1,
      );
      free_one = find_free k h v a;
    }
