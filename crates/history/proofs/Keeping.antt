-- The contents agree with the history from the making on.
use Rattle.std.proofs.Common.{◌≡◌, ℕ, zero, suc, ◌+◌, ◌-◌, ◌≤◌, Bool, true, false, cond, ◌||◌, eqb, List, [], ◌∷◌, ◌++◌, map, length, get_or, take, drop, replicate, sym, refl, ap, ◌∙◌, subst, arith}
use Rattle.std.proofs.lemmas.Bool.{eqb-true, eqb-false, eq-eqb}
use Rattle.std.proofs.lemmas.List.{length-set, get_or-set_same, get_or-set_other}
use Rattle.credential.specs.Numbers.{RoleName}
use Rattle.history.specs.Events.{Making, Slip, History, published, withdrawn, certified, adopted, offered, drawn, declined, handed_back, refused}
use Rattle.history.specs.Words.{total, HasItemAt, one_if, among, Lease, leases, declines, hand_backs, ended, held, open_by, offers_given, weight_of, for}
use Rattle.history.specs.Contents.{is_free, is_offered, is_held, Contents, record_of, opened, in_book, figure, one_more, Tells, Keeps, MakingKeeps}
use Rattle.history.specs.Steps.{CallsKeep}
use Rattle.history.proofs.Sums.{total_le, total_balance, total-set, total-at}
use Rattle.history.proofs.Leases.{serial-of, weighed, the_lease, Orderly, orderly, ends_one, not_ended, new_open, new_not_held, summed-before, declined_ends, handed_back_ends}

-- the making
none_free : (w : Lease → Bool → ℕ) (n : ℕ) → in_book w (replicate n is_free) ≡ 0
none_free w zero = refl
none_free w (suc n) = omega (arith, none_free w n)

all_zero : (n i : ℕ) → ◌≡◌ {A = ℕ} (get_or (replicate n 0) i 0) 0
all_zero zero i = refl
all_zero (suc n) zero = refl
all_zero (suc n) (suc i) = all_zero n i

pub making_keeps : MakingKeeps
making_keeps k =
    record {
      conforms = tt;
      made = (refl, refl, refl);
      list = refl;
      kept = refl;
      figures = (refl, (refl, λ r. all_zero 16 (r.number - 1)), (refl, λ r. all_zero 16 (r.number - 1)), (refl, λ r. all_zero 16 (r.number - 1)));
      book = (refl, λ w. none_free w 256);
    }

-- the figures
same_number : (a b : RoleName) → a.number - 1 ≡ b.number - 1 → a.number ≡ b.number
same_number a b e = omega (arith, a.low, b.low, e)

pub figure_more : (xs : List ℕ) (a b : RoleName) → length xs ≡ 16 → figure (one_more a xs) b.number ≡ one_if (eqb a.number b.number) + figure xs b.number
figure_more xs a b l = go (eqb a.number b.number) refl
  where
    go : (t : Bool) → eqb a.number b.number ≡ t → figure (one_more a xs) b.number ≡ one_if t + figure xs b.number
    go true e =
        let q : b.number - 1 ≡ a.number - 1 = omega (arith, eqb-true a.number b.number e) in
        let z = get_or-set_same xs (a.number - 1) (suc (figure xs a.number)) 0 (omega (arith, a.low, a.high, l)) in
        let y : figure (one_more a xs) b.number ≡ figure (one_more a xs) a.number = ap (λ (i : ℕ). get_or (one_more a xs) i 0) q in
        let x : figure xs b.number ≡ figure xs a.number = ap (λ (i : ℕ). get_or xs i 0) q in
        omega (arith, x, y, z)
    go false e =
        let y = get_or-set_other xs (a.number - 1) (b.number - 1) (suc (figure xs a.number)) 0 (λ q. eqb-false a.number b.number e (sym (same_number b a q))) in
        omega (arith, y)

-- one more for a role name
tells_more : (xs : List ℕ) (f g : ℕ → ℕ) (a : RoleName) → Tells xs f → ((r : ℕ) → g r ≡ one_if (eqb a.number r) + f r) → Tells (one_more a xs) g
tells_more xs f g a t e = (
  length-set xs (a.number - 1) _ ∙ t.0,
  λ r. omega (arith, figure_more xs a r t.0, t.1 r, e r.number),
)

tells_same : (xs : List ℕ) (f g : ℕ → ℕ) → Tells xs f → ((r : ℕ) → g r ≡ f r) → Tells xs g
tells_same xs f g t e = (t.0, λ r. t.1 r ∙ sym (e r.number))

pub opened_of : (w : Lease → Bool → ℕ) (s : Bool) (l : Lease) → opened w (record_of s l) ≡ w l s
opened_of w true l = refl
opened_of w false l = refl

cond_least : (b : Bool) (n : ℕ) → cond b 0 n ≤ n
cond_least true n = omega arith
cond_least false n = omega arith

-- no more is in the book for a serial than was given for it
pub in_book_most : (k : Making) (h : History) (v : Contents) → Keeps k h v → (n : ℕ) (p : Lease → ℕ) → in_book (λ l b. weighed n p l) v.book ≤ weight_of p h n
in_book_most k h v a n p =
    omega (
      arith,
      a.book.1 (λ l b. weighed n p l),
      total_le (λ (l : Lease). cond (ended h l.serial) 0 (weighed n p l)) (weighed n p) (λ l. cond_least (ended h l.serial) (weighed n p l)) (leases h),
    )

-- an open record has the lease of its serial
module _ (k : Making) (h : History) (v : Contents) (a : Keeps k h v) (n i : ℕ) (l : Lease) (s : Bool)
    (at : HasItemAt v.book i (record_of s l)) (e : l.serial ≡ n) (was_given : among n (map serial-of (leases h)) ≡ true) where
  record_least : (p : Lease → ℕ) → p l ≤ weight_of p h n
  record_least p =
      let f : Lease → Bool → ℕ = λ x b. weighed n p x in
      let x = total-at (opened f) v.book i (record_of s l) at in
      let y : opened f (record_of s l) ≡ p l = opened_of f s l ∙ rw (eq-eqb l.serial n e) in
      omega (arith, x, y, in_book_most k h v a n p)

  record_says : (p : Lease → ℕ) → weight_of p h n ≡ p l
  record_says p =
      let t = the_lease n (leases h) (orderly k h a.conforms).0 was_given in
      let q : Lease → ℕ = λ x. (p l + p t.0) - p x in
      omega (arith, t.3 p, t.3 q, record_least p, record_least q)

-- a draw moves the weight of one lease
module _ (h : History) (n : ℕ) (still : ended h n ≡ false) (waits : held h n ≡ false) where
  draws_here : (w : Bool → ℕ) (s : ℕ) (b : Bool) → eqb s n ≡ b
      → cond (ended h s) 0 (w (b || held h s)) + cond b (w false) 0 ≡ cond (ended h s) 0 (w (held h s)) + cond b (w true) 0
  draws_here w s true e =
      let k : held h s ≡ false = subst (λ (x : ℕ). held h x ≡ false) (sym (eqb-true s n e)) waits in
      rw (not_ended h n still s e, k) (omega arith)
  draws_here w s false e = refl

  draws_one : (w : Lease → Bool → ℕ)
      → total (λ (l : Lease). cond (ended h l.serial) 0 (w l (eqb l.serial n || held h l.serial))) (leases h) + weight_of (λ l. w l false) h n
      ≡ open_by w h + weight_of (λ l. w l true) h n
  draws_one w =
      total_balance
      (λ (l : Lease). cond (ended h l.serial) 0 (w l (eqb l.serial n || held h l.serial)))
      (weighed n (λ l. w l false))
      (λ (l : Lease). cond (ended h l.serial) 0 (w l (held h l.serial)))
      (weighed n (λ l. w l true))
      (λ l. draws_here (w l) l.serial (eqb l.serial n) refl)
      (leases h)

pub calls_keep : CallsKeep
calls_keep k h v w (published c) a q d f =
    subst (Keeps k (published c ∷ h)) (sym f)
    (record { conforms = (a.conforms, q, d); made = a.made; list = ap (λ (xs : List _). xs ++ c ∷ []) a.list; kept = refl; figures = a.figures; book = a.book })
calls_keep k h v w (withdrawn p) a q d f =
    subst (Keeps k (withdrawn p ∷ h)) (sym f)
    (record { conforms = (a.conforms, q, d); made = a.made; list = ap (λ (xs : List _). take (p - 1) xs ++ drop p xs) a.list; kept = refl; figures = a.figures; book = a.book })
calls_keep k h v w (certified b t n) a q d f =
    subst (Keeps k (certified b t n ∷ h)) (sym f)
    (record { conforms = (a.conforms, q, d); made = a.made; list = a.list; kept = refl; figures = a.figures; book = a.book })
calls_keep k h v w (adopted t) a q d f =
    subst (Keeps k (adopted t ∷ h)) (sym f)
    (record { conforms = (a.conforms, q, d); made = a.made; list = a.list; kept = refl; figures = a.figures; book = a.book })
calls_keep k h v w (refused c e) a q d f =
    subst (Keeps k (refused c e ∷ h)) (sym f)
    (record { conforms = (a.conforms, q, d); made = a.made; list = a.list; kept = a.kept; figures = a.figures; book = a.book })
calls_keep k h v w (offered m s) a q d f =
    subst (Keeps k (offered m s ∷ h)) (sym f.2)
    (record {
      conforms = (a.conforms, q, d);
      made = a.made;
      list = a.list;
      kept = a.kept;
      figures = (
        ap suc a.figures.0,
        tells_more v.figures.givens _ _ m.role.name a.figures.1 (λ r. refl),
        tells_same v.figures.declineds _ _ a.figures.2 (λ r. summed-before h o l new (for r) (declines h) o.2),
        tells_same v.figures.handed_backs _ _ a.figures.3 (λ r. summed-before h o l new (for r) (hand_backs h) o.3),
      );
      book = (
        length-set v.book f.0 _ ∙ a.book.0,
        λ u.
            let x = total-set (opened u) v.book f.0 (is_offered l) is_free f.1.0 in
            let z : cond (ended h l.serial) 0 (u l (held h l.serial)) ≡ u l false = rw (new_open h o l new, new_not_held h o l new) in
            omega (arith, x, z, a.book.1 u),
      );
    })
  where
    o : Orderly h
    o = orderly k h a.conforms

    l : Lease
    l = record { serial = s.serial; membership = m }

    new : l.serial ≡ suc (offers_given h)
    new = ap (λ (x : Slip). x.serial) d.3
calls_keep k h v w (drawn s l) a q d f =
    subst (Keeps k (drawn s l ∷ h)) (sym f.3)
    (record {
      conforms = (a.conforms, q, d);
      made = a.made;
      list = a.list;
      kept = a.kept;
      figures = a.figures;
      book = (
        length-set v.book f.0 _ ∙ a.book.0,
        λ u.
            let x = total-set (opened u) v.book f.0 (is_held f.1) (is_offered f.1) f.2.0 in
            let y = draws_one h s.serial d.0.1.0.1 d.0.1.1 u in
            omega (arith, x, y, a.book.1 u, says (λ z. u z false), says (λ z. u z true)),
      );
    })
  where
    says : (p : Lease → ℕ) → weight_of p h s.serial ≡ p f.1
    says = record_says k h v a s.serial f.0 f.1 false f.2.0 f.2.1 d.0.1.0.0
calls_keep k h v w (declined s) a q d f =
    subst (Keeps k (declined s ∷ h)) (sym f.3)
    (record {
      conforms = (a.conforms, q, d);
      made = a.made;
      list = a.list;
      kept = a.kept;
      figures = (
        a.figures.0,
        a.figures.1,
        tells_more v.figures.declineds _ _ f.1.membership.role.name a.figures.2 (λ r. omega (arith, says (for r))),
        a.figures.3,
      );
      book = (
        length-set v.book f.0 _ ∙ a.book.0,
        λ u.
            let x = total-set (opened u) v.book f.0 is_free (is_offered f.1) f.2.0 in
            let y = ends_one h s.serial d.1.0.1 (λ z. u z (held h z.serial)) (ended (declined s ∷ h)) (declined_ends h s) in
            omega (arith, x, y, a.book.1 u, says (λ z. u z (held h z.serial)), ap (u f.1) (ap (held h) f.2.1 ∙ d.1.1)),
      );
    })
  where
    says : (p : Lease → ℕ) → weight_of p h s.serial ≡ p f.1
    says = record_says k h v a s.serial f.0 f.1 false f.2.0 f.2.1 d.1.0.0
calls_keep k h v w (handed_back s) a q d f =
    subst (Keeps k (handed_back s ∷ h)) (sym f.3)
    (record {
      conforms = (a.conforms, q, d);
      made = a.made;
      list = a.list;
      kept = a.kept;
      figures = (
        a.figures.0,
        a.figures.1,
        a.figures.2,
        tells_more v.figures.handed_backs _ _ f.1.membership.role.name a.figures.3 (λ r. omega (arith, says (for r))),
      );
      book = (
        length-set v.book f.0 _ ∙ a.book.0,
        λ u.
            let x = total-set (opened u) v.book f.0 is_free (is_held f.1) f.2.0 in
            let y = ends_one h s.serial d.1.0.1 (λ z. u z (held h z.serial)) (ended (handed_back s ∷ h)) (handed_back_ends h s) in
            omega (arith, x, y, a.book.1 u, says (λ z. u z (held h z.serial)), ap (u f.1) (ap (held h) f.2.1 ∙ d.1.1)),
      );
    })
  where
    says : (p : Lease → ℕ) → weight_of p h s.serial ≡ p f.1
    says = record_says k h v a s.serial f.0 f.1 true f.2.0 f.2.1 d.1.0.0
