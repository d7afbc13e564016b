-- A table has one answer, whatever the order of the credentials.
use Rattle.std.proofs.Common.{◌≡◌, ℕ, ◌<◌, ◌⊎◌, List, Ok, Err, Result, sym, refl, ap, ◌∙◌, subst, inl, inr, ⊎_elim, arith}
use Rattle.std.proofs.lemmas.Bool.{cases_order}
use Rattle.credential.specs.Memberships.{place}
use Rattle.credential.specs.Refusals.{Named, refused, refused_at, refused_entry}
use Rattle.credential.specs.declared.memberships.Membership.{Membership}
use Rattle.credential.specs.declared.credentials.Credential.{Credential}
use Rattle.model.specs.Tables.{Table, Sized, IsT, IsF, IsU, NoTrueClause, Certifies}
use Rattle.model.specs.Clauses.{Body, Clause}
use Rattle.model.specs.Theorems.{SameMembers}
use Rattle.model.proofs.Soundness.{certificates_show_the_model}
use Rattle.model.proofs.Leastness.{least_certificate_certifies, no_certificate_below_the_least}
use Rattle.model.proofs.Order.{carry, flip, order_does_not_matter}
use Rattle.model.proofs.Places.{same_place}
use Rattle.checker.specs.Checks.{Unlawful, Meets, Breaks, Broken, Checked, OneAnswer, AcceptedIsTheModel, CertificatesAccepted, SameAnswer}

module _ (creds : List Credential) (t : Table) where
  module _ (m : Membership) where
    not_both : (n : ℕ) → Breaks creds t n m → Meets creds t m → ⊥
    not_both n (inl x) k = x.2 (k.if_T x.1)
    not_both n (inr (inl x)) k = x.2 (k.if_F x.1)
    not_both n (inr (inr (inl x))) k = x.2 (k.if_U x.1).0
    not_both n (inr (inr (inr x))) k = x.3 (k.if_U x.1).1

    by_T : (n : ℕ) → IsT t m → Breaks creds t n m → n ≡ 12
    by_T n e (inl x) = x.0
    by_T n e (inr (inl x)) = let f : IsF t m = x.1 in absurd (omega arith)
    by_T n e (inr (inr (inl x))) = let f : IsU t m = x.1 in absurd (omega arith)
    by_T n e (inr (inr (inr x))) = let f : IsU t m = x.1 in absurd (omega arith)

    by_F : (n : ℕ) → IsF t m → Breaks creds t n m → n ≡ 13
    by_F n e (inl x) = let f : IsT t m = x.1 in absurd (omega arith)
    by_F n e (inr (inl x)) = x.0
    by_F n e (inr (inr (inl x))) = let f : IsU t m = x.1 in absurd (omega arith)
    by_F n e (inr (inr (inr x))) = let f : IsU t m = x.1 in absurd (omega arith)

    by_proved : (n : ℕ) → IsU t m → ¬ (NoTrueClause creds t m) → Breaks creds t n m → n ≡ 14
    by_proved n e h (inl x) = let f : IsT t m = x.1 in absurd (omega arith)
    by_proved n e h (inr (inl x)) = let f : IsF t m = x.1 in absurd (omega arith)
    by_proved n e h (inr (inr (inl x))) = x.0
    by_proved n e h (inr (inr (inr x))) = absurd (h x.2)

    by_unsupported : (n : ℕ) → IsU t m → NoTrueClause creds t m → Breaks creds t n m → n ≡ 15
    by_unsupported n e h (inl x) = let f : IsT t m = x.1 in absurd (omega arith)
    by_unsupported n e h (inr (inl x)) = let f : IsF t m = x.1 in absurd (omega arith)
    by_unsupported n e h (inr (inr (inl x))) = absurd (x.2 h)
    by_unsupported n e h (inr (inr (inr x))) = x.0

    one_rule : (n k : ℕ) → Breaks creds t n m → Breaks creds t k m → n ≡ k
    one_rule n k (inl x) b = x.0 ∙ sym (by_T k x.1 b)
    one_rule n k (inr (inl x)) b = x.0 ∙ sym (by_F k x.1 b)
    one_rule n k (inr (inr (inl x))) b = x.0 ∙ sym (by_proved k x.1 x.2 b)
    one_rule n k (inr (inr (inr x))) b = x.0 ∙ sym (by_unsupported k x.1 x.2 b)

  abbrev Entry : ℕ → ℕ → Type 0
  Entry n p = ((n ≡ 11) × Unlawful t p) ⊎ Broken creds t n p

  sized : (n p : ℕ) → Entry n p → Sized t
  sized n p (inl x) = x.1.sizes
  sized n p (inr x) = x.sizes

  not_certified : (n p : ℕ) → Entry n p → Certifies creds t → ⊥
  not_certified n p (inl x) c = x.1.there.2 (c.lawful x.1.there.0)
  not_certified n p (inr x) c =
      let m = x.there.0 in
      not_both m n x.there.2 (record { if_T = c.true_ones m; if_F = c.false_ones m; if_U = c.undefined_ones m })

  unlawful_first : (p q : ℕ) → Unlawful t p → Unlawful t q → p < q → ⊥
  unlawful_first p q u v h = let e : place u.there.0 ≡ p = u.there.1 in u.there.2 (v.before u.there.0 (omega arith))

  broken_first : (n p k q : ℕ) → Broken creds t n p → Broken creds t k q → p < q → ⊥
  broken_first n p k q u v h =
      let m = u.there.0 in let e : place m ≡ p = u.there.1 in not_both m n u.there.2 (v.before m (omega arith))

  one_entry : (n p k q : ℕ) → Entry n p → Entry k q → (n ≡ k) × (p ≡ q)
  one_entry n p k q (inl x) (inl y) = (
    x.0 ∙ sym y.0,
    ⊎_elim (λ (e : p ≡ q). e)
        (⊎_elim (λ (h : p < q). absurd (unlawful_first p q x.1 y.1 h)) (λ (h : q < p). absurd (unlawful_first q p y.1 x.1 h)))
        (cases_order p q),
  )
  one_entry n p k q (inl x) (inr y) = absurd (x.1.there.2 (y.lawful x.1.there.0))
  one_entry n p k q (inr x) (inl y) = absurd (y.1.there.2 (x.lawful y.1.there.0))
  one_entry n p k q (inr x) (inr y) =
      let same : p ≡ q =
      ⊎_elim (λ (e : p ≡ q). e)
      (⊎_elim (λ (h : p < q). absurd (broken_first n p k q x y h)) (λ (h : q < p). absurd (broken_first k q n p y x h)))
      (cases_order p q) in
      let there : y.there.0 ≡ x.there.0 = same_place y.there.0 x.there.0 (y.there.1 ∙ sym same ∙ sym x.there.1) in
      (one_rule x.there.0 n k x.there.2 (subst (Breaks creds t k) there y.there.2), same)

pub one_answer : OneAnswer
one_answer creds t (Ok u) (Ok v) a b = refl
one_answer creds t (Ok u) (Err (refused n)) a b = absurd (b.1 a.sizes)
one_answer creds t (Ok u) (Err (refused_at n l c)) a b = absurd b
one_answer creds t (Ok u) (Err (refused_entry n p)) a b = absurd (not_certified creds t n p b a)
one_answer creds t (Err (refused n)) (Ok u) a b = absurd (a.1 b.sizes)
one_answer creds t (Err (refused n)) (Err (refused k)) a b = ap (λ (i : ℕ). Err (refused i)) (a.0 ∙ sym b.0)
one_answer creds t (Err (refused n)) (Err (refused_at k l c)) a b = absurd b
one_answer creds t (Err (refused n)) (Err (refused_entry k p)) a b = absurd (a.1 (sized creds t k p b))
one_answer creds t (Err (refused_at n l c)) s a b = absurd a
one_answer creds t (Err (refused_entry n p)) (Ok u) a b = absurd (not_certified creds t n p a b)
one_answer creds t (Err (refused_entry n p)) (Err (refused k)) a b = absurd (b.1 (sized creds t n p a))
one_answer creds t (Err (refused_entry n p)) (Err (refused_at k l c)) a b = absurd b
one_answer creds t (Err (refused_entry n p)) (Err (refused_entry k q)) a b =
    let e = one_entry creds t n p k q a b in
    ap (λ (i : ℕ). Err (refused_entry i p)) e.0 ∙ ap (λ (i : ℕ). Err (refused_entry k i)) e.1

pub accepted_is_the_model : (creds : List Credential) (t : Table) (r : Result (Unit {0}) Named) → Checked creds t r → AcceptedIsTheModel creds t r
accepted_is_the_model creds t r c e =
    let k : Certifies creds t = subst (Checked creds t) e c in
    (certificates_show_the_model creds t k, λ least l. no_certificate_below_the_least creds least t l k)

pub certificates_accepted : (creds : List Credential) (t : Table) (r : Result (Unit {0}) Named) → Checked creds t r → CertificatesAccepted creds t r
certificates_accepted creds t r c = (
  λ k. one_answer creds t r (Ok tt) c k,
  λ l. one_answer creds t r (Ok tt) c (least_certificate_certifies creds t l),
)

-- the rules, for the same credentials in another order
module _ (creds others : List Credential) (same : SameMembers creds others) (t : Table) (m : Membership) where
  to : (o : Body) → Clause creds m o → Clause others m o
  to o = carry creds others same m o

  from : (o : Body) → Clause others m o → Clause creds m o
  from o = carry others creds (flip creds others same) m o

  meets : Meets creds t m → Meets others t m
  meets k = record {
    if_T = λ e. let c = k.if_T e in (c.0, to c.0 c.1, c.2, c.3);
    if_F = λ e o cl. k.if_F e o (from o cl);
    if_U = λ e. let c = k.if_U e in ((λ o cl. c.0 o (from o cl)), (c.1.0, to c.1.0 c.1.1, c.1.2, c.1.3));
  }

  breaks : (n : ℕ) → Breaks creds t n m → Breaks others t n m
  breaks n (inl x) = inl (x.0, x.1, λ c. x.2 (c.0, from c.0 c.1, c.2, c.3))
  breaks n (inr (inl x)) = inr (inl (x.0, x.1, λ c. x.2 (λ o cl. c o (to o cl))))
  breaks n (inr (inr (inl x))) = inr (inr (inl (x.0, x.1, λ c. x.2 (λ o cl. c o (to o cl)))))
  breaks n (inr (inr (inr x))) = inr (inr (inr (x.0, x.1, (λ o cl. x.2 o (from o cl)), λ c. x.3 (c.0, from c.0 c.1, c.2, c.3))))

pub same_answer : (creds : List Credential) (t : Table) (r : Result (Unit {0}) Named) → Checked creds t r → SameAnswer creds t r
same_answer creds t (Ok u) c others same = ((order_does_not_matter creds others same).3 t).0 c
same_answer creds t (Err (refused n)) c others same = c
same_answer creds t (Err (refused_at n l k)) c others same = c
same_answer creds t (Err (refused_entry n p)) (inl x) others same = inl x
same_answer creds t (Err (refused_entry n p)) (inr x) others same =
    inr (record {
      sizes = x.sizes;
      lawful = x.lawful;
      before = λ m l. meets creds others same t m (x.before m l);
      there = (x.there.0, x.there.1, breaks creds others same t x.there.0 n x.there.2);
    })
