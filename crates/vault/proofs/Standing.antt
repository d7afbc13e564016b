-- What certifying and adopting are in a vault's history, and what is kept of a certificate.
use Rattle.std.proofs.Common.{◌≡◌, ℕ, Bool, true, false, ◌||◌, eqb, ◌⊎◌, List, get_or, Ok, Err, refl, ap, inl, inr}
use mathlib.Core.Option.{Option, some}
use Rattle.std.proofs.lemmas.Bool.{eq-eqb}
use Rattle.credential.specs.declared.memberships.Membership.{Membership}
use Rattle.credential.specs.Memberships.{place}
use Rattle.credential.specs.Refusals.{Named}
use Rattle.model.specs.Tables.{Table, table, verdict, Lawful}
use Rattle.checker.specs.Checks.{Checked}
use Rattle.evaluator.specs.Evaluations.{Evaluated}
use Rattle.history.specs.Events.{certifying, adopting, certify, adopt, certified, adopted, refused}
use Rattle.history.specs.Law.{not_evaluated, not_accepted}
use Rattle.history.specs.Contents.{Contents}
use Rattle.history.specs.Steps.{relisted}
use Rattle.vault.specs.Verdicts.{is_verdict}
use Rattle.vault.specs.Vaults.{Happened}
use Rattle.vault.proofs.Happening.{happened}

or_true : (b : Bool) → (b || true) ≡ true
or_true true = refl
or_true false = refl

-- a verdict is one of the three
one_of_three : (b : ℕ) → (b ≡ 84) ⊎ ((b ≡ 70) ⊎ (b ≡ 85)) → is_verdict b ≡ true
one_of_three b (inl e) = rw (eq-eqb b 84 e)
one_of_three b (inr (inl e)) = rw (eq-eqb b 70 e) (or_true (eqb b 84))
one_of_three b (inr (inr e)) = rw (eq-eqb b 85 e, or_true (eqb b 70)) (or_true (eqb b 84))

-- every entry of a lawful table has a verdict
pub lawful-kept : (vs ms : List ℕ) → ((m : Membership) → Lawful (table vs ms) m) → (m : Membership) → is_verdict (get_or vs (place m) 0) ≡ true
unfolding verdict
lawful-kept vs ms l m = one_of_three (get_or vs (place m) 0) (l m).0

module _ (v : Contents) where
  pub certify_taken : v.kind ≡ certifying → (b t : Table) (n : ℕ) (ks : Option (List ℕ)) → ks ≡ some t.verdicts → Evaluated v.list b (Ok n) t → Happened v (certified b t n) (relisted v.list ks v)
  certify_taken k b t n ks q e = happened v (relisted v.list ks v) (certified b t n) k e (ap (λ (o : Option (List ℕ)). relisted v.list o v) q)

  pub certify-refused : v.kind ≡ certifying → (b t : Table) (e : Named) → Evaluated v.list b (Err e) t → Happened v (refused (certify b) e) v
  certify-refused k b t e d = happened v v (refused (certify b) e) k (not_evaluated t d) refl

  pub adopt_taken : v.kind ≡ adopting → (t : Table) (ks : Option (List ℕ)) → ks ≡ some t.verdicts → Checked v.list t (Ok tt) → Happened v (adopted t) (relisted v.list ks v)
  adopt_taken k t ks q e = happened v (relisted v.list ks v) (adopted t) k e (ap (λ (o : Option (List ℕ)). relisted v.list o v) q)

  pub adopt-refused : v.kind ≡ adopting → (t : Table) (e : Named) → Checked v.list t (Err e) → Happened v (refused (adopt t) e) v
  adopt-refused k t e d = happened v v (refused (adopt t) e) k (not_accepted d) refl
