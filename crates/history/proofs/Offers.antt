-- A table that was accepted, or that stands, is the model's.
use Rattle.std.proofs.Common.{◌≡◌, ℕ, [], ◌∷◌, sym, refl, ◌∙◌, subst, arith}
use mathlib.Core.Option.{Option, none, some}
use Rattle.credential.specs.declared.memberships.Membership.{Membership}
use Rattle.model.specs.Tables.{Table, Certifies, verdict}
use Rattle.model.proofs.Soundness.{certificates_show_the_model}
use Rattle.model.proofs.Leastness.{least_certificate_certifies}
use Rattle.history.specs.Events.{Making, Call, History, published, withdrawn, certified, adopted, offered, drawn, declined, handed_back, refused, asked}
use Rattle.history.specs.Words.{standing, certificate}
use Rattle.history.specs.Law.{Conforms}
use Rattle.history.specs.Theorems.{TablesModel}
use Rattle.history.proofs.Asked.{same_asked}

pub none_stands : (t : Table) (o : Option Table) → o ≡ none → o ≡ some t → ⊥
none_stands t o p q = let z : ◌≡◌ {A = ℕ} 0 1 = cc in absurd (omega arith)

one_table : (t u : Table) (o : Option Table) → o ≡ some t → o ≡ some u → t ≡ u
one_table t u o p q = cc

-- the certificate that stands certifies the standing credentials
pub stands-certified : (k : Making) (h : History) (t : Table) → Conforms k h → certificate h ≡ some t → Certifies (standing k h) t
stands-certified k [] t c e = absurd (none_stands t none refl e)
stands-certified k (published x ∷ h) t c e = absurd (none_stands t none refl e)
stands-certified k (withdrawn p ∷ h) t c e = absurd (none_stands t none refl e)
stands-certified k (certified b u n ∷ h) t c e =
    subst (Certifies (standing k h)) (one_table u t (some u) refl e) (least_certificate_certifies (standing k h) u c.2.1)
stands-certified k (adopted u ∷ h) t c e = subst (Certifies (standing k h)) (one_table u t (some u) refl e) c.2
stands-certified k (offered m s ∷ h) t c e = stands-certified k h t c.0 e
stands-certified k (drawn s l ∷ h) t c e = stands-certified k h t c.0 e
stands-certified k (declined s ∷ h) t c e = stands-certified k h t c.0 e
stands-certified k (handed_back s ∷ h) t c e = stands-certified k h t c.0 e
stands-certified k (refused x n ∷ h) t c e = stands-certified k h t c.0 e

pub tables_model : TablesModel
tables_model = (
  λ k h b t n c. certificates_show_the_model (standing k h) t (least_certificate_certifies (standing k h) t c.2.1),
  λ k h t c. certificates_show_the_model (standing k h) t c.2,
  λ k h t c e. certificates_show_the_model (standing k h) t (stands-certified k h t c e),
)

-- one call has one verdict
pub same-verdict : (o : Option Table) (m n : Membership) (t u : Table) (c : Call) → asked m ≡ c → asked n ≡ c → o ≡ some t → o ≡ some u → verdict t m ≡ verdict u n
same-verdict o m n t u c p q e f = λ i. verdict (one_table t u o e f i) (same_asked m n (p ∙ sym q) i)
