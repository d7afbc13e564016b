-- Testing fields one after another.
use Rattle.std.proofs.Common.{◌≡◌, ℕ, List, [], ◌∷◌, length, Ok, Option, refl, arith, ◌⊎◌, ⊎_elim}
use Rattle.credential.specs.declared.letters.Mark.{Mark}
use Rattle.credential.specs.declared.letters.Letter.{Letter}
use Rattle.credential.specs.declared.letters.Letter.TheVariants.{Member, Inclusion, Linked, Intersection, Exclusion}
use Rattle.credential.specs.Letters.{marks_of}
use Rattle.credential.specs.Credentials.{fitted}

-- where the marks or the fields are at their end, nothing is left to fit
pub fitted_end : (ms : List Mark) (fs : List (Option ℕ)) → (length ms ≡ 0) ⊎ (length fs ≡ 0) → fitted ms fs ≡ Ok tt
unfolding fitted
fitted_end [] fs h = refl
fitted_end (m ∷ ms) [] h = refl
fitted_end (m ∷ ms) (f ∷ fs) h = absurd (⊎_elim (λ (e : length (m ∷ ms) ≡ 0). omega (arith, e)) (λ (e : length (f ∷ fs) ≡ 0). omega (arith, e)) h)

pub six_marks : (l : Letter) → length (marks_of l) ≡ 6
six_marks Member = refl
six_marks Inclusion = refl
six_marks Linked = refl
six_marks Intersection = refl
six_marks Exclusion = refl
