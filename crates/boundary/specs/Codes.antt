-- The answers of calls as numbers.
use Rattle.std.specs.Prelude.{◌≡◌, ℕ, ◌+◌, ◌*◌, ◌%◌, List, length, Some, None, Ok, Err, Option, Result}
use Rattle.credential.specs.Refusals.{Named, number_in, entry_in}
use Rattle.credential.specs.declared.credentials.Credential.{Credential}
use Rattle.page.specs.Pages.{read_page, write_answer, write_after}
use Rattle.model.specs.Tables.{Table}
use Rattle.checker.specs.Checks.{Checked}
use Rattle.evaluator.specs.Evaluations.{Evaluated}

-- a refusal: 65,536 times its number, and the place of the entry that it names, or 0
abbrev pub place_in : Option ℕ → ℕ
place_in (Some place) = place % 65536
place_in None = 0

abbrev pub code_of : Named → ℕ
code_of e = 65536 * number_in e + place_in (entry_in e)

-- the value, or the refusal's code
abbrev pub coded : {X : Type 0} → (X → ℕ) → Result X Named → ℕ
coded f (Ok x) = f x
coded f (Err e) = code_of e

-- a page that is refused changes no table
abbrev pub EvaluatedAsRead : Result (List Credential) Named → Table → ℕ → Table → Type 0
EvaluatedAsRead (Ok creds) before r after = (a : Result ℕ Named) × Evaluated creds before a after × (r ≡ coded (λ n. n) a)
EvaluatedAsRead (Err e) before r after = (r ≡ code_of e) × (after ≡ before)

abbrev pub PageEvaluated : List ℕ → Table → ℕ → Table → Type 0
PageEvaluated bytes = EvaluatedAsRead (read_page bytes)

abbrev pub CheckedAsRead : Result (List Credential) Named → Table → ℕ → Type 0
CheckedAsRead (Ok creds) t r = (a : Result (Unit {0}) Named) × Checked creds t a × (r ≡ coded (λ _. 0) a)
CheckedAsRead (Err e) t r = r ≡ code_of e

abbrev pub PageChecked : List ℕ → Table → ℕ → Type 0
PageChecked bytes = CheckedAsRead (read_page bytes)

-- how many credentials a page has, or the refusal's code
abbrev pub PageRead : List ℕ → ℕ → Type 0
PageRead bytes r = r ≡ coded (λ cs. length cs) (read_page bytes)

-- a page written back into a buffer; a page that is refused changes no byte
abbrev pub CopiedAsRead : Result (List Credential) Named → List ℕ → ℕ → List ℕ → Type 0
CopiedAsRead (Ok creds) before r after = (r ≡ coded (λ n. n) (write_answer creds before)) × (after ≡ write_after creds before)
CopiedAsRead (Err e) before r after = (r ≡ code_of e) × (after ≡ before)

abbrev pub PageCopied : List ℕ → List ℕ → ℕ → List ℕ → Type 0
PageCopied bytes = CopiedAsRead (read_page bytes)
