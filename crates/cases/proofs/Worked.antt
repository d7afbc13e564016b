-- The worked cases hold, each by tests that antt computes.
use Rattle.std.proofs.Common.{◌≡◌, ℕ, zero, suc, T, leb, List, [], ◌∷◌, take, drop, sym, refl, ap, ◌∙◌, inr, arith, leb→le}
use Rattle.credential.specs.declared.memberships.Membership.{Membership}
use Rattle.credential.specs.declared.credentials.Credential.{Credential}
use Rattle.page.specs.Numerals.{numeral, lead}
use Rattle.page.specs.Lines.{fields_text}
use Rattle.page.specs.Pages.{read_page, page_of}
use Rattle.page.proofs.RoundTrip.{page_forth}
use Rattle.model.proofs.Places.{member-at}
use Rattle.cases.specs.Sparse.{Row, whole}
use Rattle.cases.specs.Cases.{Expected, is_least, is_refused, Case, cases, circle, circle_page, MeetsExpected, AllHold, CasesHold}
use Rattle.cases.proofs.Rules.{lawful_test}
use Rattle.cases.proofs.Whole.{v, n, everywhere, entry_test, before_test, breaks_test, least_by_test, refused_by_test}

abbrev no_rank : Membership → ℕ
no_rank m = 0

-- the tests of a case; those of a refused place need a proof of its range first
abbrev Passes : List Credential → List Row → Expected → Type 0
Passes creds rows is_least = T (everywhere (entry_test creds rows no_rank))
Passes creds rows (is_refused number place) =
    (h : T (leb (suc place) 16384))
    × T (everywhere (lawful_test creds (v rows) (n rows) no_rank))
    × T (everywhere (before_test creds rows no_rank place))
    × T (breaks_test creds rows no_rank number (member-at place (leb→le (suc place) 16384 h)))

meets_expected : (creds : List Credential) (rows : List Row) (e : Expected) → Passes creds rows e → MeetsExpected creds (whole rows) e
meets_expected creds rows is_least t = least_by_test creds rows no_rank t
meets_expected creds rows (is_refused number place) t =
    inr (refused_by_test creds rows no_rank number place (leb→le (suc place) 16384 t.0) t.1 t.2 t.3)

abbrev AllPass : List Case → Type 0
AllPass [] = Unit {0}
AllPass (c ∷ cs) = Passes c.creds c.rows c.expected × AllPass cs

all_hold : (cs : List Case) → AllPass cs → AllHold cs
all_hold [] t = tt
all_hold (c ∷ cs) t = (meets_expected c.creds c.rows c.expected t.0, all_hold cs t.1)

-- in two halves, each within the steps of one task
halves : (k : ℕ) (cs : List Case) → AllPass (take k cs) → AllPass (drop k cs) → AllPass cs
halves zero cs front back = back
halves (suc k) [] front back = tt
halves (suc k) (c ∷ cs) front back = (front.0, halves k cs front.1 back)

front_half : AllPass (take 4 cases)
front_half = (tt, ((tt, tt, tt, tt), ((tt, tt, tt, tt), ((tt, tt, tt, tt), tt))))

back_half : AllPass (drop 4 cases)
back_half = (tt, (tt, (tt, ((tt, tt, tt, tt), tt))))

-- the page is what the credentials are written as
written : page_of circle ≡ circle_page
unfolding page_of fields_text numeral lead
written = refl

pub cases_hold : CasesHold
cases_hold = (sym (ap read_page written) ∙ page_forth circle (omega arith), all_hold cases (halves 4 cases front_half back_half))
