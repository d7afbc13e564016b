use Rattle.std.proofs.Common.{ℕ, List, is_ok, ap, ◌∙◌, lit≤, rules}
use Rattle.page.specs.Pages.{read_page, credentials_of}
use Rattle.page.proofs.Paging.{empty_lawful, empty_credentials}
use Rattle.register.proofs.page_text.PageText.new.Goals as goal

pub invariant_of-result : goal.invariant_of-result
invariant_of-result c =
    let empty = ap credentials_of c.in_ok-text.ensures.items ∙ empty_credentials in
    record {
      lawful = ap (λ (bs : List ℕ). is_ok (read_page bs)) c.in_ok-text.ensures.items ∙ empty_lawful;
      within = rw empty (lit≤ tt);
      room = search rules;
    }

pub returns : goal.returns
returns c = ap credentials_of c.in_ok-text.ensures.items ∙ empty_credentials
