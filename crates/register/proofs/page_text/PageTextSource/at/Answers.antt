use Rattle.std.proofs.Common.{ℕ, List, vec_items, ap, ◌∙◌}
use Rattle.page.specs.Pages.{credential_at}
use Rattle.page.proofs.Paging.{credential_there}
use Rattle.register.proofs.page_text.PageTextSource.at.Goals as goal

pub returns : goal.returns
returns c =
    c.credential_at.ensures ∙ ap (λ (bs : List ℕ). credential_at bs c.args.place) c.as_slice.ensures.value
    ∙ credential_there (vec_items c.args.self.now.text) c.args.self.now.lawful c.args.place
