use Rattle.std.proofs.Common.{◌∙◌}
use Rattle.page.proofs.Paging.{credential_there}
use Rattle.page.proofs.pages.calls.PageSource.at.Goals as goal

pub returns : goal.returns
returns c = c.credential_at.ensures ∙ credential_there c.args.self.now.bytes.now c.args.self.now.lawful c.args.place
