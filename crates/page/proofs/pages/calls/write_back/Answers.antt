use Rattle.std.proofs.Common.{rules}
use Rattle.page.proofs.Paging.{written_back}
use Rattle.page.proofs.pages.calls.write_back.Goals as goal

pub returns-clause-same : goal.returns-clause-same
returns-clause-same c = written_back c.args.page.now.bytes.now c.args.page.now.lawful c.args.out.now _ c.write_page.result (search rules) (search rules)
