use Rattle.page.proofs.Paging.{counts, few}
use Rattle.page.proofs.pages.calls.PageSource.count.Goals as goal

pub returns : goal.returns
returns c = record {
  value = counts c.args.self.now.bytes.now c.args.self.now.lawful;
  few = few c.args.self.now.bytes.now c.args.self.now.lawful;
}
