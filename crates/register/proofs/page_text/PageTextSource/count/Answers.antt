use Rattle.std.proofs.Common.{vec_items, arith}
use Rattle.register.proofs.Texts.{text_length}
use Rattle.register.proofs.page_text.PageTextSource.count.Goals as goal

pub returns-clause-value : goal.returns-clause-value
returns-clause-value c = let n = text_length (vec_items c.args.self.now.text) c.args.self.now.lawful in omega (arith, c.args.self.now.text.ok.0)
