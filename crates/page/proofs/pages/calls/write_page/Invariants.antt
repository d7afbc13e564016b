use Rattle.std.proofs.Common.{◌≡◌, ◌*◌, ◌++◌, length, take, drop}
use Rattle.page.specs.Pages.{page_of}
use Rattle.page.proofs.pages.calls.write_page.Given as goal

abbrev pub invariant-loop-i : goal.invariant-loop-i
invariant-loop-i g l = l.out ≡ page_of (take (length l.yielded) (g.S.Source.list l.fn.source)) ++ drop (20 * length l.yielded) l.initial.out
