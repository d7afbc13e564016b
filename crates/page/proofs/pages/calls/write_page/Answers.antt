use Rattle.std.proofs.Common.{◌≡◌, ℕ, ◌*◌, ◌≤◌, List, ◌++◌, length, take, drop, Ok, sym, ap, ◌∙◌, arith}
use Rattle.std.proofs.lemmas.Bool.{cond-false}
use Rattle.std.specs.Iterator.Adapters.{enumerate_source, enumerate_count}
use Rattle.std.proofs.lemmas.Iterator.Consumers.{YieldsList-at, YieldsList-from_first, YieldsList-from_enumerate, YieldsList-turn, YieldsList-end}
use Rattle.std.proofs.lemmas.List.{length_push}
use Rattle.std.proofs.lemmas.List.FromFn.{length-enumerate_from}
use Rattle.page.specs.Pages.{page_of, read_page}
use Rattle.page.proofs.Columns.{turn}
use Rattle.page.proofs.Paging.{page-none, page_more_at, page-all, long_enough, written_read}
use Rattle.page.proofs.pages.calls.write_page.Goals as goal

pub loop-i-init : goal.loop-i-init
loop-i-init g c = page-none (g.S.Source.list c.args.source.now) c.args.out.now

pub loop-i-preserved : goal.loop-i-preserved
loop-i-preserved g c =
    let cs = g.S.Source.list c.args.source.now in
    let out = c.args.out.now in
    let t =
    turn cs (length c.loop-i.yielded) c.in-Some.i c.in-Some.credential
    (YieldsList-turn (YieldsList-from_enumerate {s = c.into_iter-i-iterator.result}
    (YieldsList-at (ap enumerate_source c.into_iter-i-iterator.ensures.into_iter_gives ∙ c.enumerate-i-items.ensures.source)
    (YieldsList-from_first (λ x. x) (λ s. drop s.given (g.S.Source.list s.source.now)) cs
    (ap (λ (k : ℕ). drop k (g.S.Source.list c.credentials.result.source.now)) c.credentials.ensures.given ∙ ap g.S.Source.list c.credentials.ensures.source)))
    (ap enumerate_count c.into_iter-i-iterator.ensures.into_iter_gives ∙ c.enumerate-i-items.ensures.count))
    c.loop-i.yielded c.loop-i.i-iterator c.loop-i.yielded_by c.next.result c.next.new.self (c.in-Some.i, c.in-Some.credential) c.in-Some.is c.next.ensures.steps) in
    page_more_at cs out c.loop-i.out (length c.loop-i.yielded) c.loop-i.invariant c.line_start-at.result (c.line_start-at.ensures ∙ ap (λ (j : ℕ). 20 * j) t.1) c.in-Some.credential c.copy_from_slice.new.self
    t.0 t.2 (c.copy_from_slice.ensures.after ∙ c.line_of.ensures)
    ∙ ap (λ (j : ℕ). page_of (take j cs) ++ drop (20 * j) out) (sym (length_push c.loop-i.yielded (c.in-Some.i, c.in-Some.credential)))

pub returns : goal.returns
returns g c =
    let cs = g.S.Source.list c.args.source.now in
    let t =
    YieldsList-end (YieldsList-from_enumerate {s = c.into_iter-i-iterator.result}
    (YieldsList-at (ap enumerate_source c.into_iter-i-iterator.ensures.into_iter_gives ∙ c.enumerate-i-items.ensures.source)
    (YieldsList-from_first (λ x. x) (λ s. drop s.given (g.S.Source.list s.source.now)) cs
    (ap (λ (k : ℕ). drop k (g.S.Source.list c.credentials.result.source.now)) c.credentials.ensures.given ∙ ap g.S.Source.list c.credentials.ensures.source)))
    (ap enumerate_count c.into_iter-i-iterator.ensures.into_iter_gives ∙ c.enumerate-i-items.ensures.count))
    c.loop-i.yielded c.loop-i.i-iterator c.loop-i.yielded_by c.next.result c.next.new.self c.in-None.is c.next.ensures.steps in
    let n : c.count-count.result ≡ length cs = c.count-count.ensures.value in
    let l : 20 * length cs ≤ length c.args.out.now = omega arith in
    let f = long_enough cs c.args.out.now l in
    let m : 20 * c.count-count.result ≡ 20 * length cs = omega arith in
    let w : c.loop-i.out ≡ page_of cs ++ drop (20 * length cs) c.args.out.now =
    page-all cs c.args.out.now c.loop-i.out (length c.loop-i.yielded) c.loop-i.invariant (t.1 ∙ length-enumerate_from 0 cs) in
    record {
      answers = ap (λ (k : ℕ). Ok k) m ∙ sym (cond-false _ _ _ f);
      after = w ∙ sym (cond-false _ _ _ f);
      read_back = ap (λ (xs : List ℕ). read_page (take (20 * c.count-count.result) xs)) w
          ∙ written_read cs _ (20 * c.count-count.result) (omega (arith, c.count-count.ensures.few)) m;
    }
