use Rattle.std.proofs.Common.{◌≡◌, ℕ, ◌+◌, ◌-◌, ◌*◌, ◌/◌, min, List, [], ◌∷◌, ◌++◌, length, take, drop, sym, ap, ◌∙◌, arith, length-drop}
use Rattle.std.proofs.lemmas.Result.{err_from_is_err_and}
use Rattle.std.specs.Iterator.Adapters.{enumerate_source, enumerate_count}
use Rattle.std.specs.Slice.Iter.{chunks_rest}
use Rattle.page.specs.Lines.{collected, read_line}
use Rattle.page.specs.Pages.{line_at, whether}
use Rattle.page.proofs.Collecting.{behind, collect_more, collect_stop, collect_all}
use Rattle.page.proofs.Paging.{chunk, chunk_rest}
use Rattle.page.proofs.pages.calls.test_page.Goals as goal

pub loop-i-preserved : goal.loop-i-preserved
loop-i-preserved c =
    let bytes = c.args.bytes.now in
    let i = enumerate_count c.loop-i.i-iterator in
    let rest = chunks_rest (enumerate_source c.loop-i.i-iterator) in
    let s = c.in-Some.ensures.steps in
    let l : length c.in-Some.line.now ≡ min 20 (length rest) = s.0.1.1 ∙ ap (λ (n : ℕ). min n (length rest)) c.loop-i.invariant.size in
    let d : length rest ≡ length bytes - 20 * i = ap length c.loop-i.invariant.rest ∙ length-drop (20 * i) bytes in
    let total = (length bytes + 19) / 20 in
    let cs = c.loop-i.invariant.read.0 ++ c.in_ok-read_line.field-0 ∷ [] in
    record {
      size = s.0.0 ∙ c.loop-i.invariant.size;
      rest = chunk_rest bytes rest c.in-Some.line.now _ i c.loop-i.invariant.rest s.0.1.0 l ∙ ap (λ (j : ℕ). drop (20 * j) bytes) (sym s.2);
      read = (
        cs,
        collect_more total (line_at bytes) i c.loop-i.invariant.read.0 _ (omega (arith, s.0.1.2)) c.loop-i.invariant.read.1 _
            (sym (c.in_ok-read_line.ensures
            ∙ ap (λ (t : List ℕ). read_line t (c.in-Some.i + 1)) (chunk bytes rest c.in-Some.line.now _ i c.loop-i.invariant.rest s.0.1.0 l)
            ∙ ap (λ (j : ℕ). read_line (take 20 (drop (20 * i) bytes)) (j + 1)) s.1))
            ∙ ap (λ (j : ℕ). behind cs (collected (total - j) (line_at bytes) j)) (sym s.2),
      );
    }

pub returns-in_err-read_line : goal.returns-in_err-read_line
returns-in_err-read_line c =
    let bytes = c.args.bytes.now in
    let i = enumerate_count c.loop-i.i-iterator in
    let rest = chunks_rest (enumerate_source c.loop-i.i-iterator) in
    let s = c.in-Some.ensures.steps in
    let l : length c.in-Some.line.now ≡ min 20 (length rest) = s.0.1.1 ∙ ap (λ (n : ℕ). min n (length rest)) c.loop-i.invariant.size in
    let d : length rest ≡ length bytes - 20 * i = ap length c.loop-i.invariant.rest ∙ length-drop (20 * i) bytes in
    let p = err_from_is_err_and c.from_residual.result c.from_residual.ensures.1 in
    rw (p.1, p.2)
    (sym (ap whether (collect_stop ((length bytes + 19) / 20) (line_at bytes) i c.loop-i.invariant.read.0 _ (omega (arith, s.0.1.2)) c.loop-i.invariant.read.1 _
    (sym (c.in_err-read_line.ensures
    ∙ ap (λ (t : List ℕ). read_line t (c.in-Some.i + 1)) (chunk bytes rest c.in-Some.line.now _ i c.loop-i.invariant.rest s.0.1.0 l)
    ∙ ap (λ (j : ℕ). read_line (take 20 (drop (20 * i) bytes)) (j + 1)) s.1)))))

pub returns : goal.returns
returns c =
    let bytes = c.args.bytes.now in
    let i = enumerate_count c.loop-i.i-iterator in
    let rest = chunks_rest (enumerate_source c.loop-i.i-iterator) in
    let d : length rest ≡ length bytes - 20 * i = ap length c.loop-i.invariant.rest ∙ length-drop (20 * i) bytes in
    let s = c.in-None.ensures.steps in
    sym (ap whether
    (collect_all ((length bytes + 19) / 20) (line_at bytes) i c.loop-i.invariant.read.0 _ (omega (arith, s.0.1.0)) c.loop-i.invariant.read.1))
