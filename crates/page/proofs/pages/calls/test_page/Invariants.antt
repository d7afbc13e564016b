use Rattle.std.proofs.Common.{◌≡◌, ◌+◌, ◌-◌, ◌*◌, ◌/◌, List, length, drop}
use Rattle.std.specs.Iterator.Adapters.{enumerate_source, enumerate_count}
use Rattle.std.specs.Slice.Iter.{chunks_rest, chunks_size}
use Rattle.credential.specs.declared.credentials.Credential.{Credential}
use Rattle.page.specs.Lines.{collected}
use Rattle.page.specs.Pages.{line_at, read_page}
use Rattle.page.proofs.Collecting.{behind}
use Rattle.page.proofs.pages.calls.test_page.Given as goal

abbrev pub invariant-loop-i : goal.invariant-loop-i
invariant-loop-i l =
    let i = enumerate_count l.i-iterator in
    record {
      size : chunks_size (enumerate_source l.i-iterator) ≡ 20;
      rest : chunks_rest (enumerate_source l.i-iterator) ≡ drop (20 * i) l.fn.bytes;
      read : (cs : List Credential) × (read_page l.fn.bytes ≡ behind cs (collected ((length l.fn.bytes + 19) / 20 - i) (line_at l.fn.bytes) i));
    }
