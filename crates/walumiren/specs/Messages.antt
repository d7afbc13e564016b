-- The lines that the program prints of refusals.
use Rattle.std.specs.Prelude.{ℕ, List, ◌++◌, codes, decimal}
use Rattle.std.specs.Option.{unwrap_or}
use Rattle.credential.specs.declared.refusals.Refusal.{Refusal}
use Rattle.credential.specs.Refusals.{named, position_in}
use Rattle.credential.specs.Notation.{refusal_text}

-- `FILE:LINE:COLUMN: refusal N: ` and its condition; 0 and 0 where it names no position
abbrev pub line_at : List ℕ → (ℕ × ℕ) → Refusal → List ℕ
line_at file at e = file ++ (codes ":" ++ (decimal at.0 ++ (codes ":" ++ (decimal at.1 ++ (codes ": " ++ refusal_text e)))))

abbrev pub refusal_line : List ℕ → Refusal → List ℕ
refusal_line file e = line_at file (unwrap_or (position_in (named e)) (0, 0)) e
