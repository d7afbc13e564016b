use Rattle.std.proofs.Common.{◌≡◌, ℕ, ◌+◌, List, ◌++◌, length, get_or, drop, sym, refl, ap, ◌∙◌, arith, rules}
use Rattle.page.specs.Numerals.{numeral}
use Rattle.vault.specs.declared.statement.Tally.{Tally}
use Rattle.vault.specs.declared.statement.Row.{Row}
use Rattle.vault.specs.Statements.{row_of, row_text, lines_to}
use Rattle.vault.proofs.Filling.{no_lines, lines_skip, lines_more}
use Rattle.vault.proofs.statement.writing.write_role_lines.Goals as goal
use Rattle.vault.proofs.statement.writing.write_role_lines.Goals.{then-tally-gt0, else-tally-gt0}

pub loop-i-init : goal.loop-i-init
loop-i-init c =
    let none = sym (no_lines c.args.units.now c.args.tallies.now) in
    (ap (λ (t : List ℕ). t ++ c.args.out.now) none, ap length none, omega arith)

pub loop-i-preserved : goal.loop-i-preserved
loop-i-preserved c =
    let us : List ℕ = c.args.units.now in
    let ts : List Tally = c.args.tallies.now in
    let t : Tally = c.index-tallies-i.result in
    let u : ℕ = get_or us c.loop-i.i 0 in
    let is : t ≡ get_or ts c.loop-i.i t = c.index-tallies-i.is in
    elim c.if-tally-gt0.branch [
      | then-tally-gt0 w ↦
          let row : w.row_of-row.result ≡ row_of t u = w.row_of-row.ensures.value ∙ ap (λ (x : Tally). row_of x u) (sym is) in
          let line : w.write_role_line.new.line ≡ numeral 3 (c.loop-i.i + 1) ++ row_text (row_of t u) =
          w.write_role_line.ensures ∙ ap (λ (x : Row). numeral 3 (c.loop-i.i + 1) ++ row_text x) row in
          let p = lines_more us ts c.loop-i.i t u (search rules) is refl c.loop-i.end c.args.out.now c.loop-i.out w.write_role_line.new.line
          (λ e. omega (arith, w.if-tally-gt0.true, ap (λ (x : Tally). x.given) is)) line (search rules) c.loop-i.invariant.1 c.loop-i.invariant.0 in (
            w.out-is ∙ p.0 ∙ ap (λ (n : ℕ). lines_to (c.loop-i.i + 1) us ts ++ drop n c.args.out.now) (sym w.end-is),
            w.end-is ∙ p.1,
            omega (arith, w.end-is, c.loop-i.invariant.2),
          )
      | else-tally-gt0 w ↦
          let s : lines_to c.loop-i.i us ts ≡ lines_to (c.loop-i.i + 1) us ts =
          lines_skip us ts c.loop-i.i t u (search rules) is refl (omega (arith, w.if-tally-gt0.false, ap (λ (x : Tally). x.given) is)) in (
            w.out-is ∙ c.loop-i.invariant.0 ∙ (λ j. s j ++ drop (sym w.end-is j) c.args.out.now),
            w.end-is ∙ c.loop-i.invariant.1 ∙ ap length s,
            omega (arith, w.end-is, c.loop-i.invariant.2),
          )
    ]
