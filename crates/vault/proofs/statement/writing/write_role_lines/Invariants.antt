use Rattle.std.proofs.Common.{◌≡◌, ◌*◌, ◌≤◌, ◌++◌, length, drop}
use Rattle.vault.specs.Statements.{lines_to}
use Rattle.vault.proofs.statement.writing.write_role_lines.Given as goal

abbrev pub invariant-loop-i : goal.invariant-loop-i
invariant-loop-i l =
    (l.out ≡ lines_to l.i l.units l.tallies ++ drop l.end l.initial.out)
    × (l.end ≡ length (lines_to l.i l.units l.tallies))
    × (l.end ≤ 39 * l.i)
