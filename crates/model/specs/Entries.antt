-- The line of an entry.
use Rattle.std.specs.Prelude.{ℕ, ◌-◌, ◌^◌, false, List, [], ◌∷◌, ◌++◌, decimal}
use Rattle.std.specs.Fmt.{padded_integral, format_spec}
use Rattle.model.specs.declared.entries.Entry.{Entry}
use Rattle.model.specs.Verdicts.{byte_of}

-- a number in columns, from the right
abbrev pub column : ℕ → ℕ → List ℕ
column width n = padded_integral (format_spec 32 3 0 width (2 ^ 64 - 1)) false [] (decimal n)

-- `T  1  3  4    17`
abbrev pub entry_text : Entry → List ℕ
entry_text e =
    (byte_of e.verdict ∷ []) ++ (column 3 e.membership.role.owner.number
    ++ (column 3 e.membership.role.name.number ++ (column 3 e.membership.member.number ++ column 6 e.number)))
