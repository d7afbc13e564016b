-- A page: as it is read, and as it is written.
use Rattle.std.specs.Prelude.{ℕ, ◌+◌, ◌-◌, ◌*◌, ◌/◌, cond, List, [], ◌∷◌, ◌++◌, length, take, drop, None, Ok, Err, Option, Result, nat_lt}
use Rattle.std.specs.Result.{result_ok}
use Rattle.credential.specs.declared.credentials.Credential.{Credential}
use Rattle.credential.specs.Refusals.{Named, refused, refused_at}
use Rattle.page.specs.Lines.{collected, read_line, line_of}

-- line i, from 0, of a page, which is cut every 20 bytes; the last may be shorter
abbrev pub line_at : List ℕ → ℕ → Result Credential Named
line_at bytes i = read_line (take 20 (drop (20 * i) bytes)) (i + 1)

-- the credentials of a page, or its first refusal
abbrev pub read_page : List ℕ → Result (List Credential) Named
read_page bytes = cond (nat_lt 5120 (length bytes)) (Err (refused_at 1 0 0)) (collected ((length bytes + 19) / 20) (line_at bytes) 0)

-- whether a page is read, or its first refusal
abbrev pub whether : Result (List Credential) Named → Result (Unit {0}) Named
whether (Ok cs) = Ok tt
whether (Err e) = Err e

-- the credentials of a page, none where it is refused
abbrev pub list_of : Result (List Credential) Named → List Credential
list_of (Ok cs) = cs
list_of (Err e) = []

abbrev pub credentials_of : List ℕ → List Credential
credentials_of bytes = list_of (read_page bytes)

-- the credential of the line at a place from 1, if the bytes have a whole line there and it is lawful
abbrev pub credential_at : List ℕ → ℕ → Option Credential
credential_at bytes place = cond (nat_lt place 1) None (cond (nat_lt (length bytes / 20) place) None (result_ok (line_at bytes (place - 1))))

-- credentials as their page
unfoldable pub page_of : List Credential → List ℕ
page_of [] = []
page_of (c ∷ cs) = line_of c ++ page_of cs

-- the answer of writing credentials into a buffer, and the buffer afterwards
abbrev pub write_answer : List Credential → List ℕ → Result ℕ Named
write_answer cs out = cond (nat_lt (length out) (20 * length cs)) (Err (refused 9)) (Ok (20 * length cs))

abbrev pub write_after : List Credential → List ℕ → List ℕ
write_after cs out = cond (nat_lt (length out) (20 * length cs)) out (page_of cs ++ drop (20 * length cs) out)
