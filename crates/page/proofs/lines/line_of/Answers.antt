use Rattle.std.proofs.Common.{◌≡◌, ℕ, List, [], ◌∷◌, ◌++◌, length, replicate, ap, ◌∙◌, rules}
use Rattle.credential.specs.Letters.{letter_byte, marks_of}
use Rattle.credential.specs.Credentials.{letter_of, fields_of}
use Rattle.page.specs.Lines.{fields_text}
use Rattle.page.proofs.Writing.{line_whole, line_text}
use Rattle.page.proofs.lines.line_of.Goals as goal

pub returns : goal.returns
returns c =
    let letter = c.letter-letter.ensures in
    let fields = c.fields.ensures.value in
    let byte : c.from.result ≡ letter_byte (letter_of c.args.credential) = c.from.ensures ∙ ap letter_byte letter in
    let text : fields_text (marks_of c.letter-letter.result) c.fields.result ≡ fields_text (marks_of (letter_of c.args.credential)) (fields_of c.args.credential) = cc in
    let whole =
    line_whole c.from.result _ (replicate 20 32) c.write_fields.new.line (search rules) (ap (λ (t : List ℕ). length t) text ∙ line_text c.args.credential) c.write_fields.ensures
    ∙ ap (λ (b : ℕ). b ∷ (fields_text (marks_of c.letter-letter.result) c.fields.result ++ 10 ∷ [])) byte
    ∙ ap (λ (t : List ℕ). letter_byte (letter_of c.args.credential) ∷ (t ++ 10 ∷ [])) text in
    search (rules, whole)
