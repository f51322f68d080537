-- What a printable line says, and the line of a statement.
use Rattle.std.proofs.Common.{◌≡◌, ◌<◌, ◌%◌, ℕ, zero, suc, Bool, true, false, List, ◌++◌, Some, None, refl, ap, subst, ◌∙◌, arith}
use Rattle.std.specs.Prelude.{codes, if◌then◌else◌}
use Rattle.std.specs.Fmt.{decimal, digits}
use Rattle.std.specs.Str.{is_utf8}
use Rattle.defmt_generate.specs.Generated.{call, drawn}
use Rattle.defmt_generate.proofs.Texts.{ArePrintable, printable_utf8}
use Rattle.defmt_generate.specs.Lines.{statement_line}
use Rattle.defmt_grammar.specs.Cut.{cut}
use Rattle.defmt_lines.proofs.LineLaws.{line_found}
use Rattle.defmt_lines.specs.Line.{Line, Says, act, act_of, field_and_rest, line_of, line_of_known, line_of_text, line_by_word}
use Rattle.defmt_lines.specs.Number.{is_digits, within, writer_of}
use Rattle.defmt_lines.specs.declared.form.Form.TheVariants as forms

known : (b : Bool) (bytes : List ℕ) → b ≡ true → (if b then Some bytes else None) ≡ Some bytes
known true bytes e = refl
known false bytes e = absurd (cc e)

read : (bytes : List ℕ) (line : Line) → ArePrintable bytes → line_of_text bytes ≡ line → line_of bytes ≡ line
unfolding line_of
read bytes line p is = ap line_of_known (known (is_utf8 bytes) bytes (printable_utf8 bytes p)) ∙ is

pub said : (bytes : List ℕ) (line : Line) → ArePrintable bytes → line_of_text bytes ≡ line → Says bytes line
said bytes line p is = subst (λ (l : Line). Says bytes l) (read bytes line p is) (line_found bytes)

-- a writer's digit
by_writer : (w : ℕ) → w < 4 → (text : List ℕ)
    → line_of_text (codes "w " ++ (decimal w ++ (codes " " ++ text))) ≡ act forms.Statement (Some w) (field_and_rest text).0 (field_and_rest text).1
unfolding line_by_word act_of cut writer_of is_digits within digits
by_writer zero lt text = refl
by_writer (suc zero) lt text = refl
by_writer (suc (suc zero)) lt text = refl
by_writer (suc (suc (suc zero))) lt text = refl
by_writer (suc (suc (suc (suc w)))) lt text = absurd (omega (arith, lt))

pub statement_said : (i : ℕ) (name args : List ℕ) → ArePrintable (statement_line i) → field_and_rest (call (i % 5) (drawn i)) ≡ (name, args)
    → Says (statement_line i) (act forms.Statement (Some (i % 4)) name args)
statement_said i name args p is =
    said (statement_line i) (act forms.Statement (Some (i % 4)) name args) p
    (by_writer (i % 4) (omega arith) (call (i % 5) (drawn i)) ∙ ap (λ (q : List ℕ × List ℕ). act forms.Statement (Some (i % 4)) q.0 q.1) is)
