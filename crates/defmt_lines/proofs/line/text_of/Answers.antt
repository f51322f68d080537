use Rattle.std.proofs.Common.{List, Option, Some, ap, sym, ℕ, ◌∙◌}
use Rattle.std.proofs.lemmas.Bool.{cond-false, cond-true, false_from_ne_true}
use Rattle.std.proofs.lemmas.Str.{IsUtf8-from_is_utf8, is_utf8-from_IsUtf8}
use Rattle.std.specs.Str.{is_utf8}
use Rattle.defmt_lines.proofs.line.text_of.Goals as goal

pub returns-in-Ok : goal.returns-in-Ok
returns-in-Ok c =
    ap (λ (l : List ℕ). let o : Option (List ℕ) = Some l in o) c.in-Ok.ensures.cases.0
    ∙ sym (cond-true (is_utf8 c.args.bytes.now) _ _ (is_utf8-from_IsUtf8 c.args.bytes.now c.in-Ok.ensures.cases.1))

pub returns-in-Err : goal.returns-in-Err
returns-in-Err c =
    sym (cond-false (is_utf8 c.args.bytes.now) _ _ (false_from_ne_true _ (λ is. c.in-Err.ensures.cases.0 (IsUtf8-from_is_utf8 c.args.bytes.now is))))
