use Rattle.std.proofs.Common.{◌+◌, ◌<◌, ◌≡◌, ℕ, List, length, get_or, ap, subst, sym, ◌∙◌, arith, eq-eqb, eqb-true, length-drop}
use Rattle.std.specs.Str.{IsUtf8}
use Rattle.std.proofs.lemmas.Str.{IsCharBoundary-after_ascii, IsUtf8-drop}
use Rattle.defmt_lines.proofs.TextCuts.{last_shorter, last_utf8, text_cut, text_last}
use Rattle.defmt_lines.proofs.cut.next_text_line.Goals as goal

pub cut_at-requires-clause-within : goal.cut_at-requires-clause-within
cut_at-requires-clause-within c = omega (arith, c.in-Some.ensures.0.high, ap length c.as_bytes.ensures.value)

pub cut_at-requires-clause-newline : goal.cut_at-requires-clause-newline
cut_at-requires-clause-newline c = ap (λ (t : List ℕ). get_or t c.in-Some.place 0) (sym c.as_bytes.ensures.value) ∙ eqb-true _ _ c.in-Some.ensures.1

pub returns-in-Some-clause-lines : goal.returns-in-Some-clause-lines
returns-in-Some-clause-lines c =
    text_cut c.args.text.now c.as_bytes.result.now c.as_bytes.ensures.value c.strip_return.result.now c.cut_at.result.0.now c.cut_at.result.1.now c.in-Some.place c.in-Some.ensures.0.high
    (λ k lt e. c.in-Some.ensures.0.before k (omega arith) lt (eq-eqb _ _ e)) (eqb-true _ _ c.in-Some.ensures.1) c.cut_at.ensures.front c.cut_at.ensures.back c.strip_return.ensures

pub returns-in-Some-clause-shorter : goal.returns-in-Some-clause-shorter
returns-in-Some-clause-shorter c =
    omega (arith, ap length c.cut_at.ensures.back, length-drop (c.in-Some.place + 1) c.args.text.now, c.in-Some.ensures.0.high, ap length c.as_bytes.ensures.value)

pub returns-in-None-clause-lines : goal.returns-in-None-clause-lines
returns-in-None-clause-lines c =
    text_last c.args.text.now c.as_bytes.result.now c.as_bytes.ensures.value c.split_at.result.0.now c.split_at.result.1.now _ (omega arith)
    (λ k lt e. c.in-None.ensures k (omega arith) lt (eq-eqb _ _ e)) c.split_at.ensures.front c.split_at.ensures.back c.requires

pub returns-in-None-clause-shorter : goal.returns-in-None-clause-shorter
returns-in-None-clause-shorter c = last_shorter c.args.text.now c.split_at.result.1.now _ (omega arith) c.split_at.ensures.back c.requires

pub returns-in-Some-clause-utf8 : goal.returns-in-Some-clause-utf8
returns-in-Some-clause-utf8 c =
    let within : c.in-Some.place < length c.args.text.now = omega (arith, c.in-Some.ensures.0.high, ap length c.as_bytes.ensures.value) in
    let newline : get_or c.args.text.now c.in-Some.place 0 ≡ 10 =
    ap (λ (t : List ℕ). get_or t c.in-Some.place 0) (sym c.as_bytes.ensures.value) ∙ eqb-true _ _ c.in-Some.ensures.1 in
    subst (λ (t : List ℕ). IsUtf8 t) (sym c.cut_at.ensures.back)
    (IsUtf8-drop c.args.text.now (c.in-Some.place + 1) c.utf8.text (IsCharBoundary-after_ascii c.args.text.now c.in-Some.place c.utf8.text within (omega (arith, newline))))

pub returns-in-None-clause-utf8 : goal.returns-in-None-clause-utf8
returns-in-None-clause-utf8 c = last_utf8 c.args.text.now c.split_at.result.1.now _ (omega arith) c.split_at.ensures.back c.utf8.text
