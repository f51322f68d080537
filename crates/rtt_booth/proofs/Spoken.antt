-- One line more is spoken behind the others.
use Rattle.std.proofs.Common.{◌≡◌, ◌<◌, ℕ, List, [], ◌∷◌, ◌++◌, length, length-append, sym, ap, ◌∙◌, append_assoc, append-nil, arith}
use Rattle.rtt_booth.specs.Kept.{current_after, line_from}
use Rattle.rtt_terminal.specs.Stream.{Line, line_bytes, spoken_from, switch}

pub spoken_behind : (current : ℕ) (lines : List Line) (line : Line)
    → spoken_from current (lines ++ line ∷ []) ≡ spoken_from current lines ++ line_from (current_after current lines) line.terminal line.text
unfolding line_from
spoken_behind current [] line = ap (λ (l : List ℕ). switch current line.terminal ++ l) (append-nil (line_bytes line.text))
spoken_behind current (first ∷ lines) line =
    let last : List ℕ = line_from (current_after first.terminal lines) line.terminal line.text in
    let more : List ℕ = spoken_from first.terminal lines in
    ap (λ (l : List ℕ). switch current first.terminal ++ (line_bytes first.text ++ l)) (spoken_behind first.terminal lines line)
    ∙ sym (append_assoc (switch current first.terminal) (line_bytes first.text ++ more) last ∙ ap (λ (l : List ℕ). switch current first.terminal ++ l) (append_assoc (line_bytes first.text) more last))

-- no line is empty
pub some_line : (current terminal : ℕ) (text : List ℕ) → 0 < length (line_from current terminal text)
unfolding line_from
some_line current terminal text = omega (arith, length-append (switch current terminal) (line_bytes text), length-append text (10 ∷ []))
