-- The texts of terminals, one more at a time.
use Rattle.std.proofs.Common.{◌≡◌, ◌+◌, ℕ, zero, suc, Bool, List, [], ◌∷◌, ◌++◌, length, take, flat_map, codes, sym, ◌∙◌, ap, subst, append_assoc, arith}
use Rattle.std.specs.Prelude.{Some, slice_get, if◌then◌else◌}
use Rattle.std.proofs.lemmas.Bool.{ne_eqb}
use Rattle.std.proofs.lemmas.List.{append-nil}
use Rattle.std.proofs.lemmas.Option.{same_Some}
use Rattle.defmt_recording.specs.Output.{ended}
use Rattle.defmt_print.specs.Terminals.{terminal_lines, terminals_below}
use Rattle.rtt_terminal.specs.Stream.{digit, screen_at}

next_text : (texts : List (List ℕ)) (place : ℕ) (text : List ℕ) → slice_get texts place ≡ Some text
    → flat_map ended (take (suc place) texts) ≡ flat_map ended (take place texts) ++ ended text
next_text [] place text is = absurd (cc is)
next_text (x ∷ texts) zero text is = append-nil (ended x) ∙ ap ended (same_Some x text is)
next_text (x ∷ texts) (suc place) text is =
    ap (λ (l : List ℕ). ended x ++ l) (next_text texts place text is)
    ∙ sym (append_assoc (ended x) (flat_map ended (take place texts)) (ended text))

-- one text more of a terminal
pub one_text : (start now after : List ℕ) (texts : List (List ℕ)) (place : ℕ) (text : List ℕ) → slice_get texts place ≡ Some text
    → now ≡ start ++ flat_map ended (take place texts) → after ≡ now ++ ended text → after ≡ start ++ flat_map ended (take (place + 1) texts)
one_text start now after texts place text is now_is after_is =
    let next : suc place ≡ place + 1 = omega arith in
    let more : flat_map ended (take (place + 1) texts) ≡ flat_map ended (take place texts) ++ ended text =
    subst (λ (n : ℕ). flat_map ended (take n texts) ≡ flat_map ended (take place texts) ++ ended text) next (next_text texts place text is) in
    after_is ∙ ap (λ (l : List ℕ). l ++ ended text) now_is
    ∙ append_assoc start (flat_map ended (take place texts)) (ended text)
    ∙ ap (λ (l : List ℕ). start ++ l) (sym more)

-- one terminal more
pub one_terminal : (start now after : List ℕ) (screens : List (List (List ℕ))) (n : ℕ) → now ≡ start ++ terminals_below n screens
    → after ≡ now ++ terminal_lines n (screen_at screens n) → after ≡ start ++ terminals_below (n + 1) screens
one_terminal start now after screens n now_is after_is =
    let next : suc n ≡ n + 1 = omega arith in
    let line : List ℕ = terminal_lines n (screen_at screens n) in
    after_is ∙ ap (λ (l : List ℕ). l ++ line) now_is
    ∙ append_assoc start (terminals_below n screens) line
    ∙ ap (λ (k : ℕ). start ++ terminals_below k screens) next

-- the line that names a terminal with texts, and these
pub a_terminal : (start named told : List ℕ) (d terminal : ℕ) (texts : List (List ℕ)) → (length texts ≡ 0 → ⊥) → d ≡ digit terminal
    → named ≡ start ++ codes "== terminal " → told ≡ named ++ ended (d ∷ []) → told ++ flat_map ended texts ≡ start ++ terminal_lines terminal texts
a_terminal start named told d terminal texts some d_is named_is told_is =
    let front : List ℕ = codes "== terminal " in
    let rest : List ℕ = flat_map ended texts in
    let head : told ≡ start ++ (front ++ ended (digit terminal ∷ [])) =
    told_is ∙ ap (λ (l : List ℕ). l ++ ended (d ∷ [])) named_is ∙ append_assoc start front (ended (d ∷ []))
    ∙ ap (λ (n : ℕ). start ++ (front ++ ended (n ∷ []))) d_is in
    ap (λ (l : List ℕ). l ++ rest) head
    ∙ append_assoc start (front ++ ended (digit terminal ∷ [])) rest
    ∙ ap (λ (b : Bool). start ++ (if b then [] else (front ++ ended (digit terminal ∷ [])) ++ rest)) (sym (ne_eqb (length texts) 0 some))
