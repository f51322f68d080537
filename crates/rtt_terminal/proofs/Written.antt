-- A line written at the front of a buffer.
use Rattle.std.proofs.Common.{◌≡◌, ◌≤◌, ◌+◌, ℕ, Bool, true, false, cond, eqb, List, [], ◌∷◌, ◌++◌, length, drop, refl, sym, ap, ◌∙◌, arith, append_assoc, length-append}
use Rattle.std.proofs.lemmas.List.{take_at}
use Rattle.std.proofs.lemmas.Slice.{drop-append-drop}
use Rattle.rtt_terminal.specs.Stream.{digit, switch, line_bytes}
use Rattle.rtt_terminal.specs.Writing.{with_bytes}

-- a front that was written, before what was there
abbrev pub fronted : List ℕ → List ℕ → List ℕ
fronted front old = front ++ drop (length front) old

pub one_more : (old front bytes : List ℕ) → with_bytes (fronted front old) (length front) bytes ≡ fronted (front ++ bytes) old
one_more old front bytes =
    let size : length (front ++ bytes) ≡ length front + length bytes = length-append front bytes in
    let behind : drop (length front + length bytes) (fronted front old) ≡ drop (length (front ++ bytes)) old =
    drop-append-drop (length front) old front (length front + length bytes) (omega arith) refl ∙ ap (λ (n : ℕ). drop n old) (sym size) in
    ap (λ (l : List ℕ). l ++ (bytes ++ drop (length front + length bytes) (fronted front old))) (take_at front (drop (length front) old) (length front) refl)
    ∙ ap (λ (l : List ℕ). front ++ (bytes ++ l)) behind
    ∙ sym (append_assoc front bytes (drop (length (front ++ bytes)) old))

at_front : (old bytes : List ℕ) → with_bytes old 0 bytes ≡ fronted bytes old
at_front old bytes = one_more old [] bytes

switch_by : (b : Bool) (terminal : ℕ) → length (cond {A = List ℕ} b [] (255 ∷ digit terminal ∷ [])) ≤ 2
switch_by true terminal = omega arith
switch_by false terminal = omega arith

pub short_switch : (current terminal : ℕ) → length (switch current terminal) ≤ 2
short_switch current terminal = switch_by (eqb current terminal) terminal

-- the three parts of a line, one behind another
pub three_parts : (old one two three switch text : List ℕ) (begin end : ℕ) → one ≡ with_bytes old 0 switch → begin ≡ length switch → two ≡ with_bytes one begin text → end ≡ begin + length text → three ≡ with_bytes two end (10 ∷ [])
    → three ≡ (switch ++ line_bytes text) ++ drop (length (switch ++ line_bytes text)) old
three_parts old one two three switch text begin end first at second then third =
    let a : one ≡ fronted switch old = first ∙ at_front old switch in
    let b : two ≡ fronted (switch ++ text) old = second ∙ ap (λ (l : List ℕ). with_bytes l begin text) a ∙ ap (λ (n : ℕ). with_bytes (fronted switch old) n text) at ∙ one_more old switch text in
    let place : end ≡ length (switch ++ text) = then ∙ ap (λ (n : ℕ). n + length text) at ∙ sym (length-append switch text) in
    let c : three ≡ fronted ((switch ++ text) ++ 10 ∷ []) old = third ∙ ap (λ (l : List ℕ). with_bytes l end (10 ∷ [])) b ∙ ap (λ (n : ℕ). with_bytes (fronted (switch ++ text) old) n (10 ∷ [])) place ∙ one_more old (switch ++ text) (10 ∷ []) in
    c ∙ ap (λ (l : List ℕ). fronted l old) (append_assoc switch text (10 ∷ []))
