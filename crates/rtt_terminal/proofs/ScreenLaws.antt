-- The texts of the terminals, one line after another.
use Rattle.std.proofs.Common.{◌≡◌, ◌≢◌, ◌<◌, ◌≤◌, ◌+◌, ◌^◌, ℕ, suc, Bool, true, false, cond, eqb, List, [], ◌∷◌, ◌++◌, length, set, get_or, refl, sym, ap, ◌∙◌, inl, inr, arith, get_or-set_same, get_or-set_other, length-set, length-append}
use Rattle.std.proofs.lemmas.Bool.{cases_eq}
use Rattle.std.proofs.lemmas.Bool.Decides.{nat_tests}
use Rattle.std.proofs.lemmas.List.{same_lists, append-nil, get_or_default}
use Rattle.std.proofs.lemmas.List.Elements.{All-set}
use Rattle.std.proofs.lemmas.List.FromFn.{get_or-map-range_with_len, length-map-range_with_len}
use Rattle.std.specs.Prelude.{OnOk, OnErr, Result, Ok, Err}
use Rattle.std.specs.List.{All}
use Rattle.rtt_terminal.specs.Stream.{Line, texts_of, screens, screen_at, with_text, AreFew}

pub length_screens : (lines : List Line) → length (screens lines) ≡ 16
length_screens lines = length-map-range_with_len (λ (terminal : ℕ). texts_of terminal lines) 0 16

pub at_terminal : (lines : List Line) (k : ℕ) (d : List (List ℕ)) → k < 16 → get_or (screens lines) k d ≡ texts_of k lines
at_terminal lines k d lt = get_or-map-range_with_len (λ (terminal : ℕ). texts_of terminal lines) 0 16 k k d lt (omega arith)

texts_by : (b : Bool) (text : List ℕ) (texts more : List (List ℕ)) → cond b (text ∷ texts) texts ++ more ≡ cond b (text ∷ (texts ++ more)) (texts ++ more)
texts_by true text texts more = refl
texts_by false text texts more = refl

one_more : (k : ℕ) (lines : List Line) (line : Line) → texts_of k (lines ++ line ∷ []) ≡ texts_of k lines ++ texts_of k (line ∷ [])
one_more k [] line = refl
one_more k (first ∷ lines) line =
    ap (λ (l : List (List ℕ)). cond (eqb first.terminal k) (first.text ∷ l) l) (one_more k lines line)
    ∙ sym (texts_by (eqb first.terminal k) first.text (texts_of k lines) (texts_of k (line ∷ [])))

own : (line : Line) → texts_of line.terminal (line ∷ []) ≡ line.text ∷ []
own line = let same : eqb line.terminal line.terminal ≡ true = grind (arith, nat_tests) in ap (λ (b : Bool). cond {A = List (List ℕ)} b (line.text ∷ []) []) same

other : (k : ℕ) (line : Line) → k ≢ line.terminal → texts_of k (line ∷ []) ≡ []
other k line ne = let apart : eqb line.terminal k ≡ false = grind (arith, nat_tests) in ap (λ (b : Bool). cond {A = List (List ℕ)} b (line.text ∷ []) []) apart

place : (lines : List Line) (line : Line) (k : ℕ) (d : List (List ℕ)) → line.terminal < 16 → k < 16
    → get_or (screens (lines ++ line ∷ [])) k d ≡ get_or (with_text (screens lines) line.terminal line.text) k d
place lines line k d one lt = elim (cases_eq k line.terminal) [
  | inl same ↦
      let within : line.terminal < length (screens lines) = rw (length_screens lines) one in
      let there : texts_of line.terminal (lines ++ line ∷ []) ≡ screen_at (screens lines) line.terminal ++ line.text ∷ [] =
      one_more line.terminal lines line ∙ ap (λ (l : List (List ℕ)). texts_of line.terminal lines ++ l) (own line) ∙ ap (λ (l : List (List ℕ)). l ++ line.text ∷ []) (sym (at_terminal lines line.terminal [] one)) in
      at_terminal (lines ++ line ∷ []) k d lt ∙ ap (λ (n : ℕ). texts_of n (lines ++ line ∷ [])) same ∙ there
      ∙ sym (ap (λ (n : ℕ). get_or (with_text (screens lines) line.terminal line.text) n d) same ∙ get_or-set_same (screens lines) line.terminal (screen_at (screens lines) line.terminal ++ line.text ∷ []) d within)
  | inr ne ↦
      at_terminal (lines ++ line ∷ []) k d lt ∙ one_more k lines line ∙ ap (λ (l : List (List ℕ)). texts_of k lines ++ l) (other k line ne) ∙ append-nil (texts_of k lines)
      ∙ sym (get_or-set_other (screens lines) line.terminal k (screen_at (screens lines) line.terminal ++ line.text ∷ []) d ne ∙ at_terminal lines k d lt)
]

-- one line more is one text more for its terminal
pub more_text : (lines : List Line) (line : Line) → line.terminal < 16 → screens (lines ++ line ∷ []) ≡ with_text (screens lines) line.terminal line.text
more_text lines line one =
    let sizes : length (screens (lines ++ line ∷ [])) ≡ length (with_text (screens lines) line.terminal line.text) =
    length_screens (lines ++ line ∷ []) ∙ sym (length-set (screens lines) line.terminal (screen_at (screens lines) line.terminal ++ line.text ∷ []) ∙ length_screens lines) in
    same_lists _ _ sizes (λ k d lt. place lines line k d one (rw (length_screens (lines ++ line ∷ [])) at lt))

-- no texts at first
pub none_yet : (all : List (List (List ℕ))) → length all ≡ 16 → All (λ texts. texts ≡ []) all → all ≡ screens []
none_yet all size empty = same_lists all (screens []) (size ∙ sym (length_screens [])) (λ k d lt. empty k d lt ∙ sym (at_terminal [] k d (rw size at lt)))

texts_le : (k : ℕ) (lines : List Line) → length (texts_of k lines) ≤ length lines
texts_le k [] = omega arith
texts_le k (line ∷ lines) = let more = texts_le k lines in counted (eqb line.terminal k) line.text (texts_of k lines) (length lines) more
  where
    counted : (b : Bool) (text : List ℕ) (texts : List (List ℕ)) (n : ℕ) → length texts ≤ n → length (cond b (text ∷ texts) texts) ≤ suc n
    counted true text texts n le = omega arith
    counted false text texts n le = omega arith

pub few_texts : (lines : List Line) (k : ℕ) → k < 16 → length (screen_at (screens lines) k) ≤ length lines
few_texts lines k lt = rw (at_terminal lines k [] lt) (texts_le k lines)

-- a terminal's texts after one more, or as they were
pub few_pushed : {E : Type 0} (result : Result (Unit {0}) E) (old new : List (List ℕ)) (text : List ℕ) → OnOk result (new ≡ old ++ text ∷ []) → OnErr result (new ≡ old) → length old + 1 < 2 ^ 32 → length new < 2 ^ 32
few_pushed (Ok done) old new text ok err few = let grown : length new ≡ length old + 1 = ap length ok ∙ length-append old (text ∷ []) in omega arith
few_pushed (Err e) old new text ok err few = let same : length new ≡ length old = ap length err in omega arith

pub few_set : (all : List (List (List ℕ))) (i : ℕ) (texts : List (List ℕ)) → length all ≡ 16 → AreFew all → length texts < 2 ^ 32 → (length (set all i texts) ≡ 16) × AreFew (set all i texts)
few_set all i texts size few one = (length-set all i texts ∙ size, All-set (λ texts. length texts < 2 ^ 32) all i texts one few)

-- the texts of a terminal, as they lie in the list
pub few_here : (all items : List (List (List ℕ))) (terminal i : ℕ) (old : List (List ℕ)) → all ≡ items → i ≡ terminal → i < length items → old ≡ get_or items i old → length (screen_at all terminal) + 1 < 2 ^ 32 → length old + 1 < 2 ^ 32
few_here all items terminal i old same at lt is few =
    let here : old ≡ screen_at all terminal = is ∙ get_or_default items i old [] lt ∙ ap (λ (l : List (List (List ℕ))). get_or l i []) (sym same) ∙ ap (λ (n : ℕ). get_or all n []) at in
    let sizes : length old ≡ length (screen_at all terminal) = ap length here in
    omega arith
