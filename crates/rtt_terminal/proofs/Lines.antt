-- What was spoken is read.
use Rattle.std.proofs.Common.{◌≡◌, ◌<◌, ℕ, Bool, true, false, cond, eqb, List, [], ◌∷◌, ◌++◌, refl, sym, ap}
use Rattle.std.proofs.lemmas.Bool.{eqb-true}
use Rattle.std.specs.List.{AllByRecursion}
use Rattle.rtt_terminal.specs.Stream.{Line, IsLine, digit, line_bytes, spoken_from, spoken, screens, Item, switch_item, line_item, IsItem, stream, lines_from, Shows}

abbrev behind_switch : Bool → ℕ → List Item → List Item
behind_switch true terminal items = items
behind_switch false terminal items = switch_item terminal ∷ items

-- the items of spoken lines
abbrev items_from : ℕ → List Line → List Item
items_from current [] = []
items_from current (line ∷ lines) = behind_switch (eqb current line.terminal) line.terminal (line_item line.text ∷ items_from line.terminal lines)

are_by : (same : Bool) (terminal : ℕ) (items : List Item) → terminal < 16 → AllByRecursion IsItem items → AllByRecursion IsItem (behind_switch same terminal items)
are_by true terminal items lt are = are
are_by false terminal items lt are = (lt, are)

are_items : (current : ℕ) (lines : List Line) → AllByRecursion IsLine lines → AllByRecursion IsItem (items_from current lines)
are_items current [] h = tt
are_items current (line ∷ lines) h = are_by (eqb current line.terminal) line.terminal _ h.0.one ((h.0.utf8, h.0.whole), are_items line.terminal lines h.1)

bytes_by : (same : Bool) (terminal : ℕ) (text rest : List ℕ) (items : List Item) → stream items [] ≡ rest
    → stream (behind_switch same terminal (line_item text ∷ items)) [] ≡ cond {A = List ℕ} same [] (255 ∷ digit terminal ∷ []) ++ (line_bytes text ++ rest)
bytes_by true terminal text rest items e = ap (λ (r : List ℕ). line_bytes text ++ r) e
bytes_by false terminal text rest items e = ap (λ (r : List ℕ). 255 ∷ digit terminal ∷ (line_bytes text ++ r)) e

bytes_are : (current : ℕ) (lines : List Line) → stream (items_from current lines) [] ≡ spoken_from current lines
bytes_are current [] = refl
bytes_are current (line ∷ lines) = bytes_by (eqb current line.terminal) line.terminal line.text (spoken_from line.terminal lines) (items_from line.terminal lines) (bytes_are line.terminal lines)

lines_by : (same : Bool) (current : ℕ) (line : Line) (lines : List Line) (items : List Item) → eqb current line.terminal ≡ same → lines_from line.terminal items ≡ lines
    → lines_from current (behind_switch same line.terminal (line_item line.text ∷ items)) ≡ line ∷ lines
lines_by true current line lines items e more =
    let at : current ≡ line.terminal = eqb-true current line.terminal e in
    rw at (ap (λ (ls : List Line). line ∷ ls) more)
lines_by false current line lines items e more = ap (λ (ls : List Line). line ∷ ls) more

lines_are : (current : ℕ) (lines : List Line) → lines_from current (items_from current lines) ≡ lines
lines_are current [] = refl
lines_are current (line ∷ lines) = lines_by (eqb current line.terminal) current line lines (items_from line.terminal lines) refl (lines_are line.terminal lines)

pub spoken_shows : (lines : List Line) → AllByRecursion IsLine lines → Shows (spoken lines) (screens lines)
spoken_shows lines h = record {
  items = items_from 0 lines;
  are = are_items 0 lines h;
  whole = sym (bytes_are 0 lines);
  shown = ap screens (sym (lines_are 0 lines));
}
