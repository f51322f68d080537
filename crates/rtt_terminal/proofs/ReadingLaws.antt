-- How far a stream is read.
use Rattle.std.proofs.Common.{◌≡◌, ◌<◌, ◌≤◌, ◌+◌, ◌^◌, ℕ, List, [], ◌∷◌, ◌++◌, length, Result, Ok, Err, refl, sym, ap, ◌∙◌, arith, length-append}
use Rattle.std.specs.List.{AllByRecursion}
use Rattle.rtt_terminal.specs.Cause.{number_of}
use Rattle.rtt_terminal.specs.declared.fault.Cause.{Cause}
use Rattle.rtt_terminal.specs.declared.fault.TermFault.{TermFault}
use Rattle.rtt_terminal.specs.declared.fault.TermFault.TheVariants.{Refused, Memory}
use Rattle.rtt_terminal.specs.Stream.{Line, line_bytes, screens, screen_at, with_text, Item, switch_item, line_item, item_bytes, IsItem, stream, lines_from, Shows, StartsBadly, HasFault}
use Rattle.rtt_terminal.specs.Answers.{Reads, GivesOnly, RefusesOnly}
use Rattle.rtt_terminal.proofs.Items.{shows_one, shows_no_fault, fault_one}
use Rattle.rtt_terminal.proofs.ScreenLaws.{more_text, few_texts}

-- the terminal that was switched to last
abbrev pub last_terminal : ℕ → List Item → ℕ
last_terminal current [] = current
last_terminal current (switch_item terminal ∷ items) = last_terminal terminal items
last_terminal current (line_item line ∷ items) = last_terminal current items

-- what was read, and what is left
pub record Progress (bytes : List ℕ) (all : List (List (List ℕ))) (current : ℕ) (rest : List ℕ) : Type 0 where
  pub items : List Item
  pub are : AllByRecursion IsItem items
  pub whole : bytes ≡ stream items rest
  pub shown : all ≡ screens (lines_from 0 items)
  pub at : current ≡ last_terminal 0 items
  pub one : current < 16

pub begins : (bytes : List ℕ) (all : List (List (List ℕ))) → all ≡ screens [] → Progress bytes all 0 bytes
begins bytes all none = record { items = []; are = tt; whole = refl; shown = none; at = refl; one = omega arith }

-- ---- one item more

bytes_more : (items : List Item) (item : Item) (rest : List ℕ) → stream (items ++ item ∷ []) rest ≡ stream items (item_bytes item ++ rest)
bytes_more [] item rest = refl
bytes_more (first ∷ items) item rest = ap (λ (r : List ℕ). item_bytes first ++ r) (bytes_more items item rest)

are_more : (items : List Item) (item : Item) → AllByRecursion IsItem items → IsItem item → AllByRecursion IsItem (items ++ item ∷ [])
are_more [] item h is = (is, tt)
are_more (first ∷ items) item h is = (h.0, are_more items item h.1 is)

lines_switched : (current : ℕ) (items : List Item) (terminal : ℕ) → lines_from current (items ++ switch_item terminal ∷ []) ≡ lines_from current items
lines_switched current [] terminal = refl
lines_switched current (switch_item t ∷ items) terminal = lines_switched t items terminal
lines_switched current (line_item text ∷ items) terminal = ap (λ (lines : List Line). record { terminal = current; text = text } ∷ lines) (lines_switched current items terminal)

last_switched : (current : ℕ) (items : List Item) (terminal : ℕ) → last_terminal current (items ++ switch_item terminal ∷ []) ≡ terminal
last_switched current [] terminal = refl
last_switched current (switch_item t ∷ items) terminal = last_switched t items terminal
last_switched current (line_item text ∷ items) terminal = last_switched current items terminal

abbrev line_at : ℕ → List ℕ → Line
line_at terminal text = record { terminal = terminal; text = text }

lines_spoken : (current : ℕ) (items : List Item) (line : List ℕ) → lines_from current (items ++ line_item line ∷ []) ≡ lines_from current items ++ line_at (last_terminal current items) line ∷ []
lines_spoken current [] line = refl
lines_spoken current (switch_item t ∷ items) line = lines_spoken t items line
lines_spoken current (line_item text ∷ items) line = ap (λ (lines : List Line). line_at current text ∷ lines) (lines_spoken current items line)

last_spoken : (current : ℕ) (items : List Item) (line : List ℕ) → last_terminal current (items ++ line_item line ∷ []) ≡ last_terminal current items
last_spoken current [] line = refl
last_spoken current (switch_item t ∷ items) line = last_spoken t items line
last_spoken current (line_item text ∷ items) line = last_spoken current items line

pub switches : (bytes : List ℕ) (all : List (List (List ℕ))) (current : ℕ) (rest after : List ℕ) (terminal : ℕ) → Progress bytes all current rest → IsItem (switch_item terminal) → rest ≡ item_bytes (switch_item terminal) ++ after → Progress bytes all terminal after
switches bytes all current rest after terminal p is e = record {
  items = p.items ++ switch_item terminal ∷ [];
  are = are_more p.items (switch_item terminal) p.are is;
  whole = p.whole ∙ ap (stream p.items) e ∙ sym (bytes_more p.items (switch_item terminal) after);
  shown = p.shown ∙ ap screens (sym (lines_switched 0 p.items terminal));
  at = sym (last_switched 0 p.items terminal);
  one = is;
}

pub speaks : (bytes : List ℕ) (all longer : List (List (List ℕ))) (current : ℕ) (rest after line : List ℕ) → Progress bytes all current rest → IsItem (line_item line) → rest ≡ item_bytes (line_item line) ++ after → longer ≡ with_text all current line
    → Progress bytes longer current after
speaks bytes all longer current rest after line p is e grown = record {
  items = p.items ++ line_item line ∷ [];
  are = are_more p.items (line_item line) p.are is;
  whole = p.whole ∙ ap (stream p.items) e ∙ sym (bytes_more p.items (line_item line) after);
  shown = grown ∙ ap (λ (l : List (List (List ℕ))). with_text l current line) p.shown ∙ sym (more_text (lines_from 0 p.items) (line_at current line) p.one)
      ∙ ap screens (ap (λ (t : ℕ). lines_from 0 p.items ++ line_at t line ∷ []) p.at ∙ sym (lines_spoken 0 p.items line));
  at = p.at ∙ sym (last_spoken 0 p.items line);
  one = p.one;
}

-- ---- the end

rest_le : (items : List Item) (rest : List ℕ) → length rest ≤ length (stream items rest)
rest_le [] rest = omega arith
rest_le (item ∷ items) rest = let more = rest_le items rest in let whole = length-append (item_bytes item) (stream items rest) in omega arith

pub fails : (bytes : List ℕ) (all : List (List (List ℕ))) (current : ℕ) (rest : List ℕ) (cause : Cause) (place : ℕ) → Progress bytes all current rest → StartsBadly cause rest → place + length rest ≡ length bytes → HasFault bytes cause place
fails bytes all current rest cause place p bad at = record { items = p.items; rest = rest; are = p.are; whole = p.whole; bad = bad; at = at }

pub shorter : (bytes : List ℕ) (all : List (List (List ℕ))) (current : ℕ) (rest : List ℕ) → Progress bytes all current rest → length rest ≤ length bytes
shorter bytes all current rest p = let le = rest_le p.items rest in let whole : length bytes ≡ length (stream p.items rest) = ap length p.whole in omega arith

lines_le : (current : ℕ) (items : List Item) (rest : List ℕ) → length (lines_from current items) + length rest ≤ length (stream items rest)
lines_le current [] rest = omega arith
lines_le current (switch_item t ∷ items) rest = let more = lines_le t items rest in omega arith
lines_le current (line_item text ∷ items) rest =
    let more = lines_le current items rest in
    let whole = length-append (line_bytes text) (stream items rest) in
    let line = length-append text (10 ∷ []) in
    omega arith

-- one text more can be counted
pub few_so_far : (bytes : List ℕ) (all : List (List (List ℕ))) (current : ℕ) (rest after line : List ℕ) → Progress bytes all current rest → rest ≡ item_bytes (line_item line) ++ after → length bytes < 2 ^ 32 → length (screen_at all current) + 1 < 2 ^ 32
few_so_far bytes all current rest after line p e few =
    let texts = few_texts (lines_from 0 p.items) current p.one in
    let here : length (screen_at all current) ≡ length (screen_at (screens (lines_from 0 p.items)) current) = ap (λ (l : List (List (List ℕ))). length (screen_at l current)) p.shown in
    let lines = lines_le 0 p.items rest in
    let whole : length bytes ≡ length (stream p.items rest) = ap length p.whole in
    let left : length rest ≡ length (line_bytes line) + length after = ap length e ∙ length-append (line_bytes line) after in
    let newline = length-append line (10 ∷ []) in
    omega arith

-- ---- what the answers say

pub gives_only : (bytes : List ℕ) (result : Result (List (List (List ℕ))) TermFault) (all : List (List (List ℕ))) → Reads bytes result → Shows bytes all → GivesOnly result all
gives_only bytes (Ok found) all h s = shows_one bytes found all h s
gives_only bytes (Err (Refused number place)) all h s = shows_no_fault bytes all h.0 place s h.1
gives_only bytes (Err Memory) all h s = tt

pub refuses_only : (bytes : List ℕ) (result : Result (List (List (List ℕ))) TermFault) (cause : Cause) (place : ℕ) → Reads bytes result → HasFault bytes cause place → RefusesOnly result cause place
refuses_only bytes (Ok found) cause place h f = shows_no_fault bytes found cause place h f
refuses_only bytes (Err (Refused number at)) cause place h f = let same = fault_one bytes h.0 cause at place h.1 f in (h.2 ∙ ap number_of same.0, same.1)
refuses_only bytes (Err Memory) cause place h f = tt
