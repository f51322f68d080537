-- What contracts see of said words and of a stand, and what a stand keeps.
use Rattle.std.specs.Prelude.{◌≡◌, ℕ, ◌+◌, ◌<◌, List, [], ◌∷◌, ◌++◌, length, slice_index_or}
use Rattle.rtt_booth.specs.Said.{IsLawful, lines_of, spoken_by, words_of}
use Rattle.rtt_booth.specs.declared.said.Word.{Word}
use Rattle.rtt_ring.specs.Views.{Up}
use Rattle.rtt_terminal.specs.Speech.{Speech, texts_limit}
use Rattle.rtt_terminal.specs.Stream.{Line, line_bytes, switch}

-- said words, for how many more there is room, and the name of the split that their end is from
pub record Reel : Type 0 where
  pub words : List Word
  pub room : ℕ
  pub split : List ℕ

-- a stand: what writers have to say, the words that were said, and the end of the ring that it speaks to
pub record Sheet : Type 0 where
  pub speech : Speech
  pub said : Reel
  pub up : Up

abbrev pub word : ℕ → ℕ → Word
word writer place = record { writer = writer; place = place }

-- The words are lawful and those of the end, the ring was sent what they speak, and nothing is staged. There is room for a word
-- of each text.
pub record IsKept (d : Sheet) : Type 0 where
  pub lawful : IsLawful d.speech d.said.words
  pub sent : d.up.sent ≡ spoken_by d.speech d.said.words
  pub staged : d.up.staged ≡ []
  pub room : length d.said.words + d.said.room ≡ texts_limit
  pub split : d.said.split ≡ d.up.split

-- ---- for private clauses

-- the terminal that lines leave current
abbrev pub current_after : ℕ → List Line → ℕ
current_after current [] = current
current_after current (line ∷ lines) = current_after line.terminal lines

-- a line with its switch, where a terminal is current
unfoldable pub line_from : ℕ → ℕ → List ℕ → List ℕ
line_from current terminal text = switch current terminal ++ line_bytes text

-- eight numbers, how many words each writer has
abbrev pub Counts : List ℕ → List Word → Type 0
Counts xs words = (length xs ≡ 8) × ((w : ℕ) → w < 8 → slice_index_or xs w 0 ≡ words_of w words)

-- what a stand keeps of its parts: the sheet, the writers' next places, the current terminal, and the buffer for a line
pub record IsWorking (d : Sheet) (places : List ℕ) (current : ℕ) (line : List ℕ) : Type 0 where
  pub kept : IsKept d
  pub counts : Counts places d.said.words
  pub current_is : current ≡ current_after 0 (lines_of d.speech d.said.words)
  pub current_below : current < 16
  pub size : length line ≡ 2003
