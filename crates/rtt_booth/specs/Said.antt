-- The words that were said of what writers have to say: a word for each text, in the order in which the writers acquired the booth.
use Rattle.std.specs.Prelude.{◌≡◌, ℕ, ◌+◌, ◌≤◌, ◌==◌, List, [], ◌∷◌, ◌++◌, if◌then◌else◌, option_map, option_to_list, slice_get}
use Rattle.rtt_booth.specs.declared.said.Word.{Word}
use Rattle.rtt_terminal.specs.Speech.{Speech, count_said, line_of, said_by}
use Rattle.rtt_terminal.specs.Stream.{Line, screens, spoken}
use Rattle.shared_work.specs.Places.{AreConsecutive}

-- ---- what was spoken

-- the lines of the words in order
abbrev pub lines_of : Speech → List Word → List Line
lines_of speech [] = []
lines_of speech (w ∷ words) =
    option_to_list (option_map line_of (slice_get (said_by speech w.writer) w.place))
    ++ lines_of speech words

-- the same with their switches
abbrev pub spoken_by : Speech → List Word → List ℕ
spoken_by speech words = spoken (lines_of speech words)

-- for each terminal its words' texts in order
abbrev pub screens_by : Speech → List Word → List (List (List ℕ))
screens_by speech words = screens (lines_of speech words)

-- ---- which words are lawful

-- the places of a writer's words, in order
abbrev pub places : ℕ → List Word → List ℕ
places writer [] = []
places writer (w ∷ words) =
    if w.writer == writer then w.place ∷ places writer words else places writer words

-- how many words a writer has
abbrev pub words_of : ℕ → List Word → ℕ
words_of writer [] = 0
words_of writer (w ∷ words) =
    if w.writer == writer then words_of writer words + 1 else words_of writer words

-- Each writer's words have the places 0, 1, 2 and so on, no more than it has texts.
pub record IsLawful (speech : Speech) (words : List Word) : Type 0 where
  pub order : (writer : ℕ) → AreConsecutive 0 (places writer words)
  pub within : (writer : ℕ) → words_of writer words ≤ count_said speech writer
