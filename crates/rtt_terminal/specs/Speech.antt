-- What eight writers have to say.
use Rattle.std.specs.Prelude.{◌≡◌, ◌+◌, ◌<◌, ◌≤◌, ℕ, List, [], ◌∷◌, ◌++◌, length, All, replicate, slice_index_or, slice_set}
use Rattle.std.specs.Str.{IsUtf8}
use Rattle.rtt_terminal.specs.Stream.{IsSayable, Line}

-- a text for a terminal, behind so many statements of its writer
pub record Saying : Type 0 where
  pub behind : ℕ
  pub terminal : ℕ
  pub text : List ℕ

abbrev pub saying : ℕ → ℕ → List ℕ → Saying
saying behind terminal text = record { behind = behind; terminal = terminal; text = text }

-- its line
abbrev pub line_of : Saying → Line
line_of s = record { terminal = s.terminal; text = s.text }

-- for each writer what it has to say, in order
abbrev pub Speech : Type 0
Speech = List (List Saying)

-- what a writer has to say, nothing where there is no such writer
abbrev pub said_by : Speech → ℕ → List Saying
said_by speech writer = slice_index_or speech writer []

-- how many texts a writer has
abbrev pub count_said : Speech → ℕ → ℕ
count_said speech writer = length (said_by speech writer)

-- how many texts all writers have together
abbrev pub count_texts : Speech → ℕ
count_texts [] = 0
count_texts (list ∷ more) = length list + count_texts more

-- the most texts
abbrev pub texts_limit : ℕ
texts_limit = 4096

-- a text that may be spoken, for one of the 16 terminals
pub record CanBeSaid (s : Saying) : Type 0 where
  pub one : s.terminal < 16
  pub utf8 : IsUtf8 s.text
  pub sayable : IsSayable s.text

-- what eight writers have to say: at most 4,096 texts together, each of which can be said
pub record IsSpeech (speech : Speech) : Type 0 where
  pub eight : length speech ≡ 8
  pub each : (writer : ℕ) → All CanBeSaid (said_by speech writer)
  pub few : count_texts speech ≤ texts_limit

-- so many writers with nothing to say
abbrev pub silence : ℕ → Speech
silence writers = replicate writers []

-- one text more of a writer
abbrev pub with_saying : Speech → ℕ → Saying → Speech
with_saying speech writer s = slice_set speech writer (said_by speech writer ++ s ∷ [])
