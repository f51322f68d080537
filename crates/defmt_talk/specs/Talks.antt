-- What a run of a script's texts for terminals answers.
use Rattle.std.specs.Prelude.{◌≡◌, ℕ, ◌<◌, ◌≤◌, List, ◌++◌, length}
use Rattle.rtt_booth.specs.Kept.{Reel}
use Rattle.rtt_booth.specs.Said.{IsLawful, spoken_by, words_of}
use Rattle.rtt_booth.specs.declared.said.Word.{Word}
use Rattle.rtt_ring.specs.Account.{Account}
use Rattle.rtt_terminal.specs.Speech.{Speech, count_said}

-- so many bytes hold what any lawful words speak
abbrev pub HoldsWords : Speech → ℕ → Type 0
HoldsWords speech room = (words : List Word) → IsLawful speech words → length (spoken_by speech words) ≤ room

-- Every text is among the lawful words, what they speak went to the ring, and what was captured and the rest are what was sent.
-- What was captured is what the reader took. The account is that of the ring to which the words were spoken.
pub record IsTalk (speech : Speech) (said : Reel) (account : Account)
    (captured rest : List ℕ) : Type 0 where
  pub lawful : IsLawful speech said.words
  pub all : (w : ℕ) → w < 8 → words_of w said.words ≡ count_said speech w
  pub sends : account.sent ≡ spoken_by speech said.words
  pub takes : account.got ≡ captured
  pub whole : account.sent ≡ captured ++ rest
  pub split : account.split ≡ said.split
