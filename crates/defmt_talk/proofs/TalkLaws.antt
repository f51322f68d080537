-- How a run of texts ends.
use Rattle.std.proofs.Common.{◌≡◌, ℕ, ◌<◌, List, ◌++◌, Result, Ok, IfOk, ap, ◌∙◌, subst}
use Rattle.defmt_talk.specs.Talks.{IsTalk}
use Rattle.rtt_booth.specs.Kept.{Reel}
use Rattle.rtt_booth.specs.Said.{IsLawful, spoken_by, words_of}
use Rattle.rtt_ring.specs.Account.{Account}
use Rattle.rtt_terminal.specs.Speech.{Speech, count_said}

pub talk_ends : (speech : Speech) (said : Reel) (sent : List ℕ) (a : Account) (captured rest : List ℕ)
    → IsLawful speech said.words
    → ((w : ℕ) → w < 8 → words_of w said.words ≡ count_said speech w)
    → sent ≡ spoken_by speech said.words
    → a.sent ≡ sent
    → a.got ≡ captured
    → a.sent ≡ a.got ++ rest
    → a.split ≡ said.split
    → IsTalk speech said a captured rest
talk_ends speech said sent a captured rest lawful all is sends got whole split = record {
  lawful = lawful;
  all = all;
  sends = sends ∙ is;
  takes = got;
  whole = whole ∙ ap (λ (l : List ℕ). l ++ rest) got;
  split = split;
}

-- what holds of an answer that is there holds of what it has
pub ok_of : {A E : Type 0} (r : Result A E) (a : A) (P : A → Type 0) → r ≡ Ok a → IfOk r P → P a
ok_of {A} {E} r a P is h = subst (λ (x : Result A E). IfOk x P) is h
