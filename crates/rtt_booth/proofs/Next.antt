-- A stand at which one text more is said.
use Rattle.std.proofs.Common.{◌≡◌, ℕ, zero, suc, ◌+◌, ◌<◌, List, [], ◌∷◌, ◌++◌, length, length-append, refl, sym, ap, ◌∙◌, subst, arith}
use Rattle.std.specs.Prelude.{Some, replicate, slice_get, slice_index_or, slice_set}
use Rattle.rtt_booth.proofs.Append.{counts_append, current_more, lawful_more, lawful_none, next_word, spoken_more, within_snoc}
use Rattle.rtt_booth.proofs.Room.{words_fit}
use Rattle.rtt_booth.specs.Kept.{Counts, IsKept, IsWorking, Reel, Sheet, current_after, line_from, word}
use Rattle.rtt_booth.specs.Said.{IsLawful, lines_of, spoken_by, words_of}
use Rattle.rtt_booth.specs.declared.said.Word.{Word}
use Rattle.rtt_ring.specs.Views.{Up}
use Rattle.rtt_terminal.proofs.SpeechLaws.{said_within}
use Rattle.rtt_terminal.specs.Speech.{IsSpeech, Saying, Speech, count_said, said_by}
use Rattle.shared_work.proofs.Counted.{zeros}

-- a stand that is the same has the text left too
pub more_left : (d e : Sheet) (w : ℕ) → d ≡ e → words_of w e.said.words < count_said e.speech w → words_of w d.said.words < count_said d.speech w
more_left d e w same more = subst (λ (x : Sheet). words_of w x.said.words < count_said x.speech w) (sym same) more

pub place_below : (d : Sheet) (places : List ℕ) (current : ℕ) (buffer : List ℕ) (w : ℕ) → IsWorking d places current buffer → w < 8 → words_of w d.said.words < count_said d.speech w
    → slice_index_or places w 0 < count_said d.speech w
place_below d places current buffer w k below more = omega (arith, k.counts.1 w below, more)

pub place_small : (d : Sheet) (places : List ℕ) (current : ℕ) (buffer : List ℕ) (w : ℕ) → IsWorking d places current buffer → IsSpeech d.speech → w < 8 → words_of w d.said.words < count_said d.speech w
    → slice_index_or places w 0 < 4096
place_small d places current buffer w k is below more = omega (arith, place_below d places current buffer w k below more, said_within d.speech w, is.few)

-- where a writer has a text left there is room for its word
pub room_left : (d : Sheet) (w : ℕ) → IsKept d → IsSpeech d.speech → words_of w d.said.words < count_said d.speech w → 0 < d.said.room
room_left d w k is more =
    let v : Word = next_word d.said.words w in
    let fits = words_fit d.speech (d.said.words ++ v ∷ []) (within_snoc d.speech d.said.words v k.lawful.within more) in
    omega (arith, fits, k.room, is.few, length-append d.said.words (v ∷ []))

pub record Next (d : Sheet) (places : List ℕ) (w terminal : ℕ) (now : Reel) (v : Up) : Type 0 where
  pub words : now.words ≡ d.said.words ++ word w (words_of w d.said.words) ∷ []
  pub kept : IsKept (record { speech = d.speech; said = now; up = v })
  pub counts : Counts (slice_set places w (slice_index_or places w 0 + 1)) now.words
  pub current_is : terminal ≡ current_after 0 (lines_of d.speech now.words)
  pub current_below : terminal < 16

next_by : (d : Sheet) (places : List ℕ) (current w place : ℕ) (s : Saying) (now : Reel) (v : Up)
    → IsKept d → Counts places d.said.words → current ≡ current_after 0 (lines_of d.speech d.said.words)
    → w < 8 → words_of w d.said.words < count_said d.speech w
    → place ≡ words_of w d.said.words
    → slice_get (said_by d.speech w) place ≡ Some s → s.terminal < 16
    → v.sent ≡ d.up.sent ++ line_from current s.terminal s.text → v.staged ≡ []
    → now.words ≡ d.said.words ++ word w place ∷ [] → now.room + 1 ≡ d.said.room → now.split ≡ v.split
    → Next d places w s.terminal now v
next_by d places current w place s now v k counts current_is below more place_is there small sent staged words room split =
    let said : List Word = d.said.words in
    let same : now.words ≡ said ++ next_word said w ∷ [] = words ∙ ap (λ (n : ℕ). said ++ word w n ∷ []) place_is in
    let spoken : v.sent ≡ spoken_by d.speech now.words =
    sent ∙ ap (λ (l : List ℕ). l ++ line_from current s.terminal s.text) k.sent
    ∙ ap (λ (n : ℕ). spoken_by d.speech said ++ line_from n s.terminal s.text) current_is
    ∙ sym (spoken_more d.speech said w place s there) ∙ ap (spoken_by d.speech) (sym words) in
    record {
      words = same;
      kept = record {
        lawful = subst (λ (l : List Word). IsLawful d.speech l) (sym same) (lawful_more d.speech said w k.lawful more);
        sent = spoken;
        staged = staged;
        room = omega (arith, ap length words, length-append said (word w place ∷ []), k.room, room);
        split = split;
      };
      counts = counts_append places said now.words (word w place) counts words below;
      current_is = sym (current_more d.speech said w place s there) ∙ ap (λ (l : List Word). current_after 0 (lines_of d.speech l)) (sym words);
      current_below = small;
    }

pub next_is : (d : Sheet) (places : List ℕ) (current : ℕ) (line : List ℕ) (w terminal : ℕ) (text : List ℕ) (s : Saying) (now : Reel) (v : Up)
    → IsWorking d places current line → w < 8 → words_of w d.said.words < count_said d.speech w
    → slice_get (said_by d.speech w) (slice_index_or places w 0) ≡ Some s
    → terminal ≡ s.terminal → text ≡ s.text → s.terminal < 16
    → v.sent ≡ d.up.sent ++ line_from current terminal text → v.staged ≡ []
    → now.words ≡ d.said.words ++ word w (slice_index_or places w 0) ∷ [] → now.room + 1 ≡ d.said.room → now.split ≡ v.split
    → Next d places w terminal now v
next_is d places current line w terminal text s now v k below more there terminal_is text_is small sent staged words room split =
    let sent_is : v.sent ≡ d.up.sent ++ line_from current s.terminal s.text =
    sent ∙ ap (λ (n : ℕ). d.up.sent ++ line_from current n text) terminal_is ∙ ap (λ (l : List ℕ). d.up.sent ++ line_from current s.terminal l) text_is in
    subst (λ (n : ℕ). Next d places w n now v) (sym terminal_is)
    (next_by d places current w (slice_index_or places w 0) s now v k.kept k.counts k.current_is below more (k.counts.1 w below) there small sent_is staged words room split)

-- ---- a stand at which nothing was said

pub no_counts : (words : List Word) → words ≡ [] → Counts (0 ∷ 0 ∷ 0 ∷ 0 ∷ 0 ∷ 0 ∷ 0 ∷ 0 ∷ []) words
no_counts words none = (refl, λ w lt. zeros 8 w ∙ sym (ap (words_of w) none))

pub kept_first : (speech : Speech) (said : Reel) (u : Up) → said.words ≡ [] → said.room ≡ 4096 → said.split ≡ u.split → u.sent ≡ [] → u.staged ≡ [] → IsKept (record { speech = speech; said = said; up = u })
kept_first speech said u none room split sent staged = record {
  lawful = subst (λ (l : List Word). IsLawful speech l) (sym none) (lawful_none speech);
  sent = sent ∙ ap (spoken_by speech) (sym none);
  staged = staged;
  room = omega (arith, ap length none, room);
  split = split;
}

pub current_first : (speech : Speech) (words : List Word) → words ≡ [] → 0 ≡ current_after 0 (lines_of speech words)
current_first speech words none = ap (λ (l : List Word). current_after 0 (lines_of speech l)) (sym none)
