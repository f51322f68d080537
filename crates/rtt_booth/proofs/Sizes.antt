-- How many bytes words speak at most.
use Rattle.std.proofs.Common.{◌≡◌, ℕ, ◌+◌, ◌*◌, ◌≤◌, List, [], ◌∷◌, ◌++◌, Option, Some, None, length, length-append, refl, arith}
use Rattle.std.specs.Prelude.{option_map, option_to_list, slice_get}
use Rattle.rtt_booth.proofs.Room.{words_fit}
use Rattle.rtt_booth.specs.Said.{IsLawful, lines_of, spoken_by}
use Rattle.rtt_booth.specs.declared.said.Word.{Word}
use Rattle.rtt_terminal.proofs.SpeechLaws.{at_place}
use Rattle.rtt_terminal.proofs.Written.{short_switch}
use Rattle.rtt_terminal.specs.Speech.{CanBeSaid, IsSpeech, Saying, Speech, count_texts, line_of, said_by}
use Rattle.rtt_terminal.specs.Stream.{Line, line_bytes, spoken_from, switch}

with_line : (current n : ℕ) (o : Option Saying) (lines : List Line) → ((s : Saying) → o ≡ Some s → length s.text ≤ 2000) → ((from : ℕ) → length (spoken_from from lines) ≤ n)
    → length (spoken_from current (option_to_list (option_map line_of o) ++ lines)) ≤ 2003 + n
with_line current n None lines short rest = omega (arith, rest current)
with_line current n (Some s) lines short rest =
    omega (
      arith,
      length-append (switch current s.terminal) (line_bytes s.text ++ spoken_from s.terminal lines),
      length-append (line_bytes s.text) (spoken_from s.terminal lines),
      length-append s.text (10 ∷ []),
      short_switch current s.terminal,
      short s refl,
      rest s.terminal,
    )

short_at : (speech : Speech) (writer place : ℕ) → IsSpeech speech → (s : Saying) → slice_get (said_by speech writer) place ≡ Some s → length s.text ≤ 2000
short_at speech writer place h s is = (at_place CanBeSaid (said_by speech writer) place s is (h.each writer)).sayable.short

each_short : (speech : Speech) (words : List Word) → IsSpeech speech → (current : ℕ) → length (spoken_from current (lines_of speech words)) ≤ 2003 * length words
each_short speech [] h current = omega arith
each_short speech (w ∷ words) h current =
    omega (
      arith,
      with_line current (2003 * length words) (slice_get (said_by speech w.writer) w.place) (lines_of speech words) (short_at speech w.writer w.place h) (each_short speech words h),
    )

pub spoken_short : (speech : Speech) (words : List Word) → IsSpeech speech → IsLawful speech words → length (spoken_by speech words) ≤ count_texts speech * 2003
spoken_short speech words h lawful = omega (arith, each_short speech words h 0, words_fit speech words lawful.within)
