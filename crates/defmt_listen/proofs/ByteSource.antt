-- Bytes at hand, as a source gives them.
use Rattle.std.proofs.Common.{◌≡◌, ◌≤◌, ◌<◌, ◌++◌, ℕ, List, [], length, take, drop, min, Some, sym, ◌∙◌, ap, subst, arith, length-append, length-drop}
use Rattle.std.proofs.lemmas.List.{append-nil, length-take, take-append-drop, take_at}
use Rattle.std.proofs.Math.ListN.{drop_of_length-le}
use Rattle.std.specs.Io.KnownBytes.{Appends}
use Rattle.dl_io.specs.Outside.{Rose}
use Rattle.defmt_framing.specs.Told.{events}
use Rattle.defmt_listen.specs.Streams.{Input, Output, WroteFront, input_of}
use Rattle.defmt_listen.specs.Heard.{Reports, lines, faults, HeardAll, HeardFront, Breaks, ToldAll, ToldFront}
use Rattle.defmt_listen.specs.declared.fault.ListenFault.{ListenFault}
use Rattle.defmt_listen.specs.declared.fault.ListenFault.TheVariants.{Source, Sink, Long, Memory}

-- the first n bytes were copied to the front of the buffer
pub copied_front : (bytes buf copied : List ℕ) (n : ℕ) → n ≡ min (length bytes) (length buf) → copied ≡ take n bytes
    → (bytes ≡ take n (copied ++ drop n buf) ++ drop n bytes) × (n ≡ 0 → 0 < length (copied ++ drop n buf) → drop n bytes ≡ [])
copied_front bytes buf copied n is copies =
    let size : length copied ≡ n = ap length copies ∙ length-take n bytes ∙ omega arith in
    let front : take n (copied ++ drop n buf) ≡ take n bytes = take_at copied (drop n buf) n size ∙ copies in (
      sym (take-append-drop n bytes) ∙ ap (λ (l : List ℕ). l ++ drop n bytes) (sym front),
      λ none some. drop_of_length-le bytes (omega (arith, length-append copied (drop n buf), length-drop n buf, size)),
    )

-- a source that never fails
never_rose : Rose 0 0 → ⊥
never_rose rose = absurd (omega (arith, rose))

-- ---- a recording that is these bytes

abbrev pub given : List ℕ → List ℕ → Input
given bytes after = input_of Some (λ left. 0) bytes after

module _ {S E : Type 0} (r : Reports S E) (bytes after : List ℕ) (output : Output) where
  pub told_all : (count : ℕ) → HeardAll r (given bytes after) output count → ToldAll r bytes output count
  told_all count heard =
      let is : heard.recording ≡ bytes =
      sym (append-nil heard.recording) ∙ ap (λ (l : List ℕ). heard.recording ++ l) (sym heard.at_end) ∙ sym heard.taken in
      record {
        written = subst (λ (l : List ℕ). Appends output.held output.held_after (lines r (events r.tells l))) is heard.written;
        counted = heard.counted ∙ ap (λ (l : List ℕ). faults r (events r.tells l)) is;
      }

  told_some : HeardFront r (given bytes after) output → WroteFront output (lines r (events r.tells bytes))
  told_some heard =
      let is : heard.bytes ++ heard.rest ≡ bytes = ap (λ (l : List ℕ). heard.bytes ++ l) heard.is_rest ∙ sym heard.taken in
      subst (λ (l : List ℕ). WroteFront output (lines r (events r.tells l))) is heard.written

  pub told_front : length bytes ≤ r.limit → (fault : ListenFault) → Breaks r (given bytes after) output fault → ToldFront r bytes output fault
  told_front within Sink breaks = (told_some breaks.0, breaks.1)
  told_front within Memory breaks = told_some breaks
  told_front within Source breaks = never_rose breaks.1
  told_front within Long breaks = absurd (omega (arith, within, breaks.size, ap length breaks.taken, length-append breaks.bytes after))
