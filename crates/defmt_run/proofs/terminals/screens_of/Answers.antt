use Rattle.std.proofs.Common.{◌≡◌, List, ap, arith, length, subst, sym, ℕ}
use Rattle.std.specs.Prelude.{Err}
use Rattle.rtt_booth.specs.Said.{screens_by, spoken_by}
use Rattle.rtt_booth.specs.declared.said.Word.{Word}
use Rattle.rtt_terminal.specs.Answers.{GivesOnly}
use Rattle.rtt_terminal.specs.Speech.{Speech}
use Rattle.rtt_terminal.specs.Stream.{Shows}
use Rattle.rtt_terminal.specs.declared.fault.TermFault.{TermFault}
use Rattle.defmt_run.proofs.terminals.screens_of.Goals as goal

pub read_terminals-requires : goal.read_terminals-requires
read_terminals-requires c =
    omega (
      arith,
      ap length c.requires.spoken,
      c.spoken_is_short.ensures c.args.script.now.said c.args.said.now.words c.lawful.ensures.said c.requires.lawful,
      c.lawful.ensures.said.few,
    )

-- bytes that words speak show the words' texts
shows : (speech : Speech) (words : List Word) (bytes : List ℕ) → bytes ≡ spoken_by speech words → Shows (spoken_by speech words) (screens_by speech words)
    → Shows bytes (screens_by speech words)
shows speech words bytes is shown = subst (λ (l : List ℕ). Shows l (screens_by speech words)) (sym is) shown

pub returns-in-Ok : goal.returns-in-Ok
returns-in-Ok c =
    let speech = c.args.script.now.said in
    let words = c.args.said.now.words in
    c.in-Ok.ensures.shown (screens_by speech words) (shows speech words c.args.bytes.now c.requires.spoken (c.words_are_shown.ensures.shown speech words c.lawful.ensures.said))

pub unreachable-requires : goal.unreachable-requires
unreachable-requires c =
    let speech = c.args.script.now.said in
    let words = c.args.said.now.words in
    subst (λ (fault : TermFault). GivesOnly (Err fault) (screens_by speech words)) c.in-Err-Refused.field-0-is
    (c.in-Err-Refused.ensures.shown (screens_by speech words) (shows speech words c.args.bytes.now c.requires.spoken (c.words_are_shown.ensures.shown speech words c.lawful.ensures.said)))
