use Rattle.std.proofs.Common.{◌++◌, ◌∙◌, List, ℕ, ap, refl}
use Rattle.std.specs.Prelude.{Some}
use Rattle.defmt_print.proofs.Marks.{are_placed, few_marks}
use Rattle.defmt_print.specs.RunLines.{run_lines}
use Rattle.defmt_print.specs.Terminals.{screen_lines}
use Rattle.defmt_run.proofs.RunMade.{heard, spoke}
use Rattle.defmt_words.specs.declared.job.RunOptions.{RunOptions}
use Rattle.rtt_booth.specs.Said.{screens_by}
use Rattle.defmt_run.proofs.hearing.hear_spoken.Goals as goal

pub run_lines-requires : goal.run_lines-requires
run_lines-requires c = record {
  placed = are_placed c.args.run.now.script c.args.run.now.tape.marks c.requires.run.0.lawful;
  few = few_marks c.args.run.now.script c.args.run.now.tape.marks c.lawful.ensures c.requires.run.0.lawful;
}

pub returns : goal.returns
returns c =
    let run = c.args.run.now in
    let talk = c.args.talk.now in (
      (
        heard run.script run.tape run.settled run.captured.items run.rest.items run.looks c.requires.run.0 c.requires.run.1 c.requires.run.2
            c.in_ok-events.events talk.said (Some talk.settled) c.in_ok-events.ensures.events c.in_ok-events.ensures.lines c.in_ok-events.ensures.gaps,
        (
          talk.settled,
          spoke run.script run.tape run.settled run.captured.items run.rest.items run.looks c.requires.run.0 c.requires.run.1 c.requires.run.2
              c.in_ok-events.events talk.said talk.settled talk.captured.items talk.rest.items c.requires.talk.0 c.requires.talk.1 c.requires.talk.2,
        ),
      ),
      c.in_ok-output.ensures ∙ ap (λ (l : List ℕ). l ++ screen_lines (screens_by run.script.said talk.said.words)) (
          c.in_ok-lines.ensures ∙ ap (λ (options : RunOptions). run_lines options run.script run.tape.marks c.in_ok-events.events) c.none-options.ensures
          ),
      refl,
    )
