use Rattle.std.proofs.Common.{◌∙◌, ap, ℕ}
use Rattle.defmt_print.proofs.Marks.{are_placed, few_marks}
use Rattle.defmt_recording.specs.Decoding.{fault_by}
use Rattle.defmt_run.proofs.RunMade.{alone}
use Rattle.defmt_run.proofs.hearing.lines_of_run.Goals as goal

pub run_lines-requires : goal.run_lines-requires
run_lines-requires c = record {
  placed = are_placed c.args.run.now.script c.args.run.now.tape.marks c.requires.0.lawful;
  few = few_marks c.args.run.now.script c.args.run.now.tape.marks c.lawful.ensures c.requires.0.lawful;
}

pub run_failing-failing-requires : goal.run_failing-failing-requires
run_failing-failing-requires c = record {
  placed = are_placed c.args.run.now.script c.args.run.now.tape.marks c.requires.0.lawful;
  few = few_marks c.args.run.now.script c.args.run.now.tape.marks c.lawful.ensures c.requires.0.lawful;
}

pub returns : goal.returns
returns c = λ said silent.
    let run = c.args.run.now in (
      alone run.script run.tape run.settled run.captured.items run.rest.items run.looks c.requires.0 c.requires.1 c.requires.2
          c.in_ok-events.events said c.in_ok-events.ensures.events c.in_ok-events.ensures.lines c.in_ok-events.ensures.gaps silent,
      c.in_ok-output.ensures,
      c.fault_of-fault.ensures ∙ ap (λ (n : ℕ). fault_by c.args.options.now.style.fail_on n 0) c.run_failing-failing.ensures,
    )
