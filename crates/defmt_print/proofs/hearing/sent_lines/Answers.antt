use Rattle.std.proofs.Common.{arith}
use Rattle.defmt_decode.specs.Event.{events_of}
use Rattle.defmt_logger.specs.Tape.{stream_of}
use Rattle.defmt_print.specs.Heard.{catalog_of}
use Rattle.defmt_print.proofs.Gaps.{gaps_in}
use Rattle.defmt_print.proofs.Lines.{Known, lines_in}
use Rattle.defmt_print.proofs.Marks.{are_placed, few_marks}
use Rattle.defmt_print.proofs.Turns.{turn_lines, turn_prints}
use Rattle.defmt_print.proofs.hearing.sent_lines.Goals as goal
use Rattle.defmt_print.proofs.hearing.sent_lines.Goals.{After-gaps_count}

known : (c : After-gaps_count) → Known c.args.script.now
known c = record {
  lawful = c.lawful.ensures;
  fit = (record { fits = c.stamps_fit.ensures.fits; narrow = c.stamps_fit.ensures.narrow });
  base = omega (arith, c.stamps.ensures.base, c.stamps.ensures.within.0);
  step = omega (arith, c.stamps.ensures.step, c.stamps.ensures.within.1);
  sound = c.statements_are_sound.ensures;
}

pub returns-clause-lines : goal.returns-clause-lines
returns-clause-lines c = λ tape lawful.
    lines_in c.args.script.now (known c) c.frames_read_back.ensures.short c.without_front.ensures c.intact_frames.ensures.sent tape lawful

pub returns-clause-gaps : goal.returns-clause-gaps
returns-clause-gaps c = λ tape lawful.
    gaps_in c.gaps_count.ensures c.args.script.now tape (events_of (catalog_of c.args.script.now) (stream_of c.args.script.now tape))
    (are_placed c.args.script.now tape lawful) (few_marks c.args.script.now tape c.lawful.ensures lawful) (returns-clause-lines c tape lawful)

pub returns-clause-turns : goal.returns-clause-turns
returns-clause-turns c = λ turns got steered.
    turn_lines c.args.script.now turns got steered (known c) c.frames_read_back.ensures.short c.without_front.ensures

pub returns-clause-muted : goal.returns-clause-muted
returns-clause-muted c = λ turns got steered.
    turn_prints c.args.script.now turns got steered c.gaps_count.ensures (known c)
