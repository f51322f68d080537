use Rattle.defmt_print.proofs.Between.{lines_alone, lines_between, marks_between}
use Rattle.defmt_print.proofs.laws.gaps_are_told.Goals as goal

pub returns-clause-lines : goal.returns-clause-lines
returns-clause-lines c = lines_between

pub returns-clause-none : goal.returns-clause-none
returns-clause-none c = lines_alone

pub returns-clause-marks : goal.returns-clause-marks
returns-clause-marks c = marks_between
