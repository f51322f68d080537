use Rattle.std.proofs.Common.{refl}
use Rattle.defmt_words.proofs.reading.choice_of.Goals as goal

pub returns-in-run : goal.returns-in-run
returns-in-run c = rw c.in-run.is c.run_job.ensures

pub returns-in-record : goal.returns-in-record
returns-in-record c = rw c.in-record.is refl

pub returns-in-term : goal.returns-in-term
returns-in-term c = rw c.in-term.is refl

pub returns-in-steer : goal.returns-in-steer
returns-in-steer c = rw c.in-steer.is refl

pub returns-in-table : goal.returns-in-table
returns-in-table c = rw c.in-table.is refl

pub returns-in-print : goal.returns-in-print
returns-in-print c = rw c.in-print.is refl

pub returns-in-decode : goal.returns-in-decode
returns-in-decode c = rw c.in-decode.is c.decode_job.ensures

pub returns-in-dump : goal.returns-in-dump
returns-in-dump c = rw c.in-dump.is c.dump_job.ensures

pub returns-in-gen : goal.returns-in-gen
returns-in-gen c = rw c.in-gen.is c.generate_job.ensures
