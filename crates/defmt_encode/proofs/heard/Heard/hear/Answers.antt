use Rattle.std.proofs.Common.{refl, ap, Ok, Err}
use Rattle.defmt_encode.proofs.Laws.{answers, gives, refuses, bytes_fit}
use Rattle.defmt_encode.proofs.heard.Heard.hear.Goals as goal

pub returns-in-Ok-clause-answer : goal.returns-in-Ok-clause-answer
returns-in-Ok-clause-answer c = answers c.args.table.now c.args.bytes.now (Ok c.read_whole.new.heard) (Ok c.read_whole.new.heard) refl (bytes_fit c.args.bytes.now c.type_inv.bytes) c.in-Ok.ensures

pub returns-in-Ok-clause-heard : goal.returns-in-Ok-clause-heard
returns-in-Ok-clause-heard c = λ place stamp index vs h. gives c.args.table.now c.args.bytes.now place stamp index vs h (Ok c.read_whole.new.heard) (Ok c.read_whole.new.heard) refl c.in-Ok.ensures

pub returns-in-Ok-clause-met : goal.returns-in-Ok-clause-met
returns-in-Ok-clause-met c = λ number m. refuses c.args.table.now c.args.bytes.now number m (Ok c.read_whole.new.heard) (Ok c.read_whole.new.heard) refl c.in-Ok.ensures

pub returns-in-Err-clause-answer : goal.returns-in-Err-clause-answer
returns-in-Err-clause-answer c = answers c.args.table.now c.args.bytes.now (Err c.in-Err.fault) _ (ap Err c.from.ensures) (bytes_fit c.args.bytes.now c.type_inv.bytes) c.in-Err.ensures

pub returns-in-Err-clause-heard : goal.returns-in-Err-clause-heard
returns-in-Err-clause-heard c = λ place stamp index vs h. gives c.args.table.now c.args.bytes.now place stamp index vs h (Err c.in-Err.fault) _ (ap Err c.from.ensures) c.in-Err.ensures

pub returns-in-Err-clause-met : goal.returns-in-Err-clause-met
returns-in-Err-clause-met c = λ number m. refuses c.args.table.now c.args.bytes.now number m (Err c.in-Err.fault) _ (ap Err c.from.ensures) c.in-Err.ensures
