use Rattle.std.proofs.Common.{sym, ◌∙◌, refl}
use Rattle.std.proofs.lemmas.Bool.{eqb-true}
use Rattle.std.proofs.lemmas.List.{nil_from_length}
use Rattle.defmt_encode.proofs.Laws.{bytes_fit}
use Rattle.defmt_plan.proofs.Running.{runs_none, runs_all, runs_one}
use Rattle.defmt_plan.proofs.run.run.Goals as goal

pub returns-then-is_empty : goal.returns-then-is_empty
returns-then-is_empty c = λ t all pieces are.
    runs_all t c.args.steps.now c.args.bytes.now c.args.from c.args.at c.args.out.now c.args.steps.now (record { read = c.args.from; written = c.args.at }) c.args.out.now (runs_none t c.args.steps.now c.args.bytes.now c.args.from c.args.at c.args.out.now c.requires.read c.requires.written)
    (nil_from_length c.args.steps.now (eqb-true _ 0 (sym c.is_empty.ensures ∙ c.if-is_empty.true))) (bytes_fit c.args.bytes.now c.type_inv.bytes) c.requires.read all pieces are

pub returns-in-Some : goal.returns-in-Some
returns-in-Some c = λ t all pieces are.
    runs_one t c.args.steps.now c.args.bytes.now c.args.from c.args.at c.args.out.now c.in-Some.size c.in-Some.hint c.pass_uint.new.out c.pass_uint.result c.in-Some.ensures (bytes_fit c.args.bytes.now c.type_inv.bytes) c.requires.read c.requires.written (c.pass_uint.ensures t) all pieces are
