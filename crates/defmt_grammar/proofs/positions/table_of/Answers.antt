use Rattle.std.proofs.Common.{arith, refl}
use Rattle.std.proofs.lemmas.Grind.{common_steps}
use Rattle.defmt_grammar.proofs.Tables.{empty_table, is_at, count_fits, table_step, no_clash_step, clash_step, table_done}
use Rattle.defmt_grammar.proofs.positions.table_of.Goals as goal

pub uses-init : goal.uses-init
uses-init c = record { entries = empty_table 16; size = refl; no_clash = λ i j u v lt. absurd (omega arith) }

pub with_use-requires : goal.with_use-requires
with_use-requires c = count_fits c.uses.table c.args.uses.now c.uses.one-index _ c.from-position.result _ (is_at c.uses.table c.args.uses.now c.uses.one-index _ c.from-position.result _ c.requires c.uses.invariant.entries c.uses.invariant.size c.uses-test.true c.from-position.ensures) c.uses-test.true (omega arith)

pub returns-in-None : goal.returns-in-None
returns-in-None c = clash_step c.uses.table c.args.uses.now c.uses.one-index _ c.from-position.result _ (is_at c.uses.table c.args.uses.now c.uses.one-index _ c.from-position.result _ c.requires c.uses.invariant.entries c.uses.invariant.size c.uses-test.true c.from-position.ensures) c.in-None.ensures c.uses.invariant.no_clash

pub uses-preserved : goal.uses-preserved
uses-preserved c = record {
  entries = table_step c.uses.table c.args.uses.now c.uses.one-index _ c.from-position.result _ c.in-Some.held (is_at c.uses.table c.args.uses.now c.uses.one-index _ c.from-position.result _ c.requires c.uses.invariant.entries c.uses.invariant.size c.uses-test.true c.from-position.ensures) c.uses-test.true c.in-Some.ensures;
  size = grind (arith, common_steps);
  no_clash = no_clash_step c.uses.table c.args.uses.now c.uses.one-index _ c.from-position.result _ c.in-Some.held (is_at c.uses.table c.args.uses.now c.uses.one-index _ c.from-position.result _ c.requires c.uses.invariant.entries c.uses.invariant.size c.uses-test.true c.from-position.ensures) c.in-Some.ensures c.uses.invariant.no_clash;
}

pub returns : goal.returns
returns c = table_done c.uses.table c.args.uses.now c.uses.one-index (omega arith) c.uses.invariant.entries c.uses.invariant.size c.uses.invariant.no_clash
