use Rattle.std.proofs.Common.{refl, sym, arith}
use Rattle.defmt_script.proofs.ReadingLaws.{begins, ends, goes_on, refuses_by}
use Rattle.defmt_script.proofs.top.read_text.Goals as goal

pub loop-rest-preserved : goal.loop-rest-preserved
loop-rest-preserved c = record {
  utf8 = c.next_text_line.ensures.utf8;
  reading = goes_on _ _ _ _ _ c.next_text_line.result.1.now c.loop-rest.invariant.reading c.next_text_line.ensures.lines c.in-Ok.ensures.0 c.take_text_line.new.reading c.in-Ok.ensures.1 c.in-Ok.ensures.2;
  number = omega (arith, c.next_text_line.ensures.shorter);
}

pub returns-in-Err : goal.returns-in-Err
returns-in-Err c =
    rw c.fault_of.ensures
    (refuses_by c.loop-rest.reading c.take_text_line.new.reading c.loop-rest.number _ _ c.args.text.now c.next_text_line.result.0.now c.next_text_line.result.1.now c.loop-rest.invariant.reading c.next_text_line.ensures.lines c.in-Err.ensures.0 c.in-Err.fault c.in-Err.ensures.1 refl c.in-Err.ensures.2)

pub loop-rest-init : goal.loop-rest-init
loop-rest-init c = record { utf8 = c.utf8.text; reading = begins _ _ c.in_ok-reading.ensures; number = omega arith }

pub returns : goal.returns
returns c = ends _ _ c.loop-rest.rest.now c.args.text.now c.loop-rest.invariant.reading (sym c.loop-rest-test.ensures) _ c.in_ok-finish.ensures
