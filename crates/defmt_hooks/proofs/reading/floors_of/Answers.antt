use Rattle.std.proofs.Common.{◌∙◌, sym}
use Rattle.std.proofs.lemmas.Result.{err_from_is_err_and}
use Rattle.defmt_hooks.proofs.Parts.{goes_on, ends, shorter, stopped, ended}
use Rattle.defmt_hooks.proofs.reading.floors_of.Goals as goal

pub returns-in_err-add : goal.returns-in_err-add
returns-in_err-add c =
    let p = err_from_is_err_and c.from_residual.result c.from_residual.ensures.1 in
    rw (p.1, p.2) (stopped _ c.parts.floors c.add.new.floors c.parts.rest.now c.in-Some.part.now c.in-Some.after.now _ c.in-Some.ensures.parts c.in_err-add.ensures c.parts.invariant.read)

pub parts-smaller : goal.parts-smaller
parts-smaller c = shorter c.parts.rest.now c.in-Some.part.now c.in-Some.after.now c.in-Some.ensures.parts

pub parts-preserved : goal.parts-preserved
parts-preserved c = record {
  utf8 = c.in-Some.ensures.utf8;
  read = goes_on c.parts.floors c.add.new.floors c.parts.rest.now c.in-Some.part.now c.in-Some.after.now c.in-Some.ensures.parts c.in_ok-add.ensures ∙ c.parts.invariant.read;
}

pub returns-in_err-add-2 : goal.returns-in_err-add-2
returns-in_err-add-2 c =
    let p = err_from_is_err_and c.from_residual-in_err-add-2.result c.from_residual-in_err-add-2.ensures.1 in
    rw (p.1, p.2) (ended _ c.parts.floors c.add-2.new.floors c.parts.rest.now _ c.in_default.ensures.parts c.in_err-add-2.ensures c.parts.invariant.read)

pub returns : goal.returns
returns c = sym c.parts.invariant.read ∙ ends c.parts.floors c.add-2.new.floors c.parts.rest.now c.in_default.ensures.parts c.in_ok-add-2.ensures
