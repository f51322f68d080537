use Rattle.std.proofs.Common.{sym, ◌∙◌, ap, Some, List, arith}
use Rattle.defmt_grammar.specs.declared.piece.Piece.{Piece}
use Rattle.defmt_intern.specs.Body.{variants, forms_of}
use Rattle.defmt_intern.proofs.BodyLaws.{behind_forms, goes_on, stops, ends, ends_none, shorter_behind}
use Rattle.defmt_intern.proofs.parsed.forms_of.Goals as goal

pub returns-in_default-2 : goal.returns-in_default-2
returns-in_default-2 c =
    let parts = c.in-Some.ensures.parts in
    sym (stops c.args.mode c.variants.forms c.variants.rest.now c.in-Some.variant.now c.in-Some.after.now parts.0 parts.1 (sym c.in_ok-pieces.ensures ∙ c.in_default-2.is)) ∙ c.variants.invariant.read

pub variants-smaller : goal.variants-smaller
variants-smaller c = shorter_behind c.variants.rest.now c.in-Some.variant.now c.in-Some.after.now c.in-Some.ensures.parts.0

pub variants-preserved : goal.variants-preserved
variants-preserved c =
    let parts = c.in-Some.ensures.parts in
    let shorter = shorter_behind c.variants.rest.now c.in-Some.variant.now c.in-Some.after.now parts.0 in
    record {
      utf8 = c.in-Some.ensures.utf8;
      read = ap (λ (forms : List (List Piece)). behind_forms forms (forms_of c.args.mode (variants c.in-Some.after.now))) c.in_ok-push.ensures.ok
          ∙ goes_on c.args.mode c.variants.forms c.variants.rest.now c.in-Some.variant.now c.in-Some.after.now c.in-Some-2.pieces parts.0 parts.1 (sym c.in_ok-pieces.ensures ∙ c.in-Some-2.is) ∙ c.variants.invariant.read;
      shorter = omega (arith, shorter, c.variants.invariant.shorter);
    }

pub returns-in_default-3 : goal.returns-in_default-3
returns-in_default-3 c = sym (ends_none c.args.mode c.variants.forms c.variants.rest.now c.in_default.ensures.parts (sym c.in_ok-pieces-2.ensures ∙ c.in_default-3.is)) ∙ c.variants.invariant.read

pub returns : goal.returns
returns c =
    ap Some c.in_ok-push-2.ensures.ok ∙ sym (ends c.args.mode c.variants.forms c.variants.rest.now c.in-Some-3.pieces c.in_default.ensures.parts (sym c.in_ok-pieces-2.ensures ∙ c.in-Some-3.is)) ∙ c.variants.invariant.read
