use Rattle.std.proofs.Common.{List, None, Some, [], ap, arith, sym, ◌∷◌, ◌∙◌}
use Rattle.defmt_grammar.specs.declared.piece.Piece.{Piece}
use Rattle.defmt_grammar.specs.Language.{lenient_of}
use Rattle.defmt_intern.specs.Body.{forms_of, variants}
use Rattle.defmt_intern.proofs.BodyLaws.{behind_forms, ends as forms_end, goes_on as forms_go_on, shorter_behind}
use Rattle.defmt_lines.proofs.Verdicts.{at_read, ends, goes_on, stops}
use Rattle.defmt_lines.proofs.verdict.parse_forms.Goals as goal

pub returns-in-Err-clause-verdict : goal.returns-in-Err-clause-verdict
returns-in-Err-clause-verdict c =
    let parts = c.in-Some.ensures.parts in
    stops c.args.language c.variants.rest.now c.args.text.now c.in-Some.variant.now c.in-Some.after.now c.in-Err.number c.variants.invariant.taken parts.0 parts.1 (at_read c.args.language (c.in-Some.variant.now ∷ []) c.in-Err.is c.in_ok-pieces.ensures.verdict)

pub variants-smaller : goal.variants-smaller
variants-smaller c = shorter_behind c.variants.rest.now c.in-Some.variant.now c.in-Some.after.now c.in-Some.ensures.parts.0

pub variants-preserved : goal.variants-preserved
variants-preserved c =
    let parts = c.in-Some.ensures.parts in
    let shorter = shorter_behind c.variants.rest.now c.in-Some.variant.now c.in-Some.after.now parts.0 in
    record {
      utf8 = c.in-Some.ensures.utf8;
      taken = goes_on c.args.language c.variants.rest.now c.args.text.now c.in-Some.variant.now c.in-Some.after.now c.variants.invariant.taken parts.0 parts.1 (at_read c.args.language (c.in-Some.variant.now ∷ []) c.in-Ok.is c.in_ok-pieces.ensures.verdict);
      read = ap (λ (forms : List (List Piece)). behind_forms forms (forms_of (lenient_of c.args.language) (variants c.in-Some.after.now))) c.in_ok-push.ensures.ok
          ∙ forms_go_on (lenient_of c.args.language) c.variants.forms c.variants.rest.now c.in-Some.variant.now c.in-Some.after.now c.in-Ok.pieces parts.0 parts.1 (rw c.in-Ok.is at c.in_ok-pieces.ensures.pieces) ∙ c.variants.invariant.read;
      shorter = omega (arith, shorter, c.variants.invariant.shorter);
    }

pub returns-in-Err-2-clause-verdict : goal.returns-in-Err-2-clause-verdict
returns-in-Err-2-clause-verdict c = ends c.args.language c.variants.rest.now c.args.text.now (Some c.in-Err-2.number) c.variants.invariant.taken c.in_default.ensures.parts (at_read c.args.language (c.variants.rest.now ∷ []) c.in-Err-2.is c.in_ok-pieces-2.ensures.verdict)

pub returns-clause-verdict : goal.returns-clause-verdict
returns-clause-verdict c = ends c.args.language c.variants.rest.now c.args.text.now None c.variants.invariant.taken c.in_default.ensures.parts (at_read c.args.language (c.variants.rest.now ∷ []) c.in-Ok-2.is c.in_ok-pieces-2.ensures.verdict)

pub returns-clause-forms : goal.returns-clause-forms
returns-clause-forms c =
    sym c.variants.invariant.read ∙ forms_end (lenient_of c.args.language) c.variants.forms c.variants.rest.now c.in-Ok-2.pieces c.in_default.ensures.parts (rw c.in-Ok-2.is at c.in_ok-pieces-2.ensures.pieces)
    ∙ ap Some (sym c.in_ok-push-2.ensures.ok)
