use Rattle.std.proofs.Common.{ap, arith, inl, inr, refl, sym, ◌≡◌, ◌∙◌}
use Rattle.std.proofs.lemmas.Result.{IfOk-weaker}
use Rattle.std.specs.Result.{result_err}
use Rattle.defmt_grammar.specs.Language.{lenient_of}
use Rattle.defmt_intern.specs.Body.{cut_body, forms_body, forms_of, variants}
use Rattle.defmt_intern.proofs.BodyLaws.{body_cut, body_uncut, length-variants}
use Rattle.defmt_lines.proofs.Verdicts.{at_read, uncut}
use Rattle.defmt_lines.proofs.verdict.parse_variants.Goals as goal

pub returns-in-0-clause-verdict : goal.returns-in-0-clause-verdict
returns-in-0-clause-verdict c =
    IfOk-weaker c.parse_one.result _ _ (λ read j. uncut c.args.language c.args.text.now (result_err read) (omega (arith, length-variants c.args.text.now, c.count_bars.ensures)) j) c.parse_one.ensures.verdict

pub returns-in-0-clause-parsed : goal.returns-in-0-clause-parsed
returns-in-0-clause-parsed c =
    let body = body_uncut (lenient_of c.args.language) c.args.text.now (omega (arith, length-variants c.args.text.now, c.count_bars.ensures)) in
    IfOk-weaker c.parse_one.result _ _ (λ read is. IfOk-weaker read _ _ (λ parsed same. same ∙ sym body) is) c.parse_one.ensures.parsed

pub returns-in-Ok-clause-verdict : goal.returns-in-Ok-clause-verdict
returns-in-Ok-clause-verdict c =
    inr (omega (arith, length-variants c.args.text.now, c.count_bars.ensures), at_read c.args.language (variants c.args.text.now) c.in-Ok.is c.in_ok-forms-in-1-to-254.ensures.verdict)

pub returns-in-Ok-clause-parsed : goal.returns-in-Ok-clause-parsed
returns-in-Ok-clause-parsed c =
    let counted = length-variants c.args.text.now in
    let body : cut_body (lenient_of c.args.language) (variants c.args.text.now) ≡ forms_body (forms_of (lenient_of c.args.language) (variants c.args.text.now)) = body_cut (lenient_of c.args.language) c.args.text.now (omega (arith, counted, c.count_bars.ensures)) (omega (arith, counted, c.count_bars.ensures)) in
    sym (body ∙ ap forms_body (rw c.in-Ok.is at c.in_ok-forms-in-1-to-254.ensures.forms))

pub returns-in-Err-clause-verdict : goal.returns-in-Err-clause-verdict
returns-in-Err-clause-verdict c =
    inr (omega (arith, length-variants c.args.text.now, c.count_bars.ensures), at_read c.args.language (variants c.args.text.now) c.in-Err.is c.in_ok-forms-in-1-to-254.ensures.verdict)

pub returns-in_default-clause-verdict : goal.returns-in_default-clause-verdict
returns-in_default-clause-verdict c = inl (omega (arith, length-variants c.args.text.now, c.count_bars.ensures), refl)
