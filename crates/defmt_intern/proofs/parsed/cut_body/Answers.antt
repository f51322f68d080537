use Rattle.std.proofs.Common.{◌≡◌, arith, sym, ap, ◌∙◌}
use Rattle.std.proofs.lemmas.Result.{IfOk-weaker}
use Rattle.defmt_intern.specs.Body.{variants, forms_of, forms_body, cut_body}
use Rattle.defmt_intern.proofs.BodyLaws.{body_uncut, body_cut, body_many, length-variants}
use Rattle.defmt_intern.proofs.parsed.cut_body.Goals as goal
use Rattle.defmt_intern.proofs.parsed.cut_body.Goals.{in-Some, in-None}

pub returns-in-0 : goal.returns-in-0
returns-in-0 c = IfOk-weaker c.one_body.result _ _ (λ body is. is ∙ sym (body_uncut c.args.mode c.args.text.now (omega (arith, length-variants c.args.text.now, c.count_bars.ensures)))) c.one_body.ensures

pub returns-after-branch-2 : goal.returns-after-branch-2
returns-after-branch-2 c =
    let counted = length-variants c.args.text.now in
    let body : cut_body c.args.mode (variants c.args.text.now) ≡ forms_body (forms_of c.args.mode (variants c.args.text.now)) = body_cut c.args.mode c.args.text.now (omega (arith, c.count_bars.ensures)) (omega (arith, c.count_bars.ensures)) in
    elim c.match-branch-2.branch [
      | in-Some w ↦ w.result-is ∙ ap forms_body (sym w.in-Some.is ∙ c.in_ok-forms-in-1-to-254.ensures) ∙ sym body
      | in-None w ↦ w.result-is ∙ ap forms_body (sym w.in-None.is ∙ c.in_ok-forms-in-1-to-254.ensures) ∙ sym body
    ]

pub returns-in_default : goal.returns-in_default
returns-in_default c = sym (body_many c.args.mode c.args.text.now (omega (arith, length-variants c.args.text.now, c.count_bars.ensures)))
