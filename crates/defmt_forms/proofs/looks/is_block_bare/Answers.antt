use Rattle.std.proofs.Common.{◌∙◌, sym}
use Rattle.defmt_forms.proofs.Blocks.{bare_by}
use Rattle.defmt_forms.proofs.looks.is_block_bare.Goals as goal

pub returns : goal.returns
returns c = λ last.
    bare_by c.args.block.now (sym c.has_no_controls.ensures ∙ c.if-not-has_no_controls.false) (sym c.has_none-unquoted.ensures ∙ c.if-not-unquoted.false)
    (sym c.has_none.ensures ∙ last)
