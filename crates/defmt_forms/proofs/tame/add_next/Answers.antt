use Rattle.std.proofs.Common.{◌∙◌, sym}
use Rattle.defmt_forms.proofs.Runs.{one, two}
use Rattle.defmt_forms.proofs.tame.add_next.Goals as goal

pub returns-then-begins_upper : goal.returns-then-begins_upper
returns-then-begins_upper c =
    two c.args.text.now c.args.out.now.items c.add_number.new.out.items (sym c.begins_upper.ensures ∙ c.if-begins_upper.true) c.in_ok-add_number.ensures

pub returns : goal.returns
returns c =
    one c.args.text.now c.args.out.now.items c.add_byte.new.out.items c.requires (sym c.begins_upper.ensures ∙ c.if-begins_upper.false) c.in_ok-add_byte.ensures
