use Rattle.std.proofs.Common.{◌∙◌}
use Rattle.std.proofs.lemmas.Option.{IfSome_then}
use Rattle.std.specs.Option.{option_copied}
use Rattle.defmt_forms.proofs.Templates.{color_made}
use Rattle.defmt_forms.proofs.making.color_template.Goals as goal

pub returns : goal.returns
returns c =
    IfSome_then c.of_pieces.result c.of_pieces.ensures
    (λ t made. (
      made.0,
      made.1.stamped_is,
      color_made t c.args.stamped c.args.level (option_copied c.args.place)
          (made.1.before_is ∙ c.in_ok-before.ensures) (made.1.behind_is ∙ c.in_ok-behind.ensures),
    ))
