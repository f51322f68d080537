use Rattle.std.proofs.Common.{◌∙◌}
use Rattle.std.proofs.lemmas.Option.{IfSome_then}
use Rattle.std.specs.Option.{option_copied}
use Rattle.defmt_forms.proofs.Templates.{json_made}
use Rattle.defmt_forms.proofs.making.json_template.Goals as goal

pub returns : goal.returns
returns c =
    IfSome_then c.of_pieces.result c.of_pieces.ensures
    (λ t made. (
      made.0,
      made.1.stamped_is,
      json_made t c.args.index c.args.stamped c.args.level c.args.owner.now (option_copied c.args.place) (record {
        stamped_is = made.1.stamped_is;
        head_is = made.1.head_is ∙ c.in_ok-head.ensures;
        between_is = made.1.between_is ∙ c.in_ok-between.ensures;
        before_is = made.1.before_is ∙ c.in_ok-before.ensures;
        behind_is = made.1.behind_is ∙ c.in_ok-behind.ensures;
      }),
    ))
