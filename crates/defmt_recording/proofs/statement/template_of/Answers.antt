use Rattle.std.specs.Option.{option_copied}
use Rattle.defmt_recording.proofs.Filled.{color_made, json_made, plain_made}
use Rattle.defmt_recording.proofs.statement.template_of.Goals as goal

pub returns-in-Plain : goal.returns-in-Plain
returns-in-Plain c =
    plain_made c.args.style.now c.args.table.now.entries c.args.places.now c.args.index c.plain_template.result (option_copied c.get-place.result)
    c.in-Plain.is c.get-place.ensures c.plain_template.ensures

pub returns-in-Color : goal.returns-in-Color
returns-in-Color c =
    color_made c.args.style.now c.args.table.now.entries c.args.places.now c.args.index c.color_template.result c.is_stamped-stamped.result c.stamp.result c.level_at-level.result
    (option_copied c.get-place.result) c.is_stamped-stamped.ensures c.stamp.ensures c.level_at-level.ensures c.get-place.ensures c.in-Color.is c.color_template.ensures

pub returns-in-Json : goal.returns-in-Json
returns-in-Json c =
    json_made c.args.style.now c.args.table.now.entries c.args.places.now c.args.index c.json_template.result c.is_stamped-stamped.result c.stamp.result c.level_at-level.result
    (option_copied c.get-place.result) c.is_stamped-stamped.ensures c.stamp.ensures c.level_at-level.ensures c.get-place.ensures c.in-Json.is
    c.package_at-owner.result.now c.package_at-owner.ensures c.json_template.ensures
