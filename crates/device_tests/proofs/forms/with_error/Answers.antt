use Rattle.std.proofs.Common.{rules, ◌≡◌, ◌∙◌, ◌∷◌, []}
use Rattle.defmt_values.specs.Plain.{no_vals, val}
use Rattle.defmt_values.specs.View.{plain}
use Rattle.defmt_macros.proofs.Messages.{begun, held, ended}
use Rattle.device_tests.proofs.forms.with_error.Goals as goal

pub returns : goal.returns
returns c =
    let begins = begun c.args.table.now.entries c.args.site.now.index c.args.site.now.slots c.args.place c.args.stamp c.error-begin.result c.error-begin.ensures.bytes c.error-begin.ensures.slots in
    let one = held c.args.table.now.entries c.args.site.now.index c.args.site.now.slots c.args.place c.args.stamp no_vals (plain c.args.a.now) c.error-begin.result c.error-put_value.new.self c.requires.slots.0 begins (c.error-put_value.ensures.grows c.requires.slots.0 ([], c.error-begin.ensures.slots ∙ c.requires.slots.1)) in
    let none : c.error-begin.result.left.now ≡ c.requires.slots.0 ∷ c.error-put_value.new.self.left.now = (c.error-put_value.ensures.grows c.requires.slots.0 ([], c.error-begin.ensures.slots ∙ c.requires.slots.1)).slots_are in
    let all : c.args.site.now.slots ≡ c.requires.slots.0 ∷ [] = c.requires.slots.1 in
    let e = ended c.args.table.now.entries c.args.site.now.index c.args.site.now.slots c.args.place c.args.stamp c.args.site.now.tag (val (plain c.args.a.now) no_vals) c.error-put_value.new.self c.error.result c.error.new.self.0 c.requires.entry c.requires.stamp one (cc) c.error.ensures.count c.error.ensures.buffer in
    search rules
