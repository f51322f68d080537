use Rattle.std.proofs.Common.{rules, ◌∙◌}
use Rattle.defmt_values.specs.Plain.{no_vals}
use Rattle.defmt_macros.proofs.Messages.{begun, ended}
use Rattle.device_tests.proofs.forms.with_println.Goals as goal

pub returns : goal.returns
returns c =
    let begins = begun c.args.table.now.entries c.args.site.now.index c.args.site.now.slots c.args.place c.args.stamp c.println_-begin.result c.println_-begin.ensures.bytes c.println_-begin.ensures.slots in
    let e = ended c.args.table.now.entries c.args.site.now.index c.args.site.now.slots c.args.place c.args.stamp c.args.site.now.tag (no_vals) c.println_-begin.result c.println_.result c.println_.new.self.0 c.requires.entry c.requires.stamp begins (c.println_-begin.ensures.slots ∙ c.requires.slots) c.println_.ensures.count c.println_.ensures.buffer in
    search rules
