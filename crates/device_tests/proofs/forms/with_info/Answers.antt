use Rattle.std.proofs.Common.{rules}
use Rattle.defmt_encode.specs.Carry.{bytes_val}
use Rattle.defmt_grammar.specs.declared.kind.Kind.TheVariants as kinds
use Rattle.defmt_grammar.specs.declared.slot.Slot.TheVariants as slots
use Rattle.defmt_values.specs.Plain.{char, str, no_vals, val}
use Rattle.defmt_macros.proofs.Messages.{begun, held, ended}
use Rattle.device_tests.proofs.forms.with_info.Goals as goal

pub returns : goal.returns
unfolding bytes_val
returns c =
    let begins = begun c.args.table.now.entries c.args.site.now.index c.args.site.now.slots c.args.place c.args.stamp c.info-begin.result c.info-begin.ensures.bytes c.info-begin.ensures.slots in
    let one = held c.args.table.now.entries c.args.site.now.index c.args.site.now.slots c.args.place c.args.stamp no_vals (str c.args.a.now) c.info-begin.result c.info-put_str.new.self (slots.One kinds.Str) begins c.info-put_str.ensures.grows in
    let two = held c.args.table.now.entries c.args.site.now.index c.args.site.now.slots c.args.place c.args.stamp (val (str c.args.a.now) no_vals) (char c.args.b) c.info-put_str.new.self c.info-put_char.new.self (slots.One kinds.Char) one c.info-put_char.ensures.grows in
    let e = ended c.args.table.now.entries c.args.site.now.index c.args.site.now.slots c.args.place c.args.stamp c.args.site.now.tag (val (str c.args.a.now) (val (char c.args.b) no_vals)) c.info-put_char.new.self c.info.result c.info.new.self.0 c.requires.entry c.requires.stamp two (cc) c.info.ensures.count c.info.ensures.buffer in
    search rules
