use Rattle.std.proofs.Common.{rules}
use Rattle.defmt_encode.specs.Carry.{bytes_val}
use Rattle.defmt_grammar.specs.declared.kind.IntSize.TheVariants as sizes
use Rattle.defmt_grammar.specs.declared.kind.Kind.TheVariants as kinds
use Rattle.defmt_grammar.specs.declared.slot.Slot.TheVariants as slots
use Rattle.defmt_values.specs.Plain.{uint, no_vals, val}
use Rattle.defmt_macros.proofs.Messages.{begun, held, ended}
use Rattle.device_tests.proofs.forms.with_warn.Goals as goal

pub returns : goal.returns
unfolding bytes_val
returns c =
    let begins = begun c.args.table.now.entries c.args.site.now.index c.args.site.now.slots c.args.place c.args.stamp c.warn-begin.result c.warn-begin.ensures.bytes c.warn-begin.ensures.slots in
    let one = held c.args.table.now.entries c.args.site.now.index c.args.site.now.slots c.args.place c.args.stamp no_vals (uint c.args.a) c.warn-begin.result c.warn-put_uint.new.self (slots.One (kinds.Uint sizes.W128)) begins c.warn-put_uint.ensures.grows in
    let two = held c.args.table.now.entries c.args.site.now.index c.args.site.now.slots c.args.place c.args.stamp (val (uint c.args.a) no_vals) (uint c.args.b) c.warn-put_uint.new.self c.warn-put_uint-2.new.self (slots.One (kinds.Uint sizes.Native)) one c.warn-put_uint-2.ensures.grows in
    let e = ended c.args.table.now.entries c.args.site.now.index c.args.site.now.slots c.args.place c.args.stamp c.args.site.now.tag (val (uint c.args.a) (val (uint c.args.b) no_vals)) c.warn-put_uint-2.new.self c.warn.result c.warn.new.self.0 c.requires.entry c.requires.stamp two (cc) c.warn.ensures.count c.warn.ensures.buffer in
    search rules
