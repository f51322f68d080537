use Rattle.std.proofs.Common.{rules}
use Rattle.defmt_encode.specs.Carry.{bytes_val}
use Rattle.defmt_grammar.specs.declared.kind.IntSize.TheVariants as sizes
use Rattle.defmt_grammar.specs.declared.kind.Kind.TheVariants as kinds
use Rattle.defmt_grammar.specs.declared.slot.Slot.TheVariants as slots
use Rattle.defmt_values.specs.Plain.{uint, flag, no_vals, val}
use Rattle.defmt_macros.proofs.Messages.{begun, held, ended}
use Rattle.device_tests.proofs.forms.with_trace.Goals as goal

pub returns : goal.returns
unfolding bytes_val
returns c =
    let begins = begun c.args.table.now.entries c.args.site.now.index c.args.site.now.slots c.args.place c.args.stamp c.trace-begin.result c.trace-begin.ensures.bytes c.trace-begin.ensures.slots in
    let one = held c.args.table.now.entries c.args.site.now.index c.args.site.now.slots c.args.place c.args.stamp no_vals (uint c.args.a) c.trace-begin.result c.trace-put_uint.new.self (slots.One (kinds.Uint sizes.W8)) begins c.trace-put_uint.ensures.grows in
    let two = held c.args.table.now.entries c.args.site.now.index c.args.site.now.slots c.args.place c.args.stamp (val (uint c.args.a) no_vals) (flag c.args.b) c.trace-put_uint.new.self c.trace-put_bool.new.self (slots.One kinds.Bool) one c.trace-put_bool.ensures.grows in
    let e = ended c.args.table.now.entries c.args.site.now.index c.args.site.now.slots c.args.place c.args.stamp c.args.site.now.tag (val (uint c.args.a) (val (flag c.args.b) no_vals)) c.trace-put_bool.new.self c.trace.result c.trace.new.self.0 c.requires.entry c.requires.stamp two (cc) c.trace.ensures.count c.trace.ensures.buffer in
    search rules
