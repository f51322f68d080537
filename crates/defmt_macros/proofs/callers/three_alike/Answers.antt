use Rattle.std.proofs.Common.{rules}
use Rattle.defmt_encode.specs.Carry.{bytes_val}
use Rattle.defmt_grammar.specs.declared.kind.IntSize.TheVariants as sizes
use Rattle.defmt_grammar.specs.declared.kind.Kind.TheVariants as kinds
use Rattle.defmt_grammar.specs.declared.slot.Slot.{Slot}
use Rattle.defmt_grammar.specs.declared.slot.Slot.TheVariants as slots
use Rattle.defmt_values.specs.Plain.{uint, no_vals, val}
use Rattle.defmt_macros.proofs.Messages.{begun, held, ended}
use Rattle.defmt_macros.proofs.callers.three_alike.Goals as goal

abbrev number : Slot
number = slots.One (kinds.Uint sizes.W32)

pub returns : goal.returns
unfolding bytes_val
returns c =
    let begins = begun c.args.table.now.entries c.args.site.now.index c.args.site.now.slots c.args.place c.args.stamp c.begin-frame.result c.begin-frame.ensures.bytes c.begin-frame.ensures.slots in
    let one = held c.args.table.now.entries c.args.site.now.index c.args.site.now.slots c.args.place c.args.stamp no_vals (uint c.args.a) c.begin-frame.result c.put_uint.new.self number begins c.put_uint.ensures.grows in
    let two = held c.args.table.now.entries c.args.site.now.index c.args.site.now.slots c.args.place c.args.stamp (val (uint c.args.a) no_vals) (uint c.args.b) c.put_uint.new.self c.put_uint-2.new.self number one c.put_uint-2.ensures.grows in
    let three = held c.args.table.now.entries c.args.site.now.index c.args.site.now.slots c.args.place c.args.stamp (val (uint c.args.a) (val (uint c.args.b) no_vals)) (uint c.args.c) c.put_uint-2.new.self c.put_uint-3.new.self number two c.put_uint-3.ensures.grows in
    let e = ended c.args.table.now.entries c.args.site.now.index c.args.site.now.slots c.args.place c.args.stamp c.args.site.now.tag (val (uint c.args.a) (val (uint c.args.b) (val (uint c.args.c) no_vals))) c.put_uint-3.new.self c.end.result c.end.new.self.0 c.requires.entry c.requires.stamp three (cc) c.end.ensures.count c.end.ensures.buffer in
    search rules
