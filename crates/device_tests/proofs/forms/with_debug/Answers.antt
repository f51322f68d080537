use Rattle.std.proofs.Common.{rules, ◌≡◌, ◌∷◌, [], to_z, of_z}
use Rattle.std.specs.Int.{w128}
use Rattle.std.proofs.lemmas.Int.{to_z-of_z}
use Rattle.defmt_encode.specs.Carry.{bytes_val}
use Rattle.defmt_grammar.specs.declared.kind.IntSize.TheVariants as sizes
use Rattle.defmt_grammar.specs.declared.kind.Kind.TheVariants as kinds
use Rattle.defmt_grammar.specs.declared.slot.Slot.TheVariants as slots
use Rattle.defmt_values.specs.Plain.{int, bytes, no_vals, val}
use Rattle.defmt_macros.proofs.Messages.{begun, held, ended}
use Rattle.device_tests.proofs.forms.with_debug.Goals as goal

pub returns : goal.returns
unfolding bytes_val
returns c =
    let begins = begun c.args.table.now.entries c.args.site.now.index c.args.site.now.slots c.args.place c.args.stamp c.debug-begin.result c.debug-begin.ensures.bytes c.debug-begin.ensures.slots in
    let back : to_z w128 (of_z w128 c.args.a) ≡ c.args.a = to_z-of_z w128 c.args.a c.ranges.a in
    let number = simp back at c.debug-put_int.ensures.grows in
    let one = held c.args.table.now.entries c.args.site.now.index c.args.site.now.slots c.args.place c.args.stamp no_vals (int c.args.a) c.debug-begin.result c.debug-put_int.new.self (slots.One (kinds.Int sizes.W128)) begins number in
    let two = held c.args.table.now.entries c.args.site.now.index c.args.site.now.slots c.args.place c.args.stamp (val (int c.args.a) no_vals) (bytes c.args.b.now) c.debug-put_int.new.self c.debug-put_bytes.new.self (slots.One kinds.Bytes) one (c.debug-put_bytes.ensures.grows (slots.One kinds.Bytes) ([], cc)) in
    let none : c.debug-put_int.new.self.left.now ≡ slots.One kinds.Bytes ∷ c.debug-put_bytes.new.self.left.now = (c.debug-put_bytes.ensures.grows (slots.One kinds.Bytes) ([], cc)).slots_are in
    let e = ended c.args.table.now.entries c.args.site.now.index c.args.site.now.slots c.args.place c.args.stamp c.args.site.now.tag (val (int c.args.a) (val (bytes c.args.b.now) no_vals)) c.debug-put_bytes.new.self c.debug.result c.debug.new.self.0 c.requires.entry c.requires.stamp two (cc) c.debug.ensures.count c.debug.ensures.buffer in
    search rules

pub debug-requires : goal.debug-requires
debug-requires c =
    let none : c.debug-put_int.new.self.left.now ≡ slots.One kinds.Bytes ∷ c.debug-put_bytes.new.self.left.now = (c.debug-put_bytes.ensures.grows (slots.One kinds.Bytes) ([], cc)).slots_are in
    cc
