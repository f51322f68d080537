use Rattle.std.proofs.Common.{◌≡◌, ◌∷◌, []}
use Rattle.defmt_encode.specs.Carry.{bytes_val}
use Rattle.defmt_grammar.specs.declared.kind.IntSize.TheVariants as sizes
use Rattle.defmt_grammar.specs.declared.kind.Kind.TheVariants as kinds
use Rattle.defmt_grammar.specs.declared.slot.Slot.TheVariants as slots
use Rattle.defmt_values.specs.Plain.{uint, no_vals, val}
use Rattle.defmt_macros.specs.Frames.{slots_left}
use Rattle.defmt_macros.proofs.Messages.{grows_by_none, grows_by_value}
use Rattle.device_tests.proofs.forms.put_unsigned.Goals as goal

pub returns : goal.returns
unfolding bytes_val
returns c =
    let t = c.args.table.now.entries in
    let start = c.args.frame.now in
    let first = c.put.new.self in
    let second = c.put-2.new.self in
    let third = c.put-3.new.self in
    let slot1 : slots_left start ≡ slots.One (kinds.Uint sizes.W16) ∷ slots_left first = c.put.ensures.grows.slots_are in
    let slot2 : slots_left first ≡ slots.One (kinds.Uint sizes.W32) ∷ slots_left second = c.put-2.ensures.grows.slots_are in
    let slot3 : slots_left second ≡ slots.One (kinds.Uint sizes.W64) ∷ slots_left third = c.put-3.ensures.grows.slots_are in
    let all : slots_left start ≡ slots.One (kinds.Uint sizes.W16) ∷ slots.One (kinds.Uint sizes.W32) ∷ slots.One (kinds.Uint sizes.W64) ∷ [] = c.requires.slots in
    let none : slots_left third ≡ [] = cc in
    grows_by_value t start first third (slots.One (kinds.Uint sizes.W16)) (uint c.args.a) (val (uint c.args.b) (val (uint c.args.c) no_vals)) c.put.ensures.grows
    (grows_by_value t first second third (slots.One (kinds.Uint sizes.W32)) (uint c.args.b) (val (uint c.args.c) no_vals) c.put-2.ensures.grows
    (grows_by_value t second third third (slots.One (kinds.Uint sizes.W64)) (uint c.args.c) no_vals c.put-3.ensures.grows
    (grows_by_none t third none)))
