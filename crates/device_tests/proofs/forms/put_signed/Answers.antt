use Rattle.std.proofs.Common.{◌≡◌, ◌∷◌, [], ℤ, FitsSigned, ap, subst, ◌∙◌, arith, to_z, of_z, w8, w16, w32, w64}
use Rattle.std.specs.Int.{w128}
use Rattle.std.proofs.lemmas.Int.{to_z-of_z}
use Rattle.defmt_encode.specs.Carry.{bytes_val}
use Rattle.defmt_grammar.specs.declared.kind.IntSize.TheVariants as sizes
use Rattle.defmt_grammar.specs.declared.kind.Kind.TheVariants as kinds
use Rattle.defmt_grammar.specs.declared.slot.Slot.TheVariants as slots
use Rattle.defmt_values.specs.Plain.{int, no_vals, val}
use Rattle.defmt_macros.specs.Frames.{Grows, slots_left}
use Rattle.defmt_macros.proofs.Messages.{grows_by_none, grows_by_value}
use Rattle.device_tests.proofs.forms.put_signed.Goals as goal

of_w8 : (z : ℤ) → FitsSigned w8 z → to_z w128 (of_z w128 (to_z w8 (of_z w8 z))) ≡ z
of_w8 z fits =
    let wide : FitsSigned w128 z = record { sfits = omega (arith, fits.sfits) } in
    ap (λ (x : ℤ). to_z w128 (of_z w128 x)) (to_z-of_z w8 z fits) ∙ to_z-of_z w128 z wide

of_w16 : (z : ℤ) → FitsSigned w16 z → to_z w128 (of_z w128 (to_z w16 (of_z w16 z))) ≡ z
of_w16 z fits =
    let wide : FitsSigned w128 z = record { sfits = omega (arith, fits.sfits) } in
    ap (λ (x : ℤ). to_z w128 (of_z w128 x)) (to_z-of_z w16 z fits) ∙ to_z-of_z w128 z wide

of_w32 : (z : ℤ) → FitsSigned w32 z → to_z w128 (of_z w128 (to_z w32 (of_z w32 z))) ≡ z
of_w32 z fits =
    let wide : FitsSigned w128 z = record { sfits = omega (arith, fits.sfits) } in
    ap (λ (x : ℤ). to_z w128 (of_z w128 x)) (to_z-of_z w32 z fits) ∙ to_z-of_z w128 z wide

of_w64 : (z : ℤ) → FitsSigned w64 z → to_z w128 (of_z w128 (to_z w64 (of_z w64 z))) ≡ z
of_w64 z fits =
    let wide : FitsSigned w128 z = record { sfits = omega (arith, fits.sfits) } in
    ap (λ (x : ℤ). to_z w128 (of_z w128 x)) (to_z-of_z w64 z fits) ∙ to_z-of_z w128 z wide

pub returns : goal.returns
unfolding bytes_val
returns c =
    let t = c.args.table.now.entries in
    let start = c.args.frame.now in
    let first = c.put.new.self in
    let second = c.put-2.new.self in
    let third = c.put-3.new.self in
    let fourth = c.put-4.new.self in
    let fifth = c.put-5.new.self in
    let slot1 : slots_left start ≡ slots.One (kinds.Int sizes.W8) ∷ slots_left first = c.put.ensures.grows.slots_are in
    let slot2 : slots_left first ≡ slots.One (kinds.Int sizes.W16) ∷ slots_left second = c.put-2.ensures.grows.slots_are in
    let slot3 : slots_left second ≡ slots.One (kinds.Int sizes.W32) ∷ slots_left third = c.put-3.ensures.grows.slots_are in
    let slot4 : slots_left third ≡ slots.One (kinds.Int sizes.W64) ∷ slots_left fourth = c.put-4.ensures.grows.slots_are in
    let slot5 : slots_left fourth ≡ slots.One (kinds.Int sizes.Native) ∷ slots_left fifth = c.put-5.ensures.grows.slots_are in
    let all : slots_left start ≡ slots.One (kinds.Int sizes.W8) ∷ slots.One (kinds.Int sizes.W16) ∷ slots.One (kinds.Int sizes.W32) ∷ slots.One (kinds.Int sizes.W64) ∷ slots.One (kinds.Int sizes.Native) ∷ [] = c.requires.slots in
    let none : slots_left fifth ≡ [] = cc in
    let put1 = subst (λ (z : ℤ). Grows start first (slots.One (kinds.Int sizes.W8)) (bytes_val t (slots.One (kinds.Int sizes.W8)) (int z))) (of_w8 c.args.a c.ranges.a) c.put.ensures.grows in
    let put2 = subst (λ (z : ℤ). Grows first second (slots.One (kinds.Int sizes.W16)) (bytes_val t (slots.One (kinds.Int sizes.W16)) (int z))) (of_w16 c.args.b c.ranges.b) c.put-2.ensures.grows in
    let put3 = subst (λ (z : ℤ). Grows second third (slots.One (kinds.Int sizes.W32)) (bytes_val t (slots.One (kinds.Int sizes.W32)) (int z))) (of_w32 c.args.c c.ranges.c) c.put-3.ensures.grows in
    let put4 = subst (λ (z : ℤ). Grows third fourth (slots.One (kinds.Int sizes.W64)) (bytes_val t (slots.One (kinds.Int sizes.W64)) (int z))) (of_w64 c.args.d c.ranges.d) c.put-4.ensures.grows in
    let put5 = subst (λ (z : ℤ). Grows fourth fifth (slots.One (kinds.Int sizes.Native)) (bytes_val t (slots.One (kinds.Int sizes.Native)) (int z))) (of_w64 c.args.e c.ranges.e) c.put-5.ensures.grows in
    grows_by_value t start first fifth (slots.One (kinds.Int sizes.W8)) (int c.args.a) (val (int c.args.b) (val (int c.args.c) (val (int c.args.d) (val (int c.args.e) no_vals)))) put1
    (grows_by_value t first second fifth (slots.One (kinds.Int sizes.W16)) (int c.args.b) (val (int c.args.c) (val (int c.args.d) (val (int c.args.e) no_vals))) put2
    (grows_by_value t second third fifth (slots.One (kinds.Int sizes.W32)) (int c.args.c) (val (int c.args.d) (val (int c.args.e) no_vals)) put3
    (grows_by_value t third fourth fifth (slots.One (kinds.Int sizes.W64)) (int c.args.d) (val (int c.args.e) no_vals) put4
    (grows_by_value t fourth fifth fifth (slots.One (kinds.Int sizes.Native)) (int c.args.e) no_vals put5
    (grows_by_none t fifth none)))))
