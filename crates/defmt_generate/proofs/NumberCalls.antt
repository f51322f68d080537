-- The three kinds of statements with one unsigned number.
use Rattle.std.proofs.Common.{◌≡◌, ◌≤◌, ◌<◌, ◌+◌, ◌%◌, ◌^◌, ℕ, true, List, [], ◌∷◌, Some, None, Ok, refl, ap, arith, length, length-append, lit≤}
use Rattle.std.specs.Prelude.{codes}
use Rattle.std.specs.Fmt.{decimal}
use Rattle.defmt_eager.proofs.Bounds.{uint_most as shown_uint}
use Rattle.defmt_eager.specs.Line.{printed_limit}
use Rattle.defmt_eager.specs.Show.{pieces_text, show_val, shows}
use Rattle.defmt_encode.proofs.Most.{message_short, uint_most}
use Rattle.defmt_encode.specs.Out.{message_limit}
use Rattle.defmt_generate.specs.Generated.{boot, call, fail, tick}
use Rattle.defmt_generate.proofs.States.{all_names, all_settings, entry_there, full_table, name_there}
use Rattle.defmt_generate.proofs.Words.{boot_pieces, boot_spells, fail_pieces, fail_spells, tick_pieces, tick_spells}
use Rattle.defmt_grammar.specs.Cut.{cut}
use Rattle.defmt_grammar.specs.Sizes.{size_bits}
use Rattle.defmt_grammar.specs.Slots.{kinds_at, positions, slot_of, slots_of}
use Rattle.defmt_grammar.specs.declared.fault.Mode.TheVariants.{Lenient}
use Rattle.defmt_grammar.specs.declared.hint.Base.TheVariants.{Hex}
use Rattle.defmt_grammar.specs.declared.hint.Hint.TheVariants as hints
use Rattle.defmt_grammar.specs.declared.kind.IntSize.{IntSize}
use Rattle.defmt_grammar.specs.declared.kind.IntSize.TheVariants.{W8, W32, W64}
use Rattle.defmt_grammar.specs.declared.kind.Kind.TheVariants as kinds
use Rattle.defmt_grammar.specs.declared.piece.Piece.{Piece}
use Rattle.defmt_hints.specs.Printed.{printed_uint}
use Rattle.defmt_intern.proofs.PieceLaws.{pieces_again}
use Rattle.defmt_intern.specs.Body.{one_body}
use Rattle.defmt_intern.specs.declared.entry.Tag.TheVariants as tags
use Rattle.defmt_lines.specs.Line.{field_and_rest}
use Rattle.defmt_script.specs.Lawful.{first_message}
use Rattle.defmt_script.specs.State.{entry_at}
use Rattle.defmt_shapes.specs.Shape as shapes
use Rattle.defmt_shapes.specs.Shape.{no_shapes, shape}
use Rattle.defmt_spelling.specs.Meaning.{meant_val, meant_vals}
use Rattle.defmt_spelling.specs.Spelling.{ReadsArguments}
use Rattle.defmt_values.specs.Entries.{places_of}
use Rattle.defmt_values.specs.Plain.{no_vals, uint, val}
use Rattle.defmt_generate.proofs.CallParts.{Call, Known, is_known, last_spelled, narrow_known, number, one_most, place, reads_known}

module _ (index : ℕ) (size : IntSize) (ps : List Piece) (known : Known index ps) (are : places_of ps ≡ place (kinds.Uint size) ∷ []) where
  number_reads : (n : ℕ) → n < 2 ^ 64 → n < 2 ^ size_bits size → ReadsArguments all_names full_table index (decimal n) (Ok (val (uint n) no_vals))
  unfolding meant_vals meant_val
  number_reads n small fits = reads_known index ps (decimal n) (val (uint n) no_vals) known (record {
    places = place (kinds.Uint size) ∷ [];
    are = are;
    fits = (place (kinds.Uint size), [], refl, record { size = size; slot_is = refl; in_range = fits }, refl);
    light = lit≤ tt;
    shapes = shape (shapes.decimal n) no_shapes;
    spelled = last_spelled (decimal n) (shapes.decimal n) (number n small);
    meant = refl;
  })

number_short : (index n : ℕ) → length (first_message full_table all_settings (record { index = index; args = val (uint n) no_vals })) ≤ message_limit
number_short index n = message_short full_table None (Some 1000) index (val (uint n) no_vals) (16 + 0) (lit≤ tt) (one_most (uint n) 16 (uint_most n))

boot_known : Known 1 boot_pieces
boot_known = record {
  entry = entry_at 1 tags.Info (codes "boot {=u8}");
  there = entry_there 1 (Some (entry_at 1 tags.Info (codes "boot {=u8}"))) refl;
  body = ap one_body (pieces_again Lenient (codes "boot {=u8}") boot_pieces (boot_spells Lenient));
  logged = refl;
}

boot_places : places_of boot_pieces ≡ place (kinds.Uint W8) ∷ []
unfolding slots_of positions kinds_at slot_of
boot_places = refl

boot_narrow : (n : ℕ) → n < 2 ^ 64 → length (pieces_text hints.Plain boot_pieces (shows full_table (val (uint n) no_vals))) ≤ printed_limit
unfolding pieces_text show_val shows
boot_narrow n small = omega (arith, shown_uint n hints.Plain (omega arith), length-append (printed_uint n hints.Plain) [])

pub boot_call : (x : ℕ) → Call 0 x
unfolding call boot field_and_rest cut
boot_call x = record {
  name = codes "boot";
  args = decimal (x % 256);
  index = 1;
  vs = val (uint (x % 256)) no_vals;
  fields = refl;
  named = name_there (codes "boot") (Some 1) refl;
  logged = is_known 1 boot_pieces boot_known;
  reads = number_reads 1 W8 boot_pieces boot_known boot_places (x % 256) (omega arith) (omega arith);
  short = number_short 1 (x % 256);
  narrow = narrow_known 1 boot_pieces (val (uint (x % 256)) no_vals) boot_known (boot_narrow (x % 256) (omega arith));
}

fail_known : Known 4 fail_pieces
fail_known = record {
  entry = entry_at 4 tags.Error (codes "fail {=u32:#010x}");
  there = entry_there 4 (Some (entry_at 4 tags.Error (codes "fail {=u32:#010x}"))) refl;
  body = ap one_body (pieces_again Lenient (codes "fail {=u32:#010x}") fail_pieces (fail_spells Lenient));
  logged = refl;
}

fail_places : places_of fail_pieces ≡ place (kinds.Uint W32) ∷ []
unfolding slots_of positions kinds_at slot_of
fail_places = refl

fail_narrow : (n : ℕ) → n < 2 ^ 64 → length (pieces_text hints.Plain fail_pieces (shows full_table (val (uint n) no_vals))) ≤ printed_limit
unfolding pieces_text show_val shows
fail_narrow n small = omega (arith, shown_uint n (hints.Radix Hex true 10) (omega arith), length-append (printed_uint n (hints.Radix Hex true 10)) [])

pub fail_call : (x : ℕ) → x < 2 ^ 32 → Call 3 x
unfolding call fail field_and_rest cut
fail_call x small = record {
  name = codes "fail";
  args = decimal x;
  index = 4;
  vs = val (uint x) no_vals;
  fields = refl;
  named = name_there (codes "fail") (Some 4) refl;
  logged = is_known 4 fail_pieces fail_known;
  reads = number_reads 4 W32 fail_pieces fail_known fail_places x (omega arith) (omega arith);
  short = number_short 4 x;
  narrow = narrow_known 4 fail_pieces (val (uint x) no_vals) fail_known (fail_narrow x (omega arith));
}

tick_known : Known 5 tick_pieces
tick_known = record {
  entry = entry_at 5 tags.Trace (codes "tick {=u64}");
  there = entry_there 5 (Some (entry_at 5 tags.Trace (codes "tick {=u64}"))) refl;
  body = ap one_body (pieces_again Lenient (codes "tick {=u64}") tick_pieces (tick_spells Lenient));
  logged = refl;
}

tick_places : places_of tick_pieces ≡ place (kinds.Uint W64) ∷ []
unfolding slots_of positions kinds_at slot_of
tick_places = refl

tick_narrow : (n : ℕ) → n < 2 ^ 64 → length (pieces_text hints.Plain tick_pieces (shows full_table (val (uint n) no_vals))) ≤ printed_limit
unfolding pieces_text show_val shows
tick_narrow n small = omega (arith, shown_uint n hints.Plain (omega arith), length-append (printed_uint n hints.Plain) [])

pub tick_call : (x : ℕ) → x < 2 ^ 32 → Call 4 x
unfolding call tick field_and_rest cut
tick_call x small = record {
  name = codes "tick";
  args = decimal x;
  index = 5;
  vs = val (uint x) no_vals;
  fields = refl;
  named = name_there (codes "tick") (Some 5) refl;
  logged = is_known 5 tick_pieces tick_known;
  reads = number_reads 5 W64 tick_pieces tick_known tick_places x (omega arith) (omega arith);
  short = number_short 5 x;
  narrow = narrow_known 5 tick_pieces (val (uint x) no_vals) tick_known (tick_narrow x (omega arith));
}
