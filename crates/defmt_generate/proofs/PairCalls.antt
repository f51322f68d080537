-- The two kinds of statements with two values.
use Rattle.std.proofs.Common.{◌≡◌, ◌≢◌, ◌≤◌, ◌<◌, ◌+◌, ◌-◌, ◌/◌, ◌%◌, ℕ, zero, suc, ℤ, pos, Bool, true, false, List, [], ◌∷◌, ◌++◌, Some, None, refl, sym, ap, ◌∙◌, arith, length, length-append, inl, lit≤}
use Rattle.std.specs.Prelude.{◌==◌, codes, encode_utf8_all, if◌then◌else◌, nat_lt}
use Rattle.std.specs.Char.{IsScalar, digit_value}
use Rattle.std.specs.Fmt.{decimal, digit_glyph}
use Rattle.std.proofs.lemmas.Bool.Decides.{nat_tests}
use Rattle.std.proofs.lemmas.Fmt.{decimal_digit}
use Rattle.std.proofs.lemmas.Str.{encode_ascii}
use Rattle.defmt_eager.proofs.Bounds.{flag_most as shown_flag, int_most as shown_int, str_most as shown_str}
use Rattle.defmt_eager.proofs.ByteBounds.{AreBytes, bytes_most}
use Rattle.defmt_eager.specs.Line.{printed_limit}
use Rattle.defmt_eager.specs.Show.{int_text, pieces_text, show_val, shows}
use Rattle.defmt_encode.proofs.Most.{bytes_most as carried_bytes, flag_most, int_most, message_short, str_most}
use Rattle.defmt_generate.specs.Generated.{call, hex, less_thousand, link, temp}
use Rattle.defmt_generate.proofs.States.{all_names, entry_there, full_table, name_there}
use Rattle.defmt_generate.proofs.Words.{link_pieces, link_spells, temp_pieces, temp_spells}
use Rattle.defmt_grammar.specs.Cut.{cut}
use Rattle.defmt_grammar.specs.Sizes.{IsSigned}
use Rattle.defmt_grammar.specs.Slots.{kinds_at, positions, slot_of, slots_of}
use Rattle.defmt_grammar.specs.declared.fault.Mode.TheVariants.{Lenient}
use Rattle.defmt_grammar.specs.declared.hint.Base.TheVariants.{Hex}
use Rattle.defmt_grammar.specs.declared.hint.Hint.{Hint}
use Rattle.defmt_grammar.specs.declared.hint.Hint.TheVariants as hints
use Rattle.defmt_grammar.specs.declared.kind.IntSize.TheVariants.{W16}
use Rattle.defmt_grammar.specs.declared.kind.Kind.TheVariants as kinds
use Rattle.defmt_grammar.specs.declared.language.Language.TheVariants.{Base}
use Rattle.defmt_grammar.specs.declared.slot.Slot.TheVariants as slots
use Rattle.defmt_hints.specs.Printed.{printed_bool, printed_bytes, printed_str}
use Rattle.defmt_intern.proofs.PieceLaws.{pieces_again}
use Rattle.defmt_intern.specs.Body.{one_body}
use Rattle.defmt_intern.specs.declared.entry.Tag.TheVariants as tags
use Rattle.defmt_lines.specs.Line.{field_and_rest}
use Rattle.defmt_script.specs.State.{entry_at}
use Rattle.defmt_shapes.specs.Shape as shapes
use Rattle.defmt_shapes.specs.Shape.{Shape, SpellsBytes, SpellsCharacters, SpellsShape, no_shapes, shape}
use Rattle.defmt_spelling.specs.Meaning.{meant_val, meant_vals, negated}
use Rattle.defmt_values.specs.Entries.{places_of}
use Rattle.defmt_values.specs.Plain.{Val, Vals, bytes, flag, int, no_vals, str, val}
use Rattle.defmt_generate.proofs.CallParts.{Call, Known, is_known, more_most, narrow_known, number, one_most, place, reads_known, two_spelled}

-- ---- a signed number and three bytes

temp_known : Known 2 temp_pieces
temp_known = record {
  entry = entry_at 2 tags.Debug (codes "temp {=i16} of {=[u8]:02x}");
  there = entry_there 2 (Some (entry_at 2 tags.Debug (codes "temp {=i16} of {=[u8]:02x}"))) refl;
  body = ap one_body (pieces_again Lenient (codes "temp {=i16} of {=[u8]:02x}") temp_pieces (temp_spells Lenient));
  logged = refl;
}

temp_places : places_of temp_pieces ≡ place (kinds.Int W16) ∷ place kinds.Bytes ∷ []
unfolding slots_of positions kinds_at slot_of
temp_places = refl

abbrev three : ℕ → List ℕ
three x = x % 256 ∷ x / 256 % 256 ∷ x / 65536 % 256 ∷ []

three_bytes : (x : ℕ) → AreBytes (three x)
three_bytes x zero = omega arith
three_bytes x (suc zero) = omega arith
three_bytes x (suc (suc zero)) = omega arith
three_bytes x (suc (suc (suc k))) = omega arith

temp_narrow : (z : ℤ) (bs : List ℕ) → AreBytes bs → length bs ≤ 3 → length (pieces_text hints.Plain temp_pieces (shows full_table (val (int z) (val (bytes bs) no_vals)))) ≤ printed_limit
unfolding pieces_text show_val shows
temp_narrow z bs are few =
    let hint : Hint = hints.Radix Hex false 2 in
    let front : List ℕ = int_text (kinds.Int W16) z hints.Plain in
    let end : List ℕ = printed_bytes bs hint ++ [] in
    omega (arith, few, shown_int (kinds.Int W16) z hints.Plain, bytes_most hint bs are, length-append front (codes " of " ++ end), length-append (printed_bytes bs hint) [])

glyph_value : (d : ℕ) → d < 16 → digit_value (digit_glyph false d) ≡ d
glyph_value d small = grind (arith, nat_tests)

hex_spelled : (b : ℕ) (text : List ℕ) (bs : List ℕ) → b < 256 → SpellsBytes text bs → SpellsBytes (hex b ++ text) (b ∷ bs)
hex_spelled b text bs small rest =
    let high : digit_value (digit_glyph false (b / 16)) ≡ b / 16 = glyph_value (b / 16) (omega arith) in
    let low : digit_value (digit_glyph false (b % 16)) ≡ b % 16 = glyph_value (b % 16) (omega arith) in
    (digit_glyph false (b / 16), digit_glyph false (b % 16), text, omega (arith, high, small), omega (arith, low, small), omega (arith, high, low), rest, refl)

three_spelled : (x : ℕ) → SpellsBytes (hex (x % 256) ++ (hex (x / 256 % 256) ++ hex (x / 65536 % 256))) (three x)
three_spelled x =
    hex_spelled (x % 256) (hex (x / 256 % 256) ++ hex (x / 65536 % 256)) (x / 256 % 256 ∷ x / 65536 % 256 ∷ []) (omega arith)
    (hex_spelled (x / 256 % 256) (hex (x / 65536 % 256)) (x / 65536 % 256 ∷ []) (omega arith)
    (hex_spelled (x / 65536 % 256) [] [] (omega arith) refl))

negated_small : (k : ℕ) → k ≤ 1000 → IsSigned 16 (negated k)
negated_small zero h = lit≤ tt
negated_small (suc k) h = omega (arith, h)

-- a number less 1,000: its spelling and its value
record Signed (text : List ℕ) : Type 0 where
  shape : Shape
  value : ℤ
  spelled : SpellsShape Base text shape
  meant : meant_val all_names full_table (slots.One (kinds.Int W16)) shape ≡ int value
  within : IsSigned 16 value

below_thousand : (n : ℕ) → n < 1000 → Signed (codes "-" ++ decimal (1000 - n))
unfolding meant_val
below_thousand n lt = record {
  shape = shapes.negative (1000 - n);
  value = negated (1000 - n);
  spelled = (decimal (1000 - n), number (1000 - n) (omega arith), refl);
  meant = refl;
  within = negated_small (1000 - n) (omega arith);
}

above_thousand : (n : ℕ) → n < 2001 → Signed (decimal (n - 1000))
unfolding meant_val
above_thousand n lt = record {
  shape = shapes.decimal (n - 1000);
  value = pos (n - 1000);
  spelled = number (n - 1000) (omega arith);
  meant = refl;
  within = omega (arith, lt);
}

signed_by : (n : ℕ) (b : Bool) → nat_lt n 1000 ≡ b → n < 2001 → Signed (if b then codes "-" ++ decimal (1000 - n) else decimal (n - 1000))
signed_by n true e lt = below_thousand n (grind (arith, nat_tests))
signed_by n false e lt = above_thousand n lt

pub temp_call : (x : ℕ) → Call 1 x
unfolding call temp field_and_rest cut meant_vals meant_val
temp_call x =
    let s : Signed (less_thousand (x % 2001)) = signed_by (x % 2001) (nat_lt (x % 2001) 1000) refl (omega arith) in
    let digits : List ℕ = hex (x % 256) ++ (hex (x / 256 % 256) ++ hex (x / 65536 % 256)) in
    let vs : Vals = val (int s.value) (val (bytes (three x)) no_vals) in
    record {
      name = codes "temp";
      args = less_thousand (x % 2001) ++ (codes " #" ++ digits);
      index = 2;
      vs = vs;
      fields = refl;
      named = name_there (codes "temp") (Some 2) refl;
      logged = is_known 2 temp_pieces temp_known;
      reads = reads_known 2 temp_pieces _ vs temp_known (record {
        places = place (kinds.Int W16) ∷ place kinds.Bytes ∷ [];
        are = temp_places;
        fits = (
          place (kinds.Int W16),
          place kinds.Bytes ∷ [],
          refl,
          record { size = W16; slot_is = refl; in_range = s.within },
          (place kinds.Bytes, [], refl, inl refl, refl),
        );
        light = lit≤ tt;
        shapes = shape s.shape (shape (shapes.bytes (three x)) no_shapes);
        spelled = two_spelled (less_thousand (x % 2001)) (35 ∷ digits) s.shape (shapes.bytes (three x)) s.spelled (digits, three_spelled x, refl);
        meant = ap (λ (v : Val). val v (val (bytes (three x)) no_vals)) s.meant;
      });
      short = message_short full_table None (Some 1000) 2 vs (16 + (7 + 0)) (lit≤ tt)
          (more_most (int s.value) (val (bytes (three x)) no_vals) 16 (7 + 0) (int_most s.value) (one_most (bytes (three x)) 7 (carried_bytes (three x) 7 (lit≤ tt))));
      narrow = narrow_known 2 temp_pieces vs temp_known (temp_narrow s.value (three x) (three_bytes x) (lit≤ tt));
    }

-- ---- a truth value and a text

link_known : Known 3 link_pieces
link_known = record {
  entry = entry_at 3 tags.Warn (codes "link {=bool} {=str:?}");
  there = entry_there 3 (Some (entry_at 3 tags.Warn (codes "link {=bool} {=str:?}"))) refl;
  body = ap one_body (pieces_again Lenient (codes "link {=bool} {=str:?}") link_pieces (link_spells Lenient));
  logged = refl;
}

link_places : places_of link_pieces ≡ place kinds.Bool ∷ place kinds.Str ∷ []
unfolding slots_of positions kinds_at slot_of
link_places = refl

link_narrow : (b : Bool) (s : List ℕ) → length s ≤ 5 → length (pieces_text hints.Plain link_pieces (shows full_table (val (flag b) (val (str s) no_vals)))) ≤ printed_limit
unfolding pieces_text show_val shows
link_narrow b s few =
    let end : List ℕ = printed_str s hints.Debug ++ [] in
    omega (arith, few, shown_flag b hints.Plain, shown_str s hints.Debug, length-append (printed_bool b) (codes " " ++ end), length-append (printed_str s hints.Debug) [])

flag_spelled : (b : Bool) → SpellsShape Base (if b then codes "true" else codes "false") (shapes.flag b)
flag_spelled true = refl
flag_spelled false = refl

char_spelled : (c : ℕ) (text : List ℕ) (cs : List ℕ) → IsScalar c → c < 128 → c ≢ 34 → c ≢ 92 → SpellsCharacters 34 text cs → SpellsCharacters 34 (c ∷ text) (c ∷ cs)
char_spelled c text cs scalar small quote slash rest = (c ∷ [], text, inl (scalar, quote, slash, sym (encode_ascii c small)), rest, refl)

letter_spelled : (c : ℕ) (text : List ℕ) (cs : List ℕ) → IsScalar c → 92 < c → c < 128 → SpellsCharacters 34 text cs → SpellsCharacters 34 (c ∷ text) (c ∷ cs)
letter_spelled c text cs scalar low high rest = char_spelled c text cs scalar high (λ e. absurd (omega (arith, e, low))) (λ e. absurd (omega (arith, e, low))) rest

encoded : (c : ℕ) (cs text : List ℕ) → c < 128 → encode_utf8_all cs ≡ text → encode_utf8_all (c ∷ cs) ≡ c ∷ text
encoded c cs text small rest = ap (λ (xs : List ℕ). xs ++ encode_utf8_all cs) (encode_ascii c small) ∙ ap (λ (xs : List ℕ). c ∷ xs) rest

abbrev port : ℕ → List ℕ
port d = codes "port" ++ ((48 + d) ∷ [])

digit_scalar : (d : ℕ) → d < 10 → IsScalar (48 + d)
digit_scalar d small = grind (arith, nat_tests)

port_spelled : (d : ℕ) → d < 10 → SpellsShape Base (codes "\"port" ++ (decimal d ++ codes "\"")) (shapes.quoted (port d))
port_spelled d small =
    let one : decimal d ≡ (48 + d) ∷ [] = decimal_digit d small in
    let t : List ℕ = (48 + d) ∷ [] in
    let last : SpellsCharacters 34 t t = char_spelled (48 + d) [] [] (digit_scalar d small) (omega (arith, small)) (λ e. absurd (omega (arith, e, small))) (λ e. absurd (omega (arith, e, small))) refl in
    let chars : SpellsCharacters 34 (port d) (port d) =
    letter_spelled 112 (111 ∷ 114 ∷ 116 ∷ t) (111 ∷ 114 ∷ 116 ∷ t) refl (lit≤ tt) (lit≤ tt) (letter_spelled 111 (114 ∷ 116 ∷ t) (114 ∷ 116 ∷ t) refl (lit≤ tt) (lit≤ tt)
    (letter_spelled 114 (116 ∷ t) (116 ∷ t) refl (lit≤ tt) (lit≤ tt) (letter_spelled 116 t t refl (lit≤ tt) (lit≤ tt) last))) in
    let codes_are : encode_utf8_all (port d) ≡ port d =
    encoded 112 (111 ∷ 114 ∷ 116 ∷ t) (111 ∷ 114 ∷ 116 ∷ t) (lit≤ tt) (encoded 111 (114 ∷ 116 ∷ t) (114 ∷ 116 ∷ t) (lit≤ tt)
    (encoded 114 (116 ∷ t) (116 ∷ t) (lit≤ tt) (encoded 116 t t (lit≤ tt) (encoded (48 + d) [] [] (omega (arith, small)) refl)))) in
    (port d, (port d, chars, codes_are), ap (λ (xs : List ℕ). codes "\"port" ++ (xs ++ codes "\"")) one)

pub link_call : (x : ℕ) → Call 2 x
unfolding call link field_and_rest cut meant_vals meant_val
link_call x =
    let even : Bool = x % 2 == 0 in
    let word : List ℕ = if even then codes "true" else codes "false" in
    let quoted : List ℕ = codes "\"port" ++ (decimal (x % 10) ++ codes "\"") in
    let s : List ℕ = port (x % 10) in
    let vs : Vals = val (flag even) (val (str s) no_vals) in
    record {
      name = codes "link";
      args = word ++ 32 ∷ quoted;
      index = 3;
      vs = vs;
      fields = refl;
      named = name_there (codes "link") (Some 3) refl;
      logged = is_known 3 link_pieces link_known;
      reads = reads_known 3 link_pieces _ vs link_known (record {
        places = place kinds.Bool ∷ place kinds.Str ∷ [];
        are = link_places;
        fits = (place kinds.Bool, place kinds.Str ∷ [], refl, refl, (place kinds.Str, [], refl, inl refl, refl));
        light = lit≤ tt;
        shapes = shape (shapes.flag even) (shape (shapes.quoted s) no_shapes);
        spelled = two_spelled word quoted (shapes.flag even) (shapes.quoted s) (flag_spelled even) (port_spelled (x % 10) (omega arith));
        meant = refl;
      });
      short = message_short full_table None (Some 1000) 3 vs (1 + (9 + 0)) (lit≤ tt)
          (more_most (flag even) (val (str s) no_vals) 1 (9 + 0) (flag_most even) (one_most (str s) 9 (str_most s 9 (lit≤ tt))));
      narrow = narrow_known 3 link_pieces vs link_known (link_narrow even s (lit≤ tt));
    }
