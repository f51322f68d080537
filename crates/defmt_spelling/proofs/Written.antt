-- What is written spells what it was written for: numbers, characters, texts and bytes.
use Rattle.std.proofs.Common.{◌≡◌, ◌≢◌, ◌⊎◌, inl, inr, ◌<◌, ◌≤◌, ◌+◌, ◌*◌, ◌-◌, ◌++◌, ℕ, zero, suc, pos, negsuc, Bool, true, false, cond, List, [], ◌∷◌, length, length-append, map, replicate, get_or, Option, Some, None, refl, sym, ap, subst, ◌∙◌, arith, nat_lt}
use Rattle.std.proofs.lemmas.Bool.{cases_eq, cases_lt, ne_eqb, and_parts}
use Rattle.std.proofs.lemmas.Int.Digits.{digits_value_is}
use Rattle.std.proofs.lemmas.List.Concat.{flat_map-append}
use Rattle.std.proofs.lemmas.Str.{encode_ascii, inside_one}
use Rattle.std.specs.Char.{IsScalar, digit_value, encode_utf8}
use Rattle.std.specs.Fmt.{digit_glyph}
use Rattle.std.specs.Int.Digits.{AllBelowBase, number_from_digits}
use Rattle.std.specs.List.{AllByRecursion, flat_map}
use Rattle.std.specs.Str.{IsUtf8, encode_utf8_all, all_scalars}
use Rattle.std.specs.Str.Parse.{AllDigits, digits_value}
use Rattle.std.proofs.lemmas.List.{append-nil}
use Rattle.defmt_grammar.specs.Param.{HasLeadingZero}
use Rattle.defmt_grammar.specs.declared.hint.Base.TheVariants.{Hex}
use Rattle.defmt_grammar.specs.declared.hint.Hint.TheVariants.{Plain, Debug, Radix}
use Rattle.defmt_grammar.specs.declared.kind.IntSize.TheVariants.{W128}
use Rattle.defmt_hints.proofs.DigitsLaws.{are_digits, weighted_sum_is, length_zero_filled}
use Rattle.defmt_hints.specs.Digits.{HasNoLeadingZero, digits, number_text, zero_filled}
use Rattle.defmt_hints.specs.Escapes.{escape_of, escaped as written, quoted_text}
use Rattle.defmt_hints.specs.Printed.{printed_uint, printed_int, printed_bool, printed_char, printed_str, radix_text}
use Rattle.defmt_grammar.specs.declared.language.Language.{Language}
use Rattle.defmt_shapes.specs.Shape as shapes
use Rattle.defmt_shapes.specs.Shape.{SpellsShape, SpellsCharacter, SpellsCharacters, SpellsBytes, IsNumber, IsVariant, IsItemMark, IsCallMark, escaped}
use Rattle.defmt_spelling.specs.Printed.{hex_text, item_mark, call_mark}

-- ---- numbers

glyph_value : (d : ℕ) → d < 16 → digit_value (digit_glyph false d) ≡ d
glyph_value zero h = refl
glyph_value (suc zero) h = refl
glyph_value (suc (suc zero)) h = refl
glyph_value (suc (suc (suc zero))) h = refl
glyph_value (suc (suc (suc (suc zero)))) h = refl
glyph_value (suc (suc (suc (suc (suc zero))))) h = refl
glyph_value (suc (suc (suc (suc (suc (suc zero)))))) h = refl
glyph_value (suc (suc (suc (suc (suc (suc (suc zero))))))) h = refl
glyph_value (suc (suc (suc (suc (suc (suc (suc (suc zero)))))))) h = refl
glyph_value (suc (suc (suc (suc (suc (suc (suc (suc (suc zero))))))))) h = refl
glyph_value (suc (suc (suc (suc (suc (suc (suc (suc (suc (suc zero)))))))))) h = refl
glyph_value (suc (suc (suc (suc (suc (suc (suc (suc (suc (suc (suc zero))))))))))) h = refl
glyph_value (suc (suc (suc (suc (suc (suc (suc (suc (suc (suc (suc (suc zero)))))))))))) h = refl
glyph_value (suc (suc (suc (suc (suc (suc (suc (suc (suc (suc (suc (suc (suc zero))))))))))))) h = refl
glyph_value (suc (suc (suc (suc (suc (suc (suc (suc (suc (suc (suc (suc (suc (suc zero)))))))))))))) h = refl
glyph_value (suc (suc (suc (suc (suc (suc (suc (suc (suc (suc (suc (suc (suc (suc (suc zero))))))))))))))) h = refl
glyph_value (suc (suc (suc (suc (suc (suc (suc (suc (suc (suc (suc (suc (suc (suc (suc (suc d)))))))))))))))) h = absurd (omega arith)

values_back : (base : ℕ) (ds : List ℕ) → base ≤ 16 → AllBelowBase base ds → map digit_value (map (digit_glyph false) ds) ≡ ds
values_back base [] le h = refl
values_back base (d ∷ ds) le h =
    let small : d < base = h.0 in
    ap (λ (x : ℕ). x ∷ map digit_value (map (digit_glyph false) ds)) (glyph_value d (omega (arith, small, le))) ∙ ap (λ (xs : List ℕ). d ∷ xs) (values_back base ds le h.1)

digits_all : (base : ℕ) (ds : List ℕ) → base ≤ 16 → AllBelowBase base ds → AllDigits base (map (digit_glyph false) ds)
digits_all base [] le h = tt
digits_all base (d ∷ ds) le h =
    let small : d < base = h.0 in
    (subst (λ (x : ℕ). x < base) (sym (glyph_value d (omega (arith, small, le)))) small, digits_all base ds le h.1)

some_digits : (ds : List ℕ) → HasNoLeadingZero ds → 0 < length (map (digit_glyph false) ds)
some_digits [] h = absurd h
some_digits (d ∷ ds) h = omega arith

pub number_spelled : (base n : ℕ) → 2 ≤ base → base ≤ 16 → IsNumber base (number_text base false n) n
unfolding number_text
number_spelled base n two le =
    let a = are_digits base n two in
    record {
      some = some_digits (digits base n) a.no_leading_zero;
      all = digits_all base (digits base n) le a.below;
      value = digits_value_is base (map (digit_glyph false) (digits base n)) ∙ ap (number_from_digits base) (values_back base (digits base n) le a.below) ∙ sym (weighted_sum_is base (digits base n)) ∙ a.sum;
    }

glyph_by : (b : Bool) (d : ℕ) → 0 < d → cond {A = ℕ} b (48 + d) (87 + d) ≡ 48 → ⊥
glyph_by true d h e = absurd (omega arith)
glyph_by false d h e = absurd (omega arith)

first_same : (x y : ℕ) (xs ys : List ℕ) → x ∷ xs ≡ y ∷ ys → x ≡ y
first_same x y xs ys e = cc

single_apart : (x y z : ℕ) (zs : List ℕ) → x ∷ [] ≡ y ∷ z ∷ zs → ⊥
single_apart x y z zs e = cc

no_zero_first : (ds : List ℕ) → HasNoLeadingZero ds → HasLeadingZero (map (digit_glyph false) ds) → ⊥
no_zero_first [] h z = absurd h
no_zero_first (d ∷ []) h z = single_apart (digit_glyph false d) 48 z.0 z.1 z.2
no_zero_first (d ∷ e ∷ ds) h z = glyph_by (nat_lt d 10) d h (first_same (digit_glyph false d) 48 (map (digit_glyph false) (e ∷ ds)) (z.0 ∷ z.1) z.2)

pub uint_spelled : (n : ℕ) → IsNumber 10 (printed_uint n Plain) n
unfolding printed_uint
uint_spelled n = number_spelled 10 n (omega arith) (omega arith)

variant_spelled : (v : ℕ) → IsVariant (printed_uint v Plain) v
unfolding printed_uint number_text
variant_spelled v = record { number = number_spelled 10 v (omega arith) (omega arith); no_leading_zero = no_zero_first (digits 10 v) (are_digits 10 v (omega arith)).no_leading_zero }

pub item_mark_spelled : (variant : Option ℕ) → IsItemMark (item_mark variant) variant
item_mark_spelled None = refl
item_mark_spelled (Some v) = variant_spelled v

pub call_mark_spelled : (variant : Option ℕ) → IsCallMark (call_mark variant) variant
call_mark_spelled None = refl
call_mark_spelled (Some v) = (printed_uint v Plain, variant_spelled v, refl)

pub positive_spelled : (lang : Language) (n : ℕ) → SpellsShape lang (printed_int (pos n) W128 Plain) (shapes.decimal n)
unfolding printed_int
positive_spelled lang n = number_spelled 10 n (omega arith) (omega arith)

pub negative_spelled : (lang : Language) (n : ℕ) → SpellsShape lang (printed_int (negsuc n) W128 Plain) (shapes.negative (suc n))
unfolding printed_int
negative_spelled lang n = (number_text 10 false (suc n), number_spelled 10 (suc n) (omega arith) (omega arith), refl)

pub flag_spelled : (lang : Language) (b : Bool) → SpellsShape lang (printed_bool b) (shapes.flag b)
unfolding printed_bool
flag_spelled lang true = refl
flag_spelled lang false = refl

-- ---- characters and texts in quotes

-- what is written for the characters that have an escape between these quotes
record QuoteFacts (quote : ℕ) : Type 0 where
  small : quote < 128
  letter : escaped quote ≡ Some quote
  own : written quote quote ≡ 92 ∷ quote ∷ []
  slash : written quote 92 ≡ 92 ∷ 92 ∷ []
  line : written quote 10 ≡ 92 ∷ 110 ∷ []
  return : written quote 13 ≡ 92 ∷ 114 ∷ []
  tab : written quote 9 ≡ 92 ∷ 116 ∷ []

double : QuoteFacts 34
unfolding escape_of
double = record { small = omega arith; letter = refl; own = refl; slash = refl; line = refl; return = refl; tab = refl }

single : QuoteFacts 39
unfolding escape_of
single = record { small = omega arith; letter = refl; own = refl; slash = refl; line = refl; return = refl; tab = refl }

bare : (quote c : ℕ) → c ≢ 92 → c ≢ quote → c ≢ 10 → c ≢ 13 → c ≢ 9 → written quote c ≡ c ∷ []
unfolding escape_of
bare quote c a b d e f = rw (ne_eqb c 92 a, ne_eqb c quote b, ne_eqb c 10 d, ne_eqb c 13 e, ne_eqb c 9 f) refl

all_bare : (f : ℕ → List ℕ) (xs : List ℕ) → ((k : ℕ) → k < length xs → f (get_or xs k 0) ≡ get_or xs k 0 ∷ []) → flat_map f xs ≡ xs
all_bare f [] h = refl
all_bare f (x ∷ xs) h = ap (λ (ys : List ℕ). ys ++ flat_map f xs) (h 0 (omega arith)) ∙ ap (λ (ys : List ℕ). x ∷ ys) (all_bare f xs (λ k l. h (suc k) (omega arith)))

module _ (quote : ℕ) (facts : QuoteFacts quote) where
  escape_case : (c letter : ℕ) → c < 128 → written quote c ≡ 92 ∷ letter ∷ [] → escaped letter ≡ Some c → SpellsCharacter quote (flat_map (written quote) (encode_utf8 c)) c
  escape_case c letter small e stands = inr (inl (record {
    letter = letter;
    stands_for = stands;
    text_is = ap (flat_map (written quote)) (encode_ascii c small) ∙ append-nil (written quote c) ∙ e;
  }))

  -- a byte of a character without an escape has none either
  byte_bare : (c b : ℕ) → c ≢ 92 → c ≢ quote → c ≢ 10 → c ≢ 13 → c ≢ 9 → (128 ≤ b) ⊎ (c ≡ b) → written quote b ≡ b ∷ []
  byte_bare c b a d e f g (inl high) = let s = facts.small in bare quote b (λ x. omega arith) (λ x. omega arith) (λ x. omega arith) (λ x. omega arith) (λ x. omega arith)
  byte_bare c b a d e f g (inr same) = bare quote b (λ x. a (same ∙ x)) (λ x. d (same ∙ x)) (λ x. e (same ∙ x)) (λ x. f (same ∙ x)) (λ x. g (same ∙ x))

  byte_of : (c k : ℕ) → k < length (encode_utf8 c) → (128 ≤ get_or (encode_utf8 c) k 0) ⊎ (c ≡ get_or (encode_utf8 c) k 0)
  byte_of c k l = elim (cases_lt (get_or (encode_utf8 c) k 0) 128) [
    | inl low ↦ inr (inside_one c [] (encode_utf8 c) k (sym (append-nil (encode_utf8 c))) l low)
    | inr high ↦ inl high
  ]

  plain_case : (c : ℕ) → IsScalar c → c ≢ 92 → c ≢ quote → c ≢ 10 → c ≢ 13 → c ≢ 9 → SpellsCharacter quote (flat_map (written quote) (encode_utf8 c)) c
  plain_case c s a d e f g = inl (s, d, a, all_bare (written quote) (encode_utf8 c) (λ k l. byte_bare c (get_or (encode_utf8 c) k 0) a d e f g (byte_of c k l)))

  one_char : (c : ℕ) → IsScalar c → SpellsCharacter quote (flat_map (written quote) (encode_utf8 c)) c
  one_char c s = elim (cases_eq c 92) [
    | inl is ↦ subst (λ (x : ℕ). SpellsCharacter quote (flat_map (written quote) (encode_utf8 x)) x) (sym is) (escape_case 92 92 (omega arith) facts.slash refl)
    | inr a ↦ elim (cases_eq c quote) [
      | inl is ↦ subst (λ (x : ℕ). SpellsCharacter quote (flat_map (written quote) (encode_utf8 x)) x) (sym is) (escape_case quote quote facts.small facts.own facts.letter)
      | inr b ↦ elim (cases_eq c 10) [
        | inl is ↦ subst (λ (x : ℕ). SpellsCharacter quote (flat_map (written quote) (encode_utf8 x)) x) (sym is) (escape_case 10 110 (omega arith) facts.line refl)
        | inr d ↦ elim (cases_eq c 13) [
          | inl is ↦ subst (λ (x : ℕ). SpellsCharacter quote (flat_map (written quote) (encode_utf8 x)) x) (sym is) (escape_case 13 114 (omega arith) facts.return refl)
          | inr e ↦ elim (cases_eq c 9) [
            | inl is ↦ subst (λ (x : ℕ). SpellsCharacter quote (flat_map (written quote) (encode_utf8 x)) x) (sym is) (escape_case 9 116 (omega arith) facts.tab refl)
            | inr f ↦ plain_case c s a b d e f
          ]
        ]
      ]
    ]
  ]

  chars_spelled : (cs : List ℕ) → all_scalars cs ≡ true → SpellsCharacters quote (flat_map (written quote) (encode_utf8_all cs)) cs
  chars_spelled [] h = refl
  chars_spelled (c ∷ cs) h =
      let b = and_parts _ (all_scalars cs) h in
      (flat_map (written quote) (encode_utf8 c), flat_map (written quote) (encode_utf8_all cs), one_char c b.0, chars_spelled cs b.1, flat_map-append (written quote) (encode_utf8 c) (encode_utf8_all cs))

pub char_spelled : (lang : Language) (c : ℕ) → IsScalar c → SpellsShape lang (printed_char c Debug) (shapes.character c)
unfolding printed_char quoted_text
char_spelled lang c s = (flat_map (written 39) (encode_utf8 c), one_char 39 single c s, refl)

pub str_spelled : (lang : Language) (s : List ℕ) → IsUtf8 s → SpellsShape lang (printed_str s Debug) (shapes.quoted s)
unfolding printed_str quoted_text
str_spelled lang s u =
    (flat_map (written 34) s, (u.0, subst (λ (x : List ℕ). SpellsCharacters 34 (flat_map (written 34) x) u.0) u.1.1 (chars_spelled 34 double u.0 u.1.0), u.1.1), refl)

-- ---- bytes

zeros_value : (k : ℕ) (text : List ℕ) → digits_value 16 (replicate k 48 ++ text) ≡ digits_value 16 text
zeros_value zero text = refl
zeros_value (suc k) text = zeros_value k text

zeros_digits : (k : ℕ) (text : List ℕ) → AllDigits 16 text → AllDigits 16 (replicate k 48 ++ text)
zeros_digits zero text h = h
zeros_digits (suc k) text h = (omega arith, zeros_digits k text h)

-- two digits and the byte that they stand for
record HexPair (text : List ℕ) (b : ℕ) : Type 0 where
  high : ℕ
  low : ℕ
  is : text ≡ high ∷ low ∷ []
  above : digit_value high < 16
  below : digit_value low < 16
  value : b ≡ 16 * digit_value high + digit_value low

pair_value : (p q b : ℕ) → (0 * 16 + p) * 16 + q ≡ b → b ≡ 16 * p + q
pair_value p q b h = omega arith

pair_of : (xs : List ℕ) (b : ℕ) → length xs ≡ 2 → AllDigits 16 xs → digits_value 16 xs ≡ b → HexPair xs b
pair_of [] b l a v = absurd (omega arith)
pair_of (x ∷ []) b l a v = absurd (omega arith)
pair_of (x ∷ y ∷ []) b l a v = record { high = x; low = y; is = refl; above = a.0; below = a.1.0; value = pair_value (digit_value x) (digit_value y) b v }
pair_of (x ∷ y ∷ z ∷ zs) b l a v = absurd (omega arith)

hex_is : (w b : ℕ) → printed_uint b (Radix Hex false w) ≡ zero_filled w (number_text 16 false b)
unfolding printed_uint radix_text
hex_is w b = let e : w - 0 ≡ w = omega arith in ap (λ (k : ℕ). zero_filled k (number_text 16 false b)) e

filled_digits : (w : ℕ) (text : List ℕ) → AllDigits 16 text → AllDigits 16 (zero_filled w text)
unfolding zero_filled
filled_digits w text h = zeros_digits (w - length text) text h

filled_value : (w : ℕ) (text : List ℕ) → digits_value 16 (zero_filled w text) ≡ digits_value 16 text
unfolding zero_filled
filled_value w text = zeros_value (w - length text) text

filled_some : (w : ℕ) (text : List ℕ) → 0 < length text → 0 < length (zero_filled w text)
unfolding zero_filled
filled_some w text h = omega (arith, h, length-append (replicate (w - length text) 48) text)

-- all digits of a number
pub hex_number : (w n : ℕ) → IsNumber 16 (printed_uint n (Radix Hex false w)) n
hex_number w n =
    let k = number_spelled 16 n (omega arith) (omega arith) in
    subst (λ (x : List ℕ). IsNumber 16 x n) (sym (hex_is w n))
    (record { some = filled_some w (number_text 16 false n) k.some; all = filled_digits w (number_text 16 false n) k.all; value = filled_value w (number_text 16 false n) ∙ k.value })

hex_pair : (b : ℕ) → b < 256 → HexPair (printed_uint b (Radix Hex false 2)) b
hex_pair b h =
    let n = number_spelled 16 b (omega arith) (omega arith) in
    subst (λ (x : List ℕ). HexPair x b) (sym (hex_is 2 b))
    (pair_of (zero_filled 2 (number_text 16 false b)) b (length_zero_filled 16 2 b false (omega arith) (omega arith) h) (filled_digits 2 (number_text 16 false b) n.all) (filled_value 2 (number_text 16 false b) ∙ n.value))

pub hex_spelled : (bs : List ℕ) → AllByRecursion (λ b. b < 256) bs → SpellsBytes (hex_text bs) bs
unfolding hex_text
hex_spelled [] h = refl
hex_spelled (b ∷ bs) h = let p = hex_pair b h.0 in (p.high, p.low, hex_text bs, p.above, p.below, p.value, hex_spelled bs h.1, ap (λ (x : List ℕ). x ++ hex_text bs) p.is)
