-- What is printed is read back.
use Rattle.std.proofs.Common.{◌≡◌, ◌<◌, ◌≤◌, ◌-◌, ◌^◌, ℕ, suc, zero, Bool, true, false, cond, eqb, ltb, leb, ◌&&◌, ◌||◌, not, List, [], ◌∷◌, ◌++◌, length, get_or, map, Option, Some, None, refl, sym, ap, subst, ◌∙◌, arith, append_assoc, option_map, ◌⊎◌, inl, inr}
use Rattle.std.specs.Prelude.{codes, slice_get}
use Rattle.std.specs.Fmt.{decimal}
use Rattle.std.specs.List.{AllByRecursion, list_all}
use Rattle.std.specs.Str.{all_ascii_digits}
use Rattle.std.proofs.lemmas.Bool.Decides.{nat_tests}
use Rattle.std.proofs.lemmas.Fmt.{digits_decimal, digits_value-decimal, decimal_nonempty, first_decimal, decimal_digit, length-decimal-le}
use Rattle.std.proofs.lemmas.Option.{same_Some, slice_get-map}
use Rattle.std.proofs.lemmas.Str.Parse.{tells_all_ascii_digits}
use Rattle.defmt_grammar.specs.declared.language.Language.{Language}
use Rattle.defmt_grammar.specs.declared.language.Language.TheVariants as languages
use Rattle.defmt_grammar.specs.Language.{language_of}
use Rattle.defmt_grammar.specs.declared.fault.Mode.{Mode}
use Rattle.defmt_grammar.specs.declared.fault.Mode.TheVariants.{Strict, Lenient, StrictFull, LenientFull}
use Rattle.defmt_grammar.specs.declared.kind.Kind.{Kind}
use Rattle.defmt_grammar.specs.declared.kind.Kind.TheVariants.{ByteArray, FormatArray, Bits, Uint, Int, Bool as BoolKind, Char, Str, Istr, Bytes, Format, FormatSlice, Float, Debug as DebugKind, Display, Sequence}
use Rattle.defmt_grammar.specs.declared.kind.IntSize.TheVariants.{W8, W16, W32, W64, W128, Native}
use Rattle.defmt_grammar.specs.declared.kind.FloatSize.TheVariants as floats
use Rattle.defmt_grammar.specs.declared.hint.Base.{Base}
use Rattle.defmt_grammar.specs.declared.hint.Base.TheVariants.{Hex, HexUpper, Binary, Octal}
use Rattle.defmt_grammar.specs.declared.hint.Hint.{Hint}
use Rattle.defmt_grammar.specs.declared.hint.Hint.TheVariants.{Plain, Debug, Radix, Ascii, Micros, Millis, Iso, Clock, Pad}
use Rattle.defmt_grammar.specs.declared.hint.IsoUnit.TheVariants as iso
use Rattle.defmt_grammar.specs.declared.hint.ClockUnit.TheVariants as clock
use Rattle.defmt_grammar.specs.declared.param.Param.{Param}
use Rattle.defmt_grammar.specs.declared.piece.Piece.{Piece}
use Rattle.defmt_grammar.specs.declared.piece.Piece.TheVariants as pieces
use Rattle.defmt_grammar.specs.declared.piece.Use.{Use}
use Rattle.defmt_grammar.specs.Cut.{behind, Lacks, IsDecimal}
use Rattle.defmt_grammar.specs.Kind.{kind_names, named_kind, KindShape, named, float, array, format_array, bits, IsCounted, SpellsShape, kind_in_range, SpellsKind}
use Rattle.defmt_grammar.specs.Hint.{letter_of, alt_mark, iso_name, clock_name, IsFill, IsWidth, SpellsHint}
use Rattle.defmt_grammar.specs.Param.{hint_part, IsPosition, next_number, HasLeadingZero, SpellsKindPart, SpellsHintPart, SpellsParam}
use Rattle.defmt_grammar.specs.Grammar.{IsBits, Token, char, hole, IsHole, SpellsTokens, with_char, joined, uses_of, Clash, NoClash, NoGap, Spells, AreSpelled}
use Rattle.defmt_grammar.specs.Slots.{params_of}
use Rattle.defmt_grammar.specs.Positions.{KindFits, HintFits, Fits, param_of_use}
use Rattle.defmt_grammar.specs.Print.{kind_text, width_text, radix_text, hint_text, param_text, back, doubled, printed}
use Rattle.defmt_grammar.proofs.Cuts.{own, Lacks-append, Lacks-digits}
use Rattle.defmt_grammar.proofs.FitLaws.{words_hold, ranged, windowed, param_fits, pieces_hold, uses_params}
use Rattle.defmt_grammar.proofs.KindLaws.{okay}
use Rattle.defmt_grammar.proofs.StrictLaws.{spells_fully}
use Rattle.defmt_grammar.proofs.PlainLaws.{is_brace, is_plain}
use Rattle.defmt_grammar.proofs.StepLaws.{then_tokens}
use Rattle.defmt_grammar.proofs.ReadingLaws.{NoLiteralFirst, joined_chars, flushed_some}

-- ---- decimals

pub decimal_is : (n : ℕ) → n < 2 ^ 64 → IsDecimal (decimal n) n
decimal_is n h = record { some = decimal_nonempty n h; digits = digits_decimal own n h; value = digits_value-decimal own n h }

decimal_lacks : (c n : ℕ) → (c < 48) ⊎ (57 < c) → n < 2 ^ 64 → Lacks c (decimal n)
decimal_lacks c n out h = Lacks-digits c (decimal n) out (digits_decimal own n h)

-- ---- no literal piece is empty or follows another

abbrev pub NoRuns : List Piece → Type 0
NoRuns [] = Unit {0}
NoRuns (pieces.Literal [] ∷ ps) = ⊥
NoRuns (pieces.Literal (c ∷ cs) ∷ ps) = NoLiteralFirst ps × NoRuns ps
NoRuns (pieces.Param p ∷ ps) = NoRuns ps

char_runs : (c : ℕ) (ps : List Piece) → NoRuns ps → NoRuns (with_char c ps)
char_runs c [] h = (tt, tt)
char_runs c (pieces.Literal [] ∷ ps) h = absurd h
char_runs c (pieces.Literal (d ∷ cs) ∷ ps) h = h
char_runs c (pieces.Param p ∷ ps) h = (tt, h)

pub joined_runs : (ts : List Token) → NoRuns (joined ts)
joined_runs [] = tt
joined_runs (char c ∷ ts) = char_runs c (joined ts) (joined_runs ts)
joined_runs (hole at p ∷ ts) = joined_runs ts

-- ---- the spelling of each part

counted : (front : List ℕ) (n : ℕ) → n ≤ 65535 → IsCounted front (front ++ codes " " ++ decimal n ++ codes "]") n
counted front n h = (codes " ", decimal n, (refl, tt), decimal_is n (omega arith), simp append_assoc)

in_range : (n : ℕ) → n ≤ 65535 → leb n 65535 ≡ true
in_range n h = grind (arith, nat_tests)

-- the word of each kind of the table stands for it
abbrev StandsFor : Language → Kind → Type 0
StandsFor language kind = named_kind language (kind_text kind) ≡ Some kind

names_stand : (language : Language) → AllByRecursion (λ e. StandsFor language e.1) (kind_names language)
names_stand languages.Base = (refl, (refl, (refl, (refl, (refl, (refl, (refl, (refl, (refl, (refl, (refl, (refl, (refl, (refl, (refl, (refl, (refl, (refl, (refl, tt)))))))))))))))))))
names_stand languages.Full = (refl, (refl, (refl, (refl, (refl, (refl, (refl, (refl, (refl, (refl, (refl, (refl, (refl, (refl, (refl, (refl, (refl, (refl, (refl, (refl, (refl, (refl, (refl, (refl, tt))))))))))))))))))))))))

-- the spelling of a kind that some text spells
abbrev KindBack : Language → Kind → Type 0
KindBack language kind = SpellsKind language (kind_text kind) kind

shape_back : (language : Language) (text : List ℕ) (shape : KindShape) (kind : Kind) → SpellsShape language text shape → kind_in_range shape ≡ okay kind → KindBack language kind
shape_back language text (named k) kind s h = let e : k ≡ kind = cc in subst (KindBack language) e (named k, words_hold (StandsFor language) text (kind_names language) k (names_stand language) s, refl)
shape_back language text float kind s h = absurd cc
shape_back language text (array n) kind s h = let k = ranged n (leb n 65535) ByteArray kind refl h in subst (KindBack language) k.1 (array n, counted (codes "[u8;") n k.0, rw (in_range n k.0) refl)
shape_back language text (format_array n) kind s h = let k = ranged n (leb n 65535) FormatArray kind refl h in subst (KindBack language) k.1 (format_array n, counted (codes "[?;") n k.0, rw (in_range n k.0) refl)
shape_back language text (bits lo hi) kind s h =
    let k = windowed lo hi (ltb lo hi) (leb hi 128) kind refl refl h in
    let less = k.0 in
    let within = k.1 in
    let a : ltb lo hi ≡ true = grind (arith, nat_tests) in
    let b : leb hi 128 ≡ true = grind (arith, nat_tests) in
    subst (KindBack language) k.2 (bits lo hi, (decimal lo, decimal hi, decimal_is lo (omega arith), decimal_is hi (omega arith), simp append_assoc), rw (a, b) refl)

kind_back : (language : Language) (text : Option (List ℕ)) (kind : Kind) → SpellsKindPart language text kind → KindBack language kind
kind_back language None kind h = subst (KindBack language) (sym h) (named Format, refl, refl)
kind_back language (Some text) kind (shape, s, h) = shape_back language text shape kind s h

lacks_more : (c x : ℕ) (xs : List ℕ) (b : Bool) → eqb x c ≡ b → (list_all (λ y. not (eqb y c)) xs ≡ true → Lacks c xs) → (not b && list_all (λ y. not (eqb y c)) xs) ≡ true → Lacks c (x ∷ xs)
lacks_more c x xs true e f h = absurd cc
lacks_more c x xs false e f h = (e, f h)

-- a text lacks what no character of it is
lacks_test : (c : ℕ) (xs : List ℕ) → list_all (λ x. not (eqb x c)) xs ≡ true → Lacks c xs
lacks_test c [] h = tt
lacks_test c (x ∷ xs) h = lacks_more c x xs (eqb x c) refl (lacks_test c xs) h

bits_lack : (c lo hi : ℕ) → (c < 48) ⊎ (57 < c) → lo < 2 ^ 64 → hi < 2 ^ 64 → Lacks c (codes "..") → Lacks c (decimal lo ++ codes ".." ++ decimal hi)
bits_lack c lo hi out a b h = Lacks-append c (decimal lo ++ codes "..") (decimal hi) (Lacks-append c (decimal lo) (codes "..") (decimal_lacks c lo out a) h) (decimal_lacks c hi out b)

counted_lacks : (c n : ℕ) (front : List ℕ) → (c < 48) ⊎ (57 < c) → n ≤ 65535 → Lacks c front → Lacks c (codes "]") → Lacks c (front ++ decimal n ++ codes "]")
counted_lacks c n front out h a b = Lacks-append c (front ++ decimal n) (codes "]") (Lacks-append c front (decimal n) a (decimal_lacks c n out (omega arith))) b

pub kind_lacks : (kind : Kind) → KindFits kind → Lacks 58 (kind_text kind) × Lacks 125 (kind_text kind)
kind_lacks (ByteArray n) h = (counted_lacks 58 n (codes "[u8; ") (inr (omega arith)) h (lacks_test 58 (codes "[u8; ") refl) (lacks_test 58 (codes "]") refl), counted_lacks 125 n (codes "[u8; ") (inr (omega arith)) h (lacks_test 125 (codes "[u8; ") refl) (lacks_test 125 (codes "]") refl))
kind_lacks (FormatArray n) h = (counted_lacks 58 n (codes "[?; ") (inr (omega arith)) h (lacks_test 58 (codes "[?; ") refl) (lacks_test 58 (codes "]") refl), counted_lacks 125 n (codes "[?; ") (inr (omega arith)) h (lacks_test 125 (codes "[?; ") refl) (lacks_test 125 (codes "]") refl))
kind_lacks (Bits lo hi) h = (bits_lack 58 lo hi (inr (omega arith)) (omega arith) (omega arith) (lacks_test 58 (codes "..") refl), bits_lack 125 lo hi (inr (omega arith)) (omega arith) (omega arith) (lacks_test 125 (codes "..") refl))
kind_lacks (Uint W8) h = (lacks_test 58 (codes "u8") refl, lacks_test 125 (codes "u8") refl)
kind_lacks (Uint W16) h = (lacks_test 58 (codes "u16") refl, lacks_test 125 (codes "u16") refl)
kind_lacks (Uint W32) h = (lacks_test 58 (codes "u32") refl, lacks_test 125 (codes "u32") refl)
kind_lacks (Uint W64) h = (lacks_test 58 (codes "u64") refl, lacks_test 125 (codes "u64") refl)
kind_lacks (Uint W128) h = (lacks_test 58 (codes "u128") refl, lacks_test 125 (codes "u128") refl)
kind_lacks (Uint Native) h = (lacks_test 58 (codes "usize") refl, lacks_test 125 (codes "usize") refl)
kind_lacks (Int W8) h = (lacks_test 58 (codes "i8") refl, lacks_test 125 (codes "i8") refl)
kind_lacks (Int W16) h = (lacks_test 58 (codes "i16") refl, lacks_test 125 (codes "i16") refl)
kind_lacks (Int W32) h = (lacks_test 58 (codes "i32") refl, lacks_test 125 (codes "i32") refl)
kind_lacks (Int W64) h = (lacks_test 58 (codes "i64") refl, lacks_test 125 (codes "i64") refl)
kind_lacks (Int W128) h = (lacks_test 58 (codes "i128") refl, lacks_test 125 (codes "i128") refl)
kind_lacks (Int Native) h = (lacks_test 58 (codes "isize") refl, lacks_test 125 (codes "isize") refl)
kind_lacks BoolKind h = (lacks_test 58 (codes "bool") refl, lacks_test 125 (codes "bool") refl)
kind_lacks Char h = (lacks_test 58 (codes "char") refl, lacks_test 125 (codes "char") refl)
kind_lacks Str h = (lacks_test 58 (codes "str") refl, lacks_test 125 (codes "str") refl)
kind_lacks Istr h = (lacks_test 58 (codes "istr") refl, lacks_test 125 (codes "istr") refl)
kind_lacks Bytes h = (lacks_test 58 (codes "[u8]") refl, lacks_test 125 (codes "[u8]") refl)
kind_lacks Format h = (lacks_test 58 (codes "?") refl, lacks_test 125 (codes "?") refl)
kind_lacks FormatSlice h = (lacks_test 58 (codes "[?]") refl, lacks_test 125 (codes "[?]") refl)
kind_lacks (Float floats.W32) h = (lacks_test 58 (codes "f32") refl, lacks_test 125 (codes "f32") refl)
kind_lacks (Float floats.W64) h = (lacks_test 58 (codes "f64") refl, lacks_test 125 (codes "f64") refl)
kind_lacks DebugKind h = (lacks_test 58 (codes "__internal_Debug") refl, lacks_test 125 (codes "__internal_Debug") refl)
kind_lacks Display h = (lacks_test 58 (codes "__internal_Display") refl, lacks_test 125 (codes "__internal_Display") refl)
kind_lacks Sequence h = (lacks_test 58 (codes "__internal_FormatSequence") refl, lacks_test 125 (codes "__internal_FormatSequence") refl)

-- ---- hints

starts_no_zero : (ds : List ℕ) → 48 < get_or ds 0 0 → behind 48 ds ≡ None
unfolding behind
starts_no_zero [] h = refl
starts_no_zero (d ∷ ds) h = let k : eqb d 48 ≡ false = grind (arith, nat_tests) in rw k refl

fill_spelled : (width : ℕ) → 1 ≤ width → width ≤ 255 → IsFill (48 ∷ decimal width) width
fill_spelled w some h = (decimal w, refl, starts_no_zero (decimal w) (first_decimal w some (omega arith)), length-decimal-le 3 w (omega arith) (omega arith) (omega arith), decimal_is w (omega arith), h)

pub width_spelled : (width : ℕ) → width ≤ 255 → IsWidth (width_text width) width
width_spelled zero h = inl (refl, refl)
width_spelled (suc n) h = let k : eqb (suc n) 0 ≡ false = grind (arith, nat_tests) in rw k (inr (fill_spelled (suc n) (omega arith) h))

width_lacks : (width : ℕ) → width ≤ 255 → Lacks 125 (width_text width)
width_lacks zero h = tt
width_lacks (suc n) h = let k : eqb (suc n) 0 ≡ false = grind (arith, nat_tests) in rw k (refl, decimal_lacks 125 (suc n) (inr (omega arith)) (omega arith))

alt_lacks : (alt : Bool) → Lacks 125 (alt_mark alt)
alt_lacks true = (refl, tt)
alt_lacks false = tt

base_lacks : (base : Base) → Lacks 125 (letter_of base ∷ [])
base_lacks Hex = (refl, tt)
base_lacks HexUpper = (refl, tt)
base_lacks Binary = (refl, tt)
base_lacks Octal = (refl, tt)

radix_lacks : (base : Base) (alt : Bool) (width : ℕ) → width ≤ 255 → Lacks 125 (radix_text base alt width)
radix_lacks base alt width h = Lacks-append 125 (alt_mark alt ++ width_text width) (letter_of base ∷ []) (Lacks-append 125 (alt_mark alt) (width_text width) (alt_lacks alt) (width_lacks width h)) (base_lacks base)

-- the hint text, where it is written
abbrev pub hint_option : Hint → Option (List ℕ)
hint_option Plain = None
hint_option Debug = Some (codes "?")
hint_option Ascii = Some (codes "a")
hint_option Micros = Some (codes "us")
hint_option Millis = Some (codes "ms")
hint_option (Radix base alt width) = Some (radix_text base alt width)
hint_option (Iso unit) = Some (iso_name unit)
hint_option (Clock unit) = Some (clock_name unit)
hint_option (Pad width) = Some (48 ∷ decimal width)

hint_is : (hint : Hint) → hint_part (hint_option hint) ≡ hint_text hint
hint_is Plain = refl
hint_is Debug = refl
hint_is Ascii = refl
hint_is Micros = refl
hint_is Millis = refl
hint_is (Radix base alt width) = refl
hint_is (Iso unit) = refl
hint_is (Clock unit) = refl
hint_is (Pad width) = refl

back_language : (mode : Mode) → language_of (back mode) ≡ language_of mode
back_language Strict = refl
back_language Lenient = refl
back_language StrictFull = refl
back_language LenientFull = refl

-- a hint other than Plain is spelled by some text
not_plain : (mode : Mode) (text : Option (List ℕ)) (hint : Hint) → SpellsHintPart mode text hint → (hint ≡ Plain → ⊥) → (t : List ℕ) × SpellsHint (language_of mode) t hint
not_plain mode None hint h n = absurd (n h)
not_plain mode (Some text) hint (inl h) n = (text, h)
not_plain mode (Some text) hint (inr (lenient, none, h)) n = absurd (n h)

hint_back : (mode : Mode) (text : Option (List ℕ)) (hint : Hint) → HintFits hint → SpellsHintPart mode text hint → SpellsHintPart (back mode) (hint_option hint) hint
hint_back mode text Plain f h = refl
hint_back mode text Debug f h = inl refl
hint_back mode text Ascii f h = inl refl
hint_back mode text Micros f h = inl refl
hint_back mode text Millis f h = inl refl
hint_back mode text (Radix base alt width) f h = inl (width_text width, width_spelled width f, append_assoc (alt_mark alt) (width_text width) (letter_of base ∷ []))
hint_back mode text (Iso unit) f h = let k = not_plain mode text (Iso unit) h (λ e. cc) in inl (back_language mode ∙ k.1.0, refl)
hint_back mode text (Clock unit) f h = let k = not_plain mode text (Clock unit) h (λ e. cc) in inl (back_language mode ∙ k.1.0, refl)
hint_back mode text (Pad width) f h = let k = not_plain mode text (Pad width) h (λ e. cc) in inl (back_language mode ∙ k.1.0, fill_spelled width f.0 f.1)

hint_lacks : (hint : Hint) → HintFits hint → Lacks 125 (hint_text hint)
hint_lacks Plain h = tt
hint_lacks Debug h = lacks_test 125 (codes ":?") refl
hint_lacks Ascii h = lacks_test 125 (codes ":a") refl
hint_lacks Micros h = lacks_test 125 (codes ":us") refl
hint_lacks Millis h = lacks_test 125 (codes ":ms") refl
hint_lacks (Radix base alt width) h = (refl, radix_lacks base alt width h)
hint_lacks (Iso iso.Seconds) h = lacks_test 125 (codes ":iso8601s") refl
hint_lacks (Iso iso.Millis) h = lacks_test 125 (codes ":iso8601ms") refl
hint_lacks (Clock clock.Seconds) h = lacks_test 125 (codes ":ts") refl
hint_lacks (Clock clock.Millis) h = lacks_test 125 (codes ":tms") refl
hint_lacks (Clock clock.Micros) h = lacks_test 125 (codes ":tus") refl
hint_lacks (Pad width) h = (refl, (refl, decimal_lacks 125 width (inr (omega arith)) (let k = h.1 in omega arith)))

-- ---- parameters

abbrev inside_text : Param → List ℕ
inside_text p = decimal p.position ++ (61 ∷ (kind_text p.kind ++ hint_text p.hint))

one_digit : (n : ℕ) (d : ℕ) (more : List ℕ) → n < 10 → decimal n ≡ 48 ∷ d ∷ more → ⊥
one_digit n d more h e = let k = decimal_digit n h in omega (arith, ap length (sym k ∙ e))

two_digits : (n : ℕ) (d : ℕ) (more : List ℕ) → 0 < n → n < 2 ^ 64 → decimal n ≡ 48 ∷ d ∷ more → ⊥
two_digits n d more some h e = let k = first_decimal n some h in let z : get_or (decimal n) 0 0 ≡ 48 = ap (λ (t : List ℕ). get_or t 0 0) e in omega (arith, k, z)

no_zero : (n : ℕ) → n ≤ 15 → HasLeadingZero (decimal n) → ⊥
no_zero zero h (d, more, e) = one_digit 0 d more (omega arith) e
no_zero (suc n) h (d, more, e) = two_digits (suc n) d more (omega arith) (omega arith) e

is_position : (n : ℕ) (ds : List ℕ) → IsDecimal ds n → IsPosition 0 ds n
is_position n [] h = absurd (omega (arith, h.some))
is_position n (d ∷ ds) h = h

no_number : (ds : List ℕ) → 0 < length ds → 0 ≡ next_number 0 ds
no_number [] h = absurd (omega arith)
no_number (d ∷ ds) h = refl

param_back : (mode : Mode) (next : ℕ) (inside : List ℕ) (p : Param) (after : ℕ) → SpellsParam mode next inside p after → SpellsParam (back mode) 0 (inside_text p) p 0
param_back mode next inside p after s =
    let f = param_fits mode next inside p after s in
    let digits = digits_decimal own p.position (let k = f.few in omega arith) in
    record {
      parts = record { digits = decimal p.position; kind = Some (kind_text p.kind); hint = hint_option p.hint };
      writes = record {
        digits = digits;
        no_leading_zero = no_zero p.position f.few;
        kind = (kind_lacks p.kind f.kind).0;
        text = ap (λ (t : List ℕ). decimal p.position ++ (61 ∷ (kind_text p.kind ++ t))) (sym (hint_is p.hint));
      };
      position = is_position p.position (decimal p.position) (decimal_is p.position (let k = f.few in omega arith));
      few = f.few;
      kind = subst (λ (language : Language). KindBack language p.kind) (sym (back_language mode)) (kind_back (language_of mode) s.parts.kind p.kind s.kind);
      hint = hint_back mode s.parts.hint p.hint f.hint s.hint;
      after_is = no_number (decimal p.position) (decimal_nonempty p.position (let k = f.few in omega arith));
    }

-- a parameter is within its ranges, and its spelling spells it
abbrev pub PieceBack : Mode → Piece → Type 0
PieceBack mode (pieces.Literal cs) = Unit {0}
PieceBack mode (pieces.Param p) = Fits p × SpellsParam (back mode) 0 (inside_text p) p 0

pieces_back : (mode : Mode) (size next : ℕ) (text : List ℕ) (ts : List Token) (after : ℕ) (rest : List ℕ) → SpellsTokens mode size next text ts after rest → AllByRecursion (PieceBack mode) (joined ts)
pieces_back mode = pieces_hold (PieceBack mode) mode (λ cs. tt) (λ next inside p after s. (param_fits mode next inside p after s, param_back mode next inside p after s))

-- ---- tokens

abbrev pub tokens_of : ℕ → List Piece → List Token
tokens_of size [] = []
tokens_of size (pieces.Literal cs ∷ ps) = map char cs ++ tokens_of size ps
tokens_of size (pieces.Param p ∷ ps) = hole (size - length (param_text p ++ printed ps)) p ∷ tokens_of size ps

literal_more : (mode : Mode) (c : ℕ) (cs rest : List ℕ) (b : Bool) → (eqb c 123 || eqb c 125) ≡ b → SpellsTokens mode 0 0 (doubled cs ++ rest) (map char cs) 0 rest → SpellsTokens mode 0 0 (cond b (c ∷ c ∷ doubled cs) (c ∷ doubled cs) ++ rest) (char c ∷ map char cs) 0 rest
literal_more mode c cs rest true e h = (0, doubled cs ++ rest, (refl, inr (is_brace c e, refl)), h)
literal_more mode c cs rest false e h = (0, doubled cs ++ rest, (refl, inl (is_plain c e, refl)), h)

literal_tokens : (mode : Mode) (cs rest : List ℕ) → SpellsTokens mode 0 0 (doubled cs ++ rest) (map char cs) 0 rest
literal_tokens mode [] rest = (refl, refl)
literal_tokens mode (c ∷ cs) rest = literal_more mode c cs rest (eqb c 123 || eqb c 125) refl (literal_tokens mode cs rest)

-- the size matters to parameters alone
chars_any_size : (mode : Mode) (size : ℕ) (cs : List ℕ) (text rest : List ℕ) → SpellsTokens mode 0 0 text (map char cs) 0 rest → SpellsTokens mode size 0 text (map char cs) 0 rest
chars_any_size mode size [] text rest h = h
chars_any_size mode size (c ∷ cs) text rest h =
    let z : h.0 ≡ 0 = h.2.0 in
    let more : SpellsTokens mode 0 0 h.1 (map char cs) 0 rest = subst (λ (n : ℕ). SpellsTokens mode 0 n h.1 (map char cs) 0 rest) z h.3 in
    (0, h.1, (refl, h.2.1), chars_any_size mode size cs h.1 rest more)

digits_first : (ds more : List ℕ) → all_ascii_digits ds ≡ true → 0 < length ds → behind 123 (ds ++ more) ≡ None
unfolding behind
digits_first [] more h some = absurd (omega arith)
digits_first (d ∷ ds) more h some = let k = tells_all_ascii_digits.parts d ds h in let e : eqb d 123 ≡ false = (let a = k.0.1 in grind (arith, nat_tests)) in rw e refl

hole_text : (p : Param) (rest : List ℕ) → param_text p ++ rest ≡ 123 ∷ (inside_text p ++ 125 ∷ rest)
hole_text p rest = simp append_assoc

digit_first : (n : ℕ) (more : List ℕ) → n < 2 ^ 64 → behind 123 (decimal n ++ more) ≡ None
digit_first n more h = digits_first (decimal n) more (digits_decimal own n h) (decimal_nonempty n h)

is_hole : (p : Param) (rest : List ℕ) → Fits p → IsHole (param_text p ++ rest) (inside_text p) rest
is_hole p rest f = record {
  text_is = hole_text p rest;
  no_open = digit_first p.position (61 ∷ (kind_text p.kind ++ hint_text p.hint)) (let k = f.few in omega arith);
  no_close = Lacks-append 125 (decimal p.position) (61 ∷ (kind_text p.kind ++ hint_text p.hint)) (decimal_lacks 125 p.position (inr (omega arith)) (let k = f.few in omega arith)) (refl, Lacks-append 125 (kind_text p.kind) (hint_text p.hint) (kind_lacks p.kind f.kind).1 (hint_lacks p.hint f.hint));
}

pub printed_tokens : (mode : Mode) (size : ℕ) (ps : List Piece) → AllByRecursion (PieceBack mode) ps → SpellsTokens (back mode) size 0 (printed ps) (tokens_of size ps) 0 []
printed_tokens mode size [] h = (refl, refl)
printed_tokens mode size (pieces.Literal cs ∷ ps) h = then_tokens (back mode) size 0 0 0 (doubled cs ++ printed ps) (printed ps) [] (map char cs) (tokens_of size ps) (chars_any_size (back mode) size cs (doubled cs ++ printed ps) (printed ps) (literal_tokens (back mode) cs (printed ps))) (printed_tokens mode size ps h.1)
printed_tokens mode size (pieces.Param p ∷ ps) h = (0, printed ps, (inside_text p, is_hole p (printed ps) h.0.0, h.0.1, refl), printed_tokens mode size ps h.1)

-- ---- the pieces again

no_literal_first : (size : ℕ) (ps : List Piece) → NoLiteralFirst ps → joined (tokens_of size ps) ≡ ps → NoLiteralFirst (joined (tokens_of size ps))
no_literal_first size ps h e = subst NoLiteralFirst (sym e) h

pub joined_tokens : (size : ℕ) (ps : List Piece) → NoRuns ps → joined (tokens_of size ps) ≡ ps
joined_tokens size [] h = refl
joined_tokens size (pieces.Literal [] ∷ ps) h = absurd h
joined_tokens size (pieces.Literal (c ∷ cs) ∷ ps) h =
    let e = joined_tokens size ps h.1 in
    joined_chars (c ∷ cs) (tokens_of size ps) (no_literal_first size ps h.0 e) ∙ ap (λ (qs : List Piece). qs ++ joined (tokens_of size ps)) (flushed_some c cs) ∙ ap (λ (qs : List Piece). pieces.Literal (c ∷ cs) ∷ qs) e
joined_tokens size (pieces.Param p ∷ ps) h = ap (λ (qs : List Piece). pieces.Param p ∷ qs) (joined_tokens size ps h)

-- ---- positions again

from_map : (o : Option Use) (p : Param) → option_map param_of_use o ≡ Some p → (u : Use) × (o ≡ Some u) × (u.param ≡ p)
from_map None p e = absurd cc
from_map (Some u) p e = (u, refl, same_Some u.param p e)

same_use : (us vs : List Use) (i : ℕ) (v : Use) → map param_of_use us ≡ map param_of_use vs → slice_get vs i ≡ Some v → (u : Use) × (slice_get us i ≡ Some u) × (u.param ≡ v.param)
same_use us vs i v e h =
    let k : option_map param_of_use (slice_get us i) ≡ Some v.param = sym (slice_get-map param_of_use us i) ∙ ap (λ (ps : List Param). slice_get ps i) e ∙ slice_get-map param_of_use vs i ∙ ap (option_map param_of_use) h in
    from_map (slice_get us i) v.param k

bits_same : (u v : Use) → u.param ≡ v.param → IsBits u.param.kind → IsBits v.param.kind
bits_same u v e b = subst (λ (p : Param). IsBits p.kind) e b

clash_same : (u v u' v' : Use) → u'.param ≡ u.param → v'.param ≡ v.param → Clash u v → Clash u' v'
clash_same u v u' v' e f c = record {
  position = ap (λ (p : Param). p.position) e ∙ c.position ∙ sym (ap (λ (p : Param). p.position) f);
  kind = λ k. c.kind (sym (ap (λ (p : Param). p.kind) e) ∙ k ∙ ap (λ (p : Param). p.kind) f);
  no_bits = λ a b. c.no_bits (bits_same u' u e a) (bits_same v' v f b);
}

pub clash_kept : (us vs : List Use) → map param_of_use us ≡ map param_of_use vs → NoClash us → NoClash vs
clash_kept us vs e n i j u v lt at_i at_j c =
    let a = same_use us vs i u e at_i in
    let b = same_use us vs j v e at_j in
    n i j a.0 b.0 lt a.1 b.1 (clash_same v u b.0 a.0 b.2 a.2 c)

pub gap_kept : (us vs : List Use) → map param_of_use us ≡ map param_of_use vs → NoGap us → NoGap vs
gap_kept us vs e n i v at_i position lt =
    let a = same_use us vs i v e at_i in
    let o = n i a.0 a.1 position (let k : a.0.param.position ≡ v.param.position = ap (λ (p : Param). p.position) a.2 in omega (arith, k)) in
    let b = same_use vs us o.0 o.1 (sym e) o.2 in
    (o.0, b.0, b.1, ap (λ (p : Param). p.position) b.2 ∙ o.3)

-- ---- all of it

pub spelled_again : (text : List ℕ) (mode : Mode) (ps : List Piece) → Spells text mode ps → Spells (printed ps) (back mode) ps
spelled_again text mode ps s =
    let each : AllByRecursion (PieceBack mode) ps = subst (AllByRecursion (PieceBack mode)) s.joins (pieces_back mode (length text) 0 text s.tokens s.after [] s.spelled) in
    let runs : NoRuns ps = subst NoRuns s.joins (joined_runs s.tokens) in
    let size = length (printed ps) in
    let again = joined_tokens size ps runs in
    let same : map param_of_use (uses_of s.tokens) ≡ map param_of_use (uses_of (tokens_of size ps)) = uses_params s.tokens ∙ ap params_of (s.joins ∙ sym again) ∙ sym (uses_params (tokens_of size ps)) in
    record {
      tokens = tokens_of size ps;
      after = 0;
      spelled = printed_tokens mode size ps each;
      joins = again;
      no_clash = clash_kept (uses_of s.tokens) (uses_of (tokens_of size ps)) same s.no_clash;
      no_gap = gap_kept (uses_of s.tokens) (uses_of (tokens_of size ps)) same s.no_gap;
    }

pub spelled_fully : (ps : List Piece) → AreSpelled ps → Spells (printed ps) StrictFull ps
spelled_fully ps (text, Strict, s) = spells_fully (printed ps) ps (spelled_again text Strict ps s)
spelled_fully ps (text, Lenient, s) = spells_fully (printed ps) ps (spelled_again text Lenient ps s)
spelled_fully ps (text, StrictFull, s) = spelled_again text StrictFull ps s
spelled_fully ps (text, LenientFull, s) = spelled_again text LenientFull ps s
