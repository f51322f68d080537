-- Parameters are within their ranges.
use Rattle.std.proofs.Common.{◌≡◌, ◌<◌, ◌≤◌, ℕ, zero, suc, get_or, length, Bool, true, false, cond, ltb, leb, ◌&&◌, List, [], ◌∷◌, map, Option, Some, None, Ok, Err, refl, sym, ap, subst, ◌∙◌, arith, inl, inr}
use Rattle.std.specs.List.{AllByRecursion}
use Rattle.std.specs.Fmt.{decimal}
use Rattle.std.specs.Str.Parse.{digits_value}
use Rattle.std.specs.Str.{bytes_eq}
use Rattle.std.proofs.lemmas.Bool.Decides.{nat_tests}
use Rattle.std.proofs.lemmas.Fmt.{decimal-digits_value, decimal_digit}
use Rattle.std.proofs.lemmas.Option.{same_Some}
use Rattle.defmt_grammar.specs.declared.fault.Mode.{Mode}
use Rattle.defmt_grammar.specs.declared.language.Language.{Language}
use Rattle.defmt_grammar.specs.declared.language.Language.TheVariants.{Base, Full}
use Rattle.defmt_grammar.specs.Language.{language_of}
use Rattle.defmt_grammar.specs.declared.kind.KindFault.TheVariants as kind_faults
use Rattle.defmt_grammar.specs.declared.kind.Kind.{Kind}
use Rattle.defmt_grammar.specs.declared.kind.Kind.TheVariants.{ByteArray, FormatArray, Bits}
use Rattle.defmt_grammar.specs.declared.hint.Hint.{Hint}
use Rattle.defmt_grammar.specs.declared.hint.Hint.TheVariants.{Plain, Debug, Radix, Ascii, Micros, Millis, Iso, Clock, Pad}
use Rattle.defmt_grammar.specs.declared.param.Param.{Param}
use Rattle.defmt_grammar.specs.declared.piece.Piece.{Piece}
use Rattle.defmt_grammar.specs.declared.piece.Piece.TheVariants as pieces
use Rattle.defmt_grammar.specs.Kind.{kind_names, at_word, named_kind, KindShape, named, float, array, format_array, bits, SpellsShape, kind_in_range}
use Rattle.defmt_grammar.specs.Cut.{behind, IsDecimal}
use Rattle.defmt_grammar.specs.Hint.{IsWidth, SpellsHint}
use Rattle.defmt_grammar.specs.Param.{SpellsKindPart, SpellsHintPart, SpellsParam}
use Rattle.defmt_grammar.specs.Grammar.{Token, char, hole, SpellsTokens, with_char, joined, uses_of}
use Rattle.defmt_grammar.specs.Slots.{params_of}
use Rattle.defmt_grammar.specs.Positions.{KindFits, HintFits, Fits, AllFit, param_of_use}
use Rattle.defmt_grammar.proofs.Cuts.{own, behind_again}
use Rattle.defmt_grammar.proofs.KindLaws.{okay}

-- ---- what fits

word_holds : (P : Kind → Type 0) (b : Bool) (k kind : Kind) (o : Option Kind) → P k → (o ≡ Some kind → P kind) → cond b (Some k) o ≡ Some kind → P kind
word_holds P true k kind o h f e = subst P (same_Some k kind e) h
word_holds P false k kind o h f e = f e

-- what holds of each kind of a table holds of the kind at a word
pub words_hold : (P : Kind → Type 0) (text : List ℕ) (es : List (List ℕ × Kind)) (kind : Kind) → AllByRecursion (λ e. P e.1) es → at_word text es ≡ Some kind → P kind
words_hold P text [] kind h e = absurd cc
words_hold P text (x ∷ xs) kind h e = word_holds P (bytes_eq text x.0) x.1 kind (at_word text xs) h.0 (words_hold P text xs kind h.1) e

names_fit : (language : Language) → AllByRecursion (λ e. KindFits e.1) (kind_names language)
names_fit Base = (tt, (tt, (tt, (tt, (tt, (tt, (tt, (tt, (tt, (tt, (tt, (tt, (tt, (tt, (tt, (tt, (tt, (tt, (tt, tt)))))))))))))))))))
names_fit Full = (tt, (tt, (tt, (tt, (tt, (tt, (tt, (tt, (tt, (tt, (tt, (tt, (tt, (tt, (tt, (tt, (tt, (tt, (tt, (tt, (tt, (tt, (tt, (tt, tt))))))))))))))))))))))))

named_fits : (language : Language) (text : List ℕ) (kind : Kind) → named_kind language text ≡ Some kind → KindFits kind
named_fits language text kind e = words_hold KindFits text (kind_names language) kind (names_fit language) e

pub ranged : (n : ℕ) (b : Bool) (f : ℕ → Kind) (kind : Kind) → leb n 65535 ≡ b → cond b (okay (f n)) (Err kind_faults.Range) ≡ Ok kind → (n ≤ 65535) × (f n ≡ kind)
ranged n true f kind e h = (grind (arith, nat_tests), cc)
ranged n false f kind e h = absurd cc

pub windowed : (lo hi : ℕ) (a b : Bool) (kind : Kind) → ltb lo hi ≡ a → leb hi 128 ≡ b → cond (a && b) (okay (Bits lo hi)) (Err kind_faults.Range) ≡ Ok kind → (lo < hi) × (hi ≤ 128) × (Bits lo hi ≡ kind)
windowed lo hi true true kind e f h = (grind (arith, nat_tests), grind (arith, nat_tests), cc)
windowed lo hi true false kind e f h = absurd cc
windowed lo hi false b kind e f h = absurd cc

shape_fits : (language : Language) (text : List ℕ) (shape : KindShape) (kind : Kind) → SpellsShape language text shape → kind_in_range shape ≡ okay kind → KindFits kind
shape_fits language text (named k) kind s h = let e : k ≡ kind = cc in subst KindFits e (named_fits language text k s)
shape_fits language text float kind s h = absurd cc
shape_fits language text (array n) kind s h = let k = ranged n (leb n 65535) ByteArray kind refl h in subst KindFits k.1 k.0
shape_fits language text (format_array n) kind s h = let k = ranged n (leb n 65535) FormatArray kind refl h in subst KindFits k.1 k.0
shape_fits language text (bits lo hi) kind s h = let k = windowed lo hi (ltb lo hi) (leb hi 128) kind refl refl h in subst KindFits k.2 (k.0, k.1)

kind_fits : (language : Language) (text : Option (List ℕ)) (kind : Kind) → SpellsKindPart language text kind → KindFits kind
kind_fits language None kind h = subst KindFits (sym h) tt
kind_fits language (Some text) kind (shape, s, h) = shape_fits language text shape kind s h

width_fits : (mark : List ℕ) (width : ℕ) → IsWidth mark width → width ≤ 255
width_fits mark width (inl (e, z)) = omega (arith, z)
width_fits mark width (inr (digits, e, first, short, d, le)) = le

at_zero : (c : ℕ) (xs : List ℕ) → 0 < length xs → get_or xs 0 0 ≡ c → behind c xs ≡ None → ⊥
at_zero c [] some e h = omega (arith, some)
at_zero c (x ∷ xs) some e h = let k : behind c (x ∷ xs) ≡ Some xs = ap (λ (y : ℕ). behind c (y ∷ xs)) e ∙ behind_again c xs in cc

-- the number of digits that begin with no zero isn't 0
not_zero : (digits : List ℕ) (n : ℕ) → behind 48 digits ≡ None → IsDecimal digits n → 1 ≤ n
not_zero digits (suc n) first d = omega arith
not_zero digits zero first d =
    let same : decimal (digits_value 10 digits) ≡ digits = decimal-digits_value own digits d.digits d.some (λ z. absurd (at_zero 48 digits d.some z first)) (omega (arith, d.value)) in
    let is : digits ≡ 48 ∷ [] = sym same ∙ ap decimal d.value ∙ decimal_digit 0 (omega arith) in
    absurd (at_zero 48 digits d.some (ap (λ (ds : List ℕ). get_or ds 0 0) is) first)

spelled_hint_fits : (language : Language) (text : List ℕ) (hint : Hint) → SpellsHint language text hint → HintFits hint
spelled_hint_fits language text Plain h = tt
spelled_hint_fits language text Debug h = tt
spelled_hint_fits language text Ascii h = tt
spelled_hint_fits language text Micros h = tt
spelled_hint_fits language text Millis h = tt
spelled_hint_fits language text (Radix base alt width) (mark, w, e) = width_fits mark width w
spelled_hint_fits language text (Iso unit) h = tt
spelled_hint_fits language text (Clock unit) h = tt
spelled_hint_fits language text (Pad width) (full, (digits, e, first, short, d, le)) = (not_zero digits width first d, le)

hint_fits : (mode : Mode) (text : Option (List ℕ)) (hint : Hint) → SpellsHintPart mode text hint → HintFits hint
hint_fits mode None hint h = subst HintFits (sym h) tt
hint_fits mode (Some text) hint (inl h) = spelled_hint_fits (language_of mode) text hint h
hint_fits mode (Some text) hint (inr (lenient, n, h)) = subst HintFits (sym h) tt

pub param_fits : (mode : Mode) (next : ℕ) (inside : List ℕ) (p : Param) (after : ℕ) → SpellsParam mode next inside p after → Fits p
param_fits mode next inside p after s = record { few = s.few; kind = kind_fits (language_of mode) s.parts.kind p.kind s.kind; hint = hint_fits mode s.parts.hint p.hint s.hint }

abbrev pub PieceFits : Piece → Type 0
PieceFits (pieces.Literal cs) = Unit {0}
PieceFits (pieces.Param p) = Fits p

char_holds : (P : Piece → Type 0) → ((cs : List ℕ) → P (pieces.Literal cs)) → (c : ℕ) (ps : List Piece) → AllByRecursion P ps → AllByRecursion P (with_char c ps)
char_holds P literal c [] h = (literal (c ∷ []), tt)
char_holds P literal c (pieces.Literal cs ∷ ps) h = (literal (c ∷ cs), h.1)
char_holds P literal c (pieces.Param p ∷ ps) h = (literal (c ∷ []), h)

-- what holds of literals and of parameters that are spelled holds of all pieces
pub pieces_hold : (P : Piece → Type 0) (mode : Mode) → ((cs : List ℕ) → P (pieces.Literal cs)) → ((next : ℕ) (inside : List ℕ) (p : Param) (after : ℕ) → SpellsParam mode next inside p after → P (pieces.Param p)) → (size next : ℕ) (text : List ℕ) (ts : List Token) (after : ℕ) (rest : List ℕ) → SpellsTokens mode size next text ts after rest → AllByRecursion P (joined ts)
pieces_hold P mode literal param size next text [] after rest h = tt
pieces_hold P mode literal param size next text (char c ∷ ts) after rest h = char_holds P literal c (joined ts) (pieces_hold P mode literal param size h.0 h.1 ts after rest h.3)
pieces_hold P mode literal param size next text (hole at p ∷ ts) after rest h = (param next h.2.0 p h.0 h.2.2, pieces_hold P mode literal param size h.0 h.1 ts after rest h.3)

pub tokens_fit : (mode : Mode) (size next : ℕ) (text : List ℕ) (ts : List Token) (after : ℕ) (rest : List ℕ) → SpellsTokens mode size next text ts after rest → AllByRecursion PieceFits (joined ts)
tokens_fit mode = pieces_hold PieceFits mode (λ cs. tt) (param_fits mode)

pub uses_fit : (mode : Mode) (size next : ℕ) (text : List ℕ) (ts : List Token) (after : ℕ) (rest : List ℕ) → SpellsTokens mode size next text ts after rest → AllFit (uses_of ts)
uses_fit mode size next text [] after rest h = tt
uses_fit mode size next text (char c ∷ ts) after rest h = uses_fit mode size h.0 h.1 ts after rest h.3
uses_fit mode size next text (hole at p ∷ ts) after rest h = (param_fits mode next h.2.0 p h.0 h.2.2, uses_fit mode size h.0 h.1 ts after rest h.3)

-- ---- the parameters of pieces are those of the tokens

char_params : (c : ℕ) (ps : List Piece) → params_of (with_char c ps) ≡ params_of ps
char_params c [] = refl
char_params c (pieces.Literal cs ∷ ps) = refl
char_params c (pieces.Param p ∷ ps) = refl

pub uses_params : (ts : List Token) → map param_of_use (uses_of ts) ≡ params_of (joined ts)
uses_params [] = refl
uses_params (char c ∷ ts) = uses_params ts ∙ sym (char_params c (joined ts))
uses_params (hole at p ∷ ts) = ap (λ (ps : List Param). p ∷ ps) (uses_params ts)
