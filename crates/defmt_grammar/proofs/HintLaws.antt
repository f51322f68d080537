-- What is read as a hint is spelled so, and what is spelled so is read.
use Rattle.std.proofs.Common.{◌≡◌, ◌≤◌, ◌-◌, ◌^◌, ℕ, suc, Bool, true, false, cond, eqb, ltb, leb, ◌||◌, min, List, [], ◌∷◌, ◌++◌, length, option_map, ◌<◌, Option, Some, None, refl, sym, ap, subst, ◌∙◌, arith, inl, inr}
use Rattle.std.specs.Prelude.{codes, is_some}
use Rattle.std.specs.Str.{bytes_eq, all_ascii_digits}
use Rattle.std.proofs.lemmas.Bool.{eqb-true, ltb-false, le-ltb}
use Rattle.std.proofs.lemmas.Bool.Decides.{nat_tests}
use Rattle.std.proofs.lemmas.List.{nil_from_length}
use Rattle.std.proofs.lemmas.Option.{same_Some}
use Rattle.std.proofs.lemmas.Slice.Eq.{bytes_eq-Decides}
use Rattle.std.proofs.lemmas.Str.Parse.{tells_all_ascii_digits}
use Rattle.defmt_grammar.specs.declared.language.Language.{Language}
use Rattle.defmt_grammar.specs.declared.language.Language.TheVariants as languages
use Rattle.defmt_grammar.specs.declared.hint.Base.{Base}
use Rattle.defmt_grammar.specs.declared.hint.Base.TheVariants.{Hex, HexUpper, Binary, Octal}
use Rattle.defmt_grammar.specs.declared.hint.Hint.{Hint}
use Rattle.defmt_grammar.specs.declared.hint.Hint.TheVariants.{Plain, Debug, Radix, Ascii, Micros, Millis, Iso, Clock, Pad}
use Rattle.defmt_grammar.specs.declared.hint.IsoUnit.{IsoUnit}
use Rattle.defmt_grammar.specs.declared.hint.IsoUnit.TheVariants as iso
use Rattle.defmt_grammar.specs.declared.hint.ClockUnit.{ClockUnit}
use Rattle.defmt_grammar.specs.declared.hint.ClockUnit.TheVariants as clock
use Rattle.defmt_grammar.specs.Cut.{behind, before, number_of, IsDecimal}
use Rattle.defmt_grammar.specs.Kind.{at_word, ◌>>=◌, ◌or◌}
use Rattle.defmt_grammar.specs.Hint.{letter_of, IsFill, IsWidth, alt_mark, iso_name, clock_name, SpellsHint, named_hint, full_hint_names, fill_of, width_of, with_base, base_of, radix_at, radix_from, radix_of, full_hint, hint_of}
use Rattle.defmt_grammar.proofs.Cuts.{before_again, before_found, before_other, behind_again, behind_found, number_again, number_found}
use Rattle.defmt_grammar.proofs.KindLaws.{bind_some, guard_some, or_some, map_some}

guard_none : {A : Type 0} (b : Bool) (o : Option A) (y : A) → cond b None o ≡ Some y → (b ≡ false) × (o ≡ Some y)
guard_none true o y e = absurd cc
guard_none false o y e = (refl, e)

or_false : (a b : Bool) → (a || b) ≡ false → (a ≡ false) × (b ≡ false)
or_false true b e = absurd cc
or_false false b e = (refl, e)

none_from : {A : Type 0} (o : Option A) → is_some o ≡ false → o ≡ None
none_from None e = refl
none_from (Some x) e = absurd cc

pub fill_found : (text : List ℕ) (width : ℕ) → fill_of text ≡ Some width → IsFill text width
unfolding fill_of
fill_found text width h =
    let a = bind_some (behind 48 text) (λ digits. cond (is_some (behind 48 digits) || ltb 3 (length digits)) None (number_of digits >>= λ w. cond (leb w 255) (Some w) None)) width h in
    let b = guard_none (is_some (behind 48 a.0) || ltb 3 (length a.0)) (number_of a.0 >>= λ w. cond (leb w 255) (Some w) None) width a.2 in
    let c = or_false (is_some (behind 48 a.0)) (ltb 3 (length a.0)) b.0 in
    let d = bind_some (number_of a.0) (λ w. cond (leb w 255) (Some w) None) width b.1 in
    let e = guard_some (leb d.0 255) (Some d.0) width d.2 in
    let n = number_found a.0 d.0 d.1 in
    let same : d.0 ≡ width = same_Some d.0 width e.1 in
    let small : d.0 ≤ 255 = let k = e.0 in grind (arith, nat_tests) in
    let exact : n.0 ≡ width = omega (arith, n.2, same, small) in
    let short : length a.0 ≤ 3 = ltb-false 3 (length a.0) c.1 in
    (a.0, behind_found 48 text a.0 a.1, none_from (behind 48 a.0) c.0, short, subst (IsDecimal a.0) exact n.1, omega (arith, same, small))

width_test : (b : Bool) (text : List ℕ) (o : Option ℕ) (width : ℕ) → eqb (length text) 0 ≡ b → (o ≡ Some width → IsWidth text width) → cond b (Some 0) o ≡ Some width → IsWidth text width
width_test true text o width e f h = inl (nil_from_length text (eqb-true _ _ e), sym (same_Some 0 width h))
width_test false text o width e f h = f h

pub width_found : (text : List ℕ) (width : ℕ) → width_of text ≡ Some width → IsWidth text width
unfolding width_of
width_found text width h = width_test (eqb (length text) 0) text (fill_of text) width refl (λ e. inr (fill_found text width e)) h

pub fill_again : (text : List ℕ) (width : ℕ) → IsFill text width → fill_of text ≡ Some width
unfolding fill_of
fill_again text width (digits, e, first, short, decimal, small) =
    let s : ltb 3 (length digits) ≡ false = le-ltb 3 (length digits) short in
    let m : min width (2 ^ 32 - 1) ≡ width = omega arith in
    let l : leb width 255 ≡ true = grind (arith, nat_tests) in
    ap fill_of e ∙ rw (behind_again 48 digits, first, s, number_again digits width decimal, m, l) refl

pub width_again : (text : List ℕ) (width : ℕ) → IsWidth text width → width_of text ≡ Some width
unfolding width_of
width_again text width (inl (e, z)) = ap width_of e ∙ ap Some (sym z)
width_again text width (inr (digits, e, first, short, decimal, small)) =
    let z : eqb (suc (length digits)) 0 ≡ false = grind (arith, nat_tests) in
    ap width_of e ∙ rw z (fill_again (48 ∷ digits) width (digits, refl, first, short, decimal, small))

-- ---- bases

one_base : (base : Base) (o : Option (List ℕ)) (p : List ℕ × Base) (text : List ℕ) (c : ℕ) → c ≡ letter_of base → before c text ≡ o → with_base base o ≡ Some p → text ≡ p.0 ++ letter_of p.1 ∷ []
one_base base None p text c l e h = absurd cc
one_base base (Some width) p text c l e h = subst (λ (p : List ℕ × Base). text ≡ p.0 ++ letter_of p.1 ∷ []) (same_Some (width, base) p h) (before_found c text width e ∙ ap (λ (d : ℕ). width ++ d ∷ []) l)

pub base_found : (text : List ℕ) (p : List ℕ × Base) → base_of text ≡ Some p → text ≡ p.0 ++ letter_of p.1 ∷ []
unfolding base_of
base_found text p h =
    elim (or_some (with_base Hex (before 120 text) or with_base HexUpper (before 88 text) or with_base Binary (before 98 text)) (with_base Octal (before 111 text)) p h) [
      | inr e ↦ one_base Octal (before 111 text) p text 111 refl refl e
      | inl h ↦ elim (or_some (with_base Hex (before 120 text) or with_base HexUpper (before 88 text)) (with_base Binary (before 98 text)) p h) [
        | inr e ↦ one_base Binary (before 98 text) p text 98 refl refl e
        | inl h ↦ elim (or_some (with_base Hex (before 120 text)) (with_base HexUpper (before 88 text)) p h) [
          | inr e ↦ one_base HexUpper (before 88 text) p text 88 refl refl e
          | inl e ↦ one_base Hex (before 120 text) p text 120 refl refl e
        ]
      ]
    ]

pub base_again : (width : List ℕ) (base : Base) → base_of (width ++ letter_of base ∷ []) ≡ Some (width, base)
unfolding base_of
base_again width Hex = rw (before_again 120 width) refl
base_again width HexUpper = rw (before_other 120 88 width (λ e. omega (arith, e)), before_again 88 width) refl
base_again width Binary = rw (before_other 120 98 width (λ e. omega (arith, e)), before_other 88 98 width (λ e. omega (arith, e)), before_again 98 width) refl
base_again width Octal = rw (before_other 120 111 width (λ e. omega (arith, e)), before_other 88 111 width (λ e. omega (arith, e)), before_other 98 111 width (λ e. omega (arith, e)), before_again 111 width) refl

-- ---- radix

radix_at_found : (language : Language) (alt : Bool) (text : List ℕ) (hint : Hint) → radix_at alt text ≡ Some hint → SpellsHint language (alt_mark alt ++ text) hint
radix_at_found language alt text hint h =
    let a = bind_some (base_of text) (λ base. width_of base.0 >>= λ width. Some (Radix base.1 alt width)) hint h in
    let b = bind_some (width_of a.0.0) (λ width. Some (Radix a.0.1 alt width)) hint a.2 in
    subst (SpellsHint language (alt_mark alt ++ text)) (same_Some (Radix a.0.1 alt b.0) hint b.2) (a.0.0, width_found a.0.0 b.0 b.1, ap (λ (t : List ℕ). alt_mark alt ++ t) (base_found text a.0 a.1))

radix_from_found : (language : Language) (text : List ℕ) (o : Option (List ℕ)) (hint : Hint) → behind 35 text ≡ o → radix_from text o ≡ Some hint → SpellsHint language text hint
radix_from_found language text None hint e h = radix_at_found language false text hint h
radix_from_found language text (Some rest) hint e h = subst (λ (t : List ℕ). SpellsHint language t hint) (sym (behind_found 35 text rest e)) (radix_at_found language true rest hint h)

radix_at_again : (alt : Bool) (mark : List ℕ) (base : Base) (width : ℕ) → IsWidth mark width → radix_at alt (mark ++ letter_of base ∷ []) ≡ Some (Radix base alt width)
radix_at_again alt mark base width h = rw (base_again mark base, width_again mark width h) refl

-- a text that spells a radix hint without `#` begins with neither `#` nor is it a word
plain_start : (mark : List ℕ) (base : Base) (width : ℕ) → IsWidth mark width → (behind 35 (mark ++ letter_of base ∷ []) ≡ None) × (named_hint (mark ++ letter_of base ∷ []) ≡ None)
unfolding behind
plain_start mark Hex width (inl (e, z)) = (ap (λ (m : List ℕ). behind 35 (m ++ 120 ∷ [])) e, ap (λ (m : List ℕ). named_hint (m ++ 120 ∷ [])) e)
plain_start mark HexUpper width (inl (e, z)) = (ap (λ (m : List ℕ). behind 35 (m ++ 88 ∷ [])) e, ap (λ (m : List ℕ). named_hint (m ++ 88 ∷ [])) e)
plain_start mark Binary width (inl (e, z)) = (ap (λ (m : List ℕ). behind 35 (m ++ 98 ∷ [])) e, ap (λ (m : List ℕ). named_hint (m ++ 98 ∷ [])) e)
plain_start mark Octal width (inl (e, z)) = (ap (λ (m : List ℕ). behind 35 (m ++ 111 ∷ [])) e, ap (λ (m : List ℕ). named_hint (m ++ 111 ∷ [])) e)
plain_start mark base width (inr (digits, e, first, short, decimal, small)) = (ap (λ (m : List ℕ). behind 35 (m ++ letter_of base ∷ [])) e, ap (λ (m : List ℕ). named_hint (m ++ letter_of base ∷ [])) e)

-- ---- hints

words_spell : (language : Language) (text : List ℕ) (b : Bool) (word : List ℕ) (h : Hint) (o : Option Hint) (hint : Hint) → bytes_eq text word ≡ b → SpellsHint language word h → (o ≡ Some hint → SpellsHint language text hint) → cond b (Some h) o ≡ Some hint → SpellsHint language text hint
words_spell language text true word h o hint e spells k eq =
    let same : text ≡ word = (bytes_eq-Decides text word).0 e in
    subst (SpellsHint language text) (same_Some h hint eq) (subst (λ (t : List ℕ). SpellsHint language t h) (sym same) spells)
words_spell language text false word h o hint e spells k eq = k eq

named_hint_found : (language : Language) (text : List ℕ) (hint : Hint) → named_hint text ≡ Some hint → SpellsHint language text hint
named_hint_found language text hint h =
    words_spell language text _ (codes "") Plain _ hint refl refl
    (words_spell language text _ (codes "?") Debug _ hint refl refl
    (words_spell language text _ (codes "a") Ascii _ hint refl refl
    (words_spell language text _ (codes "us") Micros _ hint refl refl
    (words_spell language text _ (codes "ms") Millis _ hint refl refl (λ e. absurd cc))))) h

full_name_found : (text : List ℕ) (hint : Hint) → at_word text full_hint_names ≡ Some hint → SpellsHint languages.Full text hint
full_name_found text hint h =
    words_spell languages.Full text _ (codes "iso8601s") (Iso iso.Seconds) _ hint refl (refl, refl)
    (words_spell languages.Full text _ (codes "iso8601ms") (Iso iso.Millis) _ hint refl (refl, refl)
    (words_spell languages.Full text _ (codes "ts") (Clock clock.Seconds) _ hint refl (refl, refl)
    (words_spell languages.Full text _ (codes "tms") (Clock clock.Millis) _ hint refl (refl, refl)
    (words_spell languages.Full text _ (codes "tus") (Clock clock.Micros) _ hint refl (refl, refl) (λ e. absurd cc))))) h

full_found : (language : Language) (text : List ℕ) (hint : Hint) → full_hint language text ≡ Some hint → SpellsHint language text hint
unfolding full_hint
full_found languages.Base text hint h = absurd cc
full_found languages.Full text hint h =
    elim (or_some (at_word text full_hint_names) (option_map Pad (fill_of text)) hint h) [
      | inl e ↦ full_name_found text hint e
      | inr e ↦ let k = map_some Pad (fill_of text) hint e in subst (SpellsHint languages.Full text) k.2 (refl, fill_found text k.0 k.1)
    ]

pub hint_found : (language : Language) (text : List ℕ) (hint : Hint) → hint_of language text ≡ Some hint → SpellsHint language text hint
unfolding hint_of radix_of
hint_found language text hint h =
    elim (or_some (named_hint text or radix_from text (behind 35 text)) (full_hint language text) hint h) [
      | inr e ↦ full_found language text hint e
      | inl h ↦ elim (or_some (named_hint text) (radix_from text (behind 35 text)) hint h) [
        | inl e ↦ named_hint_found language text hint e
        | inr e ↦ radix_from_found language text (behind 35 text) hint refl e
      ]
    ]

-- no text of digits ends with a letter
ends_with_digit : (c : ℕ) (text : List ℕ) → 57 < c → all_ascii_digits text ≡ true → before c text ≡ None
unfolding before
ends_with_digit c [] lt h = refl
ends_with_digit c (x ∷ []) lt h = let k = tells_all_ascii_digits.parts x [] h in let e : eqb x c ≡ false = (let a = k.0.1 in grind (arith, nat_tests)) in rw e refl
ends_with_digit c (x ∷ y ∷ ys) lt h = let k = tells_all_ascii_digits.parts x (y ∷ ys) h in rw (ends_with_digit c (y ∷ ys) lt k.1) refl

no_base : (text : List ℕ) → all_ascii_digits text ≡ true → base_of text ≡ None
unfolding base_of
no_base text h = rw (ends_with_digit 120 text (omega arith) h, ends_with_digit 88 text (omega arith) h, ends_with_digit 98 text (omega arith) h, ends_with_digit 111 text (omega arith) h) refl

-- the first that is there
left_of : {A : Type 0} (o p : Option A) (x : A) → o ≡ Some x → (o or p) ≡ Some x
left_of o p x e = rw e refl

right_of : {A : Type 0} (o p : Option A) → o ≡ None → (o or p) ≡ p
right_of o p e = rw e refl

iso_again : (unit : IsoUnit) → hint_of languages.Full (iso_name unit) ≡ Some (Iso unit)
unfolding hint_of radix_of base_of behind before full_hint
iso_again iso.Seconds = refl
iso_again iso.Millis = refl

clock_again : (unit : ClockUnit) → hint_of languages.Full (clock_name unit) ≡ Some (Clock unit)
unfolding hint_of radix_of base_of behind before full_hint
clock_again clock.Seconds = refl
clock_again clock.Millis = refl
clock_again clock.Micros = refl

pad_again : (digits : List ℕ) (width : ℕ) → IsFill (48 ∷ digits) width → all_ascii_digits digits ≡ true → hint_of languages.Full (48 ∷ digits) ≡ Some (Pad width)
unfolding hint_of radix_of full_hint behind
pad_again digits width fill h = rw (no_base (48 ∷ digits) h, fill_again (48 ∷ digits) width fill) refl

pub hint_again : (language : Language) (text : List ℕ) (hint : Hint) → SpellsHint language text hint → hint_of language text ≡ Some hint
unfolding hint_of radix_of
hint_again language text Plain h = ap (hint_of language) h
hint_again language text Debug h = ap (hint_of language) h
hint_again language text Ascii h = ap (hint_of language) h
hint_again language text Micros h = ap (hint_of language) h
hint_again language text Millis h = ap (hint_of language) h
hint_again language text (Radix base true width) (mark, is_width, e) =
    let rest = mark ++ letter_of base ∷ [] in
    ap (hint_of language) e ∙ left_of (radix_from (35 ∷ rest) (behind 35 (35 ∷ rest))) (full_hint language (35 ∷ rest)) (Radix base true width) (rw (behind_again 35 rest) (radix_at_again true mark base width is_width))
hint_again language text (Radix base false width) (mark, is_width, e) =
    let s = plain_start mark base width is_width in
    let rest = mark ++ letter_of base ∷ [] in
    ap (hint_of language) e ∙ left_of (named_hint rest or radix_from rest (behind 35 rest)) (full_hint language rest) (Radix base false width) (rw (s.1, s.0) (radix_at_again false mark base width is_width))
hint_again language text (Iso unit) (full, e) = ap (hint_of language) e ∙ ap (λ (l : Language). hint_of l (iso_name unit)) full ∙ iso_again unit
hint_again language text (Clock unit) (full, e) = ap (hint_of language) e ∙ ap (λ (l : Language). hint_of l (clock_name unit)) full ∙ clock_again unit
hint_again language text (Pad width) (full, (digits, e, first, short, decimal, small)) =
    ap (hint_of language) e ∙ ap (λ (l : Language). hint_of l (48 ∷ digits)) full ∙ pad_again digits width (digits, refl, first, short, decimal, small) decimal.digits
