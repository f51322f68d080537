-- What is read as a kind is spelled so, and what is spelled so is read.
use Rattle.std.proofs.Common.{◌≡◌, ◌≢◌, ◌≤◌, ◌-◌, ◌^◌, ℕ, Bool, true, false, cond, eqb, ltb, leb, ◌&&◌, ◌||◌, min, List, [], ◌∷◌, ◌++◌, length, get_or, Option, Some, None, Result, Ok, Err, refl, sym, ap, ◌∙◌, arith, option_map, append_assoc, ◌⊎◌, inl, inr}
use Rattle.std.specs.Prelude.{codes}
use Rattle.std.specs.List.{list_all}
use Rattle.std.specs.Str.{bytes_eq}
use Rattle.std.proofs.lemmas.Bool.{cases_lt, eqb-true, ltb-true, and_parts}
use Rattle.std.proofs.lemmas.Bool.Decides.{nat_tests}
use Rattle.std.proofs.lemmas.List.{nil_from_length}
use Rattle.std.proofs.lemmas.Option.{same_Some}
use Rattle.std.proofs.lemmas.Slice.Eq.{bytes_eq-Decides}
use Rattle.std.proofs.lemmas.Str.Parse.{tells_all_ascii_digits}
use Rattle.defmt_grammar.specs.declared.language.Language.{Language}
use Rattle.defmt_grammar.specs.declared.language.Language.TheVariants.{Base, Full}
use Rattle.defmt_grammar.specs.declared.kind.KindFault.{KindFault}
use Rattle.defmt_grammar.specs.declared.kind.KindFault.TheVariants.{Unknown, Range, Float}
use Rattle.defmt_grammar.specs.declared.kind.Kind.{Kind}
use Rattle.defmt_grammar.specs.declared.kind.Kind.TheVariants.{ByteArray, FormatArray, Bits}
use Rattle.defmt_grammar.specs.Cut.{cut, behind, strip, skip_spaces, number_of, IsDecimal}
use Rattle.defmt_grammar.specs.Kind.{kind_names, full_kind_names, at_word, named_kind, is_left_out, KindShape, named, float, array, format_array, bits, IsCounted, SpellsShape, kind_in_range, SpellsKind, HasKindFault, ◌>>=◌, ◌or◌, count_of, bits_of, shape_of, kind_read, kind_of}
use Rattle.defmt_grammar.proofs.Cuts.{Lacks-append, Lacks-digits, Lacks-spaces, cut_again, cut_found, strip_again, strip_found, behind_again, behind_found, skip_again, skip_found, skip_digits, number_again, number_found}

pub bind_some : {A B : Type 0} (o : Option A) (f : A → Option B) (y : B) → (o >>= f) ≡ Some y → (x : A) × (o ≡ Some x) × (f x ≡ Some y)
bind_some (Some x) f y e = (x, refl, e)
bind_some None f y e = absurd cc

pub guard_some : {A : Type 0} (b : Bool) (o : Option A) (y : A) → cond b o None ≡ Some y → (b ≡ true) × (o ≡ Some y)
guard_some true o y e = (refl, e)
guard_some false o y e = absurd cc

-- ---- counts

pub count_found : (front text : List ℕ) (n : ℕ) → count_of front text ≡ Some n → (m : ℕ) × IsCounted front text m × (n ≡ min m (2 ^ 32 - 1))
unfolding count_of
count_found front text n h =
    let a = bind_some (strip front text) (λ rest. cut 93 rest >>= λ parts. cond (eqb (length parts.1) 0) (number_of (skip_spaces parts.0)) None) n h in
    let b = bind_some (cut 93 a.0) (λ parts. cond (eqb (length parts.1) 0) (number_of (skip_spaces parts.0)) None) n a.2 in
    let g = guard_some (eqb (length b.0.1) 0) (number_of (skip_spaces b.0.0)) n b.2 in
    let nothing : b.0.1 ≡ [] = nil_from_length b.0.1 (eqb-true _ _ g.0) in
    let sp = skip_found b.0.0 in
    let num = number_found (skip_spaces b.0.0) n g.1 in
    let whole : a.0 ≡ sp.0 ++ (skip_spaces b.0.0 ++ 93 ∷ []) = (cut_found 93 a.0 b.0 b.1).0 ∙ ap (λ (r : List ℕ). b.0.0 ++ 93 ∷ r) nothing ∙ ap (λ (r : List ℕ). r ++ 93 ∷ []) sp.2 ∙ append_assoc sp.0 (skip_spaces b.0.0) (93 ∷ []) in
    (num.0, (sp.0, skip_spaces b.0.0, sp.1, num.1, strip_found front text a.0 a.1 ∙ ap (λ (r : List ℕ). front ++ r) whole), num.2)

pub count_again : (front text : List ℕ) (n : ℕ) → IsCounted front text n → count_of front text ≡ Some (min n (2 ^ 32 - 1))
unfolding count_of
count_again front text n (sp, ds, spaces, digits, e) =
    let regrouped : sp ++ (ds ++ 93 ∷ []) ≡ (sp ++ ds) ++ 93 ∷ [] = sym (append_assoc sp ds (93 ∷ [])) in
    let lacks = Lacks-append 93 sp ds (Lacks-spaces 93 sp (λ e. omega (arith, e)) spaces) (Lacks-digits 93 ds (inr (omega arith)) digits.digits) in
    ap (count_of front) (e ∙ ap (λ (r : List ℕ). front ++ r) regrouped) ∙ rw (strip_again front ((sp ++ ds) ++ 93 ∷ []), cut_again 93 (sp ++ ds) [] lacks, skip_again sp ds spaces (skip_digits ds digits.digits)) (number_again ds n digits)

-- ---- bits

pub bits_found : (language : Language) (text : List ℕ) (p : ℕ × ℕ) → bits_of text ≡ Some p → (lo : ℕ) × (hi : ℕ) × SpellsShape language text (bits lo hi) × (p ≡ (min lo (2 ^ 32 - 1), min hi (2 ^ 32 - 1)))
unfolding bits_of
bits_found language text p h =
    let a = bind_some (cut 46 text) (λ parts. number_of parts.0 >>= λ lo. behind 46 parts.1 >>= λ rest. number_of rest >>= λ hi. Some (lo, hi)) p h in
    let b = bind_some (number_of a.0.0) (λ lo. behind 46 a.0.1 >>= λ rest. number_of rest >>= λ hi. Some (lo, hi)) p a.2 in
    let c = bind_some (behind 46 a.0.1) (λ rest. number_of rest >>= λ hi. Some (b.0, hi)) p b.2 in
    let d = bind_some (number_of c.0) (λ hi. Some (b.0, hi)) p c.2 in
    let lo = number_found a.0.0 b.0 b.1 in
    let hi = number_found c.0 d.0 d.1 in
    let whole : text ≡ a.0.0 ++ 46 ∷ (46 ∷ c.0) = (cut_found 46 text a.0 a.1).0 ∙ ap (λ (r : List ℕ). a.0.0 ++ 46 ∷ r) (behind_found 46 a.0.1 c.0 c.1) in
    (lo.0, hi.0, (a.0.0, c.0, lo.1, hi.1, whole), sym (same_Some _ _ d.2) ∙ ap (λ (x : ℕ). (x, d.0)) lo.2 ∙ ap (λ (x : ℕ). (min lo.0 (2 ^ 32 - 1), x)) hi.2)

pub bits_again : (language : Language) (text : List ℕ) (lo hi : ℕ) → SpellsShape language text (bits lo hi) → bits_of text ≡ Some (min lo (2 ^ 32 - 1), min hi (2 ^ 32 - 1))
unfolding bits_of
bits_again language text lo hi (low, high, l, h, e) =
    ap bits_of e ∙ rw (cut_again 46 low (46 ∷ high) (Lacks-digits 46 low (inl (omega arith)) l.digits), number_again low lo l, behind_again 46 high, number_again high hi h) refl

-- ---- shapes

-- with numbers of 32 bits
abbrev pub capped : KindShape → KindShape
capped (named kind) = named kind
capped float = float
capped (array n) = array (min n (2 ^ 32 - 1))
capped (format_array n) = format_array (min n (2 ^ 32 - 1))
capped (bits lo hi) = bits (min lo (2 ^ 32 - 1)) (min hi (2 ^ 32 - 1))

pub or_some : {A : Type 0} (o p : Option A) (y : A) → (o or p) ≡ Some y → (o ≡ Some y) ⊎ (p ≡ Some y)
or_some None p y e = inr e
or_some (Some x) p y e = inl e

pub map_some : {A B : Type 0} (f : A → B) (o : Option A) (y : B) → option_map f o ≡ Some y → (x : A) × (o ≡ Some x) × (f x ≡ y)
map_some f (Some x) y e = (x, refl, same_Some (f x) y e)
map_some f None y e = absurd cc

either_word : (text a b : List ℕ) (p q : Bool) → bytes_eq text a ≡ p → bytes_eq text b ≡ q → (p || q) ≡ true → (text ≡ a) ⊎ (text ≡ b)
either_word text a b true q e f h = inl ((bytes_eq-Decides text a).0 e)
either_word text a b false true e f h = inr ((bytes_eq-Decides text b).0 f)
either_word text a b false false e f h = absurd cc

abbrev Found : Language → List ℕ → KindShape → Type 0
Found language text shape = (s : KindShape) × SpellsShape language text s × (capped s ≡ shape)

named_found : (language : Language) (text : List ℕ) (shape : KindShape) → option_map named (named_kind language text) ≡ Some shape → Found language text shape
named_found language text shape h = let k = map_some named (named_kind language text) shape h in (named k.0, k.1, k.2)

float_found : (language : Language) (text : List ℕ) (shape : KindShape) → cond (is_left_out language text) (Some float) None ≡ Some shape → Found language text shape
float_found Full text shape h = absurd cc
float_found Base text shape h =
    let g = guard_some (bytes_eq text (codes "f32") || bytes_eq text (codes "f64")) (Some float) shape h in
    (float, either_word text (codes "f32") (codes "f64") _ _ refl refl g.0, same_Some _ _ g.1)

array_found : (language : Language) (text : List ℕ) (shape : KindShape) → option_map array (count_of (codes "[u8;") text) ≡ Some shape → Found language text shape
array_found language text shape h = let k = map_some array (count_of (codes "[u8;") text) shape h in let c = count_found (codes "[u8;") text k.0 k.1 in (array c.0, c.1, ap array (sym c.2) ∙ k.2)

format_array_found : (language : Language) (text : List ℕ) (shape : KindShape) → option_map format_array (count_of (codes "[?;") text) ≡ Some shape → Found language text shape
format_array_found language text shape h = let k = map_some format_array (count_of (codes "[?;") text) shape h in let c = count_found (codes "[?;") text k.0 k.1 in (format_array c.0, c.1, ap format_array (sym c.2) ∙ k.2)

bits_shape_found : (language : Language) (text : List ℕ) (shape : KindShape) → option_map (λ (p : ℕ × ℕ). bits p.0 p.1) (bits_of text) ≡ Some shape → Found language text shape
bits_shape_found language text shape h = let k = map_some (λ (p : ℕ × ℕ). bits p.0 p.1) (bits_of text) shape h in let c = bits_found language text k.0 k.1 in (bits c.0 c.1, c.2, sym (ap (λ (p : ℕ × ℕ). bits p.0 p.1) c.3) ∙ k.2)

abbrev named_of : Language → List ℕ → Option KindShape
named_of language text = option_map named (named_kind language text)

abbrev float_of : Language → List ℕ → Option KindShape
float_of language text = cond (is_left_out language text) (Some float) None

pub shape_found : (language : Language) (text : List ℕ) (shape : KindShape) → shape_of language text ≡ Some shape → Found language text shape
unfolding shape_of
shape_found language text shape h =
    elim (or_some (named_of language text or float_of language text or option_map array (count_of (codes "[u8;") text) or option_map format_array (count_of (codes "[?;") text)) (option_map (λ (p : ℕ × ℕ). bits p.0 p.1) (bits_of text)) shape h) [
      | inr e ↦ bits_shape_found language text shape e
      | inl h ↦ elim (or_some (named_of language text or float_of language text or option_map array (count_of (codes "[u8;") text)) (option_map format_array (count_of (codes "[?;") text)) shape h) [
        | inr e ↦ format_array_found language text shape e
        | inl h ↦ elim (or_some (named_of language text or float_of language text) (option_map array (count_of (codes "[u8;") text)) shape h) [
          | inr e ↦ array_found language text shape e
          | inl h ↦ elim (or_some (named_of language text) (float_of language text) shape h) [
            | inr e ↦ float_found language text shape e
            | inl e ↦ named_found language text shape e
          ]
        ]
      ]
    ]

-- no word of the table begins with a digit
differ : (d x : ℕ) → d ≤ 57 → ltb 57 x ≡ true → eqb d x ≡ false
differ d x low h = let n : d ≢ x = λ e. omega (arith, ltb-true 57 x h, e) in grind (arith, nat_tests)

no_word : (d : ℕ) (ds : List ℕ) (es : List (List ℕ × Kind)) → d ≤ 57 → list_all (λ e. ltb 57 (get_or e.0 0 0)) es ≡ true → at_word (d ∷ ds) es ≡ None
no_word d ds [] low h = refl
no_word d ds (([], kind) ∷ es) low h = no_word d ds es low (and_parts (ltb 57 0) _ h).1
no_word d ds ((x ∷ xs, kind) ∷ es) low h = let k = and_parts (ltb 57 x) _ h in rw (differ d x low k.0) (no_word d ds es low k.1)

begin_late : (language : Language) → list_all (λ e. ltb 57 (get_or e.0 0 0)) (kind_names language) ≡ true
begin_late Base = refl
begin_late Full = refl

begins_with_digit : (ds : List ℕ) (n : ℕ) → IsDecimal ds n → (d : ℕ) × (rest : List ℕ) × (ds ≡ d ∷ rest) × (d ≤ 57) × (48 ≤ d)
begins_with_digit [] n h = absurd (omega (arith, h.some))
begins_with_digit (d ∷ rest) n h = let k = tells_all_ascii_digits.parts d rest h.digits in (d, rest, refl, k.0.1, k.0.0)

third : (a b c d e : Option KindShape) (s : KindShape) → a ≡ None → b ≡ None → c ≡ Some s → (a or b or c or d or e) ≡ Some s
third a b c d e s p q r = rw (p, q, r) refl

fourth : (a b c d e : Option KindShape) (s : KindShape) → a ≡ None → b ≡ None → c ≡ None → d ≡ Some s → (a or b or c or d or e) ≡ Some s
fourth a b c d e s p q r t = rw (p, q, r, t) refl

fifth : (a b c d e : Option KindShape) (s : KindShape) → a ≡ None → b ≡ None → c ≡ None → d ≡ None → e ≡ Some s → (a or b or c or d or e) ≡ Some s
fifth a b c d e s p q r t u = rw (p, q, r, t, u) refl

other_front : (rest : List ℕ) → count_of (codes "[u8;") (codes "[?;" ++ rest) ≡ None
unfolding count_of strip
other_front rest = refl

digit_front : (front : List ℕ) (d : ℕ) (rest : List ℕ) → d ≤ 57 → count_of (91 ∷ front) (d ∷ rest) ≡ None
unfolding count_of strip
digit_front front d rest low = rw (differ d 91 low refl) refl

digit_float : (language : Language) (d : ℕ) (rest : List ℕ) → d ≤ 57 → float_of language (d ∷ rest) ≡ None
digit_float Base d rest low = rw (differ d 102 low refl) refl
digit_float Full d rest low = refl

-- no word of the full language alone begins with a bracket
bracket_word : (language : Language) (rest : List ℕ) → at_word (91 ∷ rest) (full_kind_names language) ≡ None
bracket_word Base rest = refl
bracket_word Full rest = refl

bracket_float : (language : Language) (rest : List ℕ) → float_of language (91 ∷ rest) ≡ None
bracket_float Base rest = refl
bracket_float Full rest = refl

array_named : (language : Language) (rest : List ℕ) → named_of language (codes "[u8;" ++ rest) ≡ None
array_named language rest = ap (option_map named) (bracket_word language (codes "u8;" ++ rest))

format_array_named : (language : Language) (rest : List ℕ) → named_of language (codes "[?;" ++ rest) ≡ None
format_array_named language rest = ap (option_map named) (bracket_word language (codes "?;" ++ rest))

float_again : (language : Language) (text : List ℕ) → SpellsShape language text float → shape_of language text ≡ Some float
unfolding shape_of
float_again Base text (inl e) = ap (shape_of Base) e
float_again Base text (inr e) = ap (shape_of Base) e
float_again Full text h = absurd h

pub shape_again : (language : Language) (text : List ℕ) (shape : KindShape) → SpellsShape language text shape → shape_of language text ≡ Some (capped shape)
unfolding shape_of
shape_again language text (named kind) h = rw h refl
shape_again language text float h = float_again language text h
shape_again language text (array n) h =
    let rest = h.0 ++ (h.1 ++ codes "]") in
    let e : text ≡ codes "[u8;" ++ rest = h.4 in
    let c : option_map array (count_of (codes "[u8;") text) ≡ Some (capped (array n)) = ap (option_map array) (count_again (codes "[u8;") text n h) in
    third (named_of language text) (float_of language text) (option_map array (count_of (codes "[u8;") text)) (option_map format_array (count_of (codes "[?;") text)) (option_map (λ (p : ℕ × ℕ). bits p.0 p.1) (bits_of text)) (capped (array n))
    (ap (named_of language) e ∙ array_named language rest)
    (ap (float_of language) e ∙ bracket_float language (codes "u8;" ++ rest))
    c
shape_again language text (format_array n) h =
    let rest = h.0 ++ (h.1 ++ codes "]") in
    let e : text ≡ codes "[?;" ++ rest = h.4 in
    let b : option_map array (count_of (codes "[u8;") text) ≡ None = ap (λ (t : List ℕ). option_map array (count_of (codes "[u8;") t)) e ∙ ap (option_map array) (other_front rest) in
    let c : option_map format_array (count_of (codes "[?;") text) ≡ Some (capped (format_array n)) = ap (option_map format_array) (count_again (codes "[?;") text n h) in
    fourth (named_of language text) (float_of language text) (option_map array (count_of (codes "[u8;") text)) (option_map format_array (count_of (codes "[?;") text)) (option_map (λ (p : ℕ × ℕ). bits p.0 p.1) (bits_of text)) (capped (format_array n))
    (ap (named_of language) e ∙ format_array_named language rest)
    (ap (float_of language) e ∙ bracket_float language (codes "?;" ++ rest))
    b c
shape_again language text (bits lo hi) h =
    let f = ap (option_map (λ (p : ℕ × ℕ). bits p.0 p.1)) (bits_again language text lo hi h) in
    let d = begins_with_digit h.0 lo h.2 in
    let rest = d.1 ++ (46 ∷ (46 ∷ h.1)) in
    let e : text ≡ d.0 ∷ rest = h.4 ∙ ap (λ (r : List ℕ). r ++ (46 ∷ (46 ∷ h.1))) d.2 in
    fifth (named_of language text) (float_of language text) (option_map array (count_of (codes "[u8;") text)) (option_map format_array (count_of (codes "[?;") text)) (option_map (λ (p : ℕ × ℕ). bits p.0 p.1) (bits_of text)) (capped (bits lo hi))
    (ap (named_of language) e ∙ ap (option_map named) (no_word d.0 rest (kind_names language) d.3 (begin_late language)))
    (ap (float_of language) e ∙ digit_float language d.0 rest d.3)
    (ap (λ (t : List ℕ). option_map array (count_of (codes "[u8;") t)) e ∙ ap (option_map array) (digit_front (codes "u8;") d.0 rest d.3))
    (ap (λ (t : List ℕ). option_map format_array (count_of (codes "[?;") t)) e ∙ ap (option_map format_array) (digit_front (codes "?;") d.0 rest d.3))
    f

and_false : (b : Bool) → (b && false) ≡ false
and_false true = refl
and_false false = refl

in_range_one : (n : ℕ) (f : ℕ → Kind) → cond (leb (min n (2 ^ 32 - 1)) 65535) (Ok (f (min n (2 ^ 32 - 1)))) (Err Range) ≡ cond (leb n 65535) (Ok (f n)) (Err Range)
in_range_one n f = elim (cases_lt n 65536) [
  | inl lt ↦ let same : min n (2 ^ 32 - 1) ≡ n = omega arith in rw same refl
  | inr le ↦
      let a : leb n 65535 ≡ false = grind (arith, nat_tests) in
      let b : leb (min n (2 ^ 32 - 1)) 65535 ≡ false = grind (arith, nat_tests) in
      rw (a, b) refl
]

pub capped_in_range : (shape : KindShape) → kind_in_range (capped shape) ≡ kind_in_range shape
capped_in_range (named kind) = refl
capped_in_range float = refl
capped_in_range (array n) = in_range_one n ByteArray
capped_in_range (format_array n) = in_range_one n FormatArray
capped_in_range (bits lo hi) = elim (cases_lt hi 129) [
  | inl lt ↦ elim (cases_lt lo hi) [
    | inl less ↦ let a : min lo (2 ^ 32 - 1) ≡ lo = omega arith in let b : min hi (2 ^ 32 - 1) ≡ hi = omega arith in rw (a, b) refl
    | inr le ↦
        let a : ltb lo hi ≡ false = grind (arith, nat_tests) in
        let b : ltb (min lo (2 ^ 32 - 1)) (min hi (2 ^ 32 - 1)) ≡ false = grind (arith, nat_tests) in
        rw (a, b) refl
  ]
  | inr le ↦
      let a : leb hi 128 ≡ false = grind (arith, nat_tests) in
      let b : leb (min hi (2 ^ 32 - 1)) 128 ≡ false = grind (arith, nat_tests) in
      rw (a, b, and_false (ltb (min lo (2 ^ 32 - 1)) (min hi (2 ^ 32 - 1))), and_false (ltb lo hi)) refl
]

-- ---- kinds

abbrev pub okay : Kind → Result Kind KindFault
okay kind = Ok kind

found_of : (language : Language) (text : List ℕ) (kind : Kind) (o : Option KindShape) → shape_of language text ≡ o → kind_read o ≡ okay kind → SpellsKind language text kind
found_of language text kind None e h = absurd cc
found_of language text kind (Some shape) e h = let k = shape_found language text shape e in (k.0, k.1, sym (capped_in_range k.0) ∙ ap kind_in_range k.2 ∙ h)

not_either : (b : Bool) (kind : Kind) → cond b (okay kind) (Err Range) ≡ Err Unknown → ⊥
not_either true kind h = cc
not_either false kind h = cc

not_unknown : (shape : KindShape) → kind_in_range shape ≡ Err Unknown → ⊥
not_unknown (named kind) h = cc
not_unknown float h = cc
not_unknown (array n) h = not_either (leb n 65535) (ByteArray n) h
not_unknown (format_array n) h = not_either (leb n 65535) (FormatArray n) h
not_unknown (bits lo hi) h = not_either (ltb lo hi && leb hi 128) (Bits lo hi) h

fault_of : (language : Language) (text : List ℕ) (fault : KindFault) (o : Option KindShape) → shape_of language text ≡ o → kind_read o ≡ Err fault → HasKindFault language text fault
fault_of language text Unknown None e h = λ shape spells. let k = shape_again language text shape spells in absurd cc
fault_of language text Range None e h = absurd cc
fault_of language text Float None e h = absurd cc
fault_of language text Unknown (Some shape) e h = absurd (not_unknown shape h)
fault_of language text Range (Some shape) e h = let k = shape_found language text shape e in (k.0, k.1, sym (capped_in_range k.0) ∙ ap kind_in_range k.2 ∙ h)
fault_of language text Float (Some shape) e h = let k = shape_found language text shape e in (k.0, k.1, sym (capped_in_range k.0) ∙ ap kind_in_range k.2 ∙ h)

unknown_of : (language : Language) (text : List ℕ) (o : Option KindShape) → shape_of language text ≡ o → HasKindFault language text Unknown → kind_read o ≡ Err Unknown
unknown_of language text None e h = refl
unknown_of language text (Some shape) e h = let k = shape_found language text shape e in absurd (h k.0 k.1)

pub kind_found : (language : Language) (text : List ℕ) (kind : Kind) → kind_of language text ≡ okay kind → SpellsKind language text kind
unfolding kind_of
kind_found language text kind h = found_of language text kind (shape_of language text) refl h

pub kind_again : (language : Language) (text : List ℕ) (kind : Kind) → SpellsKind language text kind → kind_of language text ≡ okay kind
unfolding kind_of
kind_again language text kind (shape, spells, e) = ap kind_read (shape_again language text shape spells) ∙ capped_in_range shape ∙ e

pub fault_found : (language : Language) (text : List ℕ) (fault : KindFault) → kind_of language text ≡ Err fault → HasKindFault language text fault
unfolding kind_of
fault_found language text fault h = fault_of language text fault (shape_of language text) refl h

pub fault_again : (language : Language) (text : List ℕ) (fault : KindFault) → HasKindFault language text fault → kind_of language text ≡ Err fault
unfolding kind_of
fault_again language text Unknown h = unknown_of language text (shape_of language text) refl h
fault_again language text Range (shape, spells, e) = ap kind_read (shape_again language text shape spells) ∙ capped_in_range shape ∙ e
fault_again language text Float (shape, spells, e) = ap kind_read (shape_again language text shape spells) ∙ capped_in_range shape ∙ e
