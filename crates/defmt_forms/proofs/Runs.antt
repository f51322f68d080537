-- A front of a text that stands for itself.
use Rattle.std.proofs.Common.{◌≡◌, ◌<◌, ◌+◌, ◌==◌, ◌&&◌, ℕ, Bool, true, false, not, List, [], ◌∷◌, ◌++◌, cond, length, take, drop, get_or, refl, sym, ◌∙◌, ap, arith}
use Rattle.std.specs.Prelude.{nat_le, nat_lt, slice_index}
use Rattle.std.specs.List.{list_all}
use Rattle.std.proofs.lemmas.Bool.{and_parts, eqb-false, false≢true, le-leb, ltb-false}
use Rattle.std.proofs.lemmas.List.{append-nil, append_assoc, drop_more, take_more}
use Rattle.std.proofs.lemmas.List.Folds.{list_all-append}
use Rattle.json.proofs.Printed.Strings.{escape_byte_plain}
use Rattle.json.specs.Print.{escape}
use Rattle.defmt_forms.specs.Tamed.{Tames, begins_upper, is_bare, is_plain}
use Rattle.defmt_forms.specs.Terminal.{is_control, is_upper_control, tame, tame_byte, tamed}

-- by a function on texts so many bytes at the front stand for themselves
abbrev pub Stands : (List ℕ → List ℕ) → List ℕ → ℕ → Type 0
Stands f text i = f text ≡ take i text ++ f (drop i text)

-- and one byte more
pub one_more : (f : List ℕ → List ℕ) (text : List ℕ) (i : ℕ) → i < length text → f (get_or text i 0 ∷ drop (i + 1) text) ≡ get_or text i 0 ∷ f (drop (i + 1) text)
    → Stands f text i → Stands f text (i + 1)
one_more f text i within plain so =
    so ∙ ap (λ (l : List ℕ). take i text ++ f l) (drop_more text i 0 within) ∙ ap (λ (l : List ℕ). take i text ++ l) plain
    ∙ sym (append_assoc (take i text) (get_or text i 0 ∷ []) (f (drop (i + 1) text)))
    ∙ ap (λ (l : List ℕ). l ++ f (drop (i + 1) text)) (sym (take_more text i 0 within))

and_true : (b : Bool) → (b && true) ≡ b
and_true true = refl
and_true false = refl

-- a test that each byte so far passes, and of one byte more
pub test_more : (test : ℕ → Bool) (text : List ℕ) (i : ℕ) (so : Bool) → i < length text → so ≡ list_all test (take i text) → (so && test (get_or text i 0)) ≡ list_all test (take (i + 1) text)
test_more test text i so within is =
    ap (λ (b : Bool). b && test (get_or text i 0)) is ∙ ap (λ (b : Bool). list_all test (take i text) && b) (sym (and_true (test (get_or text i 0))))
    ∙ sym (ap (list_all test) (take_more text i 0 within) ∙ list_all-append test (take i text) (get_or text i 0 ∷ []))

-- what is done of a text and what is left make the whole, behind such a front
pub behind_front : (f : List ℕ → List ℕ) (text old now after : List ℕ) (i : ℕ) → Stands f text i → after ≡ now ++ take i text → now ++ f text ≡ old → after ++ f (drop i text) ≡ old
behind_front f text old now after i so is goes =
    ap (λ (l : List ℕ). l ++ f (drop i text)) is ∙ append_assoc now (take i text) (f (drop i text)) ∙ ap (λ (l : List ℕ). now ++ l) (sym so) ∙ goes

-- ---- texts in JSON

neither : (a b : Bool) → (not a && not b) ≡ true → (a ≡ false) × (b ≡ false)
neither false false e = (refl, refl)
neither false true e = absurd (false≢true e)
neither true b e = absurd (false≢true e)

no_one : (a b c : Bool) → (not a && (not b && not c)) ≡ true → (a ≡ false) × (b ≡ false) × (c ≡ false)
no_one false b c e = let no = neither b c e in (refl, no.0, no.1)
no_one true b c e = absurd (false≢true e)

-- a byte that needs no escape
pub bare_byte : (byte : ℕ) (rest : List ℕ) → is_bare byte ≡ true → escape (byte ∷ rest) ≡ byte ∷ escape rest
bare_byte byte rest e =
    let no = no_one (nat_lt byte 32) (byte == 34) (byte == 92) e in
    ap (λ (l : List ℕ). l ++ escape rest) (escape_byte_plain byte (eqb-false byte 34 no.1) (eqb-false byte 92 no.2) (ltb-false byte 32 no.0))

-- and a text in which none does
pub all_bare : (text : List ℕ) → list_all is_bare text ≡ true → escape text ≡ text
all_bare [] h = refl
all_bare (c ∷ cs) h =
    let parts = and_parts (is_bare c) (list_all is_bare cs) h in
    bare_byte c cs parts.0 ∙ ap (λ (l : List ℕ). c ∷ l) (all_bare cs parts.1)

-- ---- texts for a terminal

-- a byte that stands for itself, whatever is behind it
pub plain_byte : (byte : ℕ) (rest : List ℕ) → is_plain byte ≡ true → tame (byte ∷ rest) ≡ byte ∷ tame rest
unfolding tame
plain_byte byte [] e =
    let no = neither (is_control byte) (byte == 194) e in
    ap (λ (b : Bool). cond {A = List ℕ} b (tamed byte) (byte ∷ [])) no.0
plain_byte byte (next ∷ rest) e =
    let no = neither (is_control byte) (byte == 194) e in
    ap (λ (b : Bool). cond {A = List ℕ} (b && (nat_le 128 next && nat_le next 159)) (tamed next ++ tame rest) (tame_byte byte ++ tame (next ∷ rest))) no.1
    ∙ ap (λ (b : Bool). cond {A = List ℕ} b (tamed byte) (byte ∷ []) ++ tame (next ∷ rest)) no.0

-- and a text of such bytes
pub all_plain : (text : List ℕ) → list_all is_plain text ≡ true → tame text ≡ text
unfolding tame
all_plain [] h = refl
all_plain (c ∷ cs) h =
    let parts = and_parts (is_plain c) (list_all is_plain cs) h in
    plain_byte c cs parts.0 ∙ ap (λ (l : List ℕ). c ∷ l) (all_plain cs parts.1)

-- ---- the first character of a text for a terminal

long : (a b : ℕ) (rest : List ℕ) (x : Bool) → begins_upper (a ∷ b ∷ rest) ≡ x → is_upper_control a b ≡ x
long a b rest x is = ap (λ (y : Bool). y && is_upper_control a b) (sym (le-leb 2 (length (a ∷ b ∷ rest)) (omega arith))) ∙ is

-- one of the characters 80 to 9f
pub two : (text old new : List ℕ) → begins_upper text ≡ true → new ≡ old ++ tamed (slice_index text 1) → Tames old new text 2
unfolding tame
two [] old new upper is = absurd (false≢true upper)
two (a ∷ []) old new upper is = absurd (false≢true upper)
two (a ∷ b ∷ rest) old new upper is = record {
  some = omega arith;
  within = omega arith;
  appended = ap (λ (l : List ℕ). l ++ tame rest) is ∙ append_assoc old (tamed b) (tame rest)
      ∙ ap (λ (x : Bool). old ++ cond {A = List ℕ} x (tamed b ++ tame rest) (tame_byte a ++ tame (b ∷ rest))) (sym (long a b rest true upper));
}

-- another byte
pub one : (text old new : List ℕ) → 0 < length text → begins_upper text ≡ false → new ≡ old ++ tame_byte (slice_index text 0) → Tames old new text 1
unfolding tame
one [] old new some upper is = absurd (omega (arith, some))
one (a ∷ []) old new some upper is = record {
  some = omega arith;
  within = omega arith;
  appended = append-nil new ∙ is;
}
one (a ∷ b ∷ rest) old new some upper is = record {
  some = omega arith;
  within = omega arith;
  appended = ap (λ (l : List ℕ). l ++ tame (b ∷ rest)) is ∙ append_assoc old (tame_byte a) (tame (b ∷ rest))
      ∙ ap (λ (x : Bool). old ++ cond {A = List ℕ} x (tamed b ++ tame rest) (tame_byte a ++ tame (b ∷ rest))) (sym (long a b rest false upper));
}

-- nothing is left
pub no_more : (text old now : List ℕ) → text ≡ [] → now ++ tame text ≡ old → now ≡ old
unfolding tame
no_more text old now none goes = sym (append-nil now) ∙ ap (λ (l : List ℕ). now ++ tame l) (sym none) ∙ goes
