-- A text for a terminal has no control characters.
use Rattle.std.proofs.Common.{◌≡◌, ◌≤◌, ◌<◌, ◌+◌, ◌/◌, ◌%◌, ◌==◌, ◌&&◌, ◌⊎◌, inl, inr, ℕ, Bool, true, false, List, [], ◌∷◌, ◌++◌, cond, refl, sym, ap, subst, arith}
use Rattle.std.specs.Prelude.{nat_lt}
use Rattle.std.specs.Char.{digit_char}
use Rattle.std.specs.List.{AllByRecursion}
use Rattle.std.proofs.lemmas.Bool.{cases_Bool}
use Rattle.std.proofs.lemmas.Bool.Decides.{nat_tests}
use Rattle.std.proofs.lemmas.List.{append-nil}
use Rattle.defmt_forms.specs.Terminal.{HasNoControls, hexadecimal, is_control, is_upper_control, tame, tame_byte, tamed}

-- characters of ASCII that are shown
abbrev IsShown : ℕ → Type 0
IsShown c = (32 ≤ c) × (c < 127)

abbrev AreShown : List ℕ → Type 0
AreShown cs = AllByRecursion IsShown cs

shown_byte : (c : ℕ) → IsShown c → is_control c ≡ false
shown_byte c h = let low = h.0 in let high = h.1 in grind (arith, nat_tests)

shown_lead : (c next : ℕ) → IsShown c → is_upper_control c next ≡ false
shown_lead c next h = let high = h.1 in grind (arith, nat_tests)

-- a shown character in front of a text, and more of them
one_shown : (c : ℕ) (cs : List ℕ) → IsShown c → HasNoControls cs → HasNoControls (c ∷ cs)
one_shown c [] h rest = shown_byte c h
one_shown c (next ∷ cs) h rest = (shown_byte c h, shown_lead c next h, rest)

shown_front : (front cs : List ℕ) → AreShown front → HasNoControls cs → HasNoControls (front ++ cs)
shown_front [] cs h rest = rest
shown_front (c ∷ front) cs h rest = one_shown c (front ++ cs) h.0 (shown_front front cs h.1 rest)

-- ---- numbers

shown_digit : (d : ℕ) → d < 16 → IsShown (digit_char d)
shown_digit d small = elim (cases_Bool (nat_lt d 10)) [
  | inl is ↦ subst IsShown (sym (ap (λ (b : Bool). cond b (48 + d) (87 + d)) is)) (omega (arith, small), grind (arith, nat_tests))
  | inr isnt ↦ subst IsShown (sym (ap (λ (b : Bool). cond b (48 + d) (87 + d)) isnt)) (omega (arith, small), omega (arith, small))
]

brace : AreShown (125 ∷ [])
brace = ((omega arith, omega arith), tt)

shown_hexadecimal : (number : ℕ) (b : Bool) → number < 256 → nat_lt number 16 ≡ b
    → AreShown (cond {A = List ℕ} b (digit_char number ∷ []) (digit_char (number / 16) ∷ digit_char (number % 16) ∷ []) ++ 125 ∷ [])
shown_hexadecimal number true small is = (shown_digit number (grind (arith, nat_tests)), brace)
shown_hexadecimal number false small is = (shown_digit (number / 16) (omega (arith, small)), (shown_digit (number % 16) (omega arith), brace))

shown_tamed : (number : ℕ) → number < 256 → AreShown (tamed number)
shown_tamed number small = ((omega arith, omega arith), ((omega arith, omega arith), ((omega arith, omega arith), shown_hexadecimal number (nat_lt number 16) small refl)))

-- ---- what a text for a terminal begins with

-- its first byte, or what stands for it
abbrev Begins : ℕ → List ℕ → Type 0
Begins byte text = ((more : List ℕ) × (text ≡ byte ∷ more)) ⊎ ((more : List ℕ) × (text ≡ 92 ∷ more))

begins_byte : (byte : ℕ) (behind : List ℕ) (b : Bool) → Begins byte (cond {A = List ℕ} b (tamed byte) (byte ∷ []) ++ behind)
begins_byte byte behind true = inr ((117 ∷ 123 ∷ (hexadecimal byte ++ 125 ∷ [])) ++ behind, refl)
begins_byte byte behind false = inl (behind, refl)

begins_alone : (byte : ℕ) (b : Bool) → Begins byte (cond {A = List ℕ} b (tamed byte) (byte ∷ []))
begins_alone byte true = inr (117 ∷ 123 ∷ (hexadecimal byte ++ 125 ∷ []), refl)
begins_alone byte false = inl ([], refl)

begins_two : (byte next : ℕ) (rest : List ℕ) (b : Bool) → Begins byte (cond {A = List ℕ} b (tamed next ++ tame rest) (tame_byte byte ++ tame (next ∷ rest)))
begins_two byte next rest true = inr ((117 ∷ 123 ∷ (hexadecimal next ++ 125 ∷ [])) ++ tame rest, refl)
begins_two byte next rest false = begins_byte byte (tame (next ∷ rest)) (is_control byte)

begins : (byte : ℕ) (rest : List ℕ) → Begins byte (tame (byte ∷ rest))
unfolding tame
begins byte [] = begins_alone byte (is_control byte)
begins byte (next ∷ rest) = begins_two byte next rest (is_upper_control byte next)

no_second : (b : Bool) → (b && false) ≡ false
no_second true = refl
no_second false = refl

leads : (lead byte : ℕ) (text : List ℕ) → is_control lead ≡ false → is_upper_control lead byte ≡ false → Begins byte text → HasNoControls text → HasNoControls (lead ∷ text)
leads lead byte text c u (inl m) h = subst (λ (l : List ℕ). HasNoControls (lead ∷ l)) (sym m.1) (c, u, subst HasNoControls m.1 h)
leads lead byte text c u (inr m) h = subst (λ (l : List ℕ). HasNoControls (lead ∷ l)) (sym m.1) (c, no_second (lead == 194), subst HasNoControls m.1 h)

-- ---- the whole

small_upper : (lead byte : ℕ) → is_upper_control lead byte ≡ true → byte < 256
small_upper lead byte is = grind (arith, nat_tests)

small_control : (byte : ℕ) → is_control byte ≡ true → byte < 256
small_control byte is = grind (arith, nat_tests)

of_one : (byte : ℕ) (c : Bool) → is_control byte ≡ c → HasNoControls (cond {A = List ℕ} c (tamed byte) (byte ∷ []))
of_one byte true is = subst HasNoControls (append-nil (tamed byte)) (shown_front (tamed byte) [] (shown_tamed byte (small_control byte is)) tt)
of_one byte false is = is

of_two : (lead byte : ℕ) (rest : List ℕ) (u c : Bool) → is_upper_control lead byte ≡ u → is_control lead ≡ c → HasNoControls (tame rest) → HasNoControls (tame (byte ∷ rest))
    → HasNoControls (cond {A = List ℕ} u (tamed byte ++ tame rest) (cond {A = List ℕ} c (tamed lead) (lead ∷ []) ++ tame (byte ∷ rest)))
of_two lead byte rest true c upper control behind more = shown_front (tamed byte) (tame rest) (shown_tamed byte (small_upper lead byte upper)) behind
of_two lead byte rest false true upper control behind more = shown_front (tamed lead) (tame (byte ∷ rest)) (shown_tamed lead (small_control lead control)) more
of_two lead byte rest false false upper control behind more = leads lead byte (tame (byte ∷ rest)) control upper (begins byte rest) more

pub has_no_controls : (text : List ℕ) → HasNoControls (tame text)
unfolding tame
has_no_controls [] = tt
has_no_controls (byte ∷ []) = of_one byte (is_control byte) refl
has_no_controls (lead ∷ byte ∷ rest) = of_two lead byte rest (is_upper_control lead byte) (is_control lead) refl refl (has_no_controls rest) (has_no_controls (byte ∷ rest))
