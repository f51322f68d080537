-- The parts of a text.
use Rattle.std.proofs.Common.{◌≡◌, ◌≢◌, ◌<◌, ◌+◌, ℕ, suc, Bool, true, false, cond, eqb, List, [], ◌∷◌, ◌++◌, length, get_or, Option, Some, None, refl, sym, ap, subst, ◌∙◌, arith, MatchOption, option_map, Bor}
use Rattle.std.proofs.lemmas.Bool.{eqb-true, ne_eqb}
use Rattle.std.proofs.lemmas.Bool.Decides.{nat_tests}
use Rattle.std.proofs.lemmas.Str.Pattern.{IsSplitOnceResult, split_parts, strip_prefix_char, strip_suffix_char}
use Rattle.std.specs.Str.Pattern.{FindsCharPrefix, FindsTextPrefix, FindsCharSuffix}
use Rattle.std.specs.Option.{option_copied}
use Rattle.std.proofs.Common.{drop, take, ◌≤◌, ◌^◌, ◌-◌, min, ltb, ◌&&◌, Result, Ok, Err, inl, inr}
use Rattle.std.specs.Char.{is_ascii_digit}
use Rattle.std.specs.List.{list_all}
use Rattle.std.specs.Result.{OkIff, result_unwrap_or}
use Rattle.std.specs.Str.{IsUtf8, all_ascii_digits}
use Rattle.std.specs.Str.Parse.{digits_value, ParsesUnsigned}
use Rattle.std.proofs.lemmas.Bool.{cases_lt, lt-ltb, ltb-true}
use Rattle.std.proofs.lemmas.Str.{IsUtf8-drop, IsCharBoundary-after_ascii}
use Rattle.std.proofs.lemmas.Str.Parse.{IsNumeralModel, numerals_by_value, tells_all_ascii_digits, parse_digits}
use Rattle.std.proofs.Common.{◌⊎◌}
use Rattle.std.proofs.lemmas.Option.{same_Some}
use Rattle.defmt_grammar.specs.Cut.{AreSpaces, Lacks}
use Rattle.defmt_grammar.specs.Cut.{cut, before, behind, strip, skip_spaces, number_of, IsDecimal, parts_of}

same_byte : (c : ℕ) → eqb c c ≡ true
same_byte c = grind (arith, nat_tests)

pub cut-lacks : (c : ℕ) (xs : List ℕ) → Lacks c xs → cut c xs ≡ None
unfolding cut
cut-lacks c [] h = refl
cut-lacks c (x ∷ xs) h = rw (h.0, cut-lacks c xs h.1) refl

pub cut_again : (c : ℕ) (xs ys : List ℕ) → Lacks c xs → cut c (xs ++ c ∷ ys) ≡ Some (xs, ys)
unfolding cut
cut_again c [] ys h = rw (same_byte c) refl
cut_again c (x ∷ xs) ys h = rw (h.0, cut_again c xs ys h.1) refl

Lacks-from_index : (c : ℕ) (xs : List ℕ) → ((i : ℕ) → i < length xs → get_or xs i 0 ≢ c) → Lacks c xs
Lacks-from_index c [] h = tt
Lacks-from_index c (x ∷ xs) h = (let n : x ≢ c = h 0 (omega arith) in grind (arith, nat_tests), Lacks-from_index c xs (λ i lt. h (suc i) (omega arith)))

cut_by_parts : (c : ℕ) (bs : List ℕ) (r : Option (Bor (List ℕ) × Bor (List ℕ))) → MatchOption r ((i : ℕ) → i < length bs → get_or bs i 0 ≢ c) (λ x. (bs ≡ x.0.now ++ (c ∷ x.1.now)) × ((i : ℕ) → i < length x.0.now → get_or x.0.now i 0 ≢ c)) → parts_of r ≡ cut c bs
cut_by_parts c bs None h = sym (cut-lacks c bs (Lacks-from_index c bs h))
cut_by_parts c bs (Some p) h = sym (ap (cut c) h.0 ∙ cut_again c p.0.now p.1.now (Lacks-from_index c p.0.now h.1))

-- what split_once gives
pub cut_split : (c : ℕ) (bs : List ℕ) (r : Option (Bor (List ℕ) × Bor (List ℕ))) → IsSplitOnceResult c bs r → c < 128 → parts_of r ≡ cut c bs
cut_split c bs r h small = cut_by_parts c bs r (split_parts c bs r h small)

unequal : (x c : ℕ) (cs : List ℕ) (b : Bool) → eqb x c ≡ b → ((rest : List ℕ) → x ∷ cs ≢ c ∷ rest) → b ≡ false
unequal x c cs false e h = refl
unequal x c cs true e h = absurd (h cs (ap (λ (y : ℕ). y ∷ cs) (eqb-true x c e)))

behind_by_cases : (c : ℕ) (bs : List ℕ) (r : Option (Bor (List ℕ))) → MatchOption r ((rest : List ℕ) → bs ≢ c ∷ rest) (λ x. bs ≡ c ∷ x.now) → option_copied r ≡ behind c bs
unfolding behind
behind_by_cases c [] None h = refl
behind_by_cases c (x ∷ xs) None h = let e : eqb x c ≡ false = unequal x c xs (eqb x c) refl h in rw e refl
behind_by_cases c bs (Some r) h = sym (ap (behind c) h ∙ rw (same_byte c) refl)

-- what strip_prefix gives
pub behind_prefix : (c : ℕ) (bs : List ℕ) (r : Option (Bor (List ℕ))) → MatchOption r (FindsCharPrefix c bs None) (λ x. (n : ℕ) × FindsCharPrefix c bs (Some n) × (x.now ≡ drop n bs) × (length x.now + n ≡ length bs)) → c < 128 → option_copied r ≡ behind c bs
behind_prefix c bs r h small = behind_by_cases c bs r (strip_prefix_char c bs r h small)

pub behind_again : (c : ℕ) (xs : List ℕ) → behind c (c ∷ xs) ≡ Some xs
unfolding behind
behind_again c xs = rw (same_byte c) refl

behind_test : (b : Bool) (x c : ℕ) (xs rest : List ℕ) → eqb x c ≡ b → cond b (Some xs) None ≡ Some rest → x ∷ xs ≡ c ∷ rest
behind_test true x c xs rest e h = let same : x ≡ c = eqb-true x c e in cc
behind_test false x c xs rest e h = absurd cc

pub behind_found : (c : ℕ) (bs rest : List ℕ) → behind c bs ≡ Some rest → bs ≡ c ∷ rest
unfolding behind
behind_found c [] rest h = absurd cc
behind_found c (x ∷ xs) rest h = behind_test (eqb x c) x c xs rest refl h

pub skip_spaces_one : (text rest : List ℕ) → behind 32 text ≡ Some rest → skip_spaces rest ≡ skip_spaces text
unfolding skip_spaces
skip_spaces_one text rest h = sym (ap skip_spaces (behind_found 32 text rest h))

skip_test : (b : Bool) (cs : List ℕ) (c : ℕ) (text : List ℕ) → cond b (Some cs) None ≡ None → cond b text (c ∷ cs) ≡ c ∷ cs
skip_test true cs c text h = absurd cc
skip_test false cs c text h = refl

pub skip_spaces_none : (text : List ℕ) → behind 32 text ≡ None → skip_spaces text ≡ text
unfolding skip_spaces behind
skip_spaces_none [] h = refl
skip_spaces_none (c ∷ cs) h = skip_test (eqb c 32) cs c (skip_spaces cs) h

pub utf8_behind : (c : ℕ) (rest text : List ℕ) → text ≡ c ∷ rest → c < 128 → IsUtf8 text → IsUtf8 rest
utf8_behind c rest text e small u =
    let one : get_or text 0 0 < 128 = rw e small in
    let some : 0 < length text = rw e (omega arith) in
    let parted : drop 1 text ≡ rest = ap (drop 1) e in
    rw parted at (IsUtf8-drop text 1 u (IsCharBoundary-after_ascii text 0 u some one))

pub list_all-digits : (xs : List ℕ) → list_all is_ascii_digit xs ≡ all_ascii_digits xs
list_all-digits [] = refl
list_all-digits (x ∷ xs) = ap (λ b. is_ascii_digit x && b) (list_all-digits xs)

pub own : IsNumeralModel (λ ds. all_ascii_digits ds ≡ true) (digits_value 10)
own = numerals_by_value _ tells_all_ascii_digits

number-is : (bs : List ℕ) → all_ascii_digits bs ≡ true → 0 < length bs → number_of bs ≡ Some (min (digits_value 10 bs) (2 ^ 32 - 1))
unfolding number_of
number-is bs d some = let e : ltb 0 (length bs) ≡ true = lt-ltb _ _ some in rw (e, d) refl

narrow : {E : Type 0} (r : Result ℕ E) (v : ℕ) (m : ℕ) → 0 < m → OkIff r ((0 < m) × (v < 2 ^ 32)) v → OkIff r (v < 2 ^ 32) v
narrow (Ok x) v m some h = (h.0.1, h.1)
narrow (Err x) v m some h = λ lt. h (some, lt)

parsed : {E : Type 0} (v : ℕ) (r : Result ℕ E) (n : ℕ) → OkIff r (v < 2 ^ 32) v → n ≡ result_unwrap_or r (2 ^ 32 - 1) → n ≡ min v (2 ^ 32 - 1)
parsed v (Ok x) n h e = omega (arith, h.0, h.1)
parsed v (Err x) n h e = let big : 2 ^ 32 ≤ v = elim (cases_lt v (2 ^ 32)) [ inl lt ↦ absurd (h lt) | inr le ↦ le ] in omega arith

pub number_parse : {E : Type 0} (bs : List ℕ) (r : Result ℕ E) (n : ℕ) → ParsesUnsigned 32 10 bs r → all_ascii_digits bs ≡ true → 0 < length bs → n ≡ result_unwrap_or r (2 ^ 32 - 1) → Some n ≡ number_of bs
number_parse bs r n h d some e =
    let k : OkIff r ((0 < length bs) × (digits_value 10 bs < 2 ^ 32)) (digits_value 10 bs) = parse_digits own 32 bs r h d in
    ap Some (parsed (digits_value 10 bs) r n (narrow r (digits_value 10 bs) (length bs) some k) e) ∙ sym (number-is bs d some)

-- a numeral is read as its number, and what is read is a numeral
pub number_again : (bs : List ℕ) (n : ℕ) → IsDecimal bs n → number_of bs ≡ Some (min n (2 ^ 32 - 1))
number_again bs n h = number-is bs h.digits h.some ∙ ap (λ (v : ℕ). Some (min v (2 ^ 32 - 1))) h.value

number_test : (bs : List ℕ) (a b : Bool) (v n : ℕ) → ltb 0 (length bs) ≡ a → all_ascii_digits bs ≡ b → cond (a && b) (Some v) None ≡ Some n → (0 < length bs) × (all_ascii_digits bs ≡ true) × (v ≡ n)
number_test bs true true v n p q h = (ltb-true 0 (length bs) p, q, cc)
number_test bs true false v n p q h = absurd cc
number_test bs false b v n p q h = absurd cc

pub number_found : (bs : List ℕ) (n : ℕ) → number_of bs ≡ Some n → (m : ℕ) × IsDecimal bs m × (n ≡ min m (2 ^ 32 - 1))
unfolding number_of
number_found bs n h =
    let t = number_test bs (ltb 0 (length bs)) (all_ascii_digits bs) (min (digits_value 10 bs) (2 ^ 32 - 1)) n refl refl h in
    (digits_value 10 bs, record { some = t.0; digits = t.1; value = refl }, sym t.2)

-- ---- strip

pub strip_again : (front rest : List ℕ) → strip front (front ++ rest) ≡ Some rest
unfolding strip
strip_again [] rest = refl
strip_again (p ∷ ps) rest = rw (same_byte p) (strip_again ps rest)

strip_test : (b : Bool) (c p : ℕ) (cs ps rest : List ℕ) (o : Option (List ℕ)) → eqb c p ≡ b → (o ≡ Some rest → cs ≡ ps ++ rest) → cond b o None ≡ Some rest → c ∷ cs ≡ p ∷ (ps ++ rest)
strip_test true c p cs ps rest o e f h = let same : c ≡ p = eqb-true c p e in let k = f h in cc
strip_test false c p cs ps rest o e f h = absurd cc

pub strip_found : (front text rest : List ℕ) → strip front text ≡ Some rest → text ≡ front ++ rest
unfolding strip
strip_found [] text rest h = cc
strip_found (p ∷ ps) [] rest h = absurd cc
strip_found (p ∷ ps) (c ∷ cs) rest h = strip_test (eqb c p) c p cs ps rest (strip ps cs) refl (strip_found ps cs rest) h

strip_cases : (front text : List ℕ) (o : Option (List ℕ)) → strip front text ≡ o → ((rest : List ℕ) → text ≢ front ++ rest) → o ≡ None
strip_cases front text None e h = refl
strip_cases front text (Some rest) e h = absurd (h rest (strip_found front text rest e))

strip_by_cases : (front text : List ℕ) (r : Option (Bor (List ℕ))) → MatchOption r ((rest : List ℕ) → text ≢ front ++ rest) (λ x. text ≡ front ++ x.now) → option_copied r ≡ strip front text
strip_by_cases front text None h = sym (strip_cases front text (strip front text) refl h)
strip_by_cases front text (Some r) h = sym (ap (strip front) h ∙ strip_again front r.now)

to_cases : (front text : List ℕ) (r : Option (Bor (List ℕ))) → MatchOption r (FindsTextPrefix front text None) (λ x. (n : ℕ) × FindsTextPrefix front text (Some n) × (x.now ≡ drop n text) × (length x.now + n ≡ length text)) → MatchOption r ((rest : List ℕ) → text ≢ front ++ rest) (λ x. text ≡ front ++ x.now)
to_cases front text None h = h
to_cases front text (Some r) h = h.1.1 ∙ ap (λ (x : List ℕ). front ++ x) (sym h.2)

pub strip_prefix_text : (front text : List ℕ) (r : Option (Bor (List ℕ))) → MatchOption r (FindsTextPrefix front text None) (λ x. (n : ℕ) × FindsTextPrefix front text (Some n) × (x.now ≡ drop n text) × (length x.now + n ≡ length text)) → option_copied r ≡ strip front text
strip_prefix_text front text r h = strip_by_cases front text r (to_cases front text r h)

-- ---- more on cut, spaces and digits

cut_more : (c x : ℕ) (xs : List ℕ) (b : Bool) (o : Option (List ℕ × List ℕ)) (p : List ℕ × List ℕ) → eqb x c ≡ b → ((q : List ℕ × List ℕ) → o ≡ Some q → (xs ≡ q.0 ++ c ∷ q.1) × Lacks c q.0) → cond b (Some ([], xs)) (option_map (λ (r : List ℕ × List ℕ). (x ∷ r.0, r.1)) o) ≡ Some p
    → (x ∷ xs ≡ p.0 ++ c ∷ p.1) × Lacks c p.0
cut_more c x xs true o p e f h =
    let same : x ≡ c = eqb-true x c e in
    subst (λ (p : List ℕ × List ℕ). (x ∷ xs ≡ p.0 ++ c ∷ p.1) × Lacks c p.0) (same_Some _ _ h) (ap (λ (y : ℕ). y ∷ xs) same, tt)
cut_more c x xs false None p e f h = absurd cc
cut_more c x xs false (Some q) p e f h =
    let k = f q refl in
    subst (λ (p : List ℕ × List ℕ). (x ∷ xs ≡ p.0 ++ c ∷ p.1) × Lacks c p.0) (same_Some (x ∷ q.0, q.1) p h) (ap (λ (ys : List ℕ). x ∷ ys) k.0, (e, k.1))

pub cut_found : (c : ℕ) (xs : List ℕ) (p : List ℕ × List ℕ) → cut c xs ≡ Some p → (xs ≡ p.0 ++ c ∷ p.1) × Lacks c p.0
unfolding cut
cut_found c [] p h = absurd cc
cut_found c (x ∷ xs) p h = cut_more c x xs (eqb x c) (cut c xs) p refl (cut_found c xs) h

pub Lacks-append : (c : ℕ) (xs ys : List ℕ) → Lacks c xs → Lacks c ys → Lacks c (xs ++ ys)
Lacks-append c [] ys p q = q
Lacks-append c (x ∷ xs) ys p q = (p.0, Lacks-append c xs ys p.1 q)

pub Lacks-digits : (c : ℕ) (ds : List ℕ) → (c < 48) ⊎ (57 < c) → all_ascii_digits ds ≡ true → Lacks c ds
Lacks-digits c [] out h = tt
Lacks-digits c (d ∷ ds) out h =
    let k = tells_all_ascii_digits.parts d ds h in
    let n : d ≢ c = λ e. elim out [ inl low ↦ omega (arith, k.0, e) | inr high ↦ omega (arith, k.0, e) ] in
    (ne_eqb d c n, Lacks-digits c ds out k.1)

pub Lacks-spaces : (c : ℕ) (sp : List ℕ) → c ≢ 32 → AreSpaces sp → Lacks c sp
Lacks-spaces c [] n h = tt
Lacks-spaces c (x ∷ sp) n h = (ne_eqb x c (λ e. n (sym e ∙ h.0)), Lacks-spaces c sp n h.1)

skip_more : (x : ℕ) (xs : List ℕ) (b : Bool) → eqb x 32 ≡ b → (sp : List ℕ) × AreSpaces sp × (xs ≡ sp ++ skip_spaces xs) → (sp : List ℕ) × AreSpaces sp × (x ∷ xs ≡ sp ++ cond b (skip_spaces xs) (x ∷ xs))
skip_more x xs true e k = let same : x ≡ 32 = eqb-true x 32 e in (x ∷ k.0, (same, k.1), ap (λ (ys : List ℕ). x ∷ ys) k.2)
skip_more x xs false e k = ([], tt, refl)

pub skip_found : (xs : List ℕ) → (sp : List ℕ) × AreSpaces sp × (xs ≡ sp ++ skip_spaces xs)
unfolding skip_spaces
skip_found [] = ([], tt, refl)
skip_found (x ∷ xs) = skip_more x xs (eqb x 32) refl (skip_found xs)

pub skip_again : (sp ds : List ℕ) → AreSpaces sp → skip_spaces ds ≡ ds → skip_spaces (sp ++ ds) ≡ ds
unfolding skip_spaces
skip_again [] ds h e = e
skip_again (x ∷ sp) ds h e = rw h.0 (skip_again sp ds h.1 e)

pub skip_digits : (ds : List ℕ) → all_ascii_digits ds ≡ true → skip_spaces ds ≡ ds
unfolding skip_spaces
skip_digits [] h = refl
skip_digits (d ∷ ds) h = let k = tells_all_ascii_digits.parts d ds h in rw (ne_eqb d 32 (λ e. omega (arith, k.0, e))) refl

-- ---- before

pub before_again : (c : ℕ) (xs : List ℕ) → before c (xs ++ c ∷ []) ≡ Some xs
unfolding before
before_again c [] = rw (same_byte c) refl
before_again c (x ∷ []) = rw (same_byte c) refl
before_again c (x ∷ y ∷ xs) = ap (option_map (λ (f : List ℕ). x ∷ f)) (before_again c (y ∷ xs))

before_test : (b : Bool) (x c : ℕ) (front : List ℕ) → eqb x c ≡ b → cond b (Some []) None ≡ Some front → x ∷ [] ≡ front ++ c ∷ []
before_test true x c front e h = let same : x ≡ c = eqb-true x c e in let f : [] ≡ front = same_Some [] front h in rw (← f) (ap (λ (y : ℕ). y ∷ []) same)
before_test false x c front e h = absurd cc

before_more : (x c : ℕ) (xs front : List ℕ) (o : Option (List ℕ)) → ((f : List ℕ) → o ≡ Some f → xs ≡ f ++ c ∷ []) → option_map (λ (f : List ℕ). x ∷ f) o ≡ Some front → x ∷ xs ≡ front ++ c ∷ []
before_more x c xs front None k h = absurd cc
before_more x c xs front (Some f) k h = let e : x ∷ f ≡ front = same_Some (x ∷ f) front h in rw (← e) (ap (λ (r : List ℕ). x ∷ r) (k f refl))

pub before_found : (c : ℕ) (text front : List ℕ) → before c text ≡ Some front → text ≡ front ++ c ∷ []
unfolding before
before_found c [] front h = absurd cc
before_found c (x ∷ []) front h = before_test (eqb x c) x c front refl h
before_found c (x ∷ y ∷ xs) front h = before_more x c (y ∷ xs) front (before c (y ∷ xs)) (before_found c (y ∷ xs)) h

pub before_other : (c d : ℕ) (xs : List ℕ) → d ≢ c → before c (xs ++ d ∷ []) ≡ None
unfolding before
before_other c d [] n = rw (ne_eqb d c n) refl
before_other c d (x ∷ []) n = rw (ne_eqb d c n) refl
before_other c d (x ∷ y ∷ xs) n = ap (option_map (λ (f : List ℕ). x ∷ f)) (before_other c d (y ∷ xs) n)

before_cases : (c : ℕ) (text : List ℕ) (o : Option (List ℕ)) → before c text ≡ o → ((front : List ℕ) → text ≢ front ++ c ∷ []) → o ≡ None
before_cases c text None e h = refl
before_cases c text (Some front) e h = absurd (h front (before_found c text front e))

before_by_cases : (c : ℕ) (text : List ℕ) (r : Option (Bor (List ℕ))) → MatchOption r ((front : List ℕ) → text ≢ front ++ c ∷ []) (λ x. text ≡ x.now ++ c ∷ []) → option_copied r ≡ before c text
before_by_cases c text None h = sym (before_cases c text (before c text) refl h)
before_by_cases c text (Some r) h = sym (ap (before c) h ∙ before_again c r.now)

pub before_suffix : (c : ℕ) (bs : List ℕ) (r : Option (Bor (List ℕ))) → MatchOption r (FindsCharSuffix c bs None) (λ x. (n : ℕ) × FindsCharSuffix c bs (Some n) × (x.now ≡ take (length bs - n) bs) × (length x.now + n ≡ length bs)) → c < 128 → option_copied r ≡ before c bs
before_suffix c bs r h small = before_by_cases c bs r (strip_suffix_char c bs r h small)
