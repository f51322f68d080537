-- The next zero, and the text up to it.
use Rattle.std.proofs.Common.{◌≡◌, ◌≢◌, ◌≤◌, ◌<◌, ◌+◌, ◌-◌, ◌*◌, ◌/◌, ◌^◌, min, set, ℕ, zero, suc, true, false, eqb, List, [], ◌∷◌, length, take, drop, get_or, Option, Some, None, option_map, refl, sym, ap, ◌∙◌, arith, inl, inr}
use Rattle.std.specs.Prelude.{is_some, IfSome}
use Rattle.std.proofs.lemmas.Bool.{cases_eq, cases_lt}
use Rattle.std.proofs.lemmas.Bool.Decides.{nat_tests}
use Rattle.std.proofs.lemmas.List.{drop-drop, drop_all, length-take-le, length-drop, get_or-drop, get_or-set_same, get_or-set_other, length-set}
use Rattle.std.specs.Ordering.{ord_min, nat_cmp}
use Rattle.elf_section.specs.Bytes.{to_zero, text_at, gap, HasGaps}

gap_zero : (b : ℕ) (bytes : List ℕ) → b ≡ 0 → gap (b ∷ bytes) ≡ 0
unfolding gap
gap_zero b bytes e = let z : eqb b 0 ≡ true = grind (arith, nat_tests) in rw z refl

gap_more : (b : ℕ) (bytes : List ℕ) → b ≢ 0 → gap (b ∷ bytes) ≡ suc (gap bytes)
unfolding gap
gap_more b bytes n = let z : eqb b 0 ≡ false = grind (arith, nat_tests) in rw z refl

gap_nil : gap [] ≡ 0
unfolding gap
gap_nil = refl

to_zero_stop : (b : ℕ) (bytes : List ℕ) → b ≡ 0 → to_zero (b ∷ bytes) ≡ Some []
unfolding to_zero
to_zero_stop b bytes e = let z : eqb b 0 ≡ true = grind (arith, nat_tests) in rw z refl

to_zero_more : (b : ℕ) (bytes : List ℕ) → b ≢ 0 → to_zero (b ∷ bytes) ≡ option_map (λ text. b ∷ text) (to_zero bytes)
unfolding to_zero
to_zero_more b bytes n = let z : eqb b 0 ≡ false = grind (arith, nat_tests) in rw z refl

to_zero_nil : to_zero [] ≡ None
unfolding to_zero
to_zero_nil = refl

pub gap_bound : (bytes : List ℕ) → gap bytes ≤ length bytes
gap_bound [] = let e = gap_nil in omega (arith, e)
gap_bound (b ∷ bytes) =
    let more = gap_bound bytes in
    elim (cases_eq b 0) [ inl z ↦ (let e = gap_zero b bytes z in omega (arith, e)) | inr n ↦ (let e = gap_more b bytes n in omega (arith, e, more)) ]

-- the loop that looks for a zero
pub gap_found : (bytes : List ℕ) (i : ℕ) → i < length bytes → get_or bytes i 0 ≡ 0 → ((k : ℕ) → k < i → get_or bytes k 0 ≢ 0) → gap bytes ≡ i
gap_found [] i lt e h = absurd (omega arith)
gap_found (b ∷ bytes) zero lt e h = gap_zero b bytes e
gap_found (b ∷ bytes) (suc i) lt e h = gap_more b bytes (h 0 (omega arith)) ∙ ap suc (gap_found bytes i (omega arith) e (λ k l. h (suc k) (omega arith)))

pub gap_none : (bytes : List ℕ) → ((k : ℕ) → k < length bytes → get_or bytes k 0 ≢ 0) → gap bytes ≡ length bytes
gap_none [] h = gap_nil
gap_none (b ∷ bytes) h = gap_more b bytes (h 0 (omega arith)) ∙ ap suc (gap_none bytes (λ k l. h (suc k) (omega arith)))

-- the zero stands in the first n bytes, or behind them
gap_here : (n : ℕ) (bytes : List ℕ) → gap (take n bytes) < n → gap bytes ≡ gap (take n bytes)
gap_here zero bytes h = absurd (omega arith)
gap_here (suc n) [] h = refl
gap_here (suc n) (b ∷ bytes) h = elim (cases_eq b 0) [
  | inl z ↦ gap_zero b bytes z ∙ sym (gap_zero b (take n bytes) z)
  | inr k ↦ (let e = gap_more b (take n bytes) k in gap_more b bytes k ∙ ap suc (gap_here n bytes (omega (arith, h, e))) ∙ sym e)
]

gap_beyond : (n : ℕ) (bytes : List ℕ) → n ≤ length bytes → n ≤ gap (take n bytes) → gap bytes ≡ n + gap (drop n bytes)
gap_beyond zero bytes l h = omega arith
gap_beyond (suc n) [] l h = absurd (omega arith)
gap_beyond (suc n) (b ∷ bytes) l h = elim (cases_eq b 0) [
  | inl z ↦ absurd (let e = gap_zero b (take n bytes) z in omega (arith, h, e))
  | inr k ↦ (let e = gap_more b (take n bytes) k in let f = gap_more b bytes k in let more = gap_beyond n bytes (omega (arith, l)) (omega (arith, h, e)) in omega (arith, f, more))
]

-- the next zero from `at` on stands in front of `stop`
pub gap_near : (bytes : List ℕ) (at stop here : ℕ) → here ≡ gap (take (stop - at) (drop at bytes)) → here < stop - at → here ≡ gap (drop at bytes)
gap_near bytes at stop here e l = e ∙ sym (gap_here (stop - at) (drop at bytes) (omega (arith, e, l)))

-- or behind it
pub gap_far : (bytes : List ℕ) (at stop here : ℕ) → at ≤ stop → stop ≤ length bytes → here ≡ gap (take (stop - at) (drop at bytes)) → stop - at ≤ here → here + gap (drop stop bytes) ≡ gap (drop at bytes)
gap_far bytes at stop here order inside e l =
    let len : length (drop at bytes) ≡ length bytes - at = length-drop at bytes in
    let part : length (take (stop - at) (drop at bytes)) ≡ stop - at = length-take-le (stop - at) (drop at bytes) (omega (arith, len, order, inside)) in
    let bound = gap_bound (take (stop - at) (drop at bytes)) in
    let far = gap_beyond (stop - at) (drop at bytes) (omega (arith, len, order, inside)) (omega (arith, e, l)) in
    let there : drop (stop - at) (drop at bytes) ≡ drop stop bytes = drop-drop (stop - at) at bytes ∙ ap (λ (n : ℕ). drop n bytes) (let k : at + (stop - at) ≡ stop = omega (arith, order) in k) in
    let same : gap (drop (stop - at) (drop at bytes)) ≡ gap (drop stop bytes) = ap gap there in
    omega (arith, e, l, part, bound, far, same)

pub gap_room : (bytes : List ℕ) (at : ℕ) → at ≤ length bytes → at + gap (drop at bytes) ≤ length bytes
gap_room bytes at l = let a = gap_bound (drop at bytes) in let b : length (drop at bytes) ≡ length bytes - at = length-drop at bytes in omega (arith, a, b, l)

pub gap_small : (bytes : List ℕ) (at : ℕ) → gap (drop at bytes) ≤ length bytes
gap_small bytes at = let a = gap_bound (drop at bytes) in let b : length (drop at bytes) ≡ length bytes - at = length-drop at bytes in omega (arith, a, b)

-- nothing stands past the end
pub gap_past : (bytes : List ℕ) (at : ℕ) → length bytes ≤ at → gap (drop at bytes) ≡ 0
gap_past bytes at l = ap gap (drop_all at bytes l) ∙ gap_nil

least : (a b : ℕ) → ord_min nat_cmp a b ≡ min a b
least a b = grind (arith, nat_tests)

-- the place where the bytes end, if it comes first
pub gap_stop : (bytes : List ℕ) (at : ℕ) → gap (drop (ord_min nat_cmp at (length bytes)) bytes) ≡ gap (drop at bytes)
gap_stop bytes at = ap (λ (n : ℕ). gap (drop n bytes)) (least at (length bytes)) ∙ elim (cases_lt at (length bytes)) [
  | inl l ↦ ap (λ (n : ℕ). gap (drop n bytes)) (let k : min at (length bytes) ≡ at = omega (arith, l) in k)
  | inr le ↦ gap_past bytes (min at (length bytes)) (omega (arith, le)) ∙ sym (gap_past bytes at le)
]

to_zero_some : (bytes : List ℕ) → gap bytes < length bytes → to_zero bytes ≡ Some (take (gap bytes) bytes)
to_zero_some [] h = absurd (omega arith)
to_zero_some (b ∷ bytes) h = elim (cases_eq b 0) [
  | inl z ↦ (let e = gap_zero b bytes z in to_zero_stop b bytes z ∙ ap (λ (n : ℕ). Some (take n (b ∷ bytes))) (sym e))
  | inr k ↦ (let e = gap_more b bytes k in
      to_zero_more b bytes k ∙ ap (option_map (λ text. b ∷ text)) (to_zero_some bytes (omega (arith, h, e))) ∙ ap (λ (n : ℕ). Some (take n (b ∷ bytes))) (sym e))
]

to_zero_end : (bytes : List ℕ) → length bytes ≤ gap bytes → to_zero bytes ≡ None
to_zero_end [] h = to_zero_nil
to_zero_end (b ∷ bytes) h = elim (cases_eq b 0) [
  | inl z ↦ absurd (let e = gap_zero b bytes z in omega (arith, h, e))
  | inr k ↦ (let e = gap_more b bytes k in to_zero_more b bytes k ∙ ap (option_map (λ text. b ∷ text)) (to_zero_end bytes (omega (arith, h, e))))
]

-- the text from `at` on, by its end
pub text_ends : (bytes : List ℕ) (at n : ℕ) → n ≡ gap (drop at bytes) → at + n < length bytes → text_at at bytes ≡ Some (take n (drop at bytes))
unfolding text_at
text_ends bytes at n e l =
    let len : length (drop at bytes) ≡ length bytes - at = length-drop at bytes in
    to_zero_some (drop at bytes) (omega (arith, len, l, e)) ∙ ap (λ (m : ℕ). Some (take m (drop at bytes))) (sym e)

pub text_endless : (bytes : List ℕ) (at n : ℕ) → n ≡ gap (drop at bytes) → length bytes ≤ at + n → text_at at bytes ≡ None
unfolding text_at
text_endless bytes at n e l =
    let len : length (drop at bytes) ≡ length bytes - at = length-drop at bytes in
    to_zero_end (drop at bytes) (omega (arith, len, l, e))

pub text_past : (at : ℕ) (bytes : List ℕ) → length bytes < at → text_at at bytes ≡ None
text_past at bytes h = text_endless bytes at 0 (sym (gap_past bytes at (omega (arith, h)))) (omega (arith, h))

-- a zero ends the text in front of it
gap_before : (bytes : List ℕ) (i : ℕ) → i < length bytes → get_or bytes i 0 ≡ 0 → gap bytes ≤ i
gap_before [] i l z = absurd (omega arith)
gap_before (b ∷ bytes) zero l z = let e = gap_zero b bytes z in omega (arith, e)
gap_before (b ∷ bytes) (suc i) l z = elim (cases_eq b 0) [
  | inl n ↦ (let e = gap_zero b bytes n in omega (arith, e))
  | inr n ↦ (let e = gap_more b bytes n in let more = gap_before bytes i (omega (arith, l)) z in omega (arith, e, more))
]

-- where the last byte is a zero, a text stands at each place
pub ended_text : (bytes : List ℕ) (at : ℕ) → at < length bytes → get_or bytes (length bytes - 1) 0 ≡ 0 → true ≡ is_some (text_at at bytes)
ended_text bytes at l z =
    let len : length (drop at bytes) ≡ length bytes - at = length-drop at bytes in
    let there : at + (length bytes - 1 - at) ≡ length bytes - 1 = omega (arith, l) in
    let zero' : get_or (drop at bytes) (length bytes - 1 - at) 0 ≡ 0 = get_or-drop at bytes (length bytes - 1 - at) 0 ∙ ap (λ (n : ℕ). get_or bytes n 0) there ∙ z in
    let near = gap_before (drop at bytes) (length bytes - 1 - at) (omega (arith, l, len)) zero' in
    sym (ap is_some (text_ends bytes at (gap (drop at bytes)) refl (omega (arith, l, near))))

-- the first byte of a text
first_cons : (b : ℕ) (o : Option (List ℕ)) (text : List ℕ) → option_map (λ more. b ∷ more) o ≡ Some text → get_or text 0 0 ≡ b
first_cons b None text e = absurd cc
first_cons b (Some more) text e = let same : b ∷ more ≡ text = cc in ap (λ (t : List ℕ). get_or t 0 0) (sym same)

first_of : (bytes text : List ℕ) → to_zero bytes ≡ Some text → get_or text 0 0 ≡ get_or bytes 0 0
first_of [] text e = let n = to_zero_nil in absurd cc
first_of (b ∷ bytes) text e = elim (cases_eq b 0) [
  | inl z ↦ (let s : Some [] ≡ Some text = sym (to_zero_stop b bytes z) ∙ e in let same : [] ≡ text = cc in ap (λ (t : List ℕ). get_or t 0 0) (sym same) ∙ sym z)
  | inr n ↦ first_cons b (to_zero bytes) text (sym (to_zero_more b bytes n) ∙ e)
]

text_first : (at : ℕ) (bytes text : List ℕ) → text_at at bytes ≡ Some text → get_or text 0 0 ≡ get_or bytes at 0
unfolding text_at
text_first at bytes text e = first_of (drop at bytes) text e ∙ get_or-drop at bytes 0 0 ∙ ap (λ (n : ℕ). get_or bytes n 0) (let k : at + 0 ≡ at = omega arith in k)

pub first_is : (at b : ℕ) (bytes : List ℕ) (o : Option (List ℕ)) → b ≡ get_or bytes at 0 → text_at at bytes ≡ o → IfSome o (λ name. b ≡ get_or name 0 0)
first_is at b bytes None e f = tt
first_is at b bytes (Some text) e f = e ∙ sym (text_first at bytes text f)

-- ---- the gaps, from the last to the first

-- the gaps from number i on are there, and `after` bytes stand from place 64 * i to the next zero
pub record GapsFrom (bytes gaps : List ℕ) (i n after : ℕ) : Type 0 where
  pub count : length gaps ≡ n
  pub each : (q : ℕ) → i ≤ q → q < n → get_or gaps q 0 ≡ gap (drop (64 * (q + 1)) bytes)
  pub next : after ≡ gap (drop (64 * i) bytes)

pub gaps_begin : (bytes gaps : List ℕ) (n : ℕ) → n ≡ length bytes / 64 + 1 → length gaps ≡ n → GapsFrom bytes gaps n n 0
gaps_begin bytes gaps n en el = record {
  count = el;
  each = λ q a b. absurd (omega arith);
  next = sym (gap_past bytes (64 * n) (omega arith));
}

pub gaps_next : (bytes gaps : List ℕ) (i n after now : ℕ) → i < n → GapsFrom bytes gaps (i + 1) n after → now ≡ gap (drop (64 * i) bytes) → GapsFrom bytes (set gaps i after) i n now
gaps_next bytes gaps i n after now l g e = record {
  count = length-set gaps i after ∙ g.count;
  each = λ q a b. elim (cases_eq q i) [
    | inl here ↦ ap (λ (k : ℕ). get_or (set gaps i after) k 0) here ∙ get_or-set_same gaps i after 0 (let c = g.count in omega (arith, l)) ∙ g.next ∙ ap (λ (k : ℕ). gap (drop (64 * (k + 1)) bytes)) (sym here)
    | inr other ↦ get_or-set_other gaps i q after 0 other ∙ g.each q (omega (arith, a, other)) b
  ];
  next = e;
}

pub gaps_all : (bytes gaps : List ℕ) (n after : ℕ) → length bytes < 2 ^ 32 → n ≡ length bytes / 64 + 1 → GapsFrom bytes gaps 0 n after → HasGaps bytes gaps
gaps_all bytes gaps n after short en g = record {
  short = short;
  count = g.count ∙ en;
  each = λ q l. g.each q (omega arith) (let c = g.count in omega (arith, c, l));
}
