-- A code read from its end.
use Rattle.std.proofs.Common.{◌≡◌, ◌≢◌, inl, inr, ℕ, zero, suc, ◌+◌, ◌-◌, ◌*◌, ◌/◌, ◌%◌, ◌^◌, ◌<◌, ◌≤◌, ◌==◌, false, List, [], ◌∷◌, ◌++◌, length, get_or, take, drop, set, All, refl, sym, ◌∙◌, ap, subst, arith, length-append, append_assoc}
use Rattle.std.proofs.lemmas.Bool.{cases_eq}
use Rattle.std.proofs.lemmas.Bool.Decides.{nat_tests}
use Rattle.std.proofs.lemmas.List.{append-nil, take_more_set, take_more, take_all, drop_all, drop-set, get_or-append-add, get_or_append_left, length-take-le, length-drop, get_or-take, get_or-drop, same_lists, drop_at, drop-drop, take-append-drop}
use Rattle.std.proofs.Math.Nat.{pow-succ'}
use Rattle.std.specs.Int.Count.{ones, ones_step, ones-le}
use borrow.Rule.Slice.PartMut.{put_mid, post_of}
use Rattle.rzcobs_core.specs.Blocks.{zero_bits, nonzero, first_form, second_form, third_form, IsBlock, few, zero_after, none_zero, Blocks, end, block}
use Rattle.rzcobs_core.specs.Reading.{clear_bits, ReadsRun, ReadsLast, EndsInNoBlock}
use Rattle.rzcobs_core.proofs.Bits.{nonzero-zero, nonzero-other, zero_bits-zero, zero_bits-other, nonzero-append, zero_bits-append}
use Rattle.rzcobs_core.proofs.OneReading.{last_of, same_ends, same_last, small_code, block_some}

abbrev pub NoZero : List ℕ → Type 0
NoZero xs = All (λ b. b ≢ 0) xs

-- facts on each element

pub NoZero-cons : (x : ℕ) (xs : List ℕ) → x ≢ 0 → NoZero xs → NoZero (x ∷ xs)
NoZero-cons x xs here more zero d within = here
NoZero-cons x xs here more (suc k) d within = more k d (omega arith)

pub NoZero-left : (xs ys : List ℕ) → NoZero (xs ++ ys) → NoZero xs
NoZero-left xs ys all k d within = subst (λ (n : ℕ). n ≢ 0) (get_or_append_left xs ys d k within) (all k d (omega (arith, length-append xs ys)))

pub NoZero-right : (xs ys : List ℕ) → NoZero (xs ++ ys) → NoZero ys
NoZero-right xs ys all k d within = subst (λ (n : ℕ). n ≢ 0) (get_or-append-add xs ys k d) (all (length xs + k) d (omega (arith, length-append xs ys)))

-- of the two parts of a list without a zero
pub NoZero-before : (whole front back : List ℕ) → whole ≡ front ++ back → NoZero whole → NoZero front
NoZero-before whole front back is non = NoZero-left front back (subst NoZero is non)

pub NoZero-behind : (whole front back : List ℕ) → whole ≡ front ++ back → NoZero whole → NoZero back
NoZero-behind whole front back is non = NoZero-right front back (subst NoZero is non)

pub NoZero-append : (xs ys : List ℕ) → NoZero xs → NoZero ys → NoZero (xs ++ ys)
NoZero-append [] ys none more = more
NoZero-append (x ∷ xs) ys none more = NoZero-cons x (xs ++ ys) (none 0 0 (omega arith)) (NoZero-append xs ys (λ k d h. none (suc k) d (omega arith)) more)

pub NoZero-one : (x : ℕ) → x ≢ 0 → NoZero (x ∷ [])
NoZero-one x not = NoZero-cons x [] not (λ k d h. absurd (omega arith))

NoZero-nonzero : (xs : List ℕ) → NoZero (nonzero xs)
NoZero-nonzero [] = λ k d h. absurd (omega arith)
NoZero-nonzero (x ∷ xs) = elim (cases_eq x 0) [
  | inl is ↦ subst NoZero (sym (nonzero-zero x xs is)) (NoZero-nonzero xs)
  | inr not ↦ subst NoZero (sym (nonzero-other x xs not)) (NoZero-cons x (nonzero xs) not (NoZero-nonzero xs))
]

NoZero-block : (code bytes : List ℕ) → IsBlock code bytes → NoZero code
NoZero-block _ _ (few s all some) = NoZero-append (nonzero s) (zero_bits s ∷ []) (NoZero-nonzero s) (NoZero-one (zero_bits s) (λ e. absurd (omega arith)))
NoZero-block _ _ (zero_after xs non least most) = NoZero-append xs ((length xs + 121) ∷ []) non (NoZero-one (length xs + 121) (λ e. absurd (omega arith)))
NoZero-block _ _ (none_zero xs non size) = NoZero-append xs (255 ∷ []) non (NoZero-one 255 (λ e. absurd (omega arith)))

-- no byte of a code is zero
pub NoZero-blocks : (code bytes : List ℕ) → Blocks code bytes → NoZero code
NoZero-blocks _ _ end = λ k d h. absurd (omega arith)
NoZero-blocks _ _ (block code bytes codes rest is more) = NoZero-append code codes (NoZero-block code bytes is) (NoZero-blocks codes rest more)

pub zero_no_code : (code bytes : List ℕ) (k : ℕ) → k < length code → get_or code k 0 ≡ 0 → Blocks code bytes → ⊥
zero_no_code code bytes k within is blocks = NoZero-blocks code bytes blocks k 0 within is

-- how many bytes a block of the first form stores

pub clear_bits-more : (n code : ℕ) → (code % 2 ≡ 1 → clear_bits (suc n) code ≡ clear_bits n (code / 2)) × (code % 2 ≢ 1 → clear_bits (suc n) code ≡ suc (clear_bits n (code / 2)))
unfolding clear_bits
clear_bits-more n code = (λ odd. grind (arith, nat_tests), λ even. grind (arith, nat_tests))

odd_more : (n : ℕ) → (1 + 2 * n) % 2 ≡ 1
odd_more n = omega arith

clear_bits-stored : (xs : List ℕ) → clear_bits (length xs) (zero_bits xs) ≡ length (nonzero xs)
unfolding clear_bits
clear_bits-stored [] = refl
clear_bits-stored (x ∷ xs) = elim (cases_eq x 0) [
  | inl is ↦
      let bits = zero_bits-zero x xs is in
      let odd : zero_bits (x ∷ xs) % 2 ≡ 1 = omega (arith, bits) in
      let half : zero_bits (x ∷ xs) / 2 ≡ zero_bits xs = omega (arith, bits) in
      (clear_bits-more (length xs) (zero_bits (x ∷ xs))).0 odd ∙ ap (clear_bits (length xs)) half ∙ clear_bits-stored xs ∙ ap length (sym (nonzero-zero x xs is))
  | inr not ↦
      let bits = zero_bits-other x xs not in
      let even : zero_bits (x ∷ xs) % 2 ≢ 1 = λ e. absurd (omega (arith, bits)) in
      let half : zero_bits (x ∷ xs) / 2 ≡ zero_bits xs = omega (arith, bits) in
      (clear_bits-more (length xs) (zero_bits (x ∷ xs))).1 even ∙ ap suc (ap (clear_bits (length xs)) half ∙ clear_bits-stored xs) ∙ ap length (sym (nonzero-other x xs not))
]

-- i of the seven bytes are put, and these bits and stored bytes are left
pub record Puts (code : ℕ) (stored seven : List ℕ) (i taken bits : ℕ) : Type 0 where
  pub mask : zero_bits (take i seven) + 2 ^ i * bits ≡ code
  pub done : nonzero (take i seven) ≡ take taken stored
  pub left : taken + clear_bits (7 - i) bits ≡ length stored

pub puts_none : (code : ℕ) (stored seven : List ℕ) → length stored ≡ clear_bits 7 code → Puts code stored seven 0 0 code
puts_none code stored seven all = record { mask = omega arith; done = refl; left = omega (arith, all) }

module _ (code : ℕ) (stored seven : List ℕ) (i taken bits : ℕ) (all : length seven ≡ 7) (more : i < 7) (puts : Puts code stored seven i taken bits) where
  size : length (take i seven) ≡ i
  size = length-take-le i seven (omega arith)

  parts : 2 ^ i * bits ≡ 2 ^ i * (bits % 2) + 2 ^ (i + 1) * (bits / 2)
  parts =
      let e : bits ≡ bits % 2 + 2 * (bits / 2) = omega arith in
      let p : 2 ^ (i + 1) ≡ 2 * 2 ^ i = ap (λ (n : ℕ). 2 ^ n) (let s : i + 1 ≡ suc i = omega arith in s) ∙ pow-succ' 2 i in
      ap (λ (n : ℕ). 2 ^ i * n) e ∙ (let f : 2 ^ i * (bits % 2 + 2 * (bits / 2)) ≡ 2 ^ i * (bits % 2) + (2 * 2 ^ i) * (bits / 2) = grind arith in f)
      ∙ ap (λ (n : ℕ). 2 ^ i * (bits % 2) + n * (bits / 2)) (sym p)

  mask_more : (y : ℕ) → zero_bits (take (i + 1) (set seven i y)) ≡ zero_bits (take i seven) + 2 ^ i * zero_bits (y ∷ [])
  mask_more y = ap zero_bits (take_more_set seven i y (omega arith)) ∙ zero_bits-append (take i seven) (y ∷ [])
      ∙ ap (λ (n : ℕ). zero_bits (take i seven) + 2 ^ n * zero_bits (y ∷ [])) size

  steps : 7 - i ≡ suc (7 - (i + 1))
  steps = omega arith

  pub puts_zero : bits % 2 ≡ 1 → Puts code stored (set seven i 0) (i + 1) taken (bits / 2)
  puts_zero odd = record {
    mask = omega (arith, puts.mask, parts, mask_more 0, ap (λ (n : ℕ). 2 ^ i * n) (zero_bits-zero 0 [] refl), ap (λ (n : ℕ). 2 ^ i * n) odd);
    done = ap nonzero (take_more_set seven i 0 (omega arith)) ∙ nonzero-append (take i seven) (0 ∷ []) ∙ append-nil (nonzero (take i seven)) ∙ puts.done;
    left = omega (arith, puts.left, ap (λ (n : ℕ). clear_bits n bits) steps, (clear_bits-more (7 - (i + 1)) bits).0 odd);
  }

  counted : bits % 2 ≢ 1 → taken + suc (clear_bits (7 - (i + 1)) (bits / 2)) ≡ length stored
  counted even = omega (arith, puts.left, ap (λ (n : ℕ). clear_bits n bits) steps, (clear_bits-more (7 - (i + 1)) bits).1 even)

  pub some_left : bits % 2 ≢ 1 → taken < length stored
  some_left even = omega (arith, counted even)

  pub puts_other : bits % 2 ≢ 1 → get_or stored taken 0 ≢ 0 → Puts code stored (set seven i (get_or stored taken 0)) (i + 1) (taken + 1) (bits / 2)
  puts_other even not =
      let y = get_or stored taken 0 in
      let none : bits % 2 ≡ 0 = omega arith in
      record {
        mask = omega (arith, puts.mask, parts, mask_more y, ap (λ (n : ℕ). 2 ^ i * n) (zero_bits-other y [] not), ap (λ (n : ℕ). 2 ^ i * n) none);
        done = ap nonzero (take_more_set seven i y (omega arith)) ∙ nonzero-append (take i seven) (y ∷ [])
            ∙ ap (λ (l : List ℕ). nonzero (take i seven) ++ l) (nonzero-other y [] not)
            ∙ ap (λ (l : List ℕ). l ++ y ∷ []) puts.done ∙ sym (take_more stored taken 0 (some_left even));
        left = omega (arith, counted even);
      }

pub puts_mask : (code : ℕ) (stored seven : List ℕ) (taken bits : ℕ) → length seven ≡ 7 → code < 128 → Puts code stored seven 7 taken bits → zero_bits seven ≡ code
puts_mask code stored seven taken bits all small puts =
    let e : take 7 seven ≡ seven = take_all 7 seven (omega arith) in
    omega (arith, puts.mask, ap zero_bits e)

pub puts_done : (code : ℕ) (stored seven : List ℕ) (taken bits : ℕ) → length seven ≡ 7 → Puts code stored seven 7 taken bits → nonzero seven ≡ stored
unfolding clear_bits
puts_done code stored seven taken bits all puts =
    let e : take 7 seven ≡ seven = take_all 7 seven (omega arith) in
    let left : taken + 0 ≡ length stored = puts.left in
    ap nonzero (sym e) ∙ puts.done ∙ take_all taken stored (omega (arith, left))

-- the three forms

few_size : (before : List ℕ) (code : ℕ) → code < 128 → (front last bytes : List ℕ) → IsBlock last bytes → before ++ code ∷ [] ≡ front ++ last → length last ≡ suc (clear_bits 7 code)
few_size before code small front _ _ (few s all some) same =
    let e = same_ends before (front ++ nonzero s) code (zero_bits s) (same ∙ sym (append_assoc front (nonzero s) (zero_bits s ∷ []))) in
    let count : clear_bits 7 code ≡ length (nonzero s) = ap (λ (n : ℕ). clear_bits n code) (sym all) ∙ ap (clear_bits (length s)) e.1 ∙ clear_bits-stored s in
    omega (arith, count, length-append (nonzero s) (zero_bits s ∷ []))
few_size before code small front _ _ (zero_after ys non least most) same =
    let e = same_ends before (front ++ ys) code (length ys + 121) (same ∙ sym (append_assoc front ys ((length ys + 121) ∷ []))) in
    absurd (omega (arith, e.1))
few_size before code small front _ _ (none_zero ys non size) same =
    let e = same_ends before (front ++ ys) code 255 (same ∙ sym (append_assoc front ys (255 ∷ []))) in
    absurd (omega (arith, e.1))

zero_after_size : (before : List ℕ) (code : ℕ) → 128 ≤ code → code < 255 → (front last bytes : List ℕ) → IsBlock last bytes → before ++ code ∷ [] ≡ front ++ last → length last ≡ suc (code - 121)
zero_after_size before code large small front _ _ (few s all some) same =
    let e = same_ends before (front ++ nonzero s) code (zero_bits s) (same ∙ sym (append_assoc front (nonzero s) (zero_bits s ∷ []))) in
    absurd (omega (arith, e.1, small_code s all))
zero_after_size before code large small front _ _ (zero_after ys non least most) same =
    let e = same_ends before (front ++ ys) code (length ys + 121) (same ∙ sym (append_assoc front ys ((length ys + 121) ∷ []))) in
    omega (arith, e.1, length-append ys ((length ys + 121) ∷ []))
zero_after_size before code large small front _ _ (none_zero ys non size) same =
    let e = same_ends before (front ++ ys) code 255 (same ∙ sym (append_assoc front ys (255 ∷ []))) in
    absurd (omega (arith, e.1))

none_zero_size : (before front last bytes : List ℕ) → IsBlock last bytes → before ++ 255 ∷ [] ≡ front ++ last → length last ≡ suc 134
none_zero_size before front _ _ (few s all some) same =
    let e = same_ends before (front ++ nonzero s) 255 (zero_bits s) (same ∙ sym (append_assoc front (nonzero s) (zero_bits s ∷ []))) in
    absurd (omega (arith, e.1, small_code s all))
none_zero_size before front _ _ (zero_after ys non least most) same =
    let e = same_ends before (front ++ ys) 255 (length ys + 121) (same ∙ sym (append_assoc front ys ((length ys + 121) ∷ []))) in
    absurd (omega (arith, e.1))
none_zero_size before front _ _ (none_zero ys non size) same = omega (arith, length-append ys (255 ∷ []))

-- a block has too many bytes
too_long : (before front last : List ℕ) (code stored : ℕ) → before ++ code ∷ [] ≡ front ++ last → length last ≡ suc stored → length before < stored → ⊥
too_long before front last code stored same size short = absurd (omega (arith, ap length same, length-append before (code ∷ []), length-append front last))

pub no_few : (before : List ℕ) (code : ℕ) → code < 128 → length before < clear_bits 7 code → EndsInNoBlock (before ++ code ∷ [])
no_few before code small short front last bytes is same = too_long before front last code (clear_bits 7 code) same (few_size before code small front last bytes is same) short

pub no_zero_after : (before : List ℕ) (code : ℕ) → 128 ≤ code → code < 255 → length before < code - 121 → EndsInNoBlock (before ++ code ∷ [])
no_zero_after before code large small short front last bytes is same = too_long before front last code (code - 121) same (zero_after_size before code large small front last bytes is same) short

pub no_none_zero : (before : List ℕ) → length before < 134 → EndsInNoBlock (before ++ 255 ∷ [])
no_none_zero before short front last bytes is same = too_long before front last 255 134 same (none_zero_size before front last bytes is same) short

-- a block has a zero

pub no_zero_code : (before : List ℕ) (code : ℕ) → code ≡ 0 → EndsInNoBlock (before ++ code ∷ [])
no_zero_code before code none front _ _ (few s all some) same =
    let e = same_ends before (front ++ nonzero s) code (zero_bits s) (same ∙ sym (append_assoc front (nonzero s) (zero_bits s ∷ []))) in
    absurd (omega (arith, e.1))
no_zero_code before code none front _ _ (zero_after ys non least most) same =
    let e = same_ends before (front ++ ys) code (length ys + 121) (same ∙ sym (append_assoc front ys ((length ys + 121) ∷ []))) in
    absurd (omega (arith, e.1))
no_zero_code before code none front _ _ (none_zero ys non size) same =
    let e = same_ends before (front ++ ys) code 255 (same ∙ sym (append_assoc front ys (255 ∷ []))) in
    absurd (omega (arith, e.1))

pub reads_few : (before front kept seven out after : List ℕ) (code at : ℕ) → before ≡ front ++ kept → nonzero seven ≡ kept → zero_bits seven ≡ code → length seven ≡ 7
    → 0 < code → 7 ≤ at → drop (at - 7) after ≡ seven ++ drop at out → ReadsLast (before ++ code ∷ []) out at front after (at - 7)
reads_few before front kept seven out after code at is stored mask all some room put = record {
  last = first_form seven;
  bytes = seven;
  is = few seven all (omega arith);
  code_is = ap (λ (l : List ℕ). l ++ code ∷ []) is ∙ append_assoc front kept (code ∷ []) ∙ ap (λ (l : List ℕ). front ++ (l ++ code ∷ [])) (sym stored)
      ∙ ap (λ (n : ℕ). front ++ (nonzero seven ++ n ∷ [])) (sym mask);
  put = put;
  room = omega (arith, length-append (nonzero seven) (zero_bits seven ∷ []));
  within = omega arith;
}

pub reads_zero_after : (before out front after : List ℕ) (code stored at begin : ℕ) → NoZero before → 128 ≤ code → code < 255 → stored ≡ code - 121 → 0 < at → at ≤ length out
    → ReadsRun before stored (set out (at - 1) 0) (at - 1) front after begin → ReadsLast (before ++ code ∷ []) out at front after begin
reads_zero_after before out front after code stored at begin non large small is some within run =
    let mark : code ≡ length run.kept + 121 = omega (arith, run.size) in
    let left : drop (at - 1) (set out (at - 1) 0) ≡ 0 ∷ drop at out = drop-set out (at - 1) 0 (omega arith) ∙ ap (λ (n : ℕ). 0 ∷ drop n out) (let e : at - 1 + 1 ≡ at = omega arith in e) in
    record {
      last = second_form run.kept;
      bytes = run.kept ++ 0 ∷ [];
      is = zero_after run.kept (NoZero-behind before front run.kept run.before_is non) (omega (arith, run.size)) (omega (arith, run.size));
      code_is = ap (λ (l : List ℕ). l ++ code ∷ []) run.before_is ∙ append_assoc front run.kept (code ∷ []) ∙ ap (λ (n : ℕ). front ++ (run.kept ++ n ∷ [])) mark;
      put = run.put ∙ ap (λ (l : List ℕ). run.kept ++ l) left ∙ sym (append_assoc run.kept (0 ∷ []) (drop at out));
      room = omega (arith, run.place, run.size, length-append run.kept ((length run.kept + 121) ∷ []));
      within = omega (arith, run.place);
    }

pub reads_none_zero : (before out front after : List ℕ) (at begin : ℕ) → NoZero before → ReadsRun before 134 out at front after begin → ReadsLast (before ++ 255 ∷ []) out at front after begin
reads_none_zero before out front after at begin non run = record {
  last = third_form run.kept;
  bytes = run.kept;
  is = none_zero run.kept (NoZero-behind before front run.kept run.before_is non) run.size;
  code_is = ap (λ (l : List ℕ). l ++ 255 ∷ []) run.before_is ∙ append_assoc front run.kept (255 ∷ []);
  put = run.put;
  room = omega (arith, run.place, run.size, length-append run.kept (255 ∷ []));
  within = omega (arith, run.place);
}

-- the whole code

-- The blocks behind the rest are read, and the rest is a code wherever the whole is.
pub record Decodes (piece out rest : List ℕ) (at : ℕ) : Type 0 where
  pub done : List ℕ
  pub bytes : List ℕ
  pub blocks : Blocks done bytes
  pub piece_is : piece ≡ rest ++ done
  pub put : drop at out ≡ bytes
  pub within : at ≤ length out
  pub room : 7 * length rest ≤ at
  pub whole : (b : List ℕ) → Blocks piece b → (c : List ℕ) × Blocks rest c

pub nothing_read : (piece out : List ℕ) → 7 * length piece ≤ length out → Decodes piece out piece (length out)
nothing_read piece out room = record {
  done = [];
  bytes = [];
  blocks = end;
  piece_is = sym (append-nil piece);
  put = drop_all (length out) out (omega arith);
  within = omega arith;
  room = room;
  whole = λ b blocks. (b, blocks);
}

pub front_has : (front last bytes whole : List ℕ) → IsBlock last bytes → Blocks (front ++ last) whole → (c : List ℕ) × Blocks front c
front_has front last bytes whole is blocks = elim (last_of (front ++ last) whole blocks) [
  | inl none ↦ absurd (omega (arith, block_some last bytes is, ap length none.0, length-append front last))
  | inr l ↦
      let same = same_last l.front front l.last last l.last_bytes bytes l.is is (sym l.code_is) in
      (l.front_bytes, subst (λ (f : List ℕ). Blocks f l.front_bytes) same.0 l.before)
]

pub goes_on : (piece out rest front after : List ℕ) (at begin : ℕ) → length after ≡ length out → Decodes piece out rest at → ReadsLast rest out at front after begin → Decodes piece after front begin
goes_on piece out rest front after at begin size d r = record {
  done = r.last ++ d.done;
  bytes = r.bytes ++ d.bytes;
  blocks = block r.last r.bytes d.done d.bytes r.is d.blocks;
  piece_is = d.piece_is ∙ ap (λ (l : List ℕ). l ++ d.done) r.code_is ∙ append_assoc front r.last d.done;
  put = r.put ∙ ap (λ (l : List ℕ). r.bytes ++ l) d.put;
  within = omega (arith, r.within, d.within);
  room = omega (arith, r.room, d.room, ap length r.code_is, length-append front r.last);
  whole = λ b blocks. let w = d.whole b blocks in front_has front r.last r.bytes w.0 r.is (subst (λ (l : List ℕ). Blocks l w.0) r.code_is w.1);
}

pub shorter : (rest out front after : List ℕ) (at begin : ℕ) → ReadsLast rest out at front after begin → length front < length rest
shorter rest out front after at begin r = omega (arith, ap length r.code_is, length-append front r.last, block_some r.last r.bytes r.is)

pub no_code : (piece out rest : List ℕ) (at : ℕ) → 0 < length rest → Decodes piece out rest at → EndsInNoBlock rest → (bytes : List ℕ) → Blocks piece bytes → ⊥
no_code piece out rest at some d none bytes blocks =
    let w = d.whole bytes blocks in
    elim (last_of rest w.0 w.1) [
      | inl empty ↦ absurd (omega (arith, ap length empty.0))
      | inr l ↦ none l.front l.last l.last_bytes l.is l.code_is
    ]

pub moved_down : (out old : List ℕ) (at n : ℕ) → length out ≡ length old → n ≡ length old - at → at ≤ length old → ((k d : ℕ) → k < n → get_or out k d ≡ get_or old (at + k) d) → take n out ≡ drop at old
moved_down out old at n size is within moved = same_lists (take n out) (drop at old)
    (length-take-le n out (omega arith) ∙ is ∙ sym (length-drop at old))
    (λ k d h. let short : k < n = omega (arith, length-take-le n out (omega arith)) in get_or-take n out k d short ∙ moved k d short ∙ sym (get_or-drop at old k d))

-- counting

pub clear_bits-none : (code : ℕ) → clear_bits 0 code ≡ 0
unfolding clear_bits
clear_bits-none code = refl

-- each bit is clear or set
pub clear_and_set : (n code : ℕ) → code < 2 ^ n → clear_bits n code + ones code ≡ n
clear_and_set zero code small = omega (arith, clear_bits-none code, ones-le 0 code small)
clear_and_set (suc n) code small =
    let more = clear_and_set n (code / 2) (omega (arith, pow-succ' 2 n)) in
    elim (cases_eq (code % 2) 1) [
      | inl odd ↦ omega (arith, ones_step code, (clear_bits-more n code).0 odd, more)
      | inr even ↦ omega (arith, ones_step code, (clear_bits-more n code).1 even, more)
    ]

-- after seven bytes were put in front of a place
pub put_front : (out seven : List ℕ) (at : ℕ) → 7 ≤ at → at ≤ length out → drop (at - 7) (put_mid (at - 7) (at - (at - 7)) out seven) ≡ seven ++ drop at out
put_front out seven at room within =
    let size : at - (at - 7) ≡ 7 = omega arith in
    drop_at (take (at - 7) out) (seven ++ post_of (at - 7) (at - (at - 7)) out) (at - 7) (length-take-le (at - 7) out (omega arith))
    ∙ ap (λ (l : List ℕ). seven ++ l) (drop-drop (at - (at - 7)) (at - 7) out ∙ ap (λ (n : ℕ). drop n out) (let e : at - 7 + (at - (at - 7)) ≡ at = omega arith in e))

pub two_parts : (xs front back : List ℕ) (n : ℕ) → front ≡ take n xs → back ≡ drop n xs → xs ≡ front ++ back
two_parts xs front back n a b = sym (take-append-drop n xs) ∙ ap (λ (l : List ℕ). l ++ drop n xs) (sym a) ∙ ap (λ (l : List ℕ). front ++ l) (sym b)

pub some_length : (xs : List ℕ) → (length xs == 0) ≡ false → 0 < length xs
some_length [] is = absurd cc
some_length (x ∷ xs) is = omega arith
