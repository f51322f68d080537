-- What stands at the front of some bytes.
use Rattle.std.proofs.Common.{◌≡◌, ◌≢◌, ◌<◌, ◌≤◌, ◌+◌, ◌-◌, ℕ, Bool, true, false, cond, eqb, ltb, leb, ◌&&◌, List, [], ◌∷◌, ◌++◌, length, get_or, take, drop, Option, Some, None, refl, sym, ap, subst, ◌∙◌, arith}
use Rattle.std.proofs.lemmas.Bool.{and_parts, eqb-true, ltb-true, ltb-false, leb-true, lt-ltb, le-ltb, le-leb, lt-leb}
use Rattle.std.proofs.lemmas.Bool.Decides.{nat_tests}
use Rattle.std.proofs.lemmas.List.{append-nil, take_rest}
use Rattle.std.proofs.lemmas.Option.{same_Some}
use Rattle.std.specs.Prelude.{IfSome}
use Rattle.std.specs.Str.{IsUtf8}
use Rattle.rtt_terminal.specs.Stream.{digit, LacksNewline, switch_item, line_item, item_bytes, IsItem, LacksMark, IsNoText, IsCut, IsNoSwitch}
use Rattle.rtt_terminal.specs.Reading.{terminal_named, terminal_of, up_to_newline, from_newline}
use Rattle.rtt_terminal.proofs.Items.{line_then}

-- ---- digits

low_digit : (t : ℕ) → t < 10 → digit t ≡ 48 + t
low_digit t lt = let test = lt-ltb t 10 lt in ap (λ (b : Bool). cond b (48 + t) (55 + t)) test

high_digit : (t : ℕ) → 10 ≤ t → digit t ≡ 55 + t
high_digit t le = let test = le-ltb t 10 le in ap (λ (b : Bool). cond b (48 + t) (55 + t)) test

found_by : (byte t : ℕ) (x y : Bool) → (leb 48 byte && leb byte 57) ≡ x → (leb 65 byte && leb byte 70) ≡ y → cond x (Some (byte - 48)) (cond y (Some (byte - 55)) None) ≡ Some t → (t < 16) × (byte ≡ digit t)
found_by byte t true y p q h =
    let both = and_parts (leb 48 byte) (leb byte 57) p in
    let low = leb-true 48 byte both.0 in
    let high = leb-true byte 57 both.1 in
    let is : byte - 48 ≡ t = same_Some (byte - 48) t h in
    let one : t < 10 = omega arith in
    (omega arith, (let at : byte ≡ 48 + t = omega arith in at) ∙ sym (low_digit t one))
found_by byte t false true p q h =
    let both = and_parts (leb 65 byte) (leb byte 70) q in
    let low = leb-true 65 byte both.0 in
    let high = leb-true byte 70 both.1 in
    let is : byte - 55 ≡ t = same_Some (byte - 55) t h in
    let many : 10 ≤ t = omega arith in
    (omega arith, (let at : byte ≡ 55 + t = omega arith in at) ∙ sym (high_digit t many))
found_by byte t false false p q h = absurd cc

pub terminal_found : (byte t : ℕ) → terminal_of byte ≡ Some t → (t < 16) × (byte ≡ digit t)
terminal_found byte t h = found_by byte t (leb 48 byte && leb byte 57) (leb 65 byte && leb byte 70) refl refl h

again_low : (t byte : ℕ) → t < 10 → byte ≡ 48 + t → terminal_of byte ≡ Some t
again_low t byte lt is =
    let low = le-leb 48 byte (omega arith) in
    let high = le-leb byte 57 (omega arith) in
    let back : byte - 48 ≡ t = omega arith in
    rw (low, high) (ap Some back)

again_high : (t byte : ℕ) → 10 ≤ t → t < 16 → byte ≡ 55 + t → terminal_of byte ≡ Some t
again_high t byte le lt is =
    let past = lt-leb byte 57 (omega arith) in
    let least = le-leb 48 byte (omega arith) in
    let low = le-leb 65 byte (omega arith) in
    let high = le-leb byte 70 (omega arith) in
    let back : byte - 55 ≡ t = omega arith in
    rw (least, past, low, high) (ap Some back)

again_by : (t : ℕ) (b : Bool) → ltb t 10 ≡ b → t < 16 → terminal_of (digit t) ≡ Some t
again_by t true e lt = let one = ltb-true t 10 e in again_low t (digit t) one (low_digit t one)
again_by t false e lt = let many = ltb-false t 10 e in again_high t (digit t) many lt (high_digit t many)

pub terminal_again : (t : ℕ) → t < 16 → terminal_of (digit t) ≡ Some t
terminal_again t lt = again_by t (ltb t 10) refl lt

pub named_small : (text : List ℕ) (o : Option ℕ) → o ≡ terminal_named text → IfSome o (λ t. t < 16)
named_small text None is = tt
named_small [] (Some t) is = absurd (cc is)
named_small (b ∷ []) (Some t) is = (terminal_found b t (sym is)).0
named_small (b ∷ c ∷ text) (Some t) is = absurd (cc is)

-- ---- a switch

pub switch_missing : (bytes : List ℕ) → length bytes < 1 → IsNoSwitch (255 ∷ bytes)
switch_missing [] none = record { after = []; begins = refl; no_digit = λ t more lt e. absurd cc }
switch_missing (b ∷ bytes) none = absurd (omega arith)

pub switch_refused : (bytes : List ℕ) → 1 ≤ length bytes → None ≡ terminal_of (get_or bytes 0 0) → IsNoSwitch (255 ∷ bytes)
switch_refused [] some h = absurd (omega arith)
switch_refused (b ∷ bytes) some h = record {
  after = b ∷ bytes;
  begins = refl;
  no_digit = λ t more lt e. (let same : b ≡ digit t = cc in let found = terminal_again t lt in let none : None ≡ Some t = h ∙ ap terminal_of same ∙ found in absurd cc);
}

pub switch_taken : (bytes : List ℕ) (t : ℕ) → 1 ≤ length bytes → Some t ≡ terminal_of (get_or bytes 0 0) → (255 ∷ bytes ≡ item_bytes (switch_item t) ++ take (length bytes - 1) (drop 1 bytes)) × IsItem (switch_item t)
switch_taken [] t some h = absurd (omega arith)
switch_taken (b ∷ bytes) t some h =
    let found = terminal_found b t (sym h) in
    let rest : take (length (b ∷ bytes) - 1) (drop 1 (b ∷ bytes)) ≡ bytes = take_rest (b ∷ bytes) 1 in
    (ap (λ (x : ℕ). 255 ∷ x ∷ bytes) found.1 ∙ ap (λ (r : List ℕ). 255 ∷ digit t ∷ r) (sym rest), found.0)

-- ---- a line

lacks_by : (b : ℕ) (x : Bool) (front : List ℕ) → eqb b 10 ≡ x → LacksNewline front → LacksNewline (cond x [] (b ∷ front))
lacks_by b true front e h = tt
lacks_by b false front e h = (let ne : b ≢ 10 = grind (arith, nat_tests) in ne, h)

up_lacks : (bytes : List ℕ) → LacksNewline (up_to_newline bytes)
up_lacks [] = tt
up_lacks (b ∷ bytes) = lacks_by b (eqb b 10) (up_to_newline bytes) refl (up_lacks bytes)

whole_by : (b : ℕ) (x : Bool) (bytes front behind : List ℕ) → bytes ≡ front ++ behind → b ∷ bytes ≡ cond x [] (b ∷ front) ++ cond x (b ∷ bytes) behind
whole_by b true bytes front behind e = refl
whole_by b false bytes front behind e = ap (λ (l : List ℕ). b ∷ l) e

whole : (bytes : List ℕ) → bytes ≡ up_to_newline bytes ++ from_newline bytes
whole [] = refl
whole (b ∷ bytes) = whole_by b (eqb b 10) bytes (up_to_newline bytes) (from_newline bytes) (whole bytes)

head_by : (b c : ℕ) (x : Bool) (bytes behind after : List ℕ) → eqb b 10 ≡ x → (behind ≡ c ∷ after → c ≡ 10) → cond x (b ∷ bytes) behind ≡ c ∷ after → c ≡ 10
head_by b c true bytes behind after e more is = let same : b ≡ c = cc in sym same ∙ eqb-true b 10 e
head_by b c false bytes behind after e more is = more is

from_head : (bytes : List ℕ) (c : ℕ) (after : List ℕ) → from_newline bytes ≡ c ∷ after → c ≡ 10
from_head [] c after is = absurd cc
from_head (b ∷ bytes) c after is = head_by b c (eqb b 10) bytes (from_newline bytes) after refl (from_head bytes c after) is

none_lacks : (bytes : List ℕ) → from_newline bytes ≡ [] → LacksNewline bytes
none_lacks bytes none = let all : bytes ≡ up_to_newline bytes ++ [] = whole bytes ∙ ap (λ (l : List ℕ). up_to_newline bytes ++ l) none in subst LacksNewline (sym (all ∙ append-nil (up_to_newline bytes))) (up_lacks bytes)

not_empty : (bytes : List ℕ) → 0 < length bytes → bytes ≢ []
not_empty [] some e = omega arith
not_empty (b ∷ bytes) some e = absurd cc

pub line_cut : (bytes behind : List ℕ) → behind ≡ from_newline bytes → length behind < 1 → 0 < length bytes → LacksMark bytes → IsCut bytes
line_cut bytes [] is none some mark = record { some = not_empty bytes some; no_end = none_lacks bytes (sym is); no_switch = mark }
line_cut bytes (b ∷ behind) is none some mark = absurd (omega arith)

-- the line, its newline, and what comes after
parted : (bytes line behind : List ℕ) → line ≡ up_to_newline bytes → behind ≡ from_newline bytes → 1 ≤ length behind → bytes ≡ line ++ 10 ∷ take (length behind - 1) (drop 1 behind)
parted bytes line [] front is some = absurd (omega arith)
parted bytes line (c ∷ after) front is some =
    let rest : take (length (c ∷ after) - 1) (drop 1 (c ∷ after)) ≡ after = take_rest (c ∷ after) 1 in
    let mark : c ≡ 10 = from_head bytes c after (sym is) in
    let behind : from_newline bytes ≡ 10 ∷ take (length (c ∷ after) - 1) (drop 1 (c ∷ after)) = sym is ∙ ap (λ (x : ℕ). x ∷ after) mark ∙ ap (λ (r : List ℕ). 10 ∷ r) (sym rest) in
    whole bytes ∙ ap (λ (l : List ℕ). l ++ from_newline bytes) (sym front) ∙ ap (λ (l : List ℕ). line ++ l) behind

pub line_taken : (bytes line behind text : List ℕ) → line ≡ up_to_newline bytes → behind ≡ from_newline bytes → 1 ≤ length behind → text ≡ line → IsUtf8 line
    → (bytes ≡ item_bytes (line_item text) ++ take (length behind - 1) (drop 1 behind)) × IsItem (line_item text)
line_taken bytes line behind text front is some same utf8 =
    (parted bytes text behind (same ∙ front) is some ∙ sym (line_then text (take (length behind - 1) (drop 1 behind))), (subst IsUtf8 (sym same) utf8, subst LacksNewline (sym (same ∙ front)) (up_lacks bytes)))

pub line_refused : (bytes line behind : List ℕ) → line ≡ up_to_newline bytes → behind ≡ from_newline bytes → 1 ≤ length behind → ¬ (IsUtf8 line) → LacksMark bytes → IsNoText bytes
line_refused bytes line behind front is some bad mark = record {
  line = line;
  after = take (length behind - 1) (drop 1 behind);
  begins = parted bytes line behind front is some;
  whole = subst LacksNewline (sym front) (up_lacks bytes);
  no_text = bad;
  no_switch = mark;
}
