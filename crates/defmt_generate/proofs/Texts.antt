-- Texts of printable ASCII characters.
use Rattle.std.proofs.Common.{◌≡◌, ◌≤◌, ◌<◌, ◌+◌, ◌-◌, ◌/◌, ◌%◌, ◌^◌, ℕ, Bool, true, false, List, [], ◌∷◌, ◌++◌, refl, arith, length, get_or}
use Rattle.std.specs.Prelude.{◌&&◌, ◌==◌, codes, if◌then◌else◌, nat_le, nat_lt}
use Rattle.std.specs.Fmt.{decimal, digit_glyph}
use Rattle.std.specs.List.{AllByRecursion}
use Rattle.std.specs.Str.{is_utf8}
use Rattle.std.proofs.lemmas.Bool.{cond_both}
use Rattle.std.proofs.lemmas.Bool.Decides.{nat_tests}
use Rattle.std.proofs.lemmas.Fmt.{decimal_by_steps}
use Rattle.std.proofs.lemmas.List.Elements.{All-from_recursion, All-get_or}
use Rattle.std.proofs.lemmas.Str.{IsUtf8-from_ascii, is_utf8-from_IsUtf8}
use Rattle.std.proofs.lemmas.Str.Ascii.{IsAscii-from_reads}
use Rattle.defmt_generate.specs.Generated.{boot, call, fail, hex, less_thousand, link, temp, tick}

abbrev pub Printable : ℕ → Type 0
Printable b = (32 ≤ b) × (b < 127)

abbrev pub ArePrintable : List ℕ → Type 0
ArePrintable bytes = AllByRecursion Printable bytes

abbrev pub are_printable : List ℕ → Bool
are_printable [] = true
are_printable (b ∷ bytes) = (nat_le 32 b && nat_lt b 127) && are_printable bytes

pub both : (b c : Bool) → (b && c) ≡ true → (b ≡ true) × (c ≡ true)
both true true e = (refl, refl)
both true false e = absurd (cc e)
both false c e = absurd (cc e)

byte_tested : (b : ℕ) → (nat_le 32 b && nat_lt b 127) ≡ true → Printable b
byte_tested b e =
    let tests : (nat_le 32 b ≡ true) × (nat_lt b 127 ≡ true) = both (nat_le 32 b) (nat_lt b 127) e in
    let low : nat_le 32 b ≡ true = tests.0 in
    let high : nat_lt b 127 ≡ true = tests.1 in
    (grind (arith, nat_tests), grind (arith, nat_tests))

pub tested : (bytes : List ℕ) → are_printable bytes ≡ true → ArePrintable bytes
tested [] e = tt
tested (b ∷ bytes) e =
    let tests : ((nat_le 32 b && nat_lt b 127) ≡ true) × (are_printable bytes ≡ true) = both (nat_le 32 b && nat_lt b 127) (are_printable bytes) e in
    (byte_tested b tests.0, tested bytes tests.1)

pub printable-append : (xs ys : List ℕ) → ArePrintable xs → ArePrintable ys → ArePrintable (xs ++ ys)
printable-append [] ys p q = q
printable-append (x ∷ xs) ys p q = (p.0, printable-append xs ys p.1 q)

pub printable_decimal : (n : ℕ) → n < 2 ^ 64 → ArePrintable (decimal n)
printable_decimal n small = decimal_by_steps (λ m ds. ArePrintable ds)
    (λ m lt. ((omega arith, omega arith), tt))
    (λ m ds le h. printable-append ds ((48 + m % 10) ∷ []) h ((omega arith, omega arith), tt)) n small

pub printable_if : (b : Bool) (xs ys : List ℕ) → ArePrintable xs → ArePrintable ys → ArePrintable (if b then xs else ys)
printable_if true xs ys p q = p
printable_if false xs ys p q = q

glyph : (d : ℕ) → d < 16 → Printable (digit_glyph false d)
glyph d small = cond_both (nat_lt d 10) (48 + d) (87 + d) Printable (λ e. (omega arith, omega arith)) (λ e. (omega arith, omega arith))

printable_hex : (byte : ℕ) → byte < 256 → ArePrintable (hex byte)
printable_hex byte small = (glyph (byte / 16) (omega arith), (glyph (byte % 16) (omega arith), tt))

-- ---- the five strings with their arguments

printable_boot : (x : ℕ) → ArePrintable (boot x)
unfolding boot
printable_boot x = printable-append (codes "boot ") (decimal (x % 256)) (tested (codes "boot ") refl) (printable_decimal (x % 256) (omega arith))

printable_less : (n : ℕ) → n < 4096 → ArePrintable (less_thousand n)
printable_less n small = printable_if (nat_lt n 1000) (codes "-" ++ decimal (1000 - n)) (decimal (n - 1000))
    (printable-append (codes "-") (decimal (1000 - n)) (tested (codes "-") refl) (printable_decimal (1000 - n) (omega arith)))
    (printable_decimal (n - 1000) (omega arith))

printable_temp : (x : ℕ) → ArePrintable (temp x)
unfolding temp
printable_temp x =
    let low : List ℕ = hex (x % 256) in
    let mid : List ℕ = hex (x / 256 % 256) in
    let high : List ℕ = hex (x / 65536 % 256) in
    printable-append (codes "temp ") (less_thousand (x % 2001) ++ (codes " #" ++ (low ++ (mid ++ high)))) (tested (codes "temp ") refl)
    (printable-append (less_thousand (x % 2001)) (codes " #" ++ (low ++ (mid ++ high))) (printable_less (x % 2001) (omega arith))
    (printable-append (codes " #") (low ++ (mid ++ high)) (tested (codes " #") refl)
    (printable-append low (mid ++ high) (printable_hex (x % 256) (omega arith))
    (printable-append mid high (printable_hex (x / 256 % 256) (omega arith)) (printable_hex (x / 65536 % 256) (omega arith))))))

printable_link : (x : ℕ) → ArePrintable (link x)
unfolding link
printable_link x =
    let digit : List ℕ = decimal (x % 10) ++ codes "\"" in
    let even : List ℕ = if x % 2 == 0 then codes "true" else codes "false" in
    printable-append (codes "link ") (even ++ (codes " \"port" ++ digit)) (tested (codes "link ") refl)
    (printable-append even (codes " \"port" ++ digit) (printable_if (x % 2 == 0) (codes "true") (codes "false") (tested (codes "true") refl) (tested (codes "false") refl))
    (printable-append (codes " \"port") digit (tested (codes " \"port") refl)
    (printable-append (decimal (x % 10)) (codes "\"") (printable_decimal (x % 10) (omega arith)) (tested (codes "\"") refl))))

printable_fail : (x : ℕ) → x < 2 ^ 32 → ArePrintable (fail x)
unfolding fail
printable_fail x small = printable-append (codes "fail ") (decimal x) (tested (codes "fail ") refl) (printable_decimal x (omega arith))

printable_tick : (x : ℕ) → x < 2 ^ 32 → ArePrintable (tick x)
unfolding tick
printable_tick x small = printable-append (codes "tick ") (decimal x) (tested (codes "tick ") refl) (printable_decimal x (omega arith))

pub printable_call : (turn x : ℕ) → x < 2 ^ 32 → ArePrintable (call turn x)
unfolding call
printable_call turn x small =
    let last : List ℕ = if turn == 3 then fail x else tick x in
    let more : List ℕ = if turn == 2 then link x else last in
    let most : List ℕ = if turn == 1 then temp x else more in
    printable_if (turn == 0) (boot x) most (printable_boot x)
    (printable_if (turn == 1) (temp x) more (printable_temp x)
    (printable_if (turn == 2) (link x) last (printable_link x)
    (printable_if (turn == 3) (fail x) (tick x) (printable_fail x small) (printable_tick x small))))

-- ---- what is printable is UTF-8

pub printable_utf8 : (bytes : List ℕ) → ArePrintable bytes → is_utf8 bytes ≡ true
printable_utf8 bytes p = is_utf8-from_IsUtf8 bytes (IsUtf8-from_ascii bytes (IsAscii-from_reads bytes (length bytes) (omega arith)
    (λ k lt. let at : Printable (get_or bytes k 0) = All-get_or Printable bytes k 0 lt (All-from_recursion Printable bytes p) in omega (arith, at.1))))
