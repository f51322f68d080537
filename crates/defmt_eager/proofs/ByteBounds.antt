-- How long shown bytes are at most.
use Rattle.std.proofs.Common.{◌≡◌, ◌≤◌, ◌<◌, ◌+◌, ◌*◌, ℕ, suc, false, get_or, List, [], ◌∷◌, ◌++◌, length, map, Option, Some, None, arith, length-append, ◌∙◌, ap}
use Rattle.std.proofs.Math.Nat.{mul-le-mul_left}
use Rattle.std.specs.List.{flat_map}
use Rattle.std.specs.Prelude.{codes, ◌&&◌, nat_le, is_some, if◌then◌else◌}
use Rattle.defmt_grammar.specs.declared.hint.Hint.{Hint}
use Rattle.defmt_grammar.specs.declared.hint.Hint.TheVariants.{Plain, Debug, Radix, Ascii, Micros, Millis, Iso, Clock, Pad}
use Rattle.defmt_hints.specs.Digits.{zero_filled, number_text}
use Rattle.defmt_hints.specs.Escapes.{escape_of, byte_escape_of, byte_escaped, byte_text}
use Rattle.defmt_hints.specs.Printed.{decimal_text, printed_byte, printed_bytes, list_text, parted}
use Rattle.defmt_eager.specs.Answers.{most_bytes}
use Rattle.defmt_eager.specs.Line.{printed_limit}
use Rattle.defmt_eager.proofs.Bounds.{decimal, either, filled, number, radix, two_escaped}

abbrev pub AreBytes : List ℕ → Type 0
AreBytes bytes = (k : ℕ) → get_or bytes k 0 < 256

each_byte : (most : ℕ) (f : ℕ → List ℕ) → ((b : ℕ) → b < 256 → length (f b) ≤ most) → (bytes : List ℕ) → AreBytes bytes → length (flat_map f bytes) ≤ length bytes * most
each_byte most f few [] small = omega arith
each_byte most f few (b ∷ bytes) small =
    omega (arith, few b (small 0), each_byte most f few bytes (λ k. small (suc k)), length-append (f b) (flat_map f bytes))

byte_escape : (c : ℕ) → c < 256 → length (byte_escaped c) ≤ 132
unfolding byte_escape_of
byte_escape c lt =
    let digits : List ℕ = zero_filled 2 (number_text 16 false c) in
    let other : Option (List ℕ) = if nat_le 32 c && nat_le c 126 then None else Some (codes "\\x" ++ digits) in
    let few : length (codes "\\x" ++ digits) ≤ 132 = omega (arith, length-append (codes "\\x") digits, filled 2 (number_text 16 false c), number 16 c false (omega arith) (omega arith)) in
    either 132 (is_some (escape_of 34 c)) (escape_of 34 c) other (c ∷ []) (omega (arith, two_escaped 34 c))
    (either 132 (nat_le 32 c && nat_le c 126) None (Some (codes "\\x" ++ digits)) (c ∷ []) (omega arith) few)

as_text : (bytes : List ℕ) → AreBytes bytes → length (byte_text bytes) ≤ length bytes * 132 + 3
unfolding byte_text
as_text bytes small =
    omega (arith, each_byte 132 byte_escaped byte_escape bytes small, length-append (codes "b\"") (flat_map byte_escaped bytes ++ codes "\""), length-append (flat_map byte_escaped bytes) (codes "\""))

others : (most : ℕ) (f : ℕ → List ℕ) → ((b : ℕ) → b < 256 → length (f b) ≤ most) → (bytes : List ℕ) → AreBytes bytes → length (flat_map (λ y. codes ", " ++ y) (map f bytes)) ≤ length bytes * (2 + most)
others most f few [] small = omega arith
others most f few (b ∷ bytes) small =
    let more : List ℕ = flat_map (λ y. codes ", " ++ y) (map f bytes) in
    let one : length (codes ", " ++ f b) ≡ 2 + length (f b) = length-append (codes ", ") (f b) in
    omega (arith, few b (small 0), others most f few bytes (λ k. small (suc k)), length-append (codes ", " ++ f b) more, one)

as_list : (most : ℕ) (f : ℕ → List ℕ) → ((b : ℕ) → b < 256 → length (f b) ≤ most) → (bytes : List ℕ) → AreBytes bytes → length (list_text (map f bytes)) ≤ length bytes * (2 + most) + 3
unfolding list_text
as_list most f few [] small = omega arith
as_list most f few (b ∷ bytes) small =
    let more : List ℕ = flat_map (λ y. codes ", " ++ y) (map f bytes) in
    omega (arith, few b (small 0), others most f few bytes (λ k. small (suc k)), length-append (codes "[") (parted (map f (b ∷ bytes)) ++ codes "]"), length-append (parted (map f (b ∷ bytes))) (codes "]"), length-append (f b) more)

byte_most : (b : ℕ) → b < 256 → length (decimal_text b) ≤ 300
byte_most b lt = omega (arith, decimal b (omega arith))

pub bytes_most : (hint : Hint) (bytes : List ℕ) → AreBytes bytes → length (printed_bytes bytes hint) ≤ length bytes * (2 + most_bytes hint) + 3
unfolding printed_bytes
bytes_most Plain bytes small = as_list 300 (printed_byte Plain) byte_most bytes small
bytes_most Debug bytes small = as_list 300 (printed_byte Debug) byte_most bytes small
bytes_most (Radix base alt width) bytes small = as_list (300 + width) (printed_byte (Radix base alt width)) (λ b lt. omega (arith, radix base alt width b (omega arith))) bytes small
bytes_most Ascii bytes small = omega (arith, as_text bytes small)
bytes_most Micros bytes small = as_list 300 (printed_byte Micros) byte_most bytes small
bytes_most Millis bytes small = as_list 300 (printed_byte Millis) byte_most bytes small
bytes_most (Iso unit) bytes small = as_list 300 (printed_byte (Iso unit)) byte_most bytes small
bytes_most (Clock unit) bytes small = as_list 300 (printed_byte (Clock unit)) byte_most bytes small
bytes_most (Pad width) bytes small = as_list (300 + width) (printed_byte (Pad width)) (λ b lt. omega (arith, byte_most b lt)) bytes small

pub bytes_bound : (hint : Hint) (bytes : List ℕ) (each bound : ℕ) → AreBytes bytes → each ≡ most_bytes hint
    → (bound ≤ printed_limit → bound ≡ length bytes * (2 + each) + 3) → bound ≤ printed_limit → length (printed_bytes bytes hint) ≤ bound
bytes_bound hint bytes each bound small e h few =
    let k : bound ≡ length bytes * (2 + most_bytes hint) + 3 = h few ∙ ap (λ (n : ℕ). length bytes * (2 + n) + 3) e in
    omega (arith, k, bytes_most hint bytes small)

pub any_bytes : (hint : Hint) (bytes : List ℕ) (bound : ℕ) → AreBytes bytes → (bound ≤ printed_limit → bound ≡ length bytes * 557 + 3) → bound ≤ printed_limit → most_bytes hint ≤ 555
    → length (printed_bytes bytes hint) ≤ bound
any_bytes hint bytes bound small h few narrow =
    let each : 2 + most_bytes hint ≤ 557 = omega (arith, narrow) in
    omega (arith, h few, bytes_most hint bytes small, mul-le-mul_left (length bytes) each)
