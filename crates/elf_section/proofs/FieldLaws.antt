-- Fields of what is written.
use Rattle.std.proofs.Common.{◌≡◌, ◌≢◌, ◌≤◌, ◌<◌, ◌+◌, ◌^◌, ℕ, eqb, false, List, [], ◌∷◌, ◌++◌, length, take, drop, Some, refl, sym, ap, ◌∙◌, arith, length-append}
use Rattle.std.proofs.lemmas.List.{take_at, drop_at, append-nil}
use Rattle.std.proofs.lemmas.Bool.Decides.{nat_tests}
use Rattle.std.specs.List.{AllByRecursion}
use Rattle.byteorder.specs.Numbers.{length-bytes_low_first}
use Rattle.byte_images.specs.Fields.{number}
use Rattle.byte_images.proofs.FieldLaws.{number_behind, number_front, number_back}
use Rattle.elf_section.specs.Bytes.{to_zero, text_at}
use Rattle.elf_section.specs.Written.{half, word, section_bytes, symbol_bytes}
use Rattle.elf_section.specs.File.{section_in, symbol_in}
use Rattle.byte_images.specs.declared.elf.Class.TheVariants.{Elf32}

pub length_word : (x : ℕ) → length (word x) ≡ 4
unfolding word
length_word x = length-bytes_low_first 0 4 x

pub length_half : (x : ℕ) → length (half x) ≡ 2
unfolding half
length_half x = length-bytes_low_first 0 2 x

pub number_word : (x : ℕ) (rest : List ℕ) → x < 2 ^ 32 → number 0 4 (word x ++ rest) ≡ x
unfolding word
number_word x rest h = number_back 4 x rest h

pub number_half : (x : ℕ) (rest : List ℕ) → x < 2 ^ 16 → number 0 2 (half x ++ rest) ≡ x
unfolding half
number_half x rest h = number_back 2 x rest h

number_last : (x : ℕ) → x < 2 ^ 32 → number 0 4 (word x) ≡ x
number_last x h = ap (number 0 4) (sym (append-nil (word x))) ∙ number_word x [] h

pub number_last_half : (x : ℕ) → x < 2 ^ 16 → number 0 2 (half x) ≡ x
number_last_half x h = ap (number 0 2) (sym (append-nil (half x))) ∙ number_half x [] h

pub skip : (x at size : ℕ) (rest : List ℕ) → number (4 + at) size (word x ++ rest) ≡ number at size rest
skip x at size rest = number_behind (word x) rest 4 at size (length_word x)

pub skip_half : (x at size : ℕ) (rest : List ℕ) → number (2 + at) size (half x ++ rest) ≡ number at size rest
skip_half x at size rest = number_behind (half x) rest 2 at size (length_half x)

-- ---- a section header

pub length_more : (x : ℕ) (rest : List ℕ) (n : ℕ) → length rest ≡ n → length (word x ++ rest) ≡ 4 + n
length_more x rest n e = let a = length-append (word x) rest in let b = length_word x in omega (arith, a, b, e)

pub length_section : (a b c d e f g h : ℕ) → length (section_bytes a b c d e f g h) ≡ 40
length_section a b c d e f g h =
    length_more a _ 36 (length_more b _ 32 (length_more 0 _ 28 (length_more 0 _ 24 (length_more c _ 20 (length_more d _ 16 (length_more e _ 12 (length_more f _ 8 (length_more g _ 4 (length_word h)))))))))

-- the seven fields of a section header
pub section_written : (front back : List ℕ) (n name kind offset size link info align entry_size : ℕ) → length front ≡ n
    → name < 2 ^ 32 → kind < 2 ^ 32 → offset < 2 ^ 32 → size < 2 ^ 32 → link < 2 ^ 32 → entry_size < 2 ^ 32
    → section_in Elf32 n (front ++ (section_bytes name kind offset size link info align entry_size ++ back)) ≡ record { name = name; kind = kind; flags = 0; offset = offset; size = size; link = link; entry_size = entry_size }
unfolding section_in
section_written front back n name kind offset size link info align entry_size en hn hk ho hs hl he =
    let block : List ℕ = section_bytes name kind offset size link info align entry_size in
    let len : length block ≡ 40 = length_section name kind offset size link info align entry_size in
    let field : (at : ℕ) → at + 4 ≤ 40 → number (n + at) 4 (front ++ (block ++ back)) ≡ number at 4 block = λ at h. number_behind front (block ++ back) n at 4 en ∙ number_front at 4 block back (omega (arith, len, h)) in
    let first : number n 4 (front ++ (block ++ back)) ≡ name = ap (λ (i : ℕ). number i 4 (front ++ (block ++ back))) (let k : n ≡ n + 0 = omega arith in k) ∙ field 0 (omega arith) ∙ number_word name _ hn in
    let second : number (n + 4) 4 (front ++ (block ++ back)) ≡ kind = field 4 (omega arith) ∙ skip name 0 4 _ ∙ number_word kind _ hk in
    let third : number (n + 8) 4 (front ++ (block ++ back)) ≡ 0 = field 8 (omega arith) ∙ skip name 4 4 _ ∙ skip kind 0 4 _ ∙ number_word 0 _ (omega arith) in
    let fifth : number (n + 16) 4 (front ++ (block ++ back)) ≡ offset = field 16 (omega arith) ∙ skip name 12 4 _ ∙ skip kind 8 4 _ ∙ skip 0 4 4 _ ∙ skip 0 0 4 _ ∙ number_word offset _ ho in
    let sixth : number (n + 20) 4 (front ++ (block ++ back)) ≡ size = field 20 (omega arith) ∙ skip name 16 4 _ ∙ skip kind 12 4 _ ∙ skip 0 8 4 _ ∙ skip 0 4 4 _ ∙ skip offset 0 4 _ ∙ number_word size _ hs in
    let seventh : number (n + 24) 4 (front ++ (block ++ back)) ≡ link = field 24 (omega arith) ∙ skip name 20 4 _ ∙ skip kind 16 4 _ ∙ skip 0 12 4 _ ∙ skip 0 8 4 _ ∙ skip offset 4 4 _ ∙ skip size 0 4 _ ∙ number_word link _ hl in
    let tenth : number (n + 36) 4 (front ++ (block ++ back)) ≡ entry_size = field 36 (omega arith) ∙ skip name 32 4 _ ∙ skip kind 28 4 _ ∙ skip 0 24 4 _ ∙ skip 0 20 4 _ ∙ skip offset 16 4 _ ∙ skip size 12 4 _ ∙ skip link 8 4 _ ∙ skip info 4 4 _ ∙ skip align 0 4 _ ∙ number_last entry_size he in
    λ i. record { name = first i; kind = second i; flags = third i; offset = fifth i; size = sixth i; link = seventh i; entry_size = tenth i }

-- ---- a symbol

pub length_symbol : (name value info section : ℕ) → length (symbol_bytes name value info section) ≡ 16
length_symbol name value info section =
    length_more name _ 12 (length_more value _ 8 (length_more 0 _ 4 (let a = length_half section in omega (arith, a))))

pub symbol_written : (front back : List ℕ) (n name value info section : ℕ) → length front ≡ n → name < 2 ^ 32 → value < 2 ^ 32 → section < 2 ^ 16
    → symbol_in Elf32 n (front ++ (symbol_bytes name value info section ++ back)) ≡ record { name = name; value = value; section = section }
unfolding symbol_in
symbol_written front back n name value info section en hn hv hs =
    let block : List ℕ = symbol_bytes name value info section in
    let len : length block ≡ 16 = length_symbol name value info section in
    let field : (at size : ℕ) → at + size ≤ 16 → number (n + at) size (front ++ (block ++ back)) ≡ number at size block = λ at size h. number_behind front (block ++ back) n at size en ∙ number_front at size block back (omega (arith, len, h)) in
    let first : number n 4 (front ++ (block ++ back)) ≡ name = ap (λ (i : ℕ). number i 4 (front ++ (block ++ back))) (let k : n ≡ n + 0 = omega arith in k) ∙ field 0 4 (omega arith) ∙ number_word name _ hn in
    let second : number (n + 4) 4 (front ++ (block ++ back)) ≡ value = field 4 4 (omega arith) ∙ skip name 0 4 _ ∙ number_word value _ hv in
    let third : number (n + 14) 2 (front ++ (block ++ back)) ≡ section = field 14 2 (omega arith) ∙ skip name 10 2 _ ∙ skip value 6 2 _ ∙ skip 0 2 2 _ ∙ number_behind (info ∷ 0 ∷ []) (half section) 2 0 2 refl ∙ number_last_half section hs in
    λ i. record { name = first i; value = second i; section = third i }

-- ---- texts

-- no byte is zero
abbrev pub NoZero : List ℕ → Type 0
NoZero bytes = AllByRecursion (λ b. b ≢ 0) bytes

pub to_zero_there : (text rest : List ℕ) → NoZero text → to_zero (text ++ 0 ∷ rest) ≡ Some text
unfolding to_zero
to_zero_there [] rest h = refl
to_zero_there (b ∷ text) rest h =
    let n : b ≢ 0 = h.0 in
    let z : eqb b 0 ≡ false = grind (arith, nat_tests) in
    let more = to_zero_there text rest h.1 in
    rw (z, more) refl

pub text_there : (front text rest : List ℕ) (n : ℕ) → length front ≡ n → NoZero text → text_at n (front ++ (text ++ 0 ∷ rest)) ≡ Some text
unfolding text_at
text_there front text rest n e h = ap to_zero (drop_at front (text ++ 0 ∷ rest) n e) ∙ to_zero_there text rest h

-- a part between a front and a back
pub part_there : (front part back : List ℕ) (n size : ℕ) → length front ≡ n → length part ≡ size → take size (drop n (front ++ (part ++ back))) ≡ part
part_there front part back n size e f = ap (take size) (drop_at front (part ++ back) n e) ∙ take_at part back size f
