-- The text of a symbol name: no byte of it is zero, and it isn't much longer than the entry's texts.
use Rattle.std.proofs.Common.{◌≡◌, ◌≢◌, ◌≤◌, ◌+◌, ◌*◌, ◌/◌, ◌%◌, ℕ, suc, cond, ltb, Bool, true, false, List, [], ◌∷◌, ◌++◌, length, refl, ap, arith, codes, length-append}
use Rattle.std.specs.Char.{digit_char}
use Rattle.std.specs.List.{All, AllByRecursion}
use Rattle.std.proofs.lemmas.Bool.{ltb-true, ltb-false}
use Rattle.std.proofs.lemmas.List.Elements.{All-nil, All-cons}
use Rattle.json.specs.Print.{escape_letter, escape_byte, escape, quoted}
use Rattle.serde_json.specs.Written.{compact_text}
use Rattle.defmt_intern.specs.declared.entry.Tag.{Tag}
use Rattle.defmt_intern.specs.declared.entry.Tag.TheVariants as tags
use Rattle.defmt_intern.specs.declared.entry.Entry.{Entry}
use Rattle.defmt_intern.specs.Name.{tag_name, written}
use Rattle.elf_table.specs.Listed.{other_len, entry_size}

-- ---- no zero

abbrev NoZero : List ℕ → Type 0
NoZero bytes = AllByRecursion (λ b. b ≢ 0) bytes

no_zero_append : (xs ys : List ℕ) → NoZero xs → NoZero ys → NoZero (xs ++ ys)
no_zero_append [] ys a b = b
no_zero_append (x ∷ xs) ys a b = (a.0, no_zero_append xs ys a.1 b)

digit_by : (n : ℕ) (b : Bool) → cond b (48 + n) (87 + n) ≡ 0 → ⊥
digit_by n true e = absurd (omega arith)
digit_by n false e = absurd (omega arith)

digit_no_zero : (n : ℕ) → digit_char n ≢ 0
digit_no_zero n e = digit_by n (ltb n 10) e

escaped_by : (x : ℕ) (a b : Bool) → ltb 0 (escape_letter x) ≡ a → ltb x 32 ≡ b → NoZero (cond {A = List ℕ} a (92 ∷ escape_letter x ∷ []) (cond {A = List ℕ} b (92 ∷ 117 ∷ 48 ∷ 48 ∷ digit_char (x / 16) ∷ digit_char (x % 16) ∷ []) (x ∷ [])))
escaped_by x true b e f = ((λ q. absurd (omega arith)), ((λ q. let l = ltb-true 0 (escape_letter x) e in absurd (omega (arith, l, q))), tt))
escaped_by x false true e f = ((λ q. absurd (omega arith)), ((λ q. absurd (omega arith)), ((λ q. absurd (omega arith)), ((λ q. absurd (omega arith)), (digit_no_zero (x / 16), (digit_no_zero (x % 16), tt))))))
escaped_by x false false e f = ((λ q. let l = ltb-false x 32 f in absurd (omega (arith, l, q))), tt)

escape_byte_no_zero : (x : ℕ) → NoZero (escape_byte x)
unfolding escape_byte
escape_byte_no_zero x = escaped_by x (ltb 0 (escape_letter x)) (ltb x 32) refl refl

escape_no_zero : (s : List ℕ) → NoZero (escape s)
escape_no_zero [] = tt
escape_no_zero (x ∷ s) = no_zero_append (escape_byte x) (escape s) (escape_byte_no_zero x) (escape_no_zero s)

quoted_no_zero : (s rest : List ℕ) → NoZero rest → NoZero (quoted s ++ rest)
quoted_no_zero s rest h = no_zero_append (quoted s) rest ((λ q. absurd (omega arith)), no_zero_append (escape s) (34 ∷ []) (escape_no_zero s) ((λ q. absurd (omega arith)), tt)) h

member_no_zero : (k s rest : List ℕ) → NoZero rest → NoZero (quoted k ++ 58 ∷ (quoted s ++ rest))
member_no_zero k s rest h = quoted_no_zero k (58 ∷ (quoted s ++ rest)) ((λ q. absurd (omega arith)), quoted_no_zero s rest h)

name_no_zero : (e : Entry) → NoZero (compact_text (written e))
name_no_zero e = (
  (λ q. absurd (omega arith)),
  member_no_zero (codes "data") e.text _ (
    (λ q. absurd (omega arith)),
    member_no_zero (codes "disambiguator") e.disambiguator _ (
      (λ q. absurd (omega arith)),
      member_no_zero (codes "package") e.«package» _
          ((λ q. absurd (omega arith)), member_no_zero (codes "tag") (tag_name e.tag) (125 ∷ []) ((λ q. absurd (omega arith)), tt)),
    ),
  ),
)

no_zeros : (bytes : List ℕ) → NoZero bytes → All (λ b. b ≢ 0) bytes
no_zeros [] h = All-nil (λ b. b ≢ 0)
no_zeros (b ∷ bytes) h = All-cons (λ b. b ≢ 0) b bytes h.0 (no_zeros bytes h.1)

pub name_has_no_zero : (e : Entry) → All (λ b. b ≢ 0) (compact_text (written e))
name_has_no_zero e = no_zeros (compact_text (written e)) (name_no_zero e)

-- ---- its length

escaped_len : (x : ℕ) (a b : Bool) → length (cond {A = List ℕ} a (92 ∷ escape_letter x ∷ []) (cond {A = List ℕ} b (92 ∷ 117 ∷ 48 ∷ 48 ∷ digit_char (x / 16) ∷ digit_char (x % 16) ∷ []) (x ∷ []))) ≤ 6
escaped_len x true b = omega arith
escaped_len x false true = omega arith
escaped_len x false false = omega arith

escape_byte_len : (x : ℕ) → length (escape_byte x) ≤ 6
unfolding escape_byte
escape_byte_len x = escaped_len x (ltb 0 (escape_letter x)) (ltb x 32)

escape_len : (s : List ℕ) → length (escape s) ≤ 6 * length s
escape_len [] = omega arith
escape_len (x ∷ s) = let a = escape_byte_len x in let b = escape_len s in let l : length (escape (x ∷ s)) ≡ length (escape_byte x) + length (escape s) = length-append (escape_byte x) (escape s) in omega (arith, a, b, l)

quoted_len : (s rest : List ℕ) → length (quoted s ++ rest) ≤ 6 * length s + 2 + length rest
quoted_len s rest =
    let a = escape_len s in
    let b : length (quoted s) ≡ suc (length (escape s) + 1) = ap suc (length-append (escape s) (34 ∷ [])) in
    let l = length-append (quoted s) rest in
    omega (arith, a, b, l)

-- a member and what follows it, of a key that is written as it is
member_len : (key s rest : List ℕ) → length (quoted key) ≤ 15 → length (quoted key ++ 58 ∷ (quoted s ++ rest)) ≤ 18 + 6 * length s + length rest
member_len key s rest short =
    let a = length-append (quoted key) (58 ∷ (quoted s ++ rest)) in
    let b = quoted_len s rest in
    omega (arith, a, b, short)

tag_len : (tag : Tag) → length (tag_name tag) ≤ 15 + other_len tag
tag_len tags.Trace = omega arith
tag_len tags.Debug = omega arith
tag_len tags.Info = omega arith
tag_len tags.Warn = omega arith
tag_len tags.Error = omega arith
tag_len tags.Println = omega arith
tag_len tags.Prim = omega arith
tag_len tags.Derived = omega arith
tag_len tags.Write = omega arith
tag_len tags.Interned = omega arith
tag_len tags.Timestamp = omega arith
tag_len (tags.Other name) = omega arith

-- the four keys between their quotes
tag_key : length (quoted (codes "tag")) ≡ 5
unfolding escape_byte
tag_key = refl

package_key : length (quoted (codes "package")) ≡ 9
unfolding escape_byte
package_key = refl

disambiguator_key : length (quoted (codes "disambiguator")) ≡ 15
unfolding escape_byte
disambiguator_key = refl

data_key : length (quoted (codes "data")) ≡ 6
unfolding escape_byte
data_key = refl

pub name_len : (e : Entry) → length (compact_text (written e)) ≤ 6 * entry_size e + 200
name_len e =
    let last : List ℕ = 125 ∷ [] in
    let fourth : List ℕ = quoted (codes "tag") ++ 58 ∷ (quoted (tag_name e.tag) ++ last) in
    let third : List ℕ = quoted (codes "package") ++ 58 ∷ (quoted e.«package» ++ 44 ∷ fourth) in
    let second : List ℕ = quoted (codes "disambiguator") ++ 58 ∷ (quoted e.disambiguator ++ 44 ∷ third) in
    let d : length fourth ≤ 18 + 6 * length (tag_name e.tag) + length last = member_len (codes "tag") (tag_name e.tag) last (omega (arith, tag_key)) in
    let c : length third ≤ 18 + 6 * length e.«package» + length (44 ∷ fourth) = member_len (codes "package") e.«package» (44 ∷ fourth) (omega (arith, package_key)) in
    let b : length second ≤ 18 + 6 * length e.disambiguator + length (44 ∷ third) = member_len (codes "disambiguator") e.disambiguator (44 ∷ third) (omega (arith, disambiguator_key)) in
    let a : length (quoted (codes "data") ++ 58 ∷ (quoted e.text ++ 44 ∷ second)) ≤ 18 + 6 * length e.text + length (44 ∷ second) = member_len (codes "data") e.text (44 ∷ second) (omega (arith, data_key)) in
    let whole : length (compact_text (written e)) ≡ suc (length (quoted (codes "data") ++ 58 ∷ (quoted e.text ++ 44 ∷ second))) = refl in
    omega (arith, a, b, c, d, tag_len e.tag, whole)
