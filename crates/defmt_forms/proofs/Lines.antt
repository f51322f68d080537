-- The objects of JSON have no byte below the space.
use Rattle.std.proofs.Common.{◌≡◌, ◌≤◌, ◌<◌, ◌+◌, ◌^◌, ◌/◌, ◌%◌, ◌==◌, ◌||◌, ℕ, Bool, true, false, List, [], ◌∷◌, ◌++◌, cond, refl, ◌∙◌, arith, codes}
use Rattle.std.specs.Prelude.{nat_le, nat_lt, Option, Some, None, option_map}
use Rattle.std.specs.Char.{digit_char}
use Rattle.std.specs.Fmt.{decimal}
use Rattle.std.proofs.lemmas.Bool.Decides.{nat_tests}
use Rattle.std.proofs.lemmas.Bool.{le-leb}
use Rattle.std.proofs.lemmas.Fmt.{decimal_by_steps}
use Rattle.std.proofs.lemmas.List.Folds.{list_all-append}
use Rattle.defmt_forms.specs.Json.{HasNoBreak, fault_object, front_object, gap_object, line_members, line_object, loss_object, member, number_member, object, optional_member, tail_object, text_member}
use Rattle.defmt_forms.specs.Names.{level_name}
use Rattle.defmt_hooks.specs.declared.level.Level.{Level}
use Rattle.json.specs.Print.{escape, escape_byte, escape_letter, quoted}

both : (a b : List ℕ) → HasNoBreak a → HasNoBreak b → HasNoBreak (a ++ b)
both a b x y = list_all-append (nat_le 32) a b ∙ rw (x, y) refl

-- ---- texts

alone : (c : ℕ) → 32 ≤ c → HasNoBreak (c ∷ [])
alone c h = rw (le-leb 32 c h) refl

quote_or_slash : (x : ℕ) → ((x == 34) || (x == 92)) ≡ true → nat_le 32 x ≡ true
quote_or_slash x is = grind (arith, nat_tests)

-- the letter of an escape, where there is one
letter_by : (x : ℕ) (o a b c d e : Bool) → (o ≡ true → nat_le 32 x ≡ true)
    → nat_lt 0 (cond o x (cond a 98 (cond b 102 (cond c 110 (cond d 114 (cond e 116 0)))))) ≡ true
    → nat_le 32 (cond o x (cond a 98 (cond b 102 (cond c 110 (cond d 114 (cond e 116 0)))))) ≡ true
letter_by x true a b c d e h is = h refl
letter_by x false true b c d e h is = refl
letter_by x false false true c d e h is = refl
letter_by x false false false true d e h is = refl
letter_by x false false false false true e h is = refl
letter_by x false false false false false true h is = refl
letter_by x false false false false false false h is = absurd (cc)

letter_shown : (x : ℕ) → nat_lt 0 (escape_letter x) ≡ true → nat_le 32 (escape_letter x) ≡ true
letter_shown x is = letter_by x ((x == 34) || (x == 92)) (x == 8) (x == 12) (x == 10) (x == 13) (x == 9) (quote_or_slash x) is

digit_by : (d : ℕ) (b : Bool) → nat_le 32 (cond b (48 + d) (87 + d)) ≡ true
digit_by d true = le-leb 32 (48 + d) (omega arith)
digit_by d false = le-leb 32 (87 + d) (omega arith)

escaped : (x : ℕ) (l s : Bool) → nat_lt 0 (escape_letter x) ≡ l → nat_lt x 32 ≡ s
    → HasNoBreak (cond l (92 ∷ escape_letter x ∷ []) (cond s (92 ∷ 117 ∷ 48 ∷ 48 ∷ digit_char (x / 16) ∷ digit_char (x % 16) ∷ []) (x ∷ [])))
escaped x true s letter low = rw (letter_shown x letter) refl
escaped x false true letter low = rw (digit_by (x / 16) (nat_lt (x / 16) 10), digit_by (x % 16) (nat_lt (x % 16) 10)) refl
escaped x false false letter low = alone x (let high : 32 ≤ x = grind (arith, nat_tests) in high)

one_byte : (x : ℕ) → HasNoBreak (escape_byte x)
unfolding escape_byte
one_byte x = escaped x (nat_lt 0 (escape_letter x)) (nat_lt x 32) refl refl

all_bytes : (text : List ℕ) → HasNoBreak (escape text)
all_bytes [] = refl
all_bytes (x ∷ text) = both (escape_byte x) (escape text) (one_byte x) (all_bytes text)

in_quotes : (text : List ℕ) → HasNoBreak (quoted text)
in_quotes text = both (escape text) (34 ∷ []) (all_bytes text) refl

number : (n : ℕ) → n < 2 ^ 64 → HasNoBreak (decimal n)
number = decimal_by_steps (λ m ds. HasNoBreak ds) (λ m l. alone (48 + m) (omega arith)) (λ m ds l h. both ds ((48 + m % 10) ∷ []) h (alone (48 + m % 10) (omega arith)))

-- ---- members

member_of : (name value : List ℕ) → HasNoBreak value → HasNoBreak (member name value)
member_of name value h = both (quoted name) (58 ∷ value) (in_quotes name) h

text_of : (name text : List ℕ) → HasNoBreak (text_member name text)
text_of name text = member_of name (quoted text) (in_quotes text)

number_of : (name : List ℕ) (n : ℕ) → n < 2 ^ 64 → HasNoBreak (number_member name n)
number_of name n h = member_of name (decimal n) (number n h)

optional_of : (name : List ℕ) (text : Option (List ℕ)) → HasNoBreak (optional_member name text)
optional_of name None = refl
optional_of name (Some text) = text_of name text

object_of : (event members : List ℕ) → HasNoBreak members → HasNoBreak (object event members)
object_of event members h =
    both (quoted (codes "event")) (codes ":" ++ (quoted event ++ (members ++ codes "}"))) (in_quotes (codes "event"))
    (both (quoted event) (members ++ codes "}") (in_quotes event) (both members (codes "}") h refl))

-- ---- objects

pub line_whole : (index bytes : ℕ) (stamp : Option (List ℕ)) (level : Option Level) (owner own : List ℕ) (place : Option (List ℕ)) → index < 2 ^ 64 → bytes < 2 ^ 64
    → HasNoBreak (line_object index bytes stamp level owner own place)
line_whole index bytes stamp level owner own place i b =
    object_of (codes "line") (line_members index bytes stamp level owner own place)
    (both (number_member (codes "index") index) _ (number_of (codes "index") index i)
    (both (number_member (codes "bytes") bytes) _ (number_of (codes "bytes") bytes b)
    (both (optional_member (codes "target_timestamp") stamp) _ (optional_of (codes "target_timestamp") stamp)
    (both (optional_member (codes "level") (option_map level_name level)) _ (optional_of (codes "level") (option_map level_name level))
    (both (text_member (codes "package") owner) _ (text_of (codes "package") owner)
    (both (text_member (codes "data") own) (optional_member (codes "place") place) (text_of (codes "data") own) (optional_of (codes "place") place)))))))

pub fault_whole : (cause : ℕ) (name : List ℕ) → cause < 2 ^ 64 → HasNoBreak (fault_object cause name)
fault_whole cause name h =
    object_of (codes "fault") (number_member (codes "cause") cause ++ text_member (codes "name") name)
    (both (number_member (codes "cause") cause) (text_member (codes "name") name) (number_of (codes "cause") cause h) (text_of (codes "name") name))

pub front_whole : (bytes : ℕ) → bytes < 2 ^ 64 → HasNoBreak (front_object bytes)
front_whole bytes h = object_of (codes "front") (number_member (codes "bytes") bytes) (number_of (codes "bytes") bytes h)

pub tail_whole : (bytes : ℕ) → bytes < 2 ^ 64 → HasNoBreak (tail_object bytes)
tail_whole bytes h = object_of (codes "tail") (number_member (codes "bytes") bytes) (number_of (codes "bytes") bytes h)

pub gap_whole : (frames : ℕ) → frames < 2 ^ 64 → HasNoBreak (gap_object frames)
gap_whole frames h = object_of (codes "gap") (number_member (codes "frames") frames) (number_of (codes "frames") frames h)

pub loss_whole : (done : List ℕ) (writer statement need room : ℕ) → writer < 2 ^ 64 → statement < 2 ^ 64 → need < 2 ^ 64 → room < 2 ^ 64
    → HasNoBreak (loss_object done writer statement need room)
loss_whole done writer statement need room w s n r =
    object_of done (number_member (codes "writer") writer ++ (number_member (codes "statement") statement ++ (number_member (codes "need") need ++ number_member (codes "room") room)))
    (both (number_member (codes "writer") writer) _ (number_of (codes "writer") writer w)
    (both (number_member (codes "statement") statement) _ (number_of (codes "statement") statement s)
    (both (number_member (codes "need") need) (number_member (codes "room") room) (number_of (codes "need") need n) (number_of (codes "room") room r))))
