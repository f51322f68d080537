-- The objects of printed lines, as they are written.
use Rattle.std.proofs.Common.{◌≡◌, ◌++◌, ◌∷◌, [], ◌∙◌, ℕ, List, ap, codes, append_assoc}
use Rattle.std.specs.Fmt.{decimal}
use Rattle.std.specs.Prelude.{Option, option_map}
use Rattle.defmt_forms.specs.Json.{fault_object, front_object, gap_object, line_object, optional_member, tail_object}
use Rattle.defmt_forms.specs.Names.{level_name}
use Rattle.defmt_hooks.specs.declared.level.Level.{Level}
use Rattle.json.specs.Print.{escape_byte, quoted}

-- texts that are appended one behind the other
pub then : (old now after one two : List ℕ) → now ≡ old ++ one → after ≡ now ++ two → after ≡ old ++ (one ++ two)
then old now after one two is next = next ∙ ap (λ (l : List ℕ). l ++ two) is ∙ append_assoc old one two

-- ---- objects with a number

one_number : (head number : List ℕ) → (head ++ number) ++ codes "}\n" ≡ head ++ ((number ++ codes "}") ++ 10 ∷ [])
one_number head number = simp append_assoc

pub front_is : (bytes : ℕ) → (codes "{\"event\":\"front\",\"bytes\":" ++ decimal bytes) ++ codes "}\n" ≡ front_object bytes ++ 10 ∷ []
unfolding escape_byte
front_is bytes = one_number (codes "{\"event\":\"front\",\"bytes\":") (decimal bytes)

pub tail_is : (bytes : ℕ) → (codes "{\"event\":\"tail\",\"bytes\":" ++ decimal bytes) ++ codes "}\n" ≡ tail_object bytes ++ 10 ∷ []
unfolding escape_byte
tail_is bytes = one_number (codes "{\"event\":\"tail\",\"bytes\":") (decimal bytes)

pub gap_is : (frames : ℕ) → (codes "{\"event\":\"gap\",\"frames\":" ++ decimal frames) ++ codes "}\n" ≡ gap_object frames ++ 10 ∷ []
unfolding escape_byte
gap_is frames = one_number (codes "{\"event\":\"gap\",\"frames\":") (decimal frames)

-- ---- the object of a fault

number_and_text : (head number middle text : List ℕ) → ((head ++ number) ++ (middle ++ text)) ++ codes "}\n" ≡ head ++ (((number ++ (middle ++ text)) ++ codes "}") ++ 10 ∷ [])
number_and_text head number middle text = simp append_assoc

pub fault_is : (cause : ℕ) (name : List ℕ)
    → ((codes "{\"event\":\"fault\",\"cause\":" ++ decimal cause) ++ (codes ",\"name\":" ++ quoted name)) ++ codes "}\n" ≡ fault_object cause name ++ 10 ∷ []
unfolding escape_byte
fault_is cause name = number_and_text (codes "{\"event\":\"fault\",\"cause\":") (decimal cause) (codes ",\"name\":") (quoted name)

-- ---- the object of a statement

line_pieces : (a b c d e f g h i j k : List ℕ)
    → (((((((a ++ b) ++ (c ++ d)) ++ e) ++ f) ++ (g ++ h)) ++ (i ++ j)) ++ k) ++ codes "}\n"
    ≡ a ++ (((b ++ ((c ++ d) ++ (e ++ (f ++ ((g ++ h) ++ ((i ++ j) ++ k)))))) ++ codes "}") ++ 10 ∷ [])
line_pieces a b c d e f g h i j k = simp append_assoc

pub line_is : (index bytes : ℕ) (stamp : Option (List ℕ)) (level : Option Level) (owner own : List ℕ) (place : Option (List ℕ))
    → (((((((codes "{\"event\":\"line\",\"index\":" ++ decimal index) ++ (codes ",\"bytes\":" ++ decimal bytes))
    ++ optional_member (codes "target_timestamp") stamp) ++ optional_member (codes "level") (option_map level_name level))
    ++ (codes ",\"package\":" ++ quoted owner)) ++ (codes ",\"data\":" ++ quoted own)) ++ optional_member (codes "place") place) ++ codes "}\n"
    ≡ line_object index bytes stamp level owner own place ++ 10 ∷ []
unfolding escape_byte
line_is index bytes stamp level owner own place =
    line_pieces (codes "{\"event\":\"line\",\"index\":") (decimal index) (codes ",\"bytes\":") (decimal bytes) (optional_member (codes "target_timestamp") stamp)
    (optional_member (codes "level") (option_map level_name level)) (codes ",\"package\":") (quoted owner) (codes ",\"data\":") (quoted own) (optional_member (codes "place") place)
