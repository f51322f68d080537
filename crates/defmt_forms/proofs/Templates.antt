-- Lines by templates.
use Rattle.std.proofs.Common.{◌≡◌, ◌≤◌, ◌<◌, ◌+◌, ◌/◌, ◌%◌, ◌++◌, ◌∷◌, [], ◌∙◌, ℕ, Bool, true, false, List, ap, arith, sym, codes}
use Rattle.std.proofs.lemmas.Fmt.{decimal_digit, decimal_step}
use Rattle.std.proofs.lemmas.List.{append-nil, append_assoc}
use Rattle.std.specs.Fmt.{decimal}
use Rattle.std.specs.Prelude.{Option, Some, None, option_map, if◌then◌else◌}
use Rattle.defmt_forms.specs.Json.{optional_member}
use Rattle.defmt_forms.specs.Names.{level_name, place_part}
use Rattle.defmt_forms.specs.Template.{IsColor, IsJson, IsMade, IsPlain, object_before, object_behind, object_head}
use Rattle.defmt_forms.specs.Terminal.{level_part, tame}
use Rattle.defmt_forms.specs.declared.template.Template.{Template}
use Rattle.defmt_forms.proofs.Literals.{line_is}
use Rattle.defmt_hooks.specs.declared.level.Level.{Level}
use Rattle.json.specs.Print.{escape, escape_byte}

-- a number of two digits
pub two_digits : (n : ℕ) → 10 ≤ n → n < 100 → decimal n ≡ (48 + n / 10) ∷ (48 + n % 10) ∷ []
two_digits n low high = decimal_step n low (omega (arith, high)) ∙ ap (λ (l : List ℕ). l ++ ((48 + n % 10) ∷ [])) (decimal_digit (n / 10) (omega (arith, high)))

pub plain_made : (t : Template) (place : Option (List ℕ)) → t.behind.items ≡ place_part place ++ 10 ∷ [] → IsPlain t place
plain_made t place is text = ap (λ (l : List ℕ). text ++ l) is ∙ sym (append_assoc text (place_part place) (10 ∷ []))

-- ---- lines with colors

colored : (stamp gap level own place end : List ℕ)
    → stamp ++ ((gap ++ level) ++ (own ++ (place ++ end))) ≡ ((stamp ++ gap) ++ (level ++ (own ++ place))) ++ end
colored stamp gap level own place end = simp append_assoc

pub color_made : (t : Template) (stamped : Bool) (level : Option Level) (place : Option (List ℕ))
    → t.before.items ≡ (if stamped then codes " " else []) ++ level_part level → t.behind.items ≡ place_part (option_map tame place) ++ 10 ∷ []
    → IsColor t stamped level place
unfolding tame
color_made t true level place before behind stamp own =
    rw (before, behind) (colored (tame stamp) (codes " ") (level_part level) (tame own) (place_part (option_map tame place)) (10 ∷ []))
color_made t false level place before behind stamp own =
    rw (before, behind) (colored [] [] (level_part level) (tame own) (place_part (option_map tame place)) (10 ∷ []))

-- ---- objects

with_stamp : (a i b n t s q l p o d x e z : List ℕ)
    → ((a ++ i) ++ b) ++ (n ++ (t ++ (s ++ ((((q ++ l) ++ (p ++ (o ++ q))) ++ d) ++ (x ++ ((q ++ e) ++ z))))))
    ≡ (((((((a ++ i) ++ (b ++ n)) ++ (t ++ (s ++ q))) ++ l) ++ (p ++ (o ++ q))) ++ (d ++ (x ++ q))) ++ e) ++ z
with_stamp a i b n t s q l p o d x e z = simp append_assoc

without : (a i b n q l p o d x e z : List ℕ)
    → ((a ++ i) ++ b) ++ (n ++ (((l ++ (p ++ (o ++ q))) ++ d) ++ (x ++ ((q ++ e) ++ z))))
    ≡ (((((((a ++ i) ++ (b ++ n)) ++ []) ++ l) ++ (p ++ (o ++ q))) ++ (d ++ (x ++ q))) ++ e) ++ z
without a i b n q l p o d x e z = simp (append_assoc, append-nil)

pub json_made : (t : Template) (index : ℕ) (stamped : Bool) (level : Option Level) (owner : List ℕ) (place : Option (List ℕ))
    → IsMade t stamped (object_head index) (if stamped then codes ",\"target_timestamp\":\"" else []) (object_before stamped level owner) (object_behind place)
    → IsJson t index stamped level owner place
unfolding escape_byte
json_made t index true level owner place made bytes stamp own =
    rw (made.head_is, made.between_is, made.before_is, made.behind_is)
    (with_stamp (codes "{\"event\":\"line\",\"index\":") (decimal index) (codes ",\"bytes\":") (decimal bytes) (codes ",\"target_timestamp\":\"") (escape stamp) (codes "\"")
    (optional_member (codes "level") (option_map level_name level)) (codes ",\"package\":\"") (escape owner) (codes ",\"data\":\"") (escape own)
    (optional_member (codes "place") place) (codes "}\n")
    ∙ line_is index bytes (Some stamp) level owner own place)
json_made t index false level owner place made bytes stamp own =
    rw (made.head_is, made.between_is, made.before_is, made.behind_is)
    (without (codes "{\"event\":\"line\",\"index\":") (decimal index) (codes ",\"bytes\":") (decimal bytes) (codes "\"")
    (optional_member (codes "level") (option_map level_name level)) (codes ",\"package\":\"") (escape owner) (codes ",\"data\":\"") (escape own)
    (optional_member (codes "place") place) (codes "}\n")
    ∙ line_is index bytes None level owner own place)
