-- What a text stands for.
use Rattle.std.proofs.Common.{◌≡◌, ◌≢◌, ◌<◌, ◌≤◌, ◌+◌, ◌++◌, ℕ, suc, Bool, true, false, cond, eqb, List, [], ◌∷◌, length, get_or, Option, Some, None, Bor, option_map, option_and_then, MatchOption, refl, sym, ap, ◌∙◌, arith, leb, ◌-◌, append_assoc, length-append}
use Rattle.std.specs.Prelude.{count_by}
use Rattle.std.proofs.lemmas.Bool.Decides.{nat_tests}
use Rattle.std.proofs.lemmas.List.Recursion.{is_count_by}
use Rattle.std.proofs.lemmas.Str.Pattern.{IsSplitOnceResult, split_parts}
use Rattle.std.proofs.lemmas.Bool.{ne_eqb}
use Rattle.defmt_grammar.specs.declared.fault.Mode.{Mode}
use Rattle.defmt_grammar.specs.declared.piece.Piece.{Piece}
use Rattle.defmt_intern.specs.Body.{with_char, variants, forms_of, one_body, forms_body, cut_body, HasNoBar, StartsWith}
use Rattle.defmt_intern.specs.declared.parsed.Parsed.TheVariants as bodies
use Rattle.defmt_intern.specs.Pieces.{pieces_of}

-- ---- variants

pub variants_one : (text : List ℕ) → HasNoBar text → variants text ≡ text ∷ []
unfolding variants
variants_one [] h = refl
variants_one (c ∷ cs) h = rw (ne_eqb c 124 h.0, variants_one cs h.1) refl

pub variants_more : (variant after : List ℕ) → HasNoBar variant → variants (variant ++ 124 ∷ after) ≡ variant ∷ variants after
unfolding variants
variants_more [] after h = refl
variants_more (c ∷ cs) after h = rw (ne_eqb c 124 h.0, variants_more cs after h.1) refl

some_variant : (c : ℕ) (vs : List (List ℕ)) → 0 < length (with_char c vs)
some_variant c [] = omega arith
some_variant c (v ∷ vs) = omega arith

variant_there : (c : ℕ) (vs : List (List ℕ)) (b : Bool) → 0 < length (cond b ([] ∷ vs) (with_char c vs))
variant_there c vs true = omega arith
variant_there c vs false = some_variant c vs

variants_there : (text : List ℕ) → 0 < length (variants text)
unfolding variants
variants_there [] = omega arith
variants_there (c ∷ cs) = variant_there c (variants cs) (eqb c 124)

length-with_char : (c : ℕ) (vs : List (List ℕ)) → 0 < length vs → length (with_char c vs) ≡ length vs
length-with_char c [] h = absurd (omega arith)
length-with_char c (v ∷ vs) h = refl

one_more : (c : ℕ) (vs : List (List ℕ)) (b : Bool) → 0 < length vs → length (cond b ([] ∷ vs) (with_char c vs)) - 1 ≡ cond b (1 + (length vs - 1)) (length vs - 1)
one_more c vs true h = omega arith
one_more c vs false h = ap (λ (n : ℕ). n - 1) (length-with_char c vs h)

bars_counted : (text : List ℕ) → length (variants text) - 1 ≡ count_by (λ c. eqb c 124) text
unfolding variants
bars_counted text = is_count_by (λ (t : List ℕ). length (variants t) - 1) (λ c. eqb c 124) refl (λ c cs. one_more c (variants cs) (eqb c 124) (variants_there cs)) text

pub length-variants : (text : List ℕ) → length (variants text) ≡ count_by (λ c. eqb c 124) text + 1
length-variants text = omega (arith, bars_counted text, variants_there text)

alone : (c : ℕ) (cs : List ℕ) (b : Bool) → 0 < length (variants cs) → (length (variants cs) ≡ 1 → variants cs ≡ cs ∷ []) → length (cond b ([] ∷ variants cs) (with_char c (variants cs))) ≡ 1 → cond b ([] ∷ variants cs) (with_char c (variants cs)) ≡ (c ∷ cs) ∷ []
alone c cs true some h e = absurd (omega arith)
alone c cs false some h e = ap (with_char c) (h (sym (length-with_char c (variants cs) some) ∙ e))

pub variants_alone : (text : List ℕ) → length (variants text) ≡ 1 → variants text ≡ text ∷ []
unfolding variants
variants_alone [] e = refl
variants_alone (c ∷ cs) e = alone c cs (eqb c 124) (variants_there cs) (variants_alone cs) e

-- a text without `|`
pub body_uncut : (mode : Mode) (text : List ℕ) → length (variants text) ≡ 1 → cut_body mode (variants text) ≡ one_body (pieces_of mode text)
unfolding cut_body
body_uncut mode text e = ap (cut_body mode) (variants_alone text e)

-- a text that `|` cuts
cut_some : (mode : Mode) (vs : List (List ℕ)) → 2 ≤ length vs → cut_body mode vs ≡ cond (leb (length vs) 255) (forms_body (forms_of mode vs)) bodies.Unsupported
unfolding cut_body
cut_some mode [] h = absurd (omega arith)
cut_some mode (v ∷ []) h = absurd (omega arith)
cut_some mode (v ∷ w ∷ vs) h = refl

pub body_cut : (mode : Mode) (text : List ℕ) → 2 ≤ length (variants text) → length (variants text) ≤ 255 → cut_body mode (variants text) ≡ forms_body (forms_of mode (variants text))
body_cut mode text h le = let few : leb (length (variants text)) 255 ≡ true = grind (arith, nat_tests) in cut_some mode (variants text) h ∙ rw few refl

pub body_many : (mode : Mode) (text : List ℕ) → 255 < length (variants text) → cut_body mode (variants text) ≡ bodies.Unsupported
body_many mode text h = let many : leb (length (variants text)) 255 ≡ false = grind (arith, nat_tests) in cut_some mode (variants text) (omega arith) ∙ rw many refl

-- ---- how far the variants are read

-- the forms so far, in front of those of the rest
abbrev pub behind_forms : List (List Piece) → Option (List (List Piece)) → Option (List (List Piece))
behind_forms forms rest = option_map (λ more. forms ++ more) rest

abbrev joined_forms : Option (List Piece) → Option (List (List Piece)) → Option (List (List Piece))
joined_forms ps more = option_and_then (λ p. option_map (λ m. p ∷ m) more) ps

behind_one : (forms : List (List Piece)) (ps : List Piece) (o : Option (List (List Piece))) → behind_forms forms (joined_forms (Some ps) o) ≡ behind_forms (forms ++ ps ∷ []) o
behind_one forms ps None = refl
behind_one forms ps (Some more) = ap Some (sym (append_assoc forms (ps ∷ []) more))

pub goes_on : (mode : Mode) (forms : List (List Piece)) (rest variant after : List ℕ) (ps : List Piece) → rest ≡ variant ++ 124 ∷ after → HasNoBar variant → pieces_of mode variant ≡ Some ps → behind_forms (forms ++ ps ∷ []) (forms_of mode (variants after)) ≡ behind_forms forms (forms_of mode (variants rest))
goes_on mode forms rest variant after ps e bare spelled =
    let cut : variants rest ≡ variant ∷ variants after = ap variants e ∙ variants_more variant after bare in
    let first : forms_of mode (variants rest) ≡ joined_forms (Some ps) (forms_of mode (variants after)) = ap (forms_of mode) cut ∙ ap (λ (o : Option (List Piece)). joined_forms o (forms_of mode (variants after))) spelled in
    sym (ap (behind_forms forms) first ∙ behind_one forms ps (forms_of mode (variants after)))

pub stops : (mode : Mode) (forms : List (List Piece)) (rest variant after : List ℕ) → rest ≡ variant ++ 124 ∷ after → HasNoBar variant → pieces_of mode variant ≡ None → behind_forms forms (forms_of mode (variants rest)) ≡ None
stops mode forms rest variant after e bare none =
    let cut : variants rest ≡ variant ∷ variants after = ap variants e ∙ variants_more variant after bare in
    ap (behind_forms forms) (ap (forms_of mode) cut ∙ ap (λ (o : Option (List Piece)). joined_forms o (forms_of mode (variants after))) none)

pub ends : (mode : Mode) (forms : List (List Piece)) (rest : List ℕ) (ps : List Piece) → HasNoBar rest → pieces_of mode rest ≡ Some ps → behind_forms forms (forms_of mode (variants rest)) ≡ Some (forms ++ ps ∷ [])
ends mode forms rest ps bare spelled = ap (behind_forms forms) (ap (forms_of mode) (variants_one rest bare) ∙ ap (λ (o : Option (List Piece)). joined_forms o (Some [])) spelled)

pub ends_none : (mode : Mode) (forms : List (List Piece)) (rest : List ℕ) → HasNoBar rest → pieces_of mode rest ≡ None → behind_forms forms (forms_of mode (variants rest)) ≡ None
ends_none mode forms rest bare none = ap (behind_forms forms) (ap (forms_of mode) (variants_one rest bare) ∙ ap (λ (o : Option (List Piece)). joined_forms o (Some [])) none)

-- ---- the first `|`

HasNoBar-from_index : (text : List ℕ) → ((i : ℕ) → i < length text → get_or text i 0 ≢ 124) → HasNoBar text
HasNoBar-from_index [] h = tt
HasNoBar-from_index (c ∷ cs) h = (h 0 (omega arith), HasNoBar-from_index cs (λ i lt. h (suc i) (omega arith)))

starts_by_parts : (text : List ℕ) (r : Option (Bor (List ℕ) × Bor (List ℕ))) → MatchOption r ((i : ℕ) → i < length text → get_or text i 0 ≢ 124) (λ x. (text ≡ x.0.now ++ (124 ∷ x.1.now)) × ((i : ℕ) → i < length x.0.now → get_or x.0.now i 0 ≢ 124)) → StartsWith text r
starts_by_parts text None h = HasNoBar-from_index text h
starts_by_parts text (Some p) h = (h.0, HasNoBar-from_index p.0.now h.1)

pub starts_with : (text : List ℕ) (r : Option (Bor (List ℕ) × Bor (List ℕ))) → IsSplitOnceResult 124 text r → StartsWith text r
starts_with text r h = starts_by_parts text r (split_parts 124 text r h (omega arith))

pub shorter_behind : (rest variant after : List ℕ) → rest ≡ variant ++ 124 ∷ after → length after < length rest
shorter_behind rest variant after e = omega (arith, ap length e, length-append variant (124 ∷ after))
