-- Each position of a text is used, so a list of fitting elements isn't too long to be counted.
use Rattle.std.proofs.Common.{◌≡◌, ◌<◌, ◌≤◌, ◌+◌, ◌*◌, ℕ, zero, suc, Bool, true, false, nat_le, nat_lt, List, [], ◌∷◌, length, Option, Some, None, option_map, option_and_then, refl, ap, ◌∙◌, arith, cond}
use Rattle.std.specs.List.{slice_get}
use Rattle.std.proofs.Math.Nat.{mul-le-mul_right}
use Rattle.defmt_grammar.specs.Grammar.{AreSpelled}
use Rattle.defmt_grammar.specs.Slots.{slots_of, uses_at}
use Rattle.defmt_grammar.specs.Language.{lenient_of}
use Rattle.defmt_grammar.specs.declared.fault.Mode.{Mode}
use Rattle.defmt_grammar.specs.declared.language.Language.{Language}
use Rattle.defmt_grammar.specs.declared.piece.Piece.{Piece}
use Rattle.defmt_grammar.specs.declared.slot.Slot.{Slot}
use Rattle.defmt_grammar.proofs.Wholes.{slots_sound}
use Rattle.defmt_intern.specs.Body.{variants, forms_of, one_body, forms_body, cut_body, body_by, body_of}
use Rattle.defmt_intern.specs.Pieces.{pieces_of}
use Rattle.defmt_intern.proofs.PieceLaws.{pieces_found}
use Rattle.defmt_intern.specs.Table.{Map}
use Rattle.defmt_intern.specs.declared.entry.Entry.{Entry}
use Rattle.defmt_intern.specs.declared.entry.Tag.{Tag}
use Rattle.defmt_intern.specs.declared.entry.Tag.TheVariants as tags
use Rattle.defmt_intern.specs.declared.parsed.Parsed.{Parsed}
use Rattle.defmt_intern.specs.declared.parsed.Parsed.TheVariants as bodies
use Rattle.defmt_values.specs.Entries.{Place, places_of, places_from}
use Rattle.defmt_values.specs.Fits.{IsForm, HasPieces, weigh_elems}
use Rattle.defmt_values.specs.Plain.{Elems, no_elems, elem, elems_len}

-- each place is used
abbrev pub AreUsed : List Place → Type 0
AreUsed [] = Unit {0}
AreUsed (p ∷ ps) = (0 < p.uses) × AreUsed ps

-- ---- the pieces of bodies are spelled by texts

abbrev some_pieces : List Piece → Option (List Piece)
some_pieces ps = Some ps

same_some : (ps qs : List Piece) → some_pieces ps ≡ some_pieces qs → ps ≡ qs
same_some ps qs h = cc

abbrev one_of : List Piece → Parsed
one_of ps = bodies.One ps

same_one : (ps qs : List Piece) → one_of ps ≡ one_of qs → ps ≡ qs
same_one ps qs h = cc

one_spelled : (mode : Mode) (text : List ℕ) (o : Option (List Piece)) (ps : List Piece) → pieces_of mode text ≡ o → one_body o ≡ one_of ps → AreSpelled ps
one_spelled mode text None ps e h = absurd (cc)
one_spelled mode text (Some qs) ps e h = (text, mode, pieces_found mode text ps (e ∙ ap (λ x. Some x) (same_one qs ps h)))

no_one : (o : Option (List (List Piece))) (ps : List Piece) → forms_body o ≡ one_of ps → ⊥
no_one None ps h = absurd (cc)
no_one (Some forms) ps h = absurd (cc)

cut_one : (b : Bool) (o : Option (List (List Piece))) (ps : List Piece) → cond {A = Parsed} b (forms_body o) bodies.Unsupported ≡ one_of ps → ⊥
cut_one true o ps h = no_one o ps h
cut_one false o ps h = absurd (cc)

cut_spelled : (mode : Mode) (vs : List (List ℕ)) (ps : List Piece) → cut_body mode vs ≡ one_of ps → AreSpelled ps
unfolding cut_body
cut_spelled mode [] ps h = absurd (cc)
cut_spelled mode (v ∷ []) ps h = one_spelled mode v (pieces_of mode v) ps refl h
cut_spelled mode (v ∷ w ∷ vs) ps h = absurd (cut_one (nat_le (length (v ∷ w ∷ vs)) 255) (forms_of mode (v ∷ w ∷ vs)) ps h)

body_spelled : (mode : Mode) (tag : Tag) (text : List ℕ) (ps : List Piece) → body_by mode tag text ≡ one_of ps → AreSpelled ps
body_spelled mode tags.Prim text ps h = cut_spelled mode (variants text) ps h
body_spelled mode tags.Derived text ps h = cut_spelled mode (variants text) ps h
body_spelled mode tags.Write text ps h = cut_spelled mode (variants text) ps h
body_spelled mode tags.Interned text ps h = absurd (cc)
body_spelled mode (tags.Other name) text ps h = absurd (cc)
body_spelled mode tags.Trace text ps h = one_spelled mode text (pieces_of mode text) ps refl h
body_spelled mode tags.Debug text ps h = one_spelled mode text (pieces_of mode text) ps refl h
body_spelled mode tags.Info text ps h = one_spelled mode text (pieces_of mode text) ps refl h
body_spelled mode tags.Warn text ps h = one_spelled mode text (pieces_of mode text) ps refl h
body_spelled mode tags.Error text ps h = one_spelled mode text (pieces_of mode text) ps refl h
body_spelled mode tags.Println text ps h = one_spelled mode text (pieces_of mode text) ps refl h
body_spelled mode tags.Timestamp text ps h = one_spelled mode text (pieces_of mode text) ps refl h

-- ---- the pieces of variants

abbrev some_forms : List (List Piece) → Option (List (List Piece))
some_forms fs = Some fs

same_forms : (fs gs : List (List Piece)) → some_forms fs ≡ some_forms gs → fs ≡ gs
same_forms fs gs h = cc

-- the variant of a number, among those of which the first has these pieces
form_get : (mode : Mode) (v : List ℕ) (qs : List Piece) (more : List (List Piece)) (k : ℕ) (ps : List Piece) → pieces_of mode v ≡ Some qs → ((j : ℕ) → slice_get more j ≡ Some ps → AreSpelled ps) → slice_get (qs ∷ more) k ≡ Some ps → AreSpelled ps
form_get mode v qs more zero ps e ih h = (v, mode, pieces_found mode v ps (e ∙ h))
form_get mode v qs more (suc k) ps e ih h = ih k h

form_step : (mode : Mode) (v : List ℕ) (o : Option (List Piece)) (m : Option (List (List Piece))) (forms : List (List Piece)) (k : ℕ) (ps : List Piece) → pieces_of mode v ≡ o
    → ((more : List (List Piece)) (j : ℕ) → m ≡ some_forms more → slice_get more j ≡ Some ps → AreSpelled ps)
    → option_and_then (λ qs. option_map (λ more. qs ∷ more) m) o ≡ some_forms forms → slice_get forms k ≡ Some ps → AreSpelled ps
form_step mode v None m forms k ps e ih h g = absurd (cc)
form_step mode v (Some qs) None forms k ps e ih h g = absurd (cc)
form_step mode v (Some qs) (Some more) forms k ps e ih h g = form_get mode v qs more k ps e (λ j. ih more j refl) (ap (λ fs. slice_get fs k) (same_forms (qs ∷ more) forms h) ∙ g)

forms_spelled : (mode : Mode) (vs : List (List ℕ)) (forms : List (List Piece)) (k : ℕ) (ps : List Piece) → forms_of mode vs ≡ some_forms forms → slice_get forms k ≡ Some ps → AreSpelled ps
forms_spelled mode [] forms k ps h g = let e = ap (λ fs. slice_get fs k) (same_forms [] forms h) ∙ g in absurd (let n : None ≡ some_pieces ps = e in cc)
forms_spelled mode (v ∷ vs) forms k ps h g = form_step mode v (pieces_of mode v) (forms_of mode vs) forms k ps refl (λ more j. forms_spelled mode vs more j ps) h g

abbrev variants_of : List (List Piece) → Parsed
variants_of fs = bodies.Variants fs

same_variants : (fs gs : List (List Piece)) → variants_of fs ≡ variants_of gs → fs ≡ gs
same_variants fs gs h = cc

no_variants : (o : Option (List Piece)) (fs : List (List Piece)) → one_body o ≡ variants_of fs → ⊥
no_variants None fs h = absurd (cc)
no_variants (Some qs) fs h = absurd (cc)

body_forms : (mode : Mode) (vs : List (List ℕ)) (b : Bool) (o : Option (List (List Piece))) (forms : List (List Piece)) → forms_of mode vs ≡ o → cond {A = Parsed} b (forms_body o) bodies.Unsupported ≡ variants_of forms → forms_of mode vs ≡ some_forms forms
body_forms mode vs true None forms e h = absurd (cc)
body_forms mode vs true (Some fs) forms e h = e ∙ ap (λ x. Some x) (same_variants fs forms h)
body_forms mode vs false o forms e h = absurd (cc)

cut_forms : (mode : Mode) (vs : List (List ℕ)) (forms : List (List Piece)) (k : ℕ) (ps : List Piece) → cut_body mode vs ≡ variants_of forms → slice_get forms k ≡ Some ps → AreSpelled ps
unfolding cut_body
cut_forms mode [] forms k ps h g = absurd (cc)
cut_forms mode (v ∷ []) forms k ps h g = absurd (no_variants (pieces_of mode v) forms h)
cut_forms mode (v ∷ w ∷ vs) forms k ps h g = forms_spelled mode (v ∷ w ∷ vs) forms k ps (body_forms mode (v ∷ w ∷ vs) (nat_le (length (v ∷ w ∷ vs)) 255) (forms_of mode (v ∷ w ∷ vs)) forms refl h) g

variant_spelled : (mode : Mode) (tag : Tag) (text : List ℕ) (forms : List (List Piece)) (k : ℕ) (ps : List Piece) → body_by mode tag text ≡ variants_of forms → slice_get forms k ≡ Some ps → AreSpelled ps
variant_spelled mode tags.Prim text forms k ps h g = cut_forms mode (variants text) forms k ps h g
variant_spelled mode tags.Derived text forms k ps h g = cut_forms mode (variants text) forms k ps h g
variant_spelled mode tags.Write text forms k ps h g = cut_forms mode (variants text) forms k ps h g
variant_spelled mode tags.Interned text forms k ps h g = absurd (cc)
variant_spelled mode (tags.Other name) text forms k ps h g = absurd (cc)
variant_spelled mode tags.Trace text forms k ps h g = absurd (no_variants (pieces_of mode text) forms h)
variant_spelled mode tags.Debug text forms k ps h g = absurd (no_variants (pieces_of mode text) forms h)
variant_spelled mode tags.Info text forms k ps h g = absurd (no_variants (pieces_of mode text) forms h)
variant_spelled mode tags.Warn text forms k ps h g = absurd (no_variants (pieces_of mode text) forms h)
variant_spelled mode tags.Error text forms k ps h g = absurd (no_variants (pieces_of mode text) forms h)
variant_spelled mode tags.Println text forms k ps h g = absurd (no_variants (pieces_of mode text) forms h)
variant_spelled mode tags.Timestamp text forms k ps h g = absurd (no_variants (pieces_of mode text) forms h)

guarded : (b : Bool) (o : Option (List Piece)) (ps : List Piece) → cond {A = Option (List Piece)} b o None ≡ Some ps → o ≡ Some ps
guarded true o ps h = h
guarded false o ps h = absurd (cc)

-- ---- places

places_used : (ps : List Piece) (n : ℕ) (ss : List Slot) → ((k : ℕ) → n ≤ k → k < n + length ss → 0 < uses_at k ps) → AreUsed (places_from ps n ss)
places_used ps n [] h = tt
places_used ps n (s ∷ ss) h = (h n (omega arith) (omega arith), places_used ps (n + 1) ss (λ k le lt. h k (omega arith) (omega (arith, lt))))

spelled_used : (ps : List Piece) → AreSpelled ps → AreUsed (places_of ps)
spelled_used ps h = let s = slots_sound ps h in places_used ps 0 (slots_of ps) (λ k le lt. s.used k (omega (arith, lt)))

pub own_used : (l : Language) (e : Entry) (ps : List Piece) → body_of l e ≡ bodies.One ps → AreUsed (places_of ps)
own_used l e ps h = spelled_used ps (body_spelled (lenient_of l) e.tag e.text ps h)

pub form_used : (t : Map) (index : ℕ) (form : Parsed) (variant : Option ℕ) (ps : List Piece) → IsForm t index form → HasPieces form variant ps → AreUsed (places_of ps)
form_used t index form None ps f h = own_used t.language f.entry ps (f.body ∙ h)
form_used t index form (Some v) ps f h = spelled_used ps (variant_spelled (lenient_of t.language) f.entry.tag f.entry.text h.0 v ps (f.body ∙ h.1) (guarded (nat_lt v 256) (slice_get h.0 v) ps h.2))

-- ---- weights

pub weight_some : (uses w : ℕ) → 0 < uses → 0 < w → 0 < uses * w
weight_some uses w h k = let p : 1 * w ≤ uses * w = mul-le-mul_right w (omega arith) in omega (arith, p)

-- a list weighs at least as much as it has elements
pub elems_weigh : (t : Map) (index w : ℕ) (es : Elems) → 0 < w → elems_len es ≤ weigh_elems t index w es
elems_weigh t index w no_elems h = omega arith
elems_weigh t index w (elem variant vs es) h = let m = elems_weigh t index w es h in omega (arith, m)
