-- A table of the language Base has no slot that Base has not.
use Rattle.std.proofs.Common.{◌≡◌, ℕ, zero, suc, Bool, true, false, cond, nat_lt, nat_le, List, [], ◌∷◌, length, Option, Some, None, refl, sym, ap, subst, ◌∙◌, option_map}
use Rattle.std.specs.Prelude.{All, slice_get, option_and_then}
use Rattle.std.proofs.lemmas.Option.{same_Some}
use Rattle.defmt_grammar.proofs.BaseLaws.{IsBaseSlot, base_slots}
use Rattle.defmt_grammar.specs.Language.{lenient_of}
use Rattle.defmt_grammar.specs.Slots.{slots_of}
use Rattle.defmt_grammar.specs.declared.language.Language.{Language}
use Rattle.defmt_grammar.specs.declared.language.Language.TheVariants.{Base}
use Rattle.defmt_grammar.specs.declared.piece.Piece.{Piece}
use Rattle.defmt_intern.proofs.PieceLaws.{pieces_found}
use Rattle.defmt_intern.specs.Body.{variants, forms_of, one_body, forms_body, cut_body, body_by, body_of}
use Rattle.defmt_intern.specs.Pieces.{pieces_of}
use Rattle.defmt_intern.specs.Table.{Map}
use Rattle.defmt_intern.specs.declared.entry.Entry.{Entry}
use Rattle.defmt_intern.specs.declared.entry.Tag.{Tag}
use Rattle.defmt_intern.specs.declared.entry.Tag.TheVariants as tags
use Rattle.defmt_intern.specs.declared.parsed.Parsed.{Parsed}
use Rattle.defmt_intern.specs.declared.parsed.Parsed.TheVariants as bodies
use Rattle.defmt_values.specs.Fits.{IsForm, HasPieces}

abbrev pub HaveBaseSlots : List Piece → Type 0
HaveBaseSlots ps = All IsBaseSlot (slots_of ps)

base_pieces : (text : List ℕ) (ps : List Piece) → pieces_of (lenient_of Base) text ≡ Some ps → HaveBaseSlots ps
base_pieces text ps h = base_slots (lenient_of Base) text ps refl (pieces_found (lenient_of Base) text ps h)

-- the pieces of a form, or of each of its variants
abbrev FormIsBase : Parsed → Type 0
FormIsBase (bodies.One ps) = HaveBaseSlots ps
FormIsBase (bodies.Variants forms) = (v : ℕ) (ps : List Piece) → slice_get forms v ≡ Some ps → HaveBaseSlots ps
FormIsBase form = Unit {0}

one_base : (text : List ℕ) (o : Option (List Piece)) → pieces_of (lenient_of Base) text ≡ o → FormIsBase (one_body o)
one_base text None e = tt
one_base text (Some ps) e = base_pieces text ps e

-- the first of the variants, and the others
split_forms : (o : Option (List Piece)) (p : Option (List (List Piece))) (forms : List (List Piece)) → option_and_then (λ (ps : List Piece). option_map (λ (more : List (List Piece)). ps ∷ more) p) o ≡ Some forms
    → (first : List Piece) × (more : List (List Piece)) × (o ≡ Some first) × (p ≡ Some more) × (first ∷ more ≡ forms)
split_forms None p forms e = absurd cc
split_forms (Some ps) None forms e = absurd cc
split_forms (Some ps) (Some more) forms e = (ps, more, refl, refl, same_Some (ps ∷ more) forms e)

abbrev AreBase : List (List Piece) → Type 0
AreBase forms = (v : ℕ) (ps : List Piece) → slice_get forms v ≡ Some ps → HaveBaseSlots ps

none_base : AreBase []
none_base v ps h = absurd cc

more_base : (first : List Piece) (more : List (List Piece)) → HaveBaseSlots first → AreBase more → AreBase (first ∷ more)
more_base first more b bs zero ps h = subst HaveBaseSlots (same_Some first ps h) b
more_base first more b bs (suc v) ps h = bs v ps h

forms_base : (texts : List (List ℕ)) (forms : List (List Piece)) → forms_of (lenient_of Base) texts ≡ Some forms → AreBase forms
forms_base [] forms e = subst AreBase (same_Some [] forms e) none_base
forms_base (text ∷ texts) forms e =
    let k = split_forms (pieces_of (lenient_of Base) text) (forms_of (lenient_of Base) texts) forms e in
    subst AreBase k.4 (more_base k.0 k.1 (base_pieces text k.0 k.2) (forms_base texts k.1 k.3))

some_base : (texts : List (List ℕ)) (o : Option (List (List Piece))) → forms_of (lenient_of Base) texts ≡ o → FormIsBase (forms_body o)
some_base texts None e = tt
some_base texts (Some forms) e = forms_base texts forms e

few_base : (b : Bool) (texts : List (List ℕ)) → FormIsBase (cond b (forms_body (forms_of (lenient_of Base) texts)) bodies.Unsupported)
few_base true texts = some_base texts (forms_of (lenient_of Base) texts) refl
few_base false texts = tt

cut_base : (texts : List (List ℕ)) → FormIsBase (cut_body (lenient_of Base) texts)
unfolding cut_body
cut_base [] = tt
cut_base (v ∷ []) = one_base v (pieces_of (lenient_of Base) v) refl
cut_base (v ∷ w ∷ vs) = few_base (nat_le (length (v ∷ w ∷ vs)) 255) (v ∷ w ∷ vs)

body_base : (tag : Tag) (text : List ℕ) → FormIsBase (body_by (lenient_of Base) tag text)
body_base tags.Prim text = cut_base (variants text)
body_base tags.Derived text = cut_base (variants text)
body_base tags.Write text = cut_base (variants text)
body_base tags.Interned text = tt
body_base (tags.Other name) text = tt
body_base tag text = one_base text (pieces_of (lenient_of Base) text) refl

within : (b : Bool) (o : Option (List Piece)) (ps : List Piece) → cond b o None ≡ Some ps → o ≡ Some ps
within true o ps h = h
within false o ps h = absurd cc

has_base : (form : Parsed) (variant : Option ℕ) (ps : List Piece) → FormIsBase form → HasPieces form variant ps → HaveBaseSlots ps
has_base form None ps b h = subst FormIsBase h b
has_base form (Some v) ps b h = subst FormIsBase h.1 b v ps (within (nat_lt v 256) (slice_get h.0 v) ps h.2)

entry_base : (lang : Language) (entry : Entry) (form : Parsed) → body_of lang entry ≡ form → lang ≡ Base → FormIsBase form
entry_base lang entry form h e = subst FormIsBase (ap (λ (l : Language). body_of l entry) (sym e) ∙ h) (body_base entry.tag entry.text)

pub form_slots : (t : Map) (index : ℕ) (form : Parsed) (variant : Option ℕ) (ps : List Piece) → IsForm t index form → HasPieces form variant ps → t.language ≡ Base → HaveBaseSlots ps
form_slots t index form variant ps f h e = has_base form variant ps (entry_base t.language f.entry form f.body e) h

pub own_slots : (t : Map) (entry : Entry) (ps : List Piece) → body_of t.language entry ≡ bodies.One ps → t.language ≡ Base → HaveBaseSlots ps
own_slots t entry ps h e = entry_base t.language entry (bodies.One ps) h e
