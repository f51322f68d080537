-- Entries that suit Format values, and their pieces.
use Rattle.std.proofs.Common.{◌≡◌, ◌<◌, ◌≤◌, ◌+◌, ◌==◌, ℕ, Bool, true, false, nat_lt, List, Option, Some, None, Ok, Err, refl, cond, ◌∙◌, arith}
use Rattle.defmt_intern.specs.Entries as map
use Rattle.std.specs.List.{slice_get}
use Rattle.std.proofs.lemmas.Bool.{ltb-true, le-leb, cond-false, ne_eqb}
use Rattle.defmt_values.specs.Fits.{IsForm, HasPieces}
use Rattle.defmt_values.specs.Scan.{form_at, element_form, pick, add, node_places}
use Rattle.defmt_values.specs.Entries.{look, variant_at, places_of}
use Rattle.defmt_grammar.specs.declared.piece.Piece.{Piece}
use Rattle.defmt_intern.specs.Table.{Map}
use Rattle.defmt_intern.specs.declared.entry.Entry.{Entry}
use Rattle.defmt_intern.specs.declared.parsed.Parsed.{Parsed}

guarded : {T : Type 0} (b : Bool) (o : Option T) (x : T) → cond {A = Option T} b o None ≡ Some x → b ≡ true
guarded true o x h = refl
guarded false o x h = absurd (cc)

pub index_small : (t : Map) (index : ℕ) (e : Entry) → look t index ≡ Some e → index < 65536
index_small t index e h = ltb-true index 65536 (guarded (nat_lt index 65536) (map.get t index) e h)

pub variant_small : (forms : List (List Piece)) (v : ℕ) (ps : List Piece) → variant_at forms v ≡ Some ps → v < 256
variant_small forms v ps h = ltb-true v 256 (guarded (nat_lt v 256) (slice_get forms v) ps h)

pub form_there : (t : Map) (index : ℕ) (form : Parsed) (variant : Option ℕ) (ps : List Piece) → IsForm t index form → HasPieces form variant ps → form_at t index ≡ Ok form
form_there t index form None ps f h = rw (f.there, f.tag, f.body, h) refl
form_there t index form (Some v) ps f h = rw (f.there, f.tag, f.body, h.1) refl

pub element_there : (t : Map) (index : ℕ) (form : Parsed) (variant : Option ℕ) (ps : List Piece) → 0 < index → IsForm t index form → HasPieces form variant ps → element_form t index ≡ Ok form
element_there t index form variant ps some f h = cond-false (index == 0) (Err 5) (form_at t index) (ne_eqb index 0 (λ e. omega (arith, some, e))) ∙ form_there t index form variant ps f h

pub pieces_there : (form : Parsed) (variant : Option ℕ) (ps : List Piece) → HasPieces form variant ps → pick form variant ≡ Ok ps
pieces_there form None ps h = rw h refl
pieces_there form (Some v) ps h = rw (h.1, h.2) refl

pub places_are : (t : Map) (index : ℕ) (form : Parsed) (variant : Option ℕ) (ps : List Piece) → IsForm t index form → HasPieces form variant ps → node_places t index variant ≡ places_of ps
places_are t index form variant ps f h = rw (form_there t index form variant ps f h, pieces_there form variant ps h) refl

pub adds : (weight sum : ℕ) → sum + weight ≤ 8192 → add weight sum ≡ Ok (sum + weight)
adds weight sum h = rw (le-leb (sum + weight) 8192 h) refl
