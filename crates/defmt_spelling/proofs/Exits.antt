-- How the functions that read one value end.
use Rattle.std.proofs.Common.{◌≡◌, ◌-◌, ℕ, List, Option, Some, Result, Ok, Err, refl, sym, ap, ◌∙◌}
use Rattle.defmt_grammar.specs.declared.piece.Piece.{Piece}
use Rattle.defmt_grammar.specs.declared.slot.Slot.{Slot}
use Rattle.defmt_intern.specs.Table.{Map}
use Rattle.defmt_intern.specs.declared.parsed.Parsed.{Parsed}
use Rattle.defmt_shapes.specs.Shape as shapes
use Rattle.defmt_shapes.specs.Shape.{Shapes, Items, SpellsItems, StartsThere}
use Rattle.defmt_spelling.proofs.Arms.{node_kind, node_entry, node_inside, node_value, list_kind, list_entry, list_inside, list_value, item_values, inside_there}
use Rattle.defmt_spelling.specs.Leaves.{sum_or}
use Rattle.defmt_spelling.specs.Meaning.{index_of, meant_val, meant_vals, meant_elems}
use Rattle.defmt_spelling.specs.Names.{NameMap}
use Rattle.defmt_spelling.specs.Reading.{GivesValue, GivesValues, GivesElems, GivesItem, GivesForm, Tests, form_scan, item_scan, meant_inside}
use Rattle.defmt_spelling.specs.declared.fault.ArgFault.{ArgFault}
use Rattle.defmt_spelling.specs.declared.fault.ArgFault.TheVariants.{Refused, Memory}
use Rattle.defmt_values.specs.Entries.{places_of}
use Rattle.defmt_values.specs.Plain.{format, seq, Vals, Elems, elems_len}
use Rattle.defmt_values.specs.Scan.{node_cause, list_cause, count_cause, add, pick, scan_val, scan_vals, scan_elems}

module _ (names : NameMap) (t : Map) (left weight sum : ℕ) (slot : Slot) (name : List ℕ) where
  module _ (variant : Option ℕ) (ss : Shapes) where
    abbrev pub NodeFault : ArgFault → Type 0
    NodeFault fault = GivesValue (Err fault) (meant_val names t slot (shapes.call name variant ss)) (scan_val t left slot weight sum (meant_val names t slot (shapes.call name variant ss)))

    pub node_kind_exit : (fault : ArgFault) → Tests (node_cause slot) (Err fault) → NodeFault fault
    node_kind_exit (Refused c) h = node_kind names t left weight sum slot name variant ss c h
    node_kind_exit Memory h = tt

    pub node_entry_exit : (fault : ArgFault) → node_cause slot ≡ Ok tt → GivesForm names t left name (Err fault) → NodeFault fault
    node_entry_exit (Refused c) k h = node_entry names t left weight sum slot name variant ss c k h
    node_entry_exit Memory k h = tt

    pub node_item_exit : (fault : ArgFault) (form : Parsed) → node_cause slot ≡ Ok tt → form_scan t left (index_of names name) ≡ Ok form
        → GivesItem (Err fault) variant (meant_inside names t form variant ss) (item_scan t (left - 1) form weight sum variant (meant_inside names t form variant ss)) → NodeFault fault
    node_item_exit (Refused c) form k h e = node_inside names t left weight sum slot name form variant ss (Err c) k h e
    node_item_exit Memory form k h e = tt

    pub node_end : (index : ℕ) (form : Parsed) (given : Option ℕ) (args : Vals) (next : ℕ) → node_cause slot ≡ Ok tt → (index_of names name ≡ index) × (form_scan t left (index_of names name) ≡ Ok form)
        → (given ≡ variant) × (args ≡ meant_inside names t form variant ss) × (item_scan t (left - 1) form weight sum variant (meant_inside names t form variant ss) ≡ Ok next)
        → (format index given args ≡ meant_val names t slot (shapes.call name variant ss)) × (scan_val t left slot weight sum (meant_val names t slot (shapes.call name variant ss)) ≡ Ok next)
    node_end index form given args next k f g =
        (node_value names t left weight sum slot name index form variant given ss args f.0 f.1 g.0 g.1, node_inside names t left weight sum slot name form variant ss (Ok next) k f.1 g.2)

  module _ (inside : List ℕ) (items : Items) (n : StartsThere inside) (s : SpellsItems t.language inside items) where
    abbrev pub ListFault : ArgFault → Type 0
    ListFault fault = GivesValue (Err fault) (meant_val names t slot (shapes.sequence name items)) (scan_val t left slot weight sum (meant_val names t slot (shapes.sequence name items)))

    abbrev elems : Elems
    elems = meant_elems names t (index_of names name) items

    pub list_kind_exit : (fault : ArgFault) → Tests (list_cause slot) (Err fault) → ListFault fault
    list_kind_exit (Refused c) h = list_kind names t left weight sum slot name items c h
    list_kind_exit Memory h = tt

    pub list_entry_exit : (fault : ArgFault) → list_cause slot ≡ Ok tt → GivesForm names t left name (Err fault) → ListFault fault
    list_entry_exit (Refused c) k h = list_entry names t left weight sum slot name inside items c k n s h
    list_entry_exit Memory k h = tt

    pub list_items_exit : (fault : ArgFault) (form : Parsed) → list_cause slot ≡ Ok tt → form_scan t left (index_of names name) ≡ Ok form → GivesElems (Err fault) elems (scan_elems t (left - 1) form weight sum elems) → ListFault fault
    list_items_exit (Refused c) form k h e = list_inside names t left weight sum slot name inside items form (Err c) (Err c) k n s h e refl
    list_items_exit Memory form k h e = tt

    pub list_count_exit : (fault : ArgFault) (form : Parsed) (es : Elems) (next count : ℕ) → list_cause slot ≡ Ok tt → form_scan t left (index_of names name) ≡ Ok form → (es ≡ elems) × (scan_elems t (left - 1) form weight sum elems ≡ Ok next)
        → count ≡ elems_len es → Tests (count_cause slot count) (Err fault) → ListFault fault
    list_count_exit (Refused c) form es next count k h e l b =
        let counted : count_cause slot (elems_len elems) ≡ Err c = ap (count_cause slot) (sym (l ∙ ap elems_len e.0)) ∙ b in
        list_inside names t left weight sum slot name inside items form (Ok next) (Err c) k n s h e.1 (ap (λ (x : Result (Unit {0}) ℕ). sum_or x next) counted)
    list_count_exit Memory form es next count k h e l b = tt

    pub list_end : (index : ℕ) (form : Parsed) (es : Elems) (next count : ℕ) → list_cause slot ≡ Ok tt → (index_of names name ≡ index) × (form_scan t left (index_of names name) ≡ Ok form) → (es ≡ elems) × (scan_elems t (left - 1) form weight sum elems ≡ Ok next)
        → count ≡ elems_len es → count_cause slot count ≡ Ok tt
        → (seq (Some index) es ≡ meant_val names t slot (shapes.sequence name items)) × (scan_val t left slot weight sum (meant_val names t slot (shapes.sequence name items)) ≡ Ok next)
    list_end index form es next count k f e l b =
        let counted : count_cause slot (elems_len elems) ≡ Ok tt = ap (count_cause slot) (sym (l ∙ ap elems_len e.0)) ∙ b in (
          list_value names t left weight sum slot name index items es f.0 e.0,
          list_inside names t left weight sum slot name inside items form (Ok next) (Ok next) k n s f.1 e.1 (ap (λ (x : Result (Unit {0}) ℕ). sum_or x next) counted),
        )

module _ (names : NameMap) (t : Map) (left weight sum : ℕ) (form : Parsed) (variant : Option ℕ) (ss : Shapes) where
  abbrev pub ItemFault : ArgFault → Type 0
  ItemFault fault = GivesItem (Err fault) variant (meant_inside names t form variant ss) (item_scan t left form weight sum variant (meant_inside names t form variant ss))

  pub item_values_exit : (fault : ArgFault) (s : ℕ) (ps : List Piece) → add weight sum ≡ Ok s → pick form variant ≡ Ok ps
      → GivesValues (Err fault) (meant_vals names t (places_of ps) ss) (scan_vals t left (places_of ps) weight s (meant_vals names t (places_of ps) ss)) → ItemFault fault
  item_values_exit (Refused c) s ps k h e = item_values names t left weight sum form variant ss s ps (Err c) k h e
  item_values_exit Memory s ps k h e = tt

  pub item_end : (s : ℕ) (ps : List Piece) (given : Option ℕ) (args : Vals) (next : ℕ) → add weight sum ≡ Ok s → (pick form variant ≡ Ok ps) × (given ≡ variant)
      → (args ≡ meant_vals names t (places_of ps) ss) × (scan_vals t left (places_of ps) weight s (meant_vals names t (places_of ps) ss) ≡ Ok next)
      → (given ≡ variant) × (args ≡ meant_inside names t form variant ss) × (item_scan t left form weight sum variant (meant_inside names t form variant ss) ≡ Ok next)
  item_end s ps given args next k g e =
      (g.1, e.0 ∙ sym (inside_there names t left weight sum form variant ss ps g.0), item_values names t left weight sum form variant ss s ps (Ok next) k g.0 e.1)
