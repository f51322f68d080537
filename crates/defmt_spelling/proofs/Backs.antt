-- What is written reads back.
use Rattle.std.proofs.Common.{◌≡◌, inl, inr, ◌<◌, ◌-◌, ◌++◌, ℕ, suc, pos, negsuc, Bool, true, false, List, [], ◌∷◌, Option, Some, None, refl, sym, ap, subst, ◌∙◌, arith, append_assoc, Result, Ok, Err}
use Rattle.std.specs.Prelude.{IfOk}
use Rattle.defmt_grammar.specs.Cut.{AreSpaces}
use Rattle.defmt_grammar.specs.declared.kind.Kind.TheVariants as kinds
use Rattle.defmt_grammar.specs.declared.slot.Slot.{Slot}
use Rattle.defmt_grammar.specs.declared.slot.Slot.TheVariants as slots
use Rattle.defmt_intern.specs.Table.{Map}
use Rattle.defmt_intern.specs.declared.parsed.Parsed.{Parsed}
use Rattle.defmt_shapes.specs.Shape as shapes
use Rattle.defmt_shapes.specs.Shape.{Shape, Shapes, AreCalls, no_shapes, shape, Items, no_items, item, SpellsShape, SpellsShapes, SpellsItems, EndsThere, IsName}
use Rattle.defmt_shapes.proofs.ShapeLaws.{mark_starts}
use Rattle.defmt_spelling.proofs.FloatBacks.{float_shape, float_spelled, float_meant}
use Rattle.defmt_spelling.proofs.Heads.{starts_longer}
use Rattle.defmt_spelling.proofs.NameBacks.{one_index, name_spelled, index_back}
use Rattle.defmt_spelling.proofs.SlotLaws.{places_slots, IsSlotOf, AreSlotsOf, first_of_language, more_of_language, slot_full, node_slots_are, slots_of_language, own_slots_are, own_of_language}
use Rattle.defmt_spelling.proofs.Writable.{IsWritable, AreWritable, ElemsWritable, NodesWritable, vals_writable}
use Rattle.defmt_spelling.proofs.Written.{uint_spelled, item_mark_spelled, call_mark_spelled, positive_spelled, negative_spelled, flag_spelled, char_spelled, str_spelled, hex_spelled}
use Rattle.defmt_spelling.specs.Meaning.{meant_val, meant_vals, meant_elems, meant_nodes}
use Rattle.defmt_spelling.specs.Named.{ListNamed, AreNamed}
use Rattle.defmt_spelling.specs.Names.{NameMap}
use Rattle.defmt_spelling.specs.Printed.{name_text, hex_text, gap, call_mark, item_mark, node_slots, own_slots, first_slot, more_slots, printed_val, vals_text, elems_text, nodes_text, node_text, printed_list, printed_arguments}
use Rattle.defmt_spelling.specs.Spelling.{Spelled, ReadsArguments}
use Rattle.defmt_values.proofs.Forms.{places_are}
use Rattle.defmt_values.specs.Entries.{Place, places_of}
use Rattle.defmt_values.specs.Fits.{FitsVal, FitsVals, FitsElems, FitsNodes, Fits, IsForm}
use Rattle.defmt_values.specs.Plain.{Val, uint, int, flag, char, str, istr, bytes, bits, format, seq, float, sequence, Vals, no_vals, val, Elems, no_elems, elem, Nodes, no_nodes, node}
use Rattle.defmt_values.specs.Scan.{index_or, node_places}
use Rattle.defmt_values.specs.Sound.{AreSound}

-- the elements of a list fit its entry, where there are some
abbrev ElemsFit : Map → ℕ → ℕ → Elems → Type 0
ElemsFit t left index no_elems = Unit {0}
ElemsFit t left index (elem variant vs es) = (form : Parsed) × IsForm t index form × FitsElems t left form (elem variant vs es)

list_fit : (t : Map) (left : ℕ) (slot : Slot) (index : Option ℕ) (es : Elems) → FitsVal t left slot (seq index es) → ElemsFit t (left - 1) (index_or index) es
list_fit t left slot index no_elems f = tt
list_fit t left slot None (elem variant vs es) f = elim f.1 [
  | inl h ↦ absurd (let e : elem variant vs es ≡ no_elems = h.0 in cc)
  | inr h ↦ absurd (let e : None ≡ Some h.0 = h.2 in cc)
]
list_fit t left slot (Some j) (elem variant vs es) f = elim f.1 [
  | inl h ↦ absurd (let e : elem variant vs es ≡ no_elems = h.0 in cc)
  | inr h ↦ (h.1, subst (λ (i : ℕ). IsForm t i h.1) (sym (one_index j h.0 h.2)) h.5, h.6)
]

others_fit : (t : Map) (left index : ℕ) (form : Parsed) (es : Elems) → IsForm t index form → FitsElems t left form es → ElemsFit t left index es
others_fit t left index form no_elems i f = tt
others_fit t left index form (elem variant vs es) i f = (form, i, f)

module _ (names : NameMap) where
  -- ---- what is written spells these shapes

  abbrev list_shape : List ℕ → Elems → Items → Shape
  list_shape name no_elems items = shapes.empty
  list_shape name (elem variant vs es) items = shapes.sequence name items

  module _ (t : Map) where
    abbrev mutual
      shape_of : Slot → Val → Shape
      shape_of slot (uint n) = shapes.decimal n
      shape_of slot (int (pos n)) = shapes.decimal n
      shape_of slot (int (negsuc n)) = shapes.negative (suc n)
      shape_of slot (flag b) = shapes.flag b
      shape_of slot (char c) = shapes.character c
      shape_of slot (str s) = shapes.quoted s
      shape_of slot (istr index) = shapes.interned (name_text names index)
      shape_of slot (bytes s) = shapes.bytes s
      shape_of slot (bits n) = shapes.decimal n
      shape_of slot (format index variant vs) = shapes.call (name_text names index) variant (shapes_of (node_slots t index variant) vs)
      shape_of slot (seq index es) = list_shape (name_text names (index_or index)) es (items_of (index_or index) es)
      shape_of slot (float n) = float_shape slot n
      shape_of slot (sequence ns) = shapes.nodes (calls_of ns)

      shapes_of : List Slot → Vals → Shapes
      shapes_of there no_vals = no_shapes
      shapes_of there (val v vs) = shape (shape_of (first_slot there) v) (shapes_of (more_slots there) vs)

      items_of : ℕ → Elems → Items
      items_of index no_elems = no_items
      items_of index (elem variant vs es) = item variant (shapes_of (node_slots t index variant) vs) (items_of index es)

      calls_of : Nodes → Shapes
      calls_of no_nodes = no_shapes
      calls_of (node index variant vs ns) = shape (shapes.call (name_text names index) variant (shapes_of (node_slots t index variant) vs)) (calls_of ns)

    are_calls : (ns : Nodes) → AreCalls (calls_of ns)
    are_calls no_nodes = tt
    are_calls (node index variant vs ns) = (tt, are_calls ns)

    gap_spaces : (first : Bool) → AreSpaces (gap first)
    gap_spaces true = tt
    gap_spaces false = (refl, tt)

    vals_ends : (there : List Slot) (vs : Vals) → EndsThere (vals_text names t false there vs)
    unfolding printed_val
    vals_ends there no_vals = tt
    vals_ends there (val v vs) = refl

    elems_ends : (index : ℕ) (es : Elems) → EndsThere (elems_text names t false index es)
    unfolding printed_val
    elems_ends index no_elems = tt
    elems_ends index (elem variant vs es) = refl

    nodes_ends : (ns : Nodes) → EndsThere (nodes_text names t false ns)
    unfolding printed_val
    nodes_ends no_nodes = tt
    nodes_ends (node index variant vs ns) = refl

    item_text : (mark inside later : List ℕ) → (mark ++ (40 ∷ (inside ++ 41 ∷ []))) ++ later ≡ mark ++ 40 ∷ (inside ++ 41 ∷ later)
    item_text mark inside later = append_assoc mark (40 ∷ (inside ++ 41 ∷ [])) later ∙ ap (λ (x : List ℕ). mark ++ 40 ∷ x) (append_assoc inside (41 ∷ []) later)

    list_spelled : (slot : Slot) (index : Option ℕ) (es : Elems) (items : Items) → ListNamed names index es → SpellsItems t.language (elems_text names t true (index_or index) es) items → SpellsShape t.language (printed_list names t index es) (list_shape (name_text names (index_or index)) es items)
    unfolding printed_val
    list_spelled slot index no_elems items w h = refl
    list_spelled slot index (elem variant vs es) items w h =
        let there : List Slot = node_slots t (index_or index) variant in (
          elems_text names t true (index_or index) (elem variant vs es),
          name_spelled names (index_or index) w,
          starts_longer (item_mark variant ++ (40 ∷ (vals_text names t true there vs ++ 41 ∷ []))) (elems_text names t false (index_or index) es) (mark_starts (item_mark variant) (vals_text names t true there vs ++ 41 ∷ []) variant (item_mark_spelled variant)),
          h,
          refl,
        )

    mutual
      unfolding printed_val

      pub val_spelled : (left : ℕ) (slot : Slot) (v : Val) → IsSlotOf t.language slot → FitsVal t left slot v → IsWritable names v → SpellsShape t.language (printed_val names t slot v) (shape_of slot v)
      val_spelled left slot (uint n) b f w = uint_spelled n
      val_spelled left slot (int (pos n)) b f w = positive_spelled t.language n
      val_spelled left slot (int (negsuc n)) b f w = negative_spelled t.language n
      val_spelled left slot (flag x) b f w = flag_spelled t.language x
      val_spelled left slot (char c) b f w = char_spelled t.language c w
      val_spelled left slot (str s) b f w = str_spelled t.language s w
      val_spelled left slot (istr index) b f w = (name_spelled names index w, refl)
      val_spelled left slot (bytes s) b f w = (hex_text s, hex_spelled s w, refl)
      val_spelled left slot (bits n) b f w = uint_spelled n
      val_spelled left slot (format index variant vs) b f w = (
        call_mark variant,
        vals_text names t true (node_slots t index variant) vs,
        name_spelled names index w.0,
        call_mark_spelled variant,
        vals_spelled (left - 1) true (places_of f.1) (node_slots t index variant) vs (node_slots_are t index f.0 variant f.1 f.4 f.5) (slots_of_language t index f.0 variant f.1 f.4 f.5) f.6 w.1,
        refl,
      )
      val_spelled left slot (seq index es) b f w = list_spelled slot index es (items_of (index_or index) es) w.0 (elems_spelled (index_or index) (left - 1) true es (list_fit t left slot index es f) w.1)
      val_spelled left slot (float n) b f w = float_spelled t.language slot n b f
      val_spelled left slot (sequence ns) b f w = (nodes_text names t true ns, slot_full t.language slot (slots.One kinds.Sequence) (λ x. x) b f.0, are_calls ns, nodes_spelled left true ns f.1 w, refl)

      pub vals_spelled : (left : ℕ) (first : Bool) (places : List Place) (there : List Slot) (vs : Vals) → places_slots places ≡ there → AreSlotsOf t.language there → FitsVals t left places vs → AreWritable names vs → SpellsShapes t.language (vals_text names t first there vs) (shapes_of there vs)
      vals_spelled left first places there no_vals e b f w = tt
      vals_spelled left first places there (val v vs) e b f w =
          let same : f.0.slot ∷ places_slots f.1 ≡ there = ap places_slots (sym f.2) ∙ e in
          let one : f.0.slot ≡ first_slot there = ap first_slot same in
          let others : places_slots f.1 ≡ more_slots there = ap more_slots same in (
            gap first,
            printed_val names t (first_slot there) v,
            vals_text names t false (more_slots there) vs,
            gap_spaces first,
            val_spelled left (first_slot there) v (first_of_language t.language there b) (subst (λ (s : Slot). FitsVal t left s v) one f.3) w.0,
            vals_ends (more_slots there) vs,
            vals_spelled left false f.1 (more_slots there) vs others (more_of_language t.language there b) f.4 w.1,
            refl,
          )

      pub elems_spelled : (index : ℕ) (left : ℕ) (first : Bool) (es : Elems) → ElemsFit t left index es → ElemsWritable names es → SpellsItems t.language (elems_text names t first index es) (items_of index es)
      elems_spelled index left first no_elems f w = refl
      elems_spelled index left first (elem variant vs es) f w = (
        gap first,
        item_mark variant,
        vals_text names t true (node_slots t index variant) vs,
        elems_text names t false index es,
        gap_spaces first,
        item_mark_spelled variant,
        vals_spelled left true (places_of f.2.0) (node_slots t index variant) vs (node_slots_are t index f.0 variant f.2.0 f.1 f.2.1) (slots_of_language t index f.0 variant f.2.0 f.1 f.2.1) f.2.2 w.0,
        elems_ends index es,
        elems_spelled index left false es (others_fit t left index f.0 es f.1 f.2.3) w.1,
        ap (λ (x : List ℕ). gap first ++ x) (item_text (item_mark variant) (vals_text names t true (node_slots t index variant) vs) (elems_text names t false index es)),
      )

      pub nodes_spelled : (left : ℕ) (first : Bool) (ns : Nodes) → FitsNodes t left ns → NodesWritable names ns → SpellsShapes t.language (nodes_text names t first ns) (calls_of ns)
      nodes_spelled left first no_nodes f w = tt
      nodes_spelled left first (node index variant vs ns) f w = (
        gap first,
        node_text names t index variant vs,
        nodes_text names t false ns,
        gap_spaces first,
        (
          call_mark variant,
          vals_text names t true (node_slots t index variant) vs,
          name_spelled names index w.0,
          call_mark_spelled variant,
          vals_spelled (left - 1) true (places_of f.1) (node_slots t index variant) vs (node_slots_are t index f.0 variant f.1 f.4 f.5) (slots_of_language t index f.0 variant f.1 f.4 f.5) f.6 w.1,
          refl,
        ),
        nodes_ends ns,
        nodes_spelled left false ns f.7 w.2,
        refl,
      )

  -- ---- and these shapes mean what was written

  module _ (t : Map) where
    list_meant : (left : ℕ) (slot : Slot) (index : Option ℕ) (es : Elems) (items : Items) → FitsVal t left slot (seq index es) → ListNamed names index es
        → ((i : ℕ) (form : Parsed) → index_or index ≡ i → IsForm t i form → FitsElems t (left - 1) form es → meant_elems names t i items ≡ es) → meant_val names t slot (list_shape (name_text names (index_or index)) es items) ≡ seq index es
    unfolding meant_val
    list_meant left slot index no_elems items f w rec = elim f.1 [
      | inl h ↦ ap (λ (o : Option ℕ). seq o no_elems) (sym h.1)
      | inr h ↦ absurd (let k : 0 < 0 = h.3 in omega (arith, k))
    ]
    list_meant left slot None (elem variant vs es) items f w rec = elim f.1 [
      | inl h ↦ absurd (let e : elem variant vs es ≡ no_elems = h.0 in cc)
      | inr h ↦ absurd (let e : None ≡ Some h.0 = h.2 in cc)
    ]
    list_meant left slot (Some j) (elem variant vs es) items f w rec = elim f.1 [
      | inl h ↦ absurd (let e : elem variant vs es ≡ no_elems = h.0 in cc)
      | inr h ↦ (
          let form : IsForm t j h.1 = subst (λ (i : ℕ). IsForm t i h.1) (sym (one_index j h.0 h.2)) h.5 in
          ap (λ (i : ℕ). seq (Some i) (meant_elems names t i items)) (index_back names j w) ∙ ap (seq (Some j)) (rec j h.1 refl form h.6))
    ]

    mutual
      unfolding meant_val

      pub val_meant : (left : ℕ) (slot : Slot) (v : Val) → FitsVal t left slot v → IsWritable names v → meant_val names t slot (shape_of t slot v) ≡ v
      val_meant left slot (uint n) f w = subst (λ (s : Slot). meant_val names t s (shapes.decimal n) ≡ uint n) (sym f.slot_is) refl
      val_meant left slot (int (pos n)) f w = subst (λ (s : Slot). meant_val names t s (shapes.decimal n) ≡ int (pos n)) (sym f.slot_is) refl
      val_meant left slot (int (negsuc n)) f w = subst (λ (s : Slot). meant_val names t s (shapes.negative (suc n)) ≡ int (negsuc n)) (sym f.slot_is) refl
      val_meant left slot (flag b) f w = refl
      val_meant left slot (char c) f w = refl
      val_meant left slot (str s) f w = refl
      val_meant left slot (istr index) f w = ap istr (index_back names index w)
      val_meant left slot (bytes s) f w = refl
      val_meant left slot (bits n) f w = subst (λ (s : Slot). meant_val names t s (shapes.decimal n) ≡ bits n) (sym f.slot_is) refl
      val_meant left slot (format index variant vs) f w =
          ap (λ (i : ℕ). format i variant (meant_vals names t (node_places t i variant) (shapes_of t (node_slots t index variant) vs))) (index_back names index w.0)
          ∙ ap (format index variant) (ap (λ (places : List Place). meant_vals names t places (shapes_of t (node_slots t index variant) vs)) (places_are t index f.0 variant f.1 f.4 f.5) ∙ vals_meant (left - 1) (places_of f.1) (node_slots t index variant) vs (node_slots_are t index f.0 variant f.1 f.4 f.5) f.6 w.1)
      val_meant left slot (seq index es) f w = list_meant left slot index es (items_of t (index_or index) es) f w.0 (λ i form same h g. ap (meant_elems names t i) (ap (λ (k : ℕ). items_of t k es) same) ∙ elems_meant (left - 1) i form es h g w.1)
      val_meant left slot (float n) f w = float_meant names t slot n f
      val_meant left slot (sequence ns) f w = ap sequence (nodes_meant left ns f.1 w)

      pub vals_meant : (left : ℕ) (places : List Place) (there : List Slot) (vs : Vals) → places_slots places ≡ there → FitsVals t left places vs → AreWritable names vs → meant_vals names t places (shapes_of t there vs) ≡ vs
      vals_meant left places there no_vals e f w = refl
      vals_meant left places there (val v vs) e f w =
          let same : f.0.slot ∷ places_slots f.1 ≡ there = ap places_slots (sym f.2) ∙ e in
          let one : first_slot there ≡ f.0.slot = sym (ap first_slot same) in
          let others : places_slots f.1 ≡ more_slots there = ap more_slots same in
          subst (λ (ps : List Place). meant_vals names t ps (shapes_of t there (val v vs)) ≡ val v vs) (sym f.2)
          (ap (λ (s : Slot). val (meant_val names t f.0.slot (shape_of t s v)) (meant_vals names t f.1 (shapes_of t (more_slots there) vs))) one
          ∙ ap (λ (x : Val). val x (meant_vals names t f.1 (shapes_of t (more_slots there) vs))) (val_meant left f.0.slot v f.3 w.0) ∙ ap (val v) (vals_meant left f.1 (more_slots there) vs others f.4 w.1))

      pub elems_meant : (left : ℕ) (index : ℕ) (form : Parsed) (es : Elems) → IsForm t index form → FitsElems t left form es → ElemsWritable names es → meant_elems names t index (items_of t index es) ≡ es
      elems_meant left index form no_elems h f w = refl
      elems_meant left index form (elem variant vs es) h f w =
          ap (λ (x : Vals). elem variant x (meant_elems names t index (items_of t index es))) (ap (λ (places : List Place). meant_vals names t places (shapes_of t (node_slots t index variant) vs)) (places_are t index form variant f.0 h f.1) ∙ vals_meant left (places_of f.0) (node_slots t index variant) vs (node_slots_are t index form variant f.0 h f.1) f.2 w.0)
          ∙ ap (elem variant vs) (elems_meant left index form es h f.3 w.1)

      pub nodes_meant : (left : ℕ) (ns : Nodes) → FitsNodes t left ns → NodesWritable names ns → meant_nodes names t (calls_of t ns) ≡ ns
      nodes_meant left no_nodes f w = refl
      nodes_meant left (node index variant vs ns) f w =
          ap (λ (i : ℕ). node i variant (meant_vals names t (node_places t i variant) (shapes_of t (node_slots t index variant) vs)) (meant_nodes names t (calls_of t ns))) (index_back names index w.0)
          ∙ ap (λ (x : Vals). node index variant x (meant_nodes names t (calls_of t ns))) (ap (λ (places : List Place). meant_vals names t places (shapes_of t (node_slots t index variant) vs)) (places_are t index f.0 variant f.1 f.4 f.5) ∙ vals_meant (left - 1) (places_of f.1) (node_slots t index variant) vs (node_slots_are t index f.0 variant f.1 f.4 f.5) f.6 w.1)
          ∙ ap (node index variant vs) (nodes_meant left ns f.7 w.2)

    pub reads_back : (index : ℕ) (vs : Vals) → Fits t index vs → AreNamed names vs → AreSound vs → Spelled names t index (printed_arguments names t index vs) vs
    reads_back index vs f n s =
        let w : AreWritable names vs = vals_writable names vs n s in
        let there : places_slots (places_of f.pieces) ≡ own_slots t index = own_slots_are t index vs f in
        record {
          fits = f;
          shapes = shapes_of t (own_slots t index) vs;
          spelled = vals_spelled t 16 true (places_of f.pieces) (own_slots t index) vs there (own_of_language t index vs f) f.values w;
          meant = vals_meant 16 (places_of f.pieces) (own_slots t index) vs there f.values w;
        }

    pub text_back : {E : Type 0} (index : ℕ) (vs : Vals) (result : Result (List ℕ) E) → IfOk result (λ text. text ≡ printed_arguments names t index vs) → AreSound vs → Fits t index vs → AreNamed names vs
        → IfOk result (λ text. ReadsArguments names t index text (Ok vs))
    text_back index vs (Ok text) e s f n = subst (λ (x : List ℕ). Spelled names t index x vs) (sym e) (reads_back index vs f n s)
    text_back index vs (Err fault) e s f n = tt
