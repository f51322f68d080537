-- The Format values of a sequence, one after another.
use Rattle.std.proofs.Common.{◌≡◌, ◌-◌, ℕ, eqb, cond, nat_lt, Bool, true, false, List, Option, Result, Ok, Err, refl, sym, ap, ◌∙◌}
use Rattle.defmt_grammar.specs.declared.slot.Slot.{Slot}
use Rattle.defmt_intern.specs.Table.{Map}
use Rattle.defmt_intern.specs.declared.parsed.Parsed.{Parsed}
use Rattle.defmt_shapes.specs.Shape as shapes
use Rattle.defmt_shapes.specs.Shape.{Shapes, AreCalls, no_shapes, shape, call, SpellsShapes}
use Rattle.defmt_shapes.specs.declared.number.Number.{Number}
use Rattle.defmt_spelling.proofs.Arms.{element_is, places_there}
use Rattle.defmt_spelling.specs.Meaning.{index_of, meant_val, meant_vals, meant_nodes}
use Rattle.defmt_spelling.specs.Names.{NameMap}
use Rattle.defmt_spelling.specs.Reading.{GivesItem, GivesNode, GivesNodes, GivesValue, GivesElement, IsFirstCall, Tests, element_scan, found_scan, item_scan, meant_inside}
use Rattle.defmt_spelling.specs.declared.fault.ArgFault.{ArgFault}
use Rattle.defmt_spelling.specs.declared.fault.ArgFault.TheVariants as faults
use Rattle.defmt_values.proofs.Joins.{join_snoc_node, join_no_nodes}
use Rattle.defmt_values.specs.Plain.{Vals, sequence, Nodes, no_nodes, node, snoc_node, join_nodes}
use Rattle.defmt_values.specs.Scan.{◌>>=◌, test, element_form, form_at, node_places, scan_nodes, scan_val, sequence_cause}
use Rattle.defmt_values.specs.declared.value.Node.{Node}

-- ---- one element

there_by : (b : Bool) (found : Result Parsed ℕ) (form : Parsed) → (test b 6 >>= λ _. found) ≡ Ok form → found ≡ Ok form
there_by true found form h = h
there_by false found form h = absurd cc

not_first : (b : Bool) (found : Result Parsed ℕ) (form : Parsed) → cond b (Err 5) found ≡ Ok form → found ≡ Ok form
not_first true found form h = absurd cc
not_first false found form h = h

element_there : (t : Map) (left index : ℕ) (form : Parsed) → element_scan t left index ≡ Ok form → form_at t index ≡ Ok form
element_there t left index form h = not_first (eqb index 0) (form_at t index) form (there_by (nat_lt 0 left) (element_form t index) form h)

module _ (names : NameMap) (t : Map) (left weight sum : ℕ) (name : List ℕ) (variant : Option ℕ) (ss : Shapes) where
  abbrev vals : Vals
  vals = meant_vals names t (node_places t (index_of names name) variant) ss

  abbrev pub ElementFault : ArgFault → Type 0
  ElementFault fault = GivesNode (Err fault) names t left weight sum name variant ss

  pub element_entry_exit : (fault : ArgFault) → GivesElement names t left name (Err fault) → ElementFault fault
  element_entry_exit (faults.Refused c) h =
      element_is t left weight sum (index_of names name) variant vals
      ∙ ap (λ (r : Result Parsed ℕ). r >>= λ form. item_scan t (left - 1) form weight sum variant vals) h
  element_entry_exit faults.Memory h = tt

  inside_is : (form : Parsed) → element_scan t left (index_of names name) ≡ Ok form → vals ≡ meant_inside names t form variant ss
  inside_is form h = ap (λ places. meant_vals names t places ss) (places_there t (index_of names name) form variant (element_there t left (index_of names name) form h))

  element_inside : (form : Parsed) (r : Result ℕ ℕ) → element_scan t left (index_of names name) ≡ Ok form → item_scan t (left - 1) form weight sum variant (meant_inside names t form variant ss) ≡ r
      → found_scan t left (element_form t (index_of names name)) weight sum variant vals ≡ r
  element_inside form r h e =
      element_is t left weight sum (index_of names name) variant vals
      ∙ ap (λ (x : Result Parsed ℕ). x >>= λ f. item_scan t (left - 1) f weight sum variant vals) h
      ∙ ap (λ (vs : Vals). item_scan t (left - 1) form weight sum variant vs) (inside_is form h) ∙ e

  pub element_item_exit : (fault : ArgFault) (form : Parsed) → element_scan t left (index_of names name) ≡ Ok form
      → GivesItem (Err fault) variant (meant_inside names t form variant ss) (item_scan t (left - 1) form weight sum variant (meant_inside names t form variant ss)) → ElementFault fault
  element_item_exit (faults.Refused c) form h e = element_inside form (Err c) h e
  element_item_exit faults.Memory form h e = tt

  pub element_end : (index : ℕ) (form : Parsed) (given : Option ℕ) (args : Vals) (next : ℕ) → (index_of names name ≡ index) × (element_scan t left (index_of names name) ≡ Ok form)
      → (given ≡ variant) × (args ≡ meant_inside names t form variant ss) × (item_scan t (left - 1) form weight sum variant (meant_inside names t form variant ss) ≡ Ok next)
      → (index ≡ index_of names name) × (given ≡ variant) × (args ≡ vals) × (found_scan t left (element_form t (index_of names name)) weight sum variant vals ≡ Ok next)
  element_end index form given args next f g = (sym f.0, g.0, g.1 ∙ sym (inside_is form f.1), element_inside form (Ok next) f.1 g.2)

-- ---- the elements of a sequence

-- some elements are still to be read: they are spelled, and with those so far make the whole
pub record NodesLeft (names : NameMap) (t : Map) (left weight sum : ℕ) (ss : Shapes) (done : Nodes) (total : ℕ) (rest : List ℕ) : Type 0 where
  pub others : Shapes
  pub calls : AreCalls others
  pub spelled : SpellsShapes t.language rest others
  pub joined : join_nodes done (meant_nodes names t others) ≡ meant_nodes names t ss
  pub scan : scan_nodes t left weight total (meant_nodes names t others) ≡ scan_nodes t left weight sum (meant_nodes names t ss)

module _ (names : NameMap) (t : Map) (left weight sum : ℕ) (ss : Shapes) where
  pub all_left : (text : List ℕ) → AreCalls ss → SpellsShapes t.language text ss → NodesLeft names t left weight sum ss no_nodes sum text
  all_left text calls s = record { others = ss; calls = calls; spelled = s; joined = refl; scan = refl }

  module _ (done : Nodes) (total : ℕ) (rest : List ℕ) (f : NodesLeft names t left weight sum ss done total rest) where
    pub no_nodes_left : f.others ≡ no_shapes → (done ≡ meant_nodes names t ss) × (scan_nodes t left weight sum (meant_nodes names t ss) ≡ Ok total)
    unfolding scan_val meant_val
    no_nodes_left e =
        let nothing : meant_nodes names t f.others ≡ no_nodes = ap (meant_nodes names t) e in
        (sym (join_no_nodes done) ∙ ap (join_nodes done) (sym nothing) ∙ f.joined, sym f.scan ∙ ap (scan_nodes t left weight total) nothing)

    module _ (name : List ℕ) (number : Option Number) (inside after : List ℕ) (k : IsFirstCall t.language name number inside after f.others) where
      abbrev values : Vals
      values = meant_vals names t (node_places t (index_of names name) k.mark) k.values

      head_meant : meant_nodes names t f.others ≡ node (index_of names name) k.mark values (meant_nodes names t k.others)
      unfolding meant_val
      head_meant = ap (meant_nodes names t) k.shapes_are

      head_scan : scan_nodes t left weight sum (meant_nodes names t ss) ≡ (found_scan t left (element_form t (index_of names name)) weight total k.mark values >>= λ r. scan_nodes t left weight r (meant_nodes names t k.others))
      unfolding scan_val
      head_scan = sym f.scan ∙ ap (scan_nodes t left weight total) head_meant

      pub node_exit : (fault : ArgFault) → GivesNode (Err fault) names t left weight total name k.mark k.values → GivesNodes (Err fault) (meant_nodes names t ss) (scan_nodes t left weight sum (meant_nodes names t ss))
      node_exit (faults.Refused c) h = head_scan ∙ ap (λ (x : Result ℕ ℕ). x >>= λ r. scan_nodes t left weight r (meant_nodes names t k.others)) h
      node_exit faults.Memory h = tt

      pub node_done : (given : Node) (next : ℕ) (new : Nodes) → GivesNode (Ok (given, next)) names t left weight total name k.mark k.values → new ≡ snoc_node done given.index given.variant given.args → NodesLeft names t left weight sum ss new next after
      node_done given next new h is =
          let same_new : new ≡ snoc_node done (index_of names name) k.mark values =
          is ∙ ap (λ (i : ℕ). snoc_node done i given.variant given.args) h.0 ∙ ap (λ (o : Option ℕ). snoc_node done (index_of names name) o given.args) h.1 ∙ ap (snoc_node done (index_of names name) k.mark) h.2 in
          record {
            others = k.others;
            calls = k.calls;
            spelled = k.spelled_others;
            joined = ap (λ (ns : Nodes). join_nodes ns (meant_nodes names t k.others)) same_new
                ∙ join_snoc_node done (index_of names name) k.mark values (meant_nodes names t k.others)
                ∙ ap (join_nodes done) (sym head_meant) ∙ f.joined;
            scan = sym (head_scan ∙ ap (λ (x : Result ℕ ℕ). x >>= λ r. scan_nodes t left weight r (meant_nodes names t k.others)) h.3);
          }

-- ---- a sequence

module _ (names : NameMap) (t : Map) (left weight sum : ℕ) (slot : Slot) (ss : Shapes) where
  abbrev pub SequenceFault : ArgFault → Type 0
  SequenceFault fault = GivesValue (Err fault) (meant_val names t slot (shapes.nodes ss)) (scan_val t left slot weight sum (meant_val names t slot (shapes.nodes ss)))

  kind_wrong : (ns : Nodes) (c : ℕ) → sequence_cause slot ≡ Err c → scan_val t left slot weight sum (sequence ns) ≡ Err c
  unfolding scan_val
  kind_wrong ns c h = rw h refl

  sequence_is : (ns : Nodes) → sequence_cause slot ≡ Ok tt → scan_val t left slot weight sum (sequence ns) ≡ scan_nodes t left weight sum ns
  unfolding scan_val
  sequence_is ns h = rw h refl

  pub sequence_kind_exit : (fault : ArgFault) → Tests (sequence_cause slot) (Err fault) → SequenceFault fault
  unfolding meant_val
  sequence_kind_exit (faults.Refused c) h = kind_wrong (meant_nodes names t ss) c h
  sequence_kind_exit faults.Memory h = tt

  pub sequence_nodes_exit : (fault : ArgFault) → sequence_cause slot ≡ Ok tt → GivesNodes (Err fault) (meant_nodes names t ss) (scan_nodes t left weight sum (meant_nodes names t ss)) → SequenceFault fault
  unfolding meant_val
  sequence_nodes_exit (faults.Refused c) k h = sequence_is (meant_nodes names t ss) k ∙ h
  sequence_nodes_exit faults.Memory k h = tt

  pub sequence_end : (ns : Nodes) (next : ℕ) → sequence_cause slot ≡ Ok tt → (ns ≡ meant_nodes names t ss) × (scan_nodes t left weight sum (meant_nodes names t ss) ≡ Ok next)
      → (sequence ns ≡ meant_val names t slot (shapes.nodes ss)) × (scan_val t left slot weight sum (meant_val names t slot (shapes.nodes ss)) ≡ Ok next)
  unfolding meant_val
  sequence_end ns next k h = (ap sequence h.0, sequence_is (meant_nodes names t ss) k ∙ h.1)
