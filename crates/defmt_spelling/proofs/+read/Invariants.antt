use Rattle.std.proofs.Common.{◌≡◌, ◌*◌, ◌+◌, ◌≤◌, ℕ, length, All, Ok}
use Rattle.std.specs.Str.{IsUtf8}
use Rattle.defmt_grammar.specs.Slots.{IsSound}
use Rattle.defmt_shapes.specs.Shape.{AreCalls, Items, Shapes, SpellsItems, SpellsShapes}
use Rattle.defmt_spelling.proofs.ElementLaws.{NodesLeft}
use Rattle.defmt_spelling.proofs.ItemLoops.{ItemsLeft}
use Rattle.defmt_spelling.proofs.Loops.{Follows}
use Rattle.defmt_values.specs.Entries.{places_of, places_from}
use Rattle.defmt_values.specs.Scan.{form_at}
use Rattle.defmt_spelling.proofs.+read.Given as goal

abbrev pub decreases-nested::read_value : goal.decreases-nested::read_value
decreases-nested::read_value l = 16 * l.left + 3

abbrev pub decreases-reading::read_front : goal.decreases-reading::read_front
decreases-reading::read_front l = 16 * l.left + 4

abbrev pub decreases-reading::read_next : goal.decreases-reading::read_next
decreases-reading::read_next l = 16 * l.left + 5

abbrev pub decreases-reading::read_values : goal.decreases-reading::read_values
decreases-reading::read_values l = 16 * l.left + 6

abbrev pub decreases-nested::read_item : goal.decreases-nested::read_item
decreases-nested::read_item l = 16 * l.left + 7

abbrev pub decreases-nested::read_items : goal.decreases-nested::read_items
decreases-nested::read_items l = 16 * l.left + 8

abbrev pub decreases-nested::read_node : goal.decreases-nested::read_node
decreases-nested::read_node l = 16 * l.left

abbrev pub decreases-nested::read_list : goal.decreases-nested::read_list
decreases-nested::read_list l = 16 * l.left

abbrev pub invariant-reading::read_values-each : goal.invariant-reading::read_values-each
invariant-reading::read_values-each l = record {
  small : l.total ≤ 8192;
  few : l.position + length l.slots ≤ 16;
  utf8 : IsUtf8 l.rest;
  sound : All IsSound l.slots;
  follows : Follows l.names l.table.entries l.left l.weight (places_of l.pieces) l.sum l.text l.args (places_from l.pieces l.position l.slots) l.total l.rest;
}

abbrev pub decreases-reading::read_values-each : goal.decreases-reading::read_values-each
decreases-reading::read_values-each l = length l.slots

abbrev pub invariant-nested::read_items-each : goal.invariant-nested::read_items-each
invariant-nested::read_items-each l = record {
  small : l.total ≤ 8192;
  utf8 : IsUtf8 l.rest;
  left : (index : ℕ) (items : Items) → form_at l.table.entries index ≡ Ok l.form → SpellsItems l.table.entries.language l.text items → ItemsLeft l.names l.table.entries l.left l.weight l.form index l.sum items l.items l.total l.rest;
}

abbrev pub decreases-nested::read_items-each : goal.decreases-nested::read_items-each
decreases-nested::read_items-each l = length l.rest

abbrev pub decreases-sequences::read_sequence : goal.decreases-sequences::read_sequence
decreases-sequences::read_sequence l = 16 * l.left + 2

abbrev pub decreases-sequences::read_nodes : goal.decreases-sequences::read_nodes
decreases-sequences::read_nodes l = 16 * l.left + 1

abbrev pub decreases-sequences::read_element : goal.decreases-sequences::read_element
decreases-sequences::read_element l = 16 * l.left

abbrev pub invariant-sequences::read_nodes-each : goal.invariant-sequences::read_nodes-each
invariant-sequences::read_nodes-each l = record {
  small : l.total ≤ 8192;
  utf8 : IsUtf8 l.rest;
  left : (ss : Shapes) → AreCalls ss → SpellsShapes l.table.entries.language l.text ss → NodesLeft l.names l.table.entries l.left l.weight l.sum ss l.nodes l.total l.rest;
}

abbrev pub decreases-sequences::read_nodes-each : goal.decreases-sequences::read_nodes-each
decreases-sequences::read_nodes-each l = length l.rest
