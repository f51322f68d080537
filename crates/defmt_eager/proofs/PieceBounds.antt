-- How long the texts of pieces and of values with values inside are at most.
use Rattle.std.proofs.Common.{◌≡◌, ◌≤◌, ◌+◌, ◌*◌, ℕ, false, List, [], ◌∷◌, ◌++◌, length, Option, Some, None, refl, ap, arith, length-append}
use Rattle.std.specs.Prelude.{codes, unwrap_or}
use Rattle.defmt_grammar.specs.declared.hint.Hint.{Hint}
use Rattle.defmt_grammar.specs.declared.kind.Kind.{Kind}
use Rattle.defmt_grammar.specs.declared.piece.Piece.{Piece}
use Rattle.defmt_hints.specs.Printed.{printed_str, list_text, parted}
use Rattle.defmt_intern.specs.Table.{Map}
use Rattle.defmt_values.specs.Plain.{Val, Vals, Elems, Nodes, vals_get}
use Rattle.defmt_values.specs.Scan.{index_or}
use Rattle.defmt_values.specs.View.{elems_of, nodes_of}
use Rattle.defmt_values.specs.declared.value.Item.{Item}
use Rattle.defmt_values.specs.declared.value.Node.{Node}
use Rattle.defmt_eager.specs.Answers.{comma}
use Rattle.defmt_eager.specs.Line.{printed_limit}
use Rattle.defmt_eager.specs.Show.{Shown, acting, node_pieces, param_text, piece_text, pieces_text, show_val, show_elems, show_nodes, shows}
use Rattle.defmt_eager.proofs.Appends.{param_none, param_some, pieces_step, joined, elems_step, nodes_step}
use Rattle.defmt_eager.proofs.Bounds.{str_most}

-- ---- pieces

pub none_taken : (t : Map) (outer : Hint) (args : Vals) (p : ℕ) (kind : Kind) (hint : Hint) → None ≡ vals_get args p → length (param_text outer (shows t args) p kind hint) ≤ 0
none_taken t outer args p kind hint e = omega (arith, ap length (param_none t outer args p kind hint e))

pub some_bound : (t : Map) (outer : Hint) (args : Vals) (p : ℕ) (kind : Kind) (hint : Hint) (v : Val) (most : ℕ) → Some v ≡ vals_get args p
    → length (show_val t v kind (acting outer hint)) ≤ most → length (param_text outer (shows t args) p kind hint) ≤ most
some_bound t outer args p kind hint v most e h = omega (arith, ap length (param_some t outer args p kind hint v e), h)

-- what bounds the pieces that are still to come bounds all of them, with what was counted
pub piece_more : (outer : Hint) (all : List Shown) (pieces rest more : List Piece) (piece : Piece) (most one sum : ℕ) → rest ≡ piece ∷ more → length (piece_text outer piece all) ≤ one → sum ≡ most + one + 0
    → ((n : ℕ) → length (pieces_text outer rest all) ≤ n → length (pieces_text outer pieces all) ≤ most + n)
    → (n : ℕ) → length (pieces_text outer more all) ≤ n → length (pieces_text outer pieces all) ≤ sum + n
piece_more outer all pieces rest more piece most one sum e few is above n h =
    let here : length (pieces_text outer rest all) ≤ one + n = omega (arith, ap length (pieces_step outer rest more piece all e), length-append (piece_text outer piece all) (pieces_text outer more all), few, h) in
    omega (arith, above (one + n) here, is)

-- ---- lists

abbrev pub elems_joined : Map → ℕ → Hint → Elems → List ℕ
elems_joined t index hint es = joined false (show_elems t index hint es)

-- the same of the elements of a list
pub elem_more : (t : Map) (index : ℕ) (hint : Hint) (all : Elems) (rest more : List Item) (item : Item) (most one sum : ℕ) → rest ≡ item ∷ more → length (pieces_text hint (node_pieces t index item.variant) (shows t item.args)) ≤ one → sum ≡ most + one + 2
    → ((n : ℕ) → length (elems_joined t index hint (elems_of rest)) ≤ n → 2 + length (elems_joined t index hint all) ≤ most + n)
    → (n : ℕ) → length (elems_joined t index hint (elems_of more)) ≤ n → 2 + length (elems_joined t index hint all) ≤ sum + n
elem_more t index hint all rest more item most one sum e few is above n h =
    let text : List ℕ = pieces_text hint (node_pieces t index item.variant) (shows t item.args) in
    let here : length (elems_joined t index hint (elems_of rest)) ≤ 2 + one + n = omega (arith, ap length (elems_step t index hint false rest more item e), length-append (comma false ++ text) (elems_joined t index hint (elems_of more)), length-append (comma false) text, few, h) in
    omega (arith, above (2 + one + n) here, is)

parted_few : (xs : List (List ℕ)) → length (parted xs) ≤ length (joined false xs)
parted_few [] = omega arith
parted_few (x ∷ xs) =
    let more : List ℕ = joined false xs in
    omega (arith, length-append x more, length-append (codes ", " ++ x) more, length-append (codes ", ") x)

pub list_few : (xs : List (List ℕ)) (most : ℕ) → 2 + length (joined false xs) ≤ most + 0 → length (list_text xs) ≤ most
unfolding list_text
list_few xs most h = omega (arith, parted_few xs, length-append (codes "[") (parted xs ++ codes "]"), length-append (parted xs) (codes "]"), h)

-- ---- sequences

-- the same of the elements of a sequence
pub node_more : (t : Map) (hint : Hint) (all : Nodes) (rest more : List Node) (x : Node) (most one sum : ℕ) → rest ≡ x ∷ more → length (pieces_text hint (node_pieces t x.index x.variant) (shows t x.args)) ≤ one → sum ≡ most + one + 0
    → ((n : ℕ) → length (show_nodes t hint (nodes_of rest)) ≤ n → length (show_nodes t hint all) ≤ most + n)
    → (n : ℕ) → length (show_nodes t hint (nodes_of more)) ≤ n → length (show_nodes t hint all) ≤ sum + n
node_more t hint all rest more x most one sum e few is above n h =
    let text : List ℕ = pieces_text hint (node_pieces t x.index x.variant) (shows t x.args) in
    let here : length (show_nodes t hint (nodes_of rest)) ≤ one + n = omega (arith, ap length (nodes_step t hint rest more x e), length-append text (show_nodes t hint (nodes_of more)), few, h) in
    omega (arith, above (one + n) here, is)

-- ---- interned strings

pub text_bound : (text : List ℕ) (hint : Hint) (bound : ℕ) → (bound ≤ printed_limit → bound ≡ length text * 2 + 3) → bound ≤ printed_limit → length (printed_str text hint) ≤ bound
text_bound text hint bound h few = omega (arith, str_most text hint, h few)

pub index_is : (o : Option ℕ) → unwrap_or o 0 ≡ index_or o
index_is None = refl
index_is (Some i) = refl
