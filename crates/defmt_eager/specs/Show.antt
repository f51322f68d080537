-- The text of statements (defmt book, "Display hints"). It knows nothing of messages as bytes: a value is printed as it
-- stands, by the pieces of the entries that it names.
use Rattle.std.specs.Prelude.{◌^◌, ℕ, ℤ, nat_lt, List, [], ◌∷◌, ◌++◌, Option, None, Some, Result, Ok, Err, if◌then◌else◌}
use Rattle.std.specs.List.{slice_get}
use Rattle.defmt_grammar.specs.declared.hint.Hint.{Hint}
use Rattle.defmt_grammar.specs.declared.hint.Hint.TheVariants as hints
use Rattle.defmt_grammar.specs.declared.kind.Kind.{Kind}
use Rattle.defmt_grammar.specs.declared.kind.Kind.TheVariants as kinds
use Rattle.defmt_grammar.specs.declared.piece.Piece.{Piece}
use Rattle.defmt_grammar.specs.declared.piece.Piece.TheVariants.{Literal, Param}
use Rattle.defmt_hints.specs.Printed.{printed_uint, printed_int, printed_bits, printed_bool, printed_char, printed_str, printed_bytes, printed_float, list_text}
use Rattle.defmt_intern.specs.Table.{Map}
use Rattle.defmt_intern.specs.declared.entry.Entry.{Entry}
use Rattle.defmt_values.specs.Entries.{look}
use Rattle.defmt_values.specs.Plain.{Val, uint, int, flag, char, str, istr, bytes, bits, format, seq, float, sequence, Vals, no_vals, val, Elems, no_elems, elem, Nodes, no_nodes, node}
use Rattle.defmt_values.specs.Scan.{◌>>=◌, form_at, pick, own_form, index_or}
use Rattle.defmt_grammar.specs.Sizes.{size_bits, float_bits, is_signed}

-- the text of one value, for each kind of parameter that may stand for it and each hint that may act on it
abbrev pub Shown : Type 0
Shown = Kind → Hint → List ℕ

-- an interned string is the text of its entry
abbrev pub interned_text : Option Entry → List ℕ
interned_text None = []
interned_text (Some e) = e.text

-- where no pieces fit there is no text
abbrev pub pieces_in : Result (List Piece) ℕ → List Piece
pieces_in (Ok ps) = ps
pieces_in (Err e) = []

-- the pieces of a Format value: those of its entry, or of its variant
abbrev pub node_pieces : Map → ℕ → Option ℕ → List Piece
node_pieces t index variant = pieces_in (form_at t index >>= λ form. pick form variant)

-- the pieces of a statement's entry
abbrev pub own_pieces : Map → ℕ → List Piece
own_pieces t index = pieces_in (own_form t.language (look t index))

-- the hint that acts on a parameter: its own, or where that is plain the one that acts round it
abbrev pub acting : Hint → Hint → Hint
acting outer hints.Plain = outer
acting outer hint = hint

abbrev pub shown_at : Option Shown → Kind → Hint → List ℕ
shown_at None kind hint = []
shown_at (Some show) kind hint = show kind hint

-- what stands for a parameter: the value of its position, under the hint that acts on the parameter
abbrev pub param_text : Hint → List Shown → ℕ → Kind → Hint → List ℕ
param_text outer all position kind hint = shown_at (slice_get all position) kind (acting outer hint)

abbrev pub piece_text : Hint → Piece → List Shown → List ℕ
piece_text outer (Literal text) all = text
piece_text outer (Param p) all = param_text outer all p.position p.kind p.hint

-- the pieces in order
unfoldable pub pieces_text : Hint → List Piece → List Shown → List ℕ
pieces_text outer [] all = []
pieces_text outer (p ∷ ps) all = piece_text outer p all ++ pieces_text outer ps all

-- A signed number prints in the size of its kind. Where a statement fits, it lies in that size.
abbrev pub int_text : Kind → ℤ → Hint → List ℕ
int_text (kinds.Int size) n hint =
    if is_signed (size_bits size) n then printed_int n size hint else []
int_text kind n hint = []

-- of a number of bit fields the field that the kind names is printed
abbrev pub bits_text : Kind → ℕ → Hint → List ℕ
bits_text (kinds.Bits lo hi) n hint = printed_bits n lo hi hint
bits_text kind n hint = []

-- A float prints in the size of its kind. Where a statement fits, its bits are of that size.
abbrev pub float_text : Kind → ℕ → List ℕ
float_text (kinds.Float size) n = if nat_lt n (2 ^ float_bits size) then printed_float size n else []
float_text kind n = []

-- what a device has printed by itself stands as it is, under every hint
abbrev pub text_hint : Kind → Hint → Hint
text_hint kinds.Debug hint = hints.Plain
text_hint kinds.Display hint = hints.Plain
text_hint kind hint = hint

-- ---- values

unfoldable mutual
  -- the text of a value: as the display hints print it, or by the pieces of its entry, or a list or a sequence of these
  pub show_val : Map → Val → Shown
  show_val t (uint n) = λ kind hint. printed_uint n hint
  show_val t (int n) = λ kind hint. int_text kind n hint
  show_val t (flag b) = λ kind hint. printed_bool b
  show_val t (char c) = λ kind hint. printed_char c hint
  show_val t (str s) = λ kind hint. printed_str s (text_hint kind hint)
  show_val t (istr index) = λ kind hint. printed_str (interned_text (look t index)) hint
  show_val t (bytes s) = λ kind hint. printed_bytes s hint
  show_val t (bits n) = λ kind hint. bits_text kind n hint
  show_val t (format index variant vs) =
      λ kind hint. pieces_text hint (node_pieces t index variant) (shows t vs)
  show_val t (seq index es) = λ kind hint. list_text (show_elems t (index_or index) hint es)
  show_val t (float n) = λ kind hint. float_text kind n
  show_val t (sequence ns) = λ kind hint. show_nodes t hint ns

  -- the texts of arguments
  pub shows : Map → Vals → List Shown
  shows t no_vals = []
  shows t (val v vs) = show_val t v ∷ shows t vs

  -- the texts of the elements of a list, whose entry has this index
  pub show_elems : Map → ℕ → Hint → Elems → List (List ℕ)
  show_elems t index hint no_elems = []
  show_elems t index hint (elem variant vs es) =
      pieces_text hint (node_pieces t index variant) (shows t vs) ∷ show_elems t index hint es

  -- the texts of the elements of a sequence, one behind the other
  pub show_nodes : Map → Hint → Nodes → List ℕ
  show_nodes t hint no_nodes = []
  show_nodes t hint (node index variant vs ns) =
      pieces_text hint (node_pieces t index variant) (shows t vs) ++ show_nodes t hint ns

-- the text of a statement, without stamp and level
abbrev pub eager_text : Map → ℕ → Vals → List ℕ
eager_text t index vs = pieces_text hints.Plain (own_pieces t index) (shows t vs)
