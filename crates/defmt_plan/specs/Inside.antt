-- The texts of what stands in values.
use Rattle.std.specs.Prelude.{ℕ, List, Option, []}
use Rattle.defmt_grammar.specs.declared.hint.Hint.{Hint}
use Rattle.defmt_hints.specs.Printed.{parted}
use Rattle.defmt_intern.specs.Table.{Map}
use Rattle.defmt_values.specs.Plain.{Val, seq, Vals, Elems}
use Rattle.defmt_values.specs.Scan.{index_or}
use Rattle.defmt_eager.specs.Show.{show_elems, shows, pieces_text, node_pieces}

-- the text of an element: its variant and its arguments
abbrev pub elem_text : Map → Hint → ℕ → (Option ℕ × Vals) → List ℕ
elem_text t hint index e = pieces_text hint (node_pieces t index e.0) (shows t e.1)

-- the texts of elements, parted
abbrev pub elems_text : Map → Hint → ℕ → Elems → List ℕ
elems_text t hint index es = parted (show_elems t index hint es)

-- the text of a list without its brackets
abbrev pub inner_text : Map → Hint → Val → List ℕ
inner_text t hint (seq index es) = elems_text t hint (index_or index) es
inner_text t hint v = []
