-- The line of a statement by its parts, for private clauses.
use Rattle.std.specs.Prelude.{ℕ, List}
use Rattle.std.specs.FinMap as map
use Rattle.defmt_eager.specs.Line.{eager_line, front_sizes}
use Rattle.defmt_eager.specs.declared.front.Front.{Front}
use Rattle.defmt_intern.specs.Table.{Map}
use Rattle.defmt_plan.specs.declared.message.Parts.{Parts}
use Rattle.defmt_recording.specs.Styled.{statement_text}
use Rattle.defmt_values.specs.Plain.{Vals}
use Rattle.defmt_values.specs.declared.value.Statement.{Statement}
use Rattle.defmt_words.specs.declared.style.Style.{Style}

-- the parts of a line with this front, whose piece has so many bytes
abbrev pub parts_by : ℕ → Front → Parts
parts_by bytes front = record { bytes = bytes; stamp = front.stamp; front = front.size }

-- a statement with this stamp
abbrev pub parted_text : Style → Map → ℕ → Vals → Statement → List ℕ
parted_text style table bytes stamp stm =
    statement_text style table map.empty stm.index (parts_by bytes (front_sizes table stamp stm.index)) (eager_line table stamp stm.index stm.args)
