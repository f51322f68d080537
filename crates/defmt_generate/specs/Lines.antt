-- The lines of a generated text.
use Rattle.std.specs.Prelude.{◌+◌, ◌%◌, ℕ, zero, suc, List, [], ◌∷◌, ◌++◌, codes}
use Rattle.std.specs.Fmt.{decimal}
use Rattle.defmt_generate.specs.Generated.{call, drawn}

-- the ring, the mode, the reader, the stamp and the five strings
abbrev pub head_lines : List (List ℕ)
head_lines = codes "ring 1024" ∷ codes "mode block" ∷ codes "reader live" ∷ codes "stamp 1000 250"
    ∷ codes "s boot defmt_info boot {=u8}"
    ∷ codes "s temp defmt_debug temp {=i16} of {=[u8]:02x}"
    ∷ codes "s link defmt_warn link {=bool} {=str:?}"
    ∷ codes "s fail defmt_error fail {=u32:#010x}"
    ∷ codes "s tick defmt_trace tick {=u64}" ∷ []

-- the line of statement `i`
abbrev pub statement_line : ℕ → List ℕ
statement_line i = codes "w " ++ (decimal (i % 4) ++ (codes " " ++ call (i % 5) (drawn i)))

-- the lines of so many statements, from statement `i` on
abbrev pub statement_lines : ℕ → ℕ → List (List ℕ)
statement_lines i zero = []
statement_lines i (suc count) = statement_line i ∷ statement_lines (i + 1) count
