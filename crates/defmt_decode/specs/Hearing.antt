-- What contracts see of a host.
use Rattle.std.specs.Prelude.{ℕ, Bool, List, refl}
use Rattle.std.specs.Coded.{Coded, code_by, coded×, coded_ℕ, coded_bool, coded_list}
use Rattle.defmt_framing.specs.Framing.{Framing}
use Rattle.defmt_intern.specs.declared.table.Table.{Table}
use Rattle.defmt_intern.specs.contracts.table.Table.{the_row}

-- its table, and what it keeps of the stream
pub record Hearing : Type 0 where
  pub table : Table
  pub framing : Framing

-- how the logic stores it: as its parts
abbrev pub hearing_code : Coded Hearing
hearing_code =
    code_by (Table × (ℕ × (Bool × (ℕ × List ℕ)))) (coded× the_row.coded (coded× coded_ℕ (coded× coded_bool (coded× coded_ℕ (coded_list coded_ℕ)))))
    (λ h. (h.table, (h.framing.heard, (h.framing.zeros, (h.framing.since, h.framing.kept)))))
    (λ p. record { table = p.0; framing = record { heard = p.1.0; zeros = p.1.1.0; since = p.1.1.1.0; kept = p.1.1.1.1 } })
    (λ _. refl)
