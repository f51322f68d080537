-- What contracts see of a table (defmt book, "Interning").
use Rattle.std.specs.Prelude.{refl}
use Rattle.std.specs.Coded.{Coded, code_by, coded×}
use Rattle.defmt_intern.specs.contracts.table.Profile.{the_row as profile_row}
use Rattle.defmt_intern.specs.declared.table.Profile.{Profile}
use Rattle.defmt_intern.specs.Entries.{Map}
use Rattle.defmt_intern.specs.Entries as map

-- its entries by their indexes with their language, and how its messages are to be laid out
pub record Catalog : Type 0 where
  pub entries : Map
  pub profile : Profile

-- a catalog is stored as its two parts
abbrev pub catalog_code : Coded Catalog
catalog_code = code_by (Map × Profile)
    (coded× map.code profile_row.coded)
    (λ c. (c.entries, c.profile))
    (λ p. record { entries = p.0; profile = p.1 })
    (λ _. refl)
