-- Two tables that are the same.
use Rattle.std.proofs.Common.{◌≡◌, ◌∙◌, ℕ, List, ap}
use Rattle.defmt_decode.specs.Event.{events_of}
use Rattle.defmt_decode.specs.declared.event.Event.{Event}
use Rattle.defmt_intern.specs.Catalog.{Catalog}
use Rattle.defmt_intern.specs.Table.{Map}
use Rattle.defmt_intern.specs.declared.table.Profile.{Profile}

-- by another name of the table
pub by_table : (t table : Catalog) (stream : List ℕ) (events : List Event) → events ≡ events_of table stream → table ≡ t → events ≡ events_of t stream
by_table t table stream events is table_is = is ∙ ap (λ (c : Catalog). events_of c stream) table_is

-- a table is that of these entries and this profile
pub same_catalog : (t u : Catalog) → t.entries ≡ u.entries → t.profile ≡ u.profile → t ≡ u
same_catalog t u entries profile =
    ap (λ (m : Map). let c : Catalog = record { entries = m; profile = t.profile } in c) entries
    ∙ ap (λ (p : Profile). let c : Catalog = record { entries = u.entries; profile = p } in c) profile
