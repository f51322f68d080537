-- The sites of a script: for each string that its statements log, the string's tag and slots.
use Rattle.std.specs.Prelude.{◌≡◌, ◌≤◌, ℕ, true, List, length, Option, Some, None, IsSome, slice_get, slice_index_or, if◌then◌else◌}
use Rattle.std.specs.Ordering.{is_eq, nat_cmp}
use Rattle.defmt_encode.specs.Carry.{message_of, stamp_args}
use Rattle.defmt_encode.specs.Out.{message_limit}
use Rattle.defmt_frames.specs.declared.sites.Sites.{Sites}
use Rattle.defmt_grammar.specs.declared.piece.Piece.{Piece}
use Rattle.defmt_intern.specs.Body.{body_of}
use Rattle.defmt_intern.specs.Table.{Map}
use Rattle.defmt_intern.specs.declared.entry.Entry.{Entry}
use Rattle.defmt_intern.specs.declared.parsed.Parsed.TheVariants.{One}
use Rattle.defmt_macros.specs.Sites.{IsSite}
use Rattle.defmt_macros.specs.Stamps.{StampSuits}
use Rattle.defmt_macros.specs.declared.site.Site.{Site}
use Rattle.defmt_script.specs.Script.{Script, statements_by}
use Rattle.defmt_values.specs.Entries.{is_logged, look}
use Rattle.defmt_values.specs.Fits.{Fits}
use Rattle.defmt_values.specs.Plain.{Vals}
use Rattle.defmt_values.specs.declared.value.Statement.{Statement}

-- the site in the row of an index, where there is one
abbrev pub row_at : List (Option Site) → ℕ → Option Site
row_at rows index = slice_index_or rows index None

-- the site of the string at an index
abbrev pub site_at : Sites → ℕ → Option Site
site_at sites index = row_at sites.rows.items index

-- this row has this site, and each other what it had
abbrev pub IsPut : List (Option Site) → ℕ → Site → List (Option Site) → Type 0
IsPut old index site new = (q : ℕ)
    → row_at new q ≡ (if is_eq (nat_cmp index q) then Some site else row_at old q)

-- the string at the index is a message's, and its text was understood
pub record IsMessage (table : Map) (index : ℕ) : Type 0 where
  pub entry : Entry
  pub pieces : List Piece
  pub there : look table index ≡ Some entry
  pub logged : is_logged entry.tag ≡ true
  pub body : body_of table.language entry ≡ One pieces

-- the site is of the table's entry at this index
abbrev pub IsSiteOf : Map → ℕ → Site → Type 0
IsSiteOf table index site = (site.index ≡ index) × IsSite table index site.tag site.slots

-- each of the sites is
abbrev pub AreSitesOf : Map → Sites → Type 0
AreSitesOf table sites =
    (index : ℕ) (site : Site) → site_at sites index ≡ Some site → IsSiteOf table index site

-- none of the sites was taken away
abbrev pub Keeps : Sites → Sites → Type 0
Keeps old new = (index : ℕ) → IsSome (site_at old index) → IsSome (site_at new index)

-- each of these statements has a site
abbrev pub HaveSites : Sites → List Statement → Type 0
HaveSites sites list = (place : ℕ) (stm : Statement) → slice_get list place ≡ Some stm
    → IsSome (site_at sites stm.index)

-- there is a site for each statement of the script, and each is of the entry at its index
pub record HasSites (s : Script) (sites : Sites) : Type 0 where
  pub own : AreSitesOf s.table sites
  pub all : (w : ℕ) → HaveSites sites (statements_by s w)

-- what logging by a site's macro asks beside a place that suits the table: the site is of an entry of the table, the stamp
-- suits the table, the values fit the entry, and the message isn't too long
pub record Writes (table : Map) (site : Site) (place stamp : Option ℕ) (args : Vals) : Type 0 where
  pub own : IsSite table site.index site.tag site.slots
  pub suits : StampSuits table stamp
  pub fits : Fits table site.index args
  pub short : length (message_of table place (stamp_args stamp) site.index args) ≤ message_limit
