-- The sites of a script's statements.
use Rattle.std.proofs.Common.{◌≡◌, ◌∙◌, ◌≤◌, ℕ, Bool, true, false, cond, List, length, Option, Some, None, Err, if◌then◌else◌, is_eq, nat_cmp, refl, sym, ap, subst, arith, IsSome, is_some, slice_get}
use Rattle.std.proofs.lemmas.Bool.Decides.{nat_tests}
use Rattle.std.proofs.lemmas.Option.{same_Some}
use Rattle.defmt_encode.proofs.Hears.{one_entry}
use Rattle.defmt_encode.specs.Carry.{message_of, stamp_args}
use Rattle.defmt_encode.specs.Out.{message_limit}
use Rattle.defmt_encode.specs.Placed.{place_in}
use Rattle.defmt_frames.proofs.Frames.{sound_at}
use Rattle.defmt_frames.proofs.Stamps.{suits}
use Rattle.defmt_frames.specs.Sites.{AreSitesOf, HasSites, HaveSites, IsMessage, IsSiteOf, Keeps, Writes, site_at}
use Rattle.defmt_frames.specs.declared.sites.Sites.{Sites}
use Rattle.defmt_intern.specs.Table.{Map}
use Rattle.defmt_intern.specs.declared.entry.Entry.{Entry}
use Rattle.defmt_grammar.specs.Slots.{slots_of}
use Rattle.defmt_grammar.specs.declared.piece.Piece.{Piece}
use Rattle.defmt_grammar.specs.declared.slot.Slot.{Slot}
use Rattle.defmt_intern.specs.Body.{body_of}
use Rattle.defmt_intern.specs.declared.entry.Tag.{Tag}
use Rattle.defmt_intern.specs.declared.parsed.Parsed.{Parsed}
use Rattle.defmt_intern.specs.declared.parsed.Parsed.TheVariants.{One}
use Rattle.defmt_macros.specs.Sites.{GivesOnly, IsSite, found_in, found_text, message, no_message}
use Rattle.defmt_macros.specs.declared.site.SiteFault.{SiteFault}
use Rattle.defmt_macros.specs.declared.site.SiteFault.TheVariants.{Memory, NoEntry, NotLog, Slots, Unsupported}
use Rattle.defmt_macros.specs.declared.site.Site.{Site}
use Rattle.defmt_script.specs.Lawful.{IsLawful, IsSound, stamp_in}
use Rattle.defmt_script.specs.Script.{Script, statements_by}
use Rattle.defmt_values.specs.Entries.{is_logged, look}
use Rattle.defmt_values.specs.Fits.{Fits}
use Rattle.defmt_values.specs.declared.value.Statement.{Statement}

-- ---- messages

pub sound_message : (s : Script) (stm : Statement) → IsSound s.table s.settings stm → IsMessage s.table stm.index
sound_message s stm sound = record {
  entry = sound.fits.entry;
  pieces = sound.fits.pieces;
  there = sound.fits.there;
  logged = ap (λ (e : Entry). is_logged e.tag) (one_entry s.table stm.index sound.fits.entry sound.logged.entry sound.fits.there sound.logged.there) ∙ sound.logged.tag;
  body = sound.fits.body;
}

-- a message has a site with the slots of its text
pub message_site : (table : Map) (index : ℕ) (entry : Entry) (pieces : List Piece) → look table index ≡ Some entry → is_logged entry.tag ≡ true → body_of table.language entry ≡ One pieces
    → IsSite table index entry.tag (slots_of pieces)
message_site table index entry pieces there logged body =
    ap (found_in table.language) there ∙ ap (λ (b : Bool). if b then found_text entry.tag (body_of table.language entry) else no_message) logged ∙ ap (found_text entry.tag) body

-- the slots of its pieces as they are read are those
pub own_slots : (table : Map) (index : ℕ) (m : IsMessage table index) (entry : Entry) (body : Parsed) (pieces : List Piece) → look table index ≡ Some entry → body ≡ body_of table.language entry → body ≡ One pieces
    → slots_of pieces ≡ slots_of m.pieces
own_slots table index m entry body pieces there read is =
    let own : entry ≡ m.entry = same_Some entry m.entry (sym there ∙ m.there) in
    let both : One pieces ≡ One m.pieces = sym is ∙ read ∙ ap (body_of table.language) own ∙ m.body in
    let same : pieces ≡ m.pieces = cc both in
    ap slots_of same

-- so nothing but memory can be missing for it
gives_none : (fault : SiteFault) (tag : Tag) → GivesOnly (Err fault) tag → fault ≡ Memory
gives_none NoEntry tag none = absurd none
gives_none NotLog tag none = absurd none
gives_none Unsupported tag none = absurd none
gives_none (Slots position) tag none = absurd none
gives_none Memory tag none = refl

pub only_memory : (table : Map) (index : ℕ) (slots : List Slot) (fault : SiteFault) (m : IsMessage table index) → slots ≡ slots_of m.pieces
    → ((tag : Tag) → IsSite table index tag slots → GivesOnly (Err fault) tag) → fault ≡ Memory
only_memory table index slots fault m same made =
    gives_none fault m.entry.tag
    (made m.entry.tag (message_site table index m.entry m.pieces m.there m.logged m.body ∙ ap (message m.entry.tag) (sym same)))

-- ---- one site more

module _ (old new : Sites) (index : ℕ) (site : Site) (more : (q : ℕ) → site_at new q ≡ cond (is_eq (nat_cmp index q)) (Some site) (site_at old q)) where
  own_by : (table : Map) (q : ℕ) (s : Site) (b : Bool) → is_eq (nat_cmp index q) ≡ b → AreSitesOf table old → IsSiteOf table index site → cond b (Some site) (site_at old q) ≡ Some s → IsSiteOf table q s
  own_by table q s true e own here is =
      let same : index ≡ q = grind (arith, nat_tests) in
      let P : ℕ → Site → Type 0 = λ i x. IsSiteOf table i x in
      subst (λ (x : Site). P q x) (same_Some site s is) (subst (λ (i : ℕ). P i site) same here)
  own_by table q s false e own here is = own q s is

  pub more_own : (table : Map) → AreSitesOf table old → IsSiteOf table index site → AreSitesOf table new
  more_own table own here q s is = own_by table q s (is_eq (nat_cmp index q)) refl own here (sym (more q) ∙ is)

  kept_by : (q : ℕ) (b : Bool) → IsSome (site_at old q) → IsSome (cond b (Some site) (site_at old q))
  kept_by q true h = refl
  kept_by q false h = h

  pub more_keeps : Keeps old new
  more_keeps q h = ap is_some (more q) ∙ kept_by q (is_eq (nat_cmp index q)) h

  pub more_there : IsSome (site_at new index)
  more_there =
      let own : is_eq (nat_cmp index index) ≡ true = grind (arith, nat_tests) in
      ap is_some (more index) ∙ rw own refl

-- ---- the sites of lists of statements

pub have_more : (old new : Sites) (list : List Statement) → Keeps old new → HaveSites old list → HaveSites new list
have_more old new list keeps have place stm there = keeps stm.index (have place stm there)

-- a statement of the script has one
pub site_there : (s : Script) (sites : Sites) (w k : ℕ) (stm : Statement) → HasSites s sites → slice_get (statements_by s w) k ≡ Some stm → site_at sites stm.index ≡ None → ⊥
site_there s sites w k stm has there none = let clash : false ≡ true = ap is_some (sym none) ∙ has.all w k stm there in cc clash

-- ---- what logging asks

pub writes : (s : Script) (sites : Sites) (number w k n : ℕ) (stm : Statement) (site : Site) (table : Map) (c o : Option ℕ)
    → IsLawful s → HasSites s sites → slice_get (statements_by s w) k ≡ Some stm → site_at sites stm.index ≡ Some site → table ≡ s.table → c ≡ place_in s.settings.profile number → o ≡ stamp_in s.settings.stamp n
    → Writes table site c o stm.args
writes s sites number w k n stm site table c o h has there at same counted carried =
    let sound : IsSound s.table s.settings stm = sound_at s w k stm h there in
    let here : IsSiteOf s.table stm.index site = has.own stm.index site at in
    rw (same, counted, carried) (record {
      own = subst (λ (i : ℕ). IsSite s.table i site.tag site.slots) (sym here.0) here.1;
      suits = suits s n h;
      fits = subst (λ (i : ℕ). Fits s.table i stm.args) (sym here.0) sound.fits;
      short = subst (λ (i : ℕ). length (message_of s.table (place_in s.settings.profile number) (stamp_args (stamp_in s.settings.stamp n)) i stm.args) ≤ message_limit) (sym here.0) (sound.short number n);
    })
