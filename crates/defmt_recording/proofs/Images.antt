-- What the decoding of an image answers is what inputs as told come to.
use Rattle.std.proofs.Common.{◌≡◌, inl, inr, ◌<◌, ◌≤◌, ◌++◌, ℕ, false, List, Option, Some, None, refl, sym, ap, ◌∙◌, arith, length, length-append}
use Rattle.std.specs.Prelude.{nat_lt}
use Rattle.std.proofs.lemmas.Bool.{cond-false, cond-true, lt-ltb, le-ltb}
use Rattle.std.proofs.lemmas.List.{append-nil}
use Rattle.dl_io.specs.Outside.{Rose}
use Rattle.defmt_intern.specs.Catalog.{Catalog}
use Rattle.defmt_intern.specs.declared.table.Table.{Table}
use Rattle.defmt_listen.specs.Streams.{Input, IsRest, Output}
use Rattle.defmt_listen.specs.Heard.{recording_limit}
use Rattle.defmt_decode.specs.Event.{events_of}
use Rattle.defmt_places.specs.Places.{Map as PlaceMap}
use Rattle.defmt_recording.specs.Calls.{Files, GaveWithin, at_hand}
use Rattle.defmt_recording.specs.Decoding.{ArePlaces, Hears, HearsAll, Loaded, fault_of_events, fault_of_named}
use Rattle.defmt_recording.specs.Dumping.{Dumps, DumpingComesTo, Gives, GivesNone, StopsAt, asked_bytes, fault_of_image, or_refused, refused_for}
use Rattle.defmt_recording.specs.Inputs.{AreAsTold, Inputs, OrFailing}
use Rattle.defmt_recording.specs.Styled.{Look, look_by}
use Rattle.defmt_recording.specs.declared.fault.Fault.{Fault}
use Rattle.defmt_recording.specs.declared.fault.Fault.TheVariants.{Fine, Memory, Words, Source, Sink, Long, Events, Control, Level as AtLevel}
use Rattle.defmt_recording.proofs.Loading.{MayPlace, in_other_words, never_words, of_table, placed, refused_may, unplaced}
use Rattle.defmt_recording.proofs.ToldInputs.{all_taken, any_text, some_text}
use Rattle.defmt_words.specs.declared.job.DumpOptions.{DumpOptions}
use Rattle.rtt_dump.specs.declared.fault.DumpFault.{DumpFault}
use Rattle.rtt_dump.specs.declared.fault.DumpFault.TheVariants as dumps

-- why the source gives no bytes, where its image gives none
pub gives_none : (options : DumpOptions) (input : Input) (image : List ℕ) (fault : Fault) → GaveWithin recording_limit input image → StopsAt options image fault → GivesNone options input fault
gives_none options input image Memory whole stops = (image, whole.within, whole.taken)
gives_none options input image (Control cause place) whole stops = record { image = image; whole = whole; refused = stops }
gives_none options input image fault whole stops = absurd stops

-- a source of bytes at hand never fails, and gives no more than them
never_rose : Rose 0 0 → ⊥
never_rose rose = absurd (omega (arith, rose))

-- ---- what an image comes to

module _ (options : DumpOptions) (image : List ℕ) (table : Catalog) (places : PlaceMap) where
  abbrev fault_of_bytes : Fault
  fault_of_bytes = fault_of_events (look_by options.style table.entries places) false (events_of table (asked_bytes options image))

  short_image : length image ≤ recording_limit → fault_of_image options image table places ≡ or_refused (refused_for options image) fault_of_bytes
  short_image short = cond-false (nat_lt recording_limit (length image)) _ _ (le-ltb recording_limit (length image) short)

  heard_image : length image ≤ recording_limit → refused_for options image ≡ None → fault_of_image options image table places ≡ fault_of_bytes
  heard_image short passes = short_image short ∙ ap (λ (o : Option DumpFault). or_refused o fault_of_bytes) passes

  refused_image : (cause place : ℕ) → length image ≤ recording_limit → refused_for options image ≡ Some (dumps.Refused cause place) → fault_of_image options image table places ≡ Control cause place
  refused_image cause place short is = short_image short ∙ ap (λ (o : Option DumpFault). or_refused o fault_of_bytes) is

  long_image : recording_limit < length image → fault_of_image options image table places ≡ Long
  long_image long = cond-true (nat_lt recording_limit (length image)) _ _ (lt-ltb recording_limit (length image) long)

-- ---- a fault is what some inputs as told come to

module _ (options : DumpOptions) (input : Input) (shelf : Files) where
  abbrev pub MayDump : Fault → Type 0
  MayDump fault = (inputs : Inputs) × AreAsTold input.left shelf.files inputs × DumpingComesTo options inputs fault

  -- by the text, the files that the shelf has later, and the table
  abbrev last : List ℕ → (List ℕ → Option (List ℕ)) → Catalog → Fault
  last text later table = fault_of_named (fault_of_image options text table) options.places later

  given : (image : List ℕ) → GaveWithin recording_limit input image → IsRest input.left image
  given image whole = all_taken input.left input.left_after image whole.taken whole.at_end

  module _ (table : Table) (places : PlaceMap) (loaded : Loaded options.language shelf options.table table) (are : ArePlaces shelf options.places places) where
    abbrev look : Look
    look = look_by options.style table.entries places

    of_image : (image : List ℕ) (fault : Fault) → IsRest input.left image → fault ≡ fault_of_image options image table places → MayDump fault
    of_image image fault rest is =
        let later = placed (fault_of_image options image table) shelf options.places places are in
        of_table last options.language options.table input shelf table image later.0 fault loaded rest later.1 (is ∙ sym later.2)

    of_all : (bytes rest : List ℕ) (output : Output) (fault : Fault) → Gives options input bytes → HearsAll look false table (at_hand bytes rest) output fault → MayDump fault
    of_all bytes rest output fault gives heard =
        let whole : heard.all.recording ≡ bytes =
        sym (append-nil heard.all.recording) ∙ ap (λ (l : List ℕ). heard.all.recording ++ l) (sym heard.all.at_end) ∙ sym heard.all.taken in
        of_image gives.image fault (given gives.image gives.whole)
        (heard.is ∙ ap (λ (l : List ℕ). fault_of_events look false (events_of table l)) (whole ∙ gives.is) ∙ sym (heard_image options gives.image table places gives.whole.within gives.passes))

    hears_may : (bytes rest : List ℕ) (output : Output) (fault : Fault) → length bytes ≤ recording_limit → Gives options input bytes → Hears look false table (at_hand bytes rest) output fault
        → OrFailing (Unit {0}) (Unit {0}) input shelf output MayDump fault
    hears_may bytes rest output Fine short gives hears = of_all bytes rest output Fine gives hears
    hears_may bytes rest output (Events bad) short gives hears = of_all bytes rest output (Events bad) gives hears
    hears_may bytes rest output (AtLevel level count) short gives hears = of_all bytes rest output (AtLevel level count) gives hears
    hears_may bytes rest output Memory short gives hears = tt
    hears_may bytes rest output Source short gives hears = absurd (never_rose hears.1)
    hears_may bytes rest output Sink short gives hears = hears.1
    hears_may bytes rest output Long short gives hears = absurd (omega (arith, short, hears.size, ap length hears.taken, length-append hears.bytes rest))
    hears_may bytes rest output fault short gives hears = absurd hears

    none_may : (output : Output) (fault : Fault) → GivesNone options input fault → OrFailing (Unit {0}) (Unit {0}) input shelf output MayDump fault
    none_may output Memory none = tt
    none_may output Source none = (tt, none.0)
    none_may output Long none =
        let text = some_text input.left input.left_after none.0 none.2 in
        of_image text.0 Long text.1 (sym (long_image options text.0 table places (omega (arith, text.2, none.1))))
    none_may output (Control cause place) none =
        of_image none.image (Control cause place) (given none.image none.whole)
        (sym (refused_image options none.image table places cause place none.whole.within none.refused))
    none_may output fault none = absurd none

  -- no places
  of_no_places : (table : Table) → Loaded options.language shelf options.table table → (text : List ℕ) → IsRest input.left text
      → (fault : Fault) → MayPlace (fault_of_image options text table) shelf options.places fault → MayDump fault
  of_no_places table loaded text rest fault may = of_table last options.language options.table input shelf table text may.0 fault loaded rest may.1 (sym may.2)

  pub dump_may : (output : Output) (fault : Fault) → Dumps options input shelf output fault
      → OrFailing (Unit {0}) (Unit {0}) input shelf output MayDump fault
  dump_may output fault (inl (inl no_table, unread, unwritten)) = refused_may last options.language options.table input shelf output fault no_table
  dump_may output fault (inl (inr no_places, unread, unwritten)) =
      let text = any_text input.left in
      let last_of = fault_of_image options text.0 no_places.0 in
      in_other_words input shelf output (MayPlace last_of shelf options.places) MayDump (of_no_places no_places.0 no_places.1 text.0 text.1) fault
      (unplaced last_of shelf input output options.places fault no_places.2)
  dump_may output fault (inr shown) = elim shown.4 [
    | inl none ↦ none_may shown.0 shown.1 shown.2 shown.3 output fault none.0
    | inr some ↦ hears_may shown.0 shown.1 shown.2 shown.3 some.0 some.1 output fault some.2 some.3 some.4
  ]

-- no decoding of an image comes to wrong words
pub dump_words : (options : DumpOptions) (input : Input) (shelf : Files) (output : Output) → Dumps options input shelf output Words → ⊥
dump_words options input shelf output (inl refused) = never_words options.language shelf options.table options.places refused.0
dump_words options input shelf output (inr shown) = elim shown.4 [ inl none ↦ none.0 | inr some ↦ some.4 ]
