-- What the decoding of a recording answers is what inputs as told come to.
use Rattle.std.proofs.Common.{◌≡◌, inl, inr, ◌<◌, ◌≤◌, ℕ, zero, suc, Bool, List, sym, subst, ◌∙◌, arith, length}
use Rattle.std.specs.Prelude.{nat_lt, Option, Some, None}
use Rattle.std.proofs.lemmas.Bool.{cond-false, cond-true, lt-ltb, le-ltb}
use Rattle.defmt_hooks.specs.declared.level.Level.{Level}
use Rattle.defmt_intern.specs.Catalog.{Catalog}
use Rattle.defmt_intern.specs.declared.table.Table.{Table}
use Rattle.defmt_listen.specs.Streams.{Input, IsRest, Output}
use Rattle.defmt_decode.specs.Event.{events_of}
use Rattle.defmt_places.specs.Places.{Map as PlaceMap}
use Rattle.defmt_recording.specs.Calls.{Files}
use Rattle.defmt_recording.specs.Decoding.{ArePlaces, Decodes, DecodingComesTo, Hears, HearsAll, Loaded, fault_by, fault_of_named, fault_of_recording}
use Rattle.defmt_recording.specs.Inputs.{AreAsTold, Inputs, OrFailing}
use Rattle.defmt_recording.specs.Styled.{Look, limit_of, look_by}
use Rattle.defmt_recording.specs.declared.fault.Fault.{Fault}
use Rattle.defmt_recording.specs.declared.fault.Fault.TheVariants.{Fine, Memory, Words, Source, Sink, Long, Events, Level as AtLevel}
use Rattle.defmt_recording.proofs.Loading.{MayPlace, in_other_words, never_words, of_table, placed, refused_may, unplaced}
use Rattle.defmt_recording.proofs.ToldInputs.{all_taken, any_text, some_text}
use Rattle.defmt_words.specs.declared.job.DecodeOptions.{DecodeOptions}

-- what all events come to is among what became of a recording
by_counts : (l : Look) (live : Bool) (table : Catalog) (input : Input) (output : Output) (on : Option Level) (failing bad : ℕ)
    → HearsAll l live table input output (fault_by on failing bad) → Hears l live table input output (fault_by on failing bad)
by_counts l live table input output None failing zero all = all
by_counts l live table input output None failing (suc n) all = all
by_counts l live table input output (Some level) zero zero all = all
by_counts l live table input output (Some level) zero (suc n) all = all
by_counts l live table input output (Some level) (suc n) bad all = all

pub all_heard : (l : Look) (live : Bool) (table : Catalog) (input : Input) (output : Output) (on : Option Level) (failing bad : ℕ) (fault : Fault) → fault ≡ fault_by on failing bad
    → HearsAll l live table input output fault → Hears l live table input output fault
all_heard l live table input output on failing bad fault is all =
    let P = λ (f : Fault). HearsAll l live table input output f → Hears l live table input output f in
    subst P (sym is) (by_counts l live table input output on failing bad) all

-- ---- a fault is what some inputs as told come to

module _ (options : DecodeOptions) (input : Input) (shelf : Files) where
  abbrev pub MayDecode : Fault → Type 0
  MayDecode fault = (inputs : Inputs) × AreAsTold input.left shelf.files inputs × DecodingComesTo options inputs fault

  -- by the text, the files that the shelf has later, and the table
  abbrev last : List ℕ → (List ℕ → Option (List ℕ)) → Catalog → Fault
  last text later table = fault_of_named (fault_of_recording options.style options.live text table) options.places later

  of_recording : (table : Table) (places : PlaceMap) (recording : List ℕ) (fault : Fault) → Loaded options.language shelf options.table table → ArePlaces shelf options.places places → IsRest input.left recording
      → fault ≡ fault_of_recording options.style options.live recording table places → MayDecode fault
  of_recording table places recording fault loaded are rest is =
      let later = placed (fault_of_recording options.style options.live recording table) shelf options.places places are in
      of_table last options.language options.table input shelf table recording later.0 fault loaded rest later.1 (is ∙ sym later.2)

  module _ (table : Table) (places : PlaceMap) (loaded : Loaded options.language shelf options.table table) (are : ArePlaces shelf options.places places) where
    abbrev look : Look
    look = look_by options.style table.entries places

    of_all : (output : Output) (fault : Fault) → HearsAll look options.live table input output fault → MayDecode fault
    of_all output fault heard =
        let limit = limit_of options.live in
        of_recording table places heard.all.recording fault loaded are (all_taken input.left input.left_after heard.all.recording heard.all.taken heard.all.at_end)
        (heard.is ∙ sym (cond-false (nat_lt limit (length heard.all.recording)) _ _ (le-ltb limit (length heard.all.recording) heard.all.within)))

    of_long : (bytes : List ℕ) → ((text : List ℕ) × IsRest input.left text × (length bytes ≤ length text)) → limit_of options.live < length bytes → MayDecode Long
    of_long bytes text long =
        let limit = limit_of options.live in
        of_recording table places text.0 Long loaded are text.1
        (sym (cond-true (nat_lt limit (length text.0)) _ _ (lt-ltb limit (length text.0) (omega (arith, text.2, long)))))

    hears_may : (output : Output) (fault : Fault) → Hears look options.live table input output fault → OrFailing (Unit {0}) (Unit {0}) input shelf output MayDecode fault
    hears_may output Fine hears = of_all output Fine hears
    hears_may output (Events bad) hears = of_all output (Events bad) hears
    hears_may output (AtLevel level count) hears = of_all output (AtLevel level count) hears
    hears_may output Memory hears = tt
    hears_may output Source hears = (tt, hears.1)
    hears_may output Sink hears = hears.1
    hears_may output Long hears = of_long hears.bytes (some_text input.left input.left_after hears.bytes hears.taken) (omega (arith, hears.size))
    hears_may output fault hears = absurd hears

  -- no places
  of_no_places : (table : Table) → Loaded options.language shelf options.table table → (text : List ℕ) → IsRest input.left text
      → (fault : Fault) → MayPlace (fault_of_recording options.style options.live text table) shelf options.places fault → MayDecode fault
  of_no_places table loaded text rest fault may = of_table last options.language options.table input shelf table text may.0 fault loaded rest may.1 (sym may.2)

  pub decode_may : (output : Output) (fault : Fault) → Decodes options input shelf output fault
      → OrFailing (Unit {0}) (Unit {0}) input shelf output MayDecode fault
  decode_may output fault (inl (inl no_table, unread, unwritten)) = refused_may last options.language options.table input shelf output fault no_table
  decode_may output fault (inl (inr no_places, unread, unwritten)) =
      let text = any_text input.left in
      let last_of = fault_of_recording options.style options.live text.0 no_places.0 in
      in_other_words input shelf output (MayPlace last_of shelf options.places) MayDecode (of_no_places no_places.0 no_places.1 text.0 text.1) fault
      (unplaced last_of shelf input output options.places fault no_places.2)
  decode_may output fault (inr heard) = hears_may heard.0 heard.1 heard.2 heard.3 output fault heard.4

-- no decoding comes to wrong words
pub decode_words : (options : DecodeOptions) (input : Input) (shelf : Files) (output : Output) → Decodes options input shelf output Words → ⊥
decode_words options input shelf output (inl refused) = never_words options.language shelf options.table options.places refused.0
decode_words options input shelf output (inr heard) = heard.4
