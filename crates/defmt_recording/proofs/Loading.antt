-- What the files of a table and of places come to, whatever is done last by them.
use Rattle.std.proofs.Common.{◌≡◌, inl, inr, ◌≤◌, ℕ, List, Option, Some, None, Ok, Err, refl, sym, subst, ◌∙◌, ap, arith, length}
use Rattle.std.specs.Prelude.{Result, nat_lt}
use Rattle.std.proofs.lemmas.Bool.{cond-false, cond-true, le-ltb, lt-ltb}
use Rattle.dl_io.specs.Outside.{Lacks}
use Rattle.defmt_grammar.specs.declared.language.Language.{Language}
use Rattle.defmt_intern.specs.Catalog.{Catalog}
use Rattle.defmt_intern.specs.declared.table.Table.{Table}
use Rattle.elf_table.specs.Names.{AnswersOnly, ReadsTable}
use Rattle.elf_table.specs.declared.fault.LoadFault.{LoadFault}
use Rattle.elf_table.specs.declared.fault.LoadFault.TheVariants as loads
use Rattle.elf_table.proofs.Answers.{names_only, elf_only, symbol_only}
use Rattle.defmt_listen.specs.Streams.{Input, IsRest, Output}
use Rattle.defmt_recording.specs.Calls.{Files}
use Rattle.defmt_places.specs.Places.{Map as PlaceMap, cause_number, places_in}
use Rattle.defmt_recording.specs.Decoding.{ArePlaces, IsFile, Loaded, LoadingComesTo, ReadingComesTo, RefusesFile, RefusesFiles, RefusesName, RefusesPlaces, RefusesPlacesFile, RefusesTable, fault_of_file, fault_of_named, fault_of_places, table_limit}
use Rattle.defmt_recording.specs.Inputs.{AreAsTold, AreFiles, Inputs, OrFailing}
use Rattle.defmt_recording.specs.declared.fault.Fault.{Fault}
use Rattle.defmt_recording.specs.declared.fault.Fault.TheVariants.{Memory, Words, Source, Sink, Elf, Names, Places, Shelf, Long}
use Rattle.defmt_recording.proofs.ToldInputs.{any_files, any_text, long_file, with_file}

-- a told shelf without the file
lacking : (given : Option (List ℕ → Option (List ℕ))) (name : List ℕ) → Lacks given name → (files : List ℕ → Option (List ℕ)) × AreFiles given files × (files name ≡ None)
lacking None name lacks = absurd lacks
lacking (Some given) name lacks = (given, refl, lacks)

-- what is so of a fault is so of it in other words
pub in_other_words : (input : Input) (shelf : Files) (output : Output) (P Q : Fault → Type 0) → ((fault : Fault) → P fault → Q fault) → (fault : Fault)
    → OrFailing (Unit {0}) (Unit {0}) input shelf output P fault → OrFailing (Unit {0}) (Unit {0}) input shelf output Q fault
in_other_words input shelf output P Q to Memory so = so
in_other_words input shelf output P Q to Source so = so
in_other_words input shelf output P Q to Sink so = so
in_other_words input shelf output P Q to Shelf (inl rose) = inl rose
in_other_words input shelf output P Q to Shelf (inr so) = inr (to Shelf so)
in_other_words input shelf output P Q to fault so = to fault so

-- ---- a fault is what some inputs as told come to

module _ (last : List ℕ → (List ℕ → Option (List ℕ)) → Catalog → Fault) (language : Language) (name : List ℕ) (input : Input) (shelf : Files) where
  abbrev pub MayLoad : Fault → Type 0
  MayLoad fault = (inputs : Inputs) × AreAsTold input.left shelf.files inputs × LoadingComesTo language (last inputs.text inputs.later) (inputs.files name) fault

  -- with this file and this text
  of_file : (file text : List ℕ) (later : List ℕ → Option (List ℕ)) (fault : Fault) → IsFile shelf.files name file → IsRest input.left text → AreFiles shelf.files later
      → LoadingComesTo language (last text later) (Some file) fault → MayLoad fault
  of_file file text later fault found rest told comes =
      let files = with_file shelf.files name file found in
      let inputs : Inputs = record { text = text; files = files.0; later = later } in
      let as_told : AreAsTold input.left shelf.files inputs = record { text = rest; files = files.1; later = told } in
      (inputs, as_told, subst (λ (o : Option (List ℕ)). LoadingComesTo language (last text later) o fault) (sym files.2) comes)

  pub of_table : (table : Table) (text : List ℕ) (later : List ℕ → Option (List ℕ)) (fault : Fault) → Loaded language shelf name table → IsRest input.left text → AreFiles shelf.files later
      → fault ≡ last text later table → MayLoad fault
  of_table table text later fault loaded rest told is = of_file loaded.file text later fault loaded.fetched rest told (inr (loaded.within, (Ok table, loaded.names, is)))

  -- whatever stands in the source and on the shelf later
  of_any : (file : List ℕ) (fault : Fault) → IsFile shelf.files name file → ((text : List ℕ) (later : List ℕ → Option (List ℕ)) → LoadingComesTo language (last text later) (Some file) fault) → MayLoad fault
  of_any file fault found comes =
      let text = any_text input.left in
      let later = any_files shelf.files in
      of_file file text.0 later.0 fault found text.1 later.1 (comes text.0 later.0)

  -- a told shelf without the file
  of_none : (files : List ℕ → Option (List ℕ)) → AreFiles shelf.files files → files name ≡ None → MayLoad Shelf
  of_none files told none =
      let text = any_text input.left in
      let inputs : Inputs = record { text = text.0; files = files; later = files } in
      let as_told : AreAsTold input.left shelf.files inputs = record { text = text.1; files = told; later = told } in
      (inputs, as_told, subst (λ (o : Option (List ℕ)). LoadingComesTo language (last text.0 files) o Shelf) (sym none) refl)

  name_may : (output : Output) (fault : Fault) → RefusesName shelf name fault → OrFailing (Unit {0}) (Unit {0}) input shelf output MayLoad fault
  name_may output Memory refuses = tt
  name_may output Shelf refuses = elim refuses [
    | inl rose ↦ inl (tt, rose)
    | inr lacks ↦ inr (let none = lacking shelf.files name lacks in of_none none.0 none.1 none.2)
  ]
  name_may output Long refuses =
      let found = long_file shelf.files name table_limit refuses in
      of_any found.0 Long found.1 (λ text later. inl (found.2, refl))
  name_may output fault refuses = absurd refuses

  file_may : (output : Output) (fault : Fault) (file : List ℕ) → IsFile shelf.files name file → length file ≤ table_limit → RefusesFile language file fault → OrFailing (Unit {0}) (Unit {0}) input shelf output MayLoad fault
  file_may output Memory file found short refuses = tt
  file_may output (Elf cause part place) file found short refuses =
      of_any file (Elf cause part place) found (λ text later. inr (short, (Err (loads.Elf cause part place), refuses, refl)))
  file_may output (Names cause symbol) file found short refuses =
      of_any file (Names cause symbol) found (λ text later. inr (short, (Err (loads.Names cause symbol), refuses, refl)))
  file_may output fault file found short refuses = absurd refuses

  pub refused_may : (output : Output) (fault : Fault) → RefusesTable language shelf name fault → OrFailing (Unit {0}) (Unit {0}) input shelf output MayLoad fault
  refused_may output fault (inl no_file) = name_may output fault no_file
  refused_may output fault (inr no_table) = file_may output fault no_table.0 no_table.1 no_table.2 no_table.3

-- ---- places

module _ (last : PlaceMap → Fault) (shelf : Files) where
  -- the file of the places is what some files as told have
  abbrev pub MayPlace : Option (List ℕ) → Fault → Type 0
  MayPlace name fault = (later : List ℕ → Option (List ℕ)) × AreFiles shelf.files later × (fault_of_named last name later ≡ fault)

  short_file : (file : List ℕ) → length file ≤ table_limit → fault_of_file last (Some file) ≡ fault_of_places last (places_in file)
  short_file file short = cond-false (nat_lt table_limit (length file)) _ _ (le-ltb table_limit (length file) short)

  pub placed : (name : Option (List ℕ)) (places : PlaceMap) → ArePlaces shelf name places → MayPlace name (last places)
  placed None places is = let files = any_files shelf.files in (files.0, files.1, ap last (sym is))
  placed (Some name) places at =
      let files = with_file shelf.files name at.file at.fetched in
      (files.0, files.1, ap (fault_of_file last) files.2 ∙ short_file at.file at.within ∙ ap (fault_of_places last) at.tells)

  name_unplaced : (input : Input) (output : Output) (name : List ℕ) (fault : Fault) → RefusesName shelf name fault → OrFailing (Unit {0}) (Unit {0}) input shelf output (MayPlace (Some name)) fault
  name_unplaced input output name Memory refuses = tt
  name_unplaced input output name Shelf refuses = elim refuses [
    | inl rose ↦ inl (tt, rose)
    | inr lacks ↦ inr (let none = lacking shelf.files name lacks in (none.0, none.1, ap (fault_of_file last) none.2))
  ]
  name_unplaced input output name Long refuses =
      let found = long_file shelf.files name table_limit refuses in
      let files = with_file shelf.files name found.0 found.1 in
      (files.0, files.1, ap (fault_of_file last) files.2 ∙ cond-true (nat_lt table_limit (length found.0)) _ _ (lt-ltb table_limit (length found.0) found.2))
  name_unplaced input output name fault refuses = absurd refuses

  file_unplaced : (input : Input) (output : Output) (name file : List ℕ) (fault : Fault) → IsFile shelf.files name file → length file ≤ table_limit → RefusesPlacesFile file fault
      → OrFailing (Unit {0}) (Unit {0}) input shelf output (MayPlace (Some name)) fault
  file_unplaced input output name file Memory found short refuses = tt
  file_unplaced input output name file (Places line cause) found short (refusal, told, at, why) =
      let files = with_file shelf.files name file found in (
        files.0,
        files.1,
        ap (fault_of_file last) files.2 ∙ short_file file short ∙ ap (fault_of_places last) told
            ∙ ap (λ (n : ℕ). Places n (cause_number refusal.cause)) (sym at) ∙ ap (λ (n : ℕ). Places line n) (sym why),
      )
  file_unplaced input output name file fault found short refuses = absurd refuses

  pub unplaced : (input : Input) (output : Output) (name : Option (List ℕ)) (fault : Fault) → RefusesPlaces shelf name fault → OrFailing (Unit {0}) (Unit {0}) input shelf output (MayPlace name) fault
  unplaced input output None fault refuses = absurd refuses
  unplaced input output (Some name) fault (inl no_file) = name_unplaced input output name fault no_file
  unplaced input output (Some name) fault (inr no_places) = file_unplaced input output name no_places.0 fault no_places.1 no_places.2 no_places.3

-- ---- the places are asked for behind the table

abbrev pub shelf_of : Option (List ℕ → Option (List ℕ)) → ℕ → ℕ → Files
shelf_of files before after = record { files = files; faults = before; faults_after = after }

name_before : (files : Option (List ℕ → Option (List ℕ))) (first before after : ℕ) (name : List ℕ) (fault : Fault) → first ≤ before → RefusesName (shelf_of files before after) name fault
    → RefusesName (shelf_of files first after) name fault
name_before files first before after name Memory later refuses = refuses
name_before files first before after name Shelf later (inl rose) = inl (omega (arith, later, rose))
name_before files first before after name Shelf later (inr lacks) = inr lacks
name_before files first before after name Long later refuses = refuses
name_before files first before after name fault later refuses = absurd refuses

pub places_before : (files : Option (List ℕ → Option (List ℕ))) (first before after : ℕ) (name : Option (List ℕ)) (fault : Fault) → first ≤ before
    → RefusesPlaces (shelf_of files before after) name fault → RefusesPlaces (shelf_of files first after) name fault
places_before files first before after None fault later refuses = refuses
places_before files first before after (Some name) fault later (inl no_file) = inl (name_before files first before after name fault later no_file)
places_before files first before after (Some name) fault later (inr no_places) = inr no_places

pub placed_before : (files : Option (List ℕ → Option (List ℕ))) (first before after : ℕ) (name : Option (List ℕ)) (places : PlaceMap)
    → ArePlaces (shelf_of files before after) name places → ArePlaces (shelf_of files first after) name places
placed_before files first before after None places are = are
placed_before files first before after (Some name) places at = record { file = at.file; fetched = at.fetched; within = at.within; tells = at.tells }

-- no file that is missing or refused comes to wrong words
no_places_words : (shelf : Files) (name : Option (List ℕ)) → RefusesPlaces shelf name Words → ⊥
no_places_words shelf None refuses = refuses
no_places_words shelf (Some name) (inl no_file) = no_file
no_places_words shelf (Some name) (inr no_places) = no_places.3

pub never_words : (language : Language) (shelf : Files) (name : List ℕ) (places : Option (List ℕ)) → RefusesFiles language shelf name places Words → ⊥
never_words language shelf name places (inl (inl no_file)) = no_file
never_words language shelf name places (inl (inr no_table)) = no_table.3
never_words language shelf name places (inr no_places) = no_places_words shelf places no_places.2

-- ---- inputs come to one fault

module _ (language : Language) (last : Catalog → Fault) where
  same_answer : (read wanted : Result Table LoadFault) (fault : Fault) → AnswersOnly read wanted → ReadingComesTo last read fault → read ≡ wanted
  same_answer (Ok table) wanted fault only comes = only
  same_answer (Err (loads.Elf cause part place)) wanted fault only comes = only
  same_answer (Err (loads.Names cause symbol)) wanted fault only comes = only
  same_answer (Err loads.Memory) wanted fault only comes = absurd comes

  one_load : (file : List ℕ) (read wanted : Result Table LoadFault) (fault other : Fault) → ReadsTable language file read → ReadsTable language file wanted
      → ReadingComesTo last read fault → ReadingComesTo last wanted other → fault ≡ other
  one_load file read (Ok table) fault other reads wants comes also =
      let same = same_answer read (Ok table) fault (names_only language file read table reads wants) comes in
      let here = subst (λ (r : Result Table LoadFault). ReadingComesTo last r fault) same comes in here ∙ sym also
  one_load file read (Err (loads.Elf cause part place)) fault other reads wants comes also =
      let same = same_answer read (Err (loads.Elf cause part place)) fault (elf_only language file read (record { cause = cause; part = part; place = place }) reads wants) comes in
      let here = subst (λ (r : Result Table LoadFault). ReadingComesTo last r fault) same comes in here ∙ sym also
  one_load file read (Err (loads.Names cause symbol)) fault other reads wants comes also =
      let same = same_answer read (Err (loads.Names cause symbol)) fault (symbol_only language file read cause symbol reads wants) comes in
      let here = subst (λ (r : Result Table LoadFault). ReadingComesTo last r fault) same comes in here ∙ sym also
  one_load file read (Err loads.Memory) fault other reads wants comes also = absurd also

  pub load_one : (file : Option (List ℕ)) (fault other : Fault) → LoadingComesTo language last file other → LoadingComesTo language last file fault → fault ≡ other
  load_one None fault other a b = b ∙ sym a
  load_one (Some file) fault other (inl a) (inl b) = b.1 ∙ sym a.1
  load_one (Some file) fault other (inl a) (inr b) = absurd (omega (arith, a.0, b.0))
  load_one (Some file) fault other (inr a) (inl b) = absurd (omega (arith, a.0, b.0))
  load_one (Some file) fault other (inr a) (inr b) = one_load file b.1.0 a.1.0 fault other b.1.1 a.1.1 b.1.2 a.1.2
