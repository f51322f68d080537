-- The first check of an image that doesn't hold, from what it is refused for.
use Rattle.std.proofs.Common.{◌≡◌, ◌∙◌, ◌⊎◌, ℕ, suc, ◌+◌, ◌<◌, ◌≤◌, true, false, List, [], ◌∷◌, length, refl, sym, ap, arith, inl, inr}
use Rattle.std.specs.Prelude.{Option, Some, None, Ok, Err, option_map, nat_lt, if◌then◌else◌}
use Rattle.std.specs.Option.{option_or}
use Rattle.std.proofs.lemmas.Bool.{cases_Bool, cases_lt, both_ways, le-leb, lt-leb, lt-ltb, le-ltb}
use Rattle.byte_images.specs.First.{Before}
use Rattle.rtt_control.specs.Checks as control
use Rattle.rtt_control.specs.Checks.{HasBlock, HasId, read_subject}
use Rattle.rtt_control.specs.Control.{block_at}
use Rattle.rtt_control.specs.Layout.{block_of}
use Rattle.rtt_control.specs.declared.block.Block.{Block}
use Rattle.rtt_control.specs.declared.fault.ControlFault.{ControlFault}
use Rattle.rtt_control.proofs.Refusals.{read_passes, read_refused}
use Rattle.rtt_dump.specs.Answers.{block_refusal, channel_refusal, refusal}
use Rattle.rtt_dump.specs.Checks.{BlockHolds, Check, CoreCheck, CoreHolds, FileCheck, FileHolds, FilePasses, Holds, IsDumpFault, IsFileFault, IsFirstFault, Passes, core_place, fault_of, file_fault, file_place, place, in_core, ends_in_memory, in_file, has_an_id, has_no_second, in_block, has_channel, has_class, is_little, has_header, is_core, has_entry_len, has_program_headers, has_bytes, has_addresses}
use Rattle.rtt_dump.specs.Dump.{first_id, holder}
use Rattle.rtt_dump.specs.Elf.{is_elf}
use Rattle.rtt_dump.specs.Faults.{IsFault, flawed, of_block, refused}
use Rattle.rtt_dump.specs.Flaws.{file_refusal, first_flaw, tests}
use Rattle.rtt_dump.specs.Ids.{id_refusal, ids, second_segment}
use Rattle.rtt_dump.specs.Segments.{Region, regions}
use Rattle.rtt_dump.specs.declared.fault.Cause.TheVariants.{NoId, TwoIds, NoChannel, Base}
use Rattle.rtt_dump.specs.declared.fault.DumpFault.{DumpFault}
use Rattle.rtt_dump.specs.declared.fault.DumpFault.TheVariants.{Refused, Memory}
use Rattle.rtt_dump.specs.declared.fault.Flaw.{Flaw}
use Rattle.rtt_dump.specs.declared.ids.Spot.{Spot}
use Rattle.rtt_dump.proofs.CoreLaws.{IsFirstFlaw, core_all, core_first}
use Rattle.rtt_dump.proofs.FlawLemmas.{core_refusal}

one_fault : (o : Option DumpFault) (a b : DumpFault) → o ≡ Some a → o ≡ Some b → b ≡ a
one_fault o a b left right = cc

no_fault : (o : Option DumpFault) (a : DumpFault) → o ≡ None → o ≡ Some a → ⊥
no_fault o a none some = absurd (cc)

-- ---- the file

no_flaw_left : (file : List ℕ) → option_map flawed (first_flaw file (tests file)) ≡ None → first_flaw file (tests file) ≡ None
no_flaw_left file is = elim (first_flaw file (tests file)) as (λ o. option_map flawed o ≡ None → o ≡ None) [ None ↦ λ same. refl | Some flaw ↦ λ same. absurd (cc) ] is

before_core : (file : List ℕ) (base : ℕ) (check : CoreCheck) → is_elf file ≡ true → ((other : CoreCheck) → Before (core_place other) (core_place check) → CoreHolds file other)
    → (other : FileCheck) → Before (file_place other) (file_place (in_core check)) → FileHolds file base other
before_core file base check core earlier (in_core c) before = λ _. earlier c before
before_core file base check core earlier ends_in_memory before = λ bare. absurd (both_ways (is_elf file) bare core)

before_end : (file : List ℕ) (base : ℕ) → is_elf file ≡ false → (other : FileCheck) → Before (file_place other) (file_place ends_in_memory) → FileHolds file base other
before_end file base bare (in_core c) before = λ core. absurd (both_ways (is_elf file) bare core)
before_end file base bare ends_in_memory before = absurd (elim before [ inl above ↦ omega arith | inr beside ↦ omega arith ])

core_fault : (file : List ℕ) (base : ℕ) (fault : DumpFault) (flaw : Flaw) → is_elf file ≡ true → fault ≡ flawed flaw → IsFirstFlaw file flaw
    → IsFirstFault file_place (FileHolds file base) file_fault fault
core_fault file base fault flaw core is found = record {
  check = in_core found.check;
  first = record { fails = λ h. found.first.fails (h core); earlier = before_core file base found.check core found.first.earlier };
  is = is ∙ ap flawed found.is;
}

file_first : (file : List ℕ) (base : ℕ) (fault : DumpFault) → file_refusal file base ≡ Some fault → IsFirstFault file_place (FileHolds file base) file_fault fault
file_first file base fault is = elim (cases_Bool (is_elf file)) [
  | inl core ↦
      let flaw_is : option_map flawed (first_flaw file (tests file)) ≡ Some fault = sym (core_refusal file base core) ∙ is in
      elim (first_flaw file (tests file)) as (λ o. first_flaw file (tests file) ≡ o → option_map flawed o ≡ Some fault → IsFirstFault file_place (FileHolds file base) file_fault fault) [
        | Some flaw ↦ λ some same. let found : fault ≡ flawed flaw = cc in core_fault file base fault flaw core found (core_first file flaw some)
        | None ↦ λ none same. absurd (cc)
      ] refl flaw_is
  | inr bare ↦ elim (cases_lt 4294967296 (base + length file)) [
    | inl past ↦ record {
      check = ends_in_memory;
      first = record { fails = λ h. let ends = h bare in omega (arith, ends); earlier = before_end file base bare };
      is = one_fault (file_refusal file base) (refused Base 0) fault (rw (bare, lt-leb (base + length file) 4294967296 past) refl) is;
    }
    | inr ends ↦ absurd (no_fault (file_refusal file base) fault (rw (bare, le-leb (base + length file) 4294967296 ends) refl) is)
  ]
]

pub file_all : (file : List ℕ) (base : ℕ) → file_refusal file base ≡ None → FilePasses file base
file_all file base is (in_core c) = λ core. core_all file (no_flaw_left file (sym (core_refusal file base core) ∙ is)) c
file_all file base is ends_in_memory = λ bare. elim (cases_lt 4294967296 (base + length file)) [
  | inl past ↦ absurd (no_fault (file_refusal file base) (refused Base 0) is (rw (bare, lt-leb (base + length file) 4294967296 past) refl))
  | inr ends ↦ omega arith
]

-- ---- the rows of the image's checks

file_row : (c : FileCheck) → (file_place c).row ≤ 7
file_row (in_core has_class) = omega arith
file_row (in_core is_little) = omega arith
file_row (in_core has_header) = omega arith
file_row (in_core is_core) = omega arith
file_row (in_core has_entry_len) = omega arith
file_row (in_core has_program_headers) = omega arith
file_row (in_core (has_bytes n)) = omega arith
file_row (in_core (has_addresses n)) = omega arith
file_row ends_in_memory = omega arith

-- the checks before one of the file
before_file : (file : List ℕ) (base up : ℕ) (c : FileCheck) → ((other : FileCheck) → Before (file_place other) (file_place c) → FileHolds file base other)
    → (other : Check) → Before (place other) (place (in_file c)) → Holds file base up other
before_file file base up c earlier (in_file d) before = earlier d before
before_file file base up c earlier has_an_id before = absurd (let row = file_row c in elim before [ inl above ↦ omega (arith, row) | inr beside ↦ omega (arith, row) ])
before_file file base up c earlier has_no_second before = absurd (let row = file_row c in elim before [ inl above ↦ omega (arith, row) | inr beside ↦ omega (arith, row) ])
before_file file base up c earlier (in_block d) before = absurd (let row = file_row c in elim before [ inl above ↦ omega (arith, row) | inr beside ↦ omega (arith, row) ])
before_file file base up c earlier has_channel before = absurd (let row = file_row c in elim before [ inl above ↦ omega (arith, row) | inr beside ↦ omega (arith, row) ])

-- within a block's row they stand in the block's own order
control_index : (c : control.Check) → (control.place c).index ≤ 2
control_index control.has_id = omega arith
control_index control.has_room = omega arith
control_index (control.lies_in n) = omega arith
control_index (control.has_offsets n) = omega arith
control_index (control.has_mode n) = omega arith

block_order : (d c : control.Check) → Before (place (in_block d)) (place (in_block c)) → Before (control.place d) (control.place c)
block_order d c before =
    let left = control_index d in
    let right = control_index c in
    elim before [
      | inl above ↦ absurd (omega arith)
      | inr beside ↦ elim (cases_lt (control.place d).row (control.place c).row) [
        | inl less ↦ inl less
        | inr more ↦ inr (omega (arith, left, right, beside, more), omega (arith, left, right, beside, more))
      ]
    ]

-- the checks before one of a later row
module _ (file : List ℕ) (base up : ℕ) (passes : FilePasses file base) where
  before_first_id : (other : Check) → Before (place other) (place has_an_id) → Holds file base up other
  before_first_id (in_file d) before = passes d
  before_first_id has_an_id before = absurd (elim before [ inl above ↦ omega arith | inr beside ↦ omega arith ])
  before_first_id has_no_second before = absurd (elim before [ inl above ↦ omega arith | inr beside ↦ omega arith ])
  before_first_id (in_block d) before = absurd (elim before [ inl above ↦ omega arith | inr beside ↦ omega arith ])
  before_first_id has_channel before = absurd (elim before [ inl above ↦ omega arith | inr beside ↦ omega arith ])

  before_second_id : Holds file base up has_an_id → (other : Check) → Before (place other) (place has_no_second) → Holds file base up other
  before_second_id some (in_file d) before = passes d
  before_second_id some has_an_id before = some
  before_second_id some has_no_second before = absurd (elim before [ inl above ↦ omega arith | inr beside ↦ omega arith ])
  before_second_id some (in_block d) before = absurd (elim before [ inl above ↦ omega arith | inr beside ↦ omega arith ])
  before_second_id some has_channel before = absurd (elim before [ inl above ↦ omega arith | inr beside ↦ omega arith ])

  before_block : (c : control.Check) → Holds file base up has_an_id → Holds file base up has_no_second
      → ((other : control.Check) → Before (control.place other) (control.place c) → Holds file base up (in_block other))
      → (other : Check) → Before (place other) (place (in_block c)) → Holds file base up other
  before_block c some one earlier (in_file d) before = passes d
  before_block c some one earlier has_an_id before = some
  before_block c some one earlier has_no_second before = one
  before_block c some one earlier (in_block d) before = earlier d (block_order d c before)
  before_block c some one earlier has_channel before = absurd (elim before [ inl above ↦ omega arith | inr beside ↦ omega arith ])

  before_channel : Holds file base up has_an_id → Holds file base up has_no_second → ((other : control.Check) → Holds file base up (in_block other))
      → (other : Check) → Before (place other) (place has_channel) → Holds file base up other
  before_channel some one block (in_file d) before = passes d
  before_channel some one block has_an_id before = some
  before_channel some one block has_no_second before = one
  before_channel some one block (in_block d) before = block d
  before_channel some one block has_channel before = absurd (elim before [ inl above ↦ omega arith | inr beside ↦ omega arith ])

-- ---- one stage after another

abbrev IsFirst : List ℕ → ℕ → ℕ → DumpFault → Type 0
IsFirst file base up fault = IsFirstFault place (Holds file base up) (fault_of file base up) fault

in_the_file : (file : List ℕ) (base up : ℕ) (fault : DumpFault) → IsFirstFault file_place (FileHolds file base) file_fault fault → IsFirst file base up fault
in_the_file file base up fault found = record {
  check = in_file found.check;
  first = record { fails = found.first.fails; earlier = before_file file base up found.check found.first.earlier };
  is = found.is;
}

-- the number of IDs
in_the_ids : (file : List ℕ) (base up : ℕ) (fault : DumpFault) (found : List Spot) → FilePasses file base → found ≡ ids (regions file base) → id_refusal found ≡ Some fault
    → IsFirst file base up fault
in_the_ids file base up fault [] passes are is =
    let len : 0 ≡ length (ids (regions file base)) = ap length are in
    let same : fault ≡ refused NoId 0 = cc in
    record {
      check = has_an_id;
      first = record { fails = λ some. omega (arith, len, some); earlier = before_first_id file base up passes };
      is = same;
    }
in_the_ids file base up fault (only ∷ []) passes are is = absurd (cc)
in_the_ids file base up fault (first ∷ second ∷ more) passes are is =
    let len : suc (suc (length more)) ≡ length (ids (regions file base)) = ap length are in
    let same : fault ≡ refused TwoIds second.segment = cc in
    record {
      check = has_no_second;
      first = record { fails = λ one. omega (arith, len, one); earlier = before_second_id file base up passes (omega (arith, len)) };
      is = same ∙ ap (λ (l : List Spot). refused TwoIds (second_segment l)) are;
    }

one_id : (found : List Spot) → id_refusal found ≡ None → length found ≡ 1
one_id [] is = absurd (cc)
one_id (only ∷ []) is = refl
one_id (first ∷ second ∷ more) is = absurd (cc)

-- the block has the channel
abbrev if_channel : List ℕ → ℕ → ℕ → Option DumpFault
if_channel image at up = if nat_lt up (length (block_of image at).up) then None else Some (refused NoChannel up)

module _ (file : List ℕ) (base up : ℕ) (passes : FilePasses file base) (one : length (ids (regions file base)) ≡ 1) where
  abbrev here : Region
  here = holder (regions file base)

  abbrev at : ℕ
  at = (first_id (regions file base)).at

  in_the_block : (fault : DumpFault) (f : ControlFault) → fault ≡ of_block f → block_at here.bytes here.base at ≡ Err f → IsFirst file base up fault
  in_the_block fault f same is =
      let found = read_refused here.bytes here.base at f is in
      record {
        check = in_block found.check;
        first = record { fails = found.first.fails; earlier = before_block file base up passes found.check (omega (arith, one)) (omega (arith, one)) found.first.earlier };
        is = same ∙ ap of_block found.is;
      }

  in_the_channel : (fault : DumpFault) (block : Block) → fault ≡ refused NoChannel up → block_at here.bytes here.base at ≡ Ok block → (up < length (block_of here.bytes at).up → ⊥)
      → IsFirst file base up fault
  in_the_channel fault block same is none = record {
    check = has_channel;
    first = record { fails = none; earlier = before_channel file base up passes (omega (arith, one)) (omega (arith, one)) (read_passes here.bytes here.base at block is).0 };
    is = same;
  }

  behind_the_ids : (fault : DumpFault) → channel_refusal here at up ≡ Some fault → IsFirst file base up fault
  behind_the_ids fault is = elim (block_at here.bytes here.base at)
      as (λ r. block_at here.bytes here.base at ≡ r → option_or (block_refusal r) (if_channel here.bytes at up) ≡ Some fault → IsFirst file base up fault) [
        | Err f ↦ λ refuses same. let fault_is : fault ≡ of_block f = cc in in_the_block fault f fault_is refuses
        | Ok block ↦ λ reads same. elim (cases_lt up (length (block_of here.bytes at).up)) [
          | inl below ↦ absurd (no_fault (if_channel here.bytes at up) fault (rw (lt-ltb up (length (block_of here.bytes at).up) below) refl) same)
          | inr past ↦ in_the_channel fault block
              (one_fault (if_channel here.bytes at up) (refused NoChannel up) fault (rw (le-ltb up (length (block_of here.bytes at).up) past) refl) same) reads (λ below. omega arith)
        ]
      ] refl is

  each_holds : ((c : control.Check) → BlockHolds here at c) → up < length (block_of here.bytes at).up → Passes file base up
  each_holds block channel (in_file c) = passes c
  each_holds block channel has_an_id = omega (arith, one)
  each_holds block channel has_no_second = omega (arith, one)
  each_holds block channel (in_block c) = block c
  each_holds block channel has_channel = channel

  all_behind : channel_refusal here at up ≡ None → Passes file base up
  all_behind is = elim (block_at here.bytes here.base at)
      as (λ r. block_at here.bytes here.base at ≡ r → option_or (block_refusal r) (if_channel here.bytes at up) ≡ None → Passes file base up) [
        | Err f ↦ λ refuses same. absurd (cc)
        | Ok block ↦ λ reads same. elim (cases_lt up (length (block_of here.bytes at).up)) [
          | inl below ↦ each_holds (read_passes here.bytes here.base at block reads).0 below
          | inr past ↦ absurd (no_fault (if_channel here.bytes at up) (refused NoChannel up) same (rw (le-ltb up (length (block_of here.bytes at).up) past) refl))
        ]
      ] refl is

-- ---- the whole image

none_parts : (x y : Option DumpFault) → option_or x y ≡ None → (x ≡ None) × (y ≡ None)
none_parts None y is = (refl, is)
none_parts (Some f) y is = absurd (cc)

some_parts : (x y : Option DumpFault) (fault : DumpFault) → option_or x y ≡ Some fault → (x ≡ Some fault) ⊎ ((x ≡ None) × (y ≡ Some fault))
some_parts None y fault is = inr (refl, is)
some_parts (Some f) y fault is = inl is

pub image_first : (file : List ℕ) (base up : ℕ) (fault : DumpFault) → refusal file base up ≡ Some fault → IsFirst file base up fault
image_first file base up fault is =
    let all = regions file base in
    let channel = channel_refusal (holder all) (first_id all).at up in
    elim (some_parts (file_refusal file base) (option_or (id_refusal (ids all)) channel) fault is) [
      | inl in_it ↦ in_the_file file base up fault (file_first file base fault in_it)
      | inr behind ↦ elim (some_parts (id_refusal (ids all)) channel fault behind.1) [
        | inl in_them ↦ in_the_ids file base up fault (ids all) (file_all file base behind.0) refl in_them
        | inr later ↦ behind_the_ids file base up (file_all file base behind.0) (one_id (ids all) later.0) fault later.1
      ]
    ]

pub image_all : (file : List ℕ) (base up : ℕ) → refusal file base up ≡ None → Passes file base up
image_all file base up is =
    let all = regions file base in
    let channel = channel_refusal (holder all) (first_id all).at up in
    let parts = none_parts (file_refusal file base) (option_or (id_refusal (ids all)) channel) is in
    let later = none_parts (id_refusal (ids all)) channel parts.1 in
    all_behind file base up (file_all file base parts.0) (one_id (ids all) later.0) later.1

-- ---- want of memory is free

pub file_fault_of : (file : List ℕ) (base : ℕ) (fault : DumpFault) → IsFault (file_refusal file base) fault → IsFileFault file base fault
file_fault_of file base Memory is = tt
file_fault_of file base (Refused cause place) is = file_first file base (Refused cause place) is

pub image_fault_of : (file : List ℕ) (base up : ℕ) (fault : DumpFault) → IsFault (refusal file base up) fault → IsDumpFault file base up fault
image_fault_of file base up Memory is = tt
image_fault_of file base up (Refused cause place) is = image_first file base up (Refused cause place) is
