-- The segments of an image by their places in the file, and the segment of its ID.
use Rattle.std.proofs.Common.{◌≡◌, ◌∙◌, ◌≤◌, ℕ, List, [], ◌∷◌, length, drop, map, refl, sym, ap, subst, arith, length-take, length-drop}
use Rattle.std.specs.Prelude.{Option, Some, None, Result, Ok, Err, IfErr, IfOk, OnOk, slice_get, unwrap_or, option_map}
use Rattle.std.specs.Option.{option_or}
use Rattle.std.proofs.lemmas.Bool.{cases_Bool}
use Rattle.std.proofs.Common.{inl, inr}
use Rattle.std.proofs.lemmas.List.{take_all}
use Rattle.std.proofs.lemmas.Option.{slice_get-map}
use Rattle.dl_io.specs.Buffer.{Buffer}
use Rattle.rtt_dump.specs.Answers.{channel_refusal, refusal}
use Rattle.rtt_dump.specs.Dump.{first_id, holder}
use Rattle.rtt_dump.specs.Elf.{is_elf, loaded}
use Rattle.rtt_dump.specs.Faults.{IsFault}
use Rattle.rtt_dump.specs.Ids.{id_refusal, ids}
use Rattle.rtt_dump.specs.Flaws.{file_refusal}
use Rattle.rtt_dump.specs.Segments.{Region, region, region_of, regions, span_of, spans}
use Rattle.rtt_dump.specs.declared.elf.ProgramHeader.{ProgramHeader}
use Rattle.rtt_dump.specs.declared.fault.DumpFault.{DumpFault}
use Rattle.rtt_dump.specs.declared.ids.Spot.{Spot}
use Rattle.rtt_dump.specs.declared.spans.Span.{Span}
use Rattle.rtt_dump.proofs.FlawLemmas.{fault_here, fault_later, none_later}

regions_loaded : (file : List ℕ) (headers : List ProgramHeader) → map (region file) (map span_of headers) ≡ map (region_of file) headers
regions_loaded file [] = refl
regions_loaded file (p ∷ headers) = ap (λ (l : List Region). region_of file p ∷ l) (regions_loaded file headers)

pub regions_by_spans : (file : List ℕ) (base : ℕ) → map (region file) (spans file base) ≡ regions file base
regions_by_spans file base = elim (cases_Bool (is_elf file)) [
  | inl core ↦ rw core (regions_loaded file (loaded file))
  | inr bare ↦ rw bare (ap (λ (bytes : List ℕ). (let one : Region = record { base = base; bytes = bytes } in one) ∷ []) (take_all (length file) file (omega arith)))
]

-- the segment of the only ID
pub only_holder : (all : List Region) (spot : Spot) (here : Region) → ids all ≡ spot ∷ [] → slice_get all spot.segment ≡ Some here
    → (first_id all ≡ spot) × (holder all ≡ here)
only_holder all spot here only is =
    let none : Spot = record { segment = 0; at = 0 } in
    let nowhere : Region = record { base = 0; bytes = [] } in
    let first : first_id all ≡ spot = ap (λ (l : List Spot). unwrap_or (slice_get l 0) none) only in
    (first, ap (λ (s : Spot). unwrap_or (slice_get all s.segment) nowhere) first ∙ ap (λ (o : Option Region). unwrap_or o nowhere) is)

-- what holds of that segment and place
pub at_holder : (all : List Region) (spot : Spot) (here : Region) (P : Region → ℕ → Type 0) → ids all ≡ spot ∷ [] → slice_get all spot.segment ≡ Some here
    → P here spot.at → P (holder all) (first_id all).at
at_holder all spot here P only is p =
    let found = only_holder all spot here only is in
    subst (λ (region : Region). P region (first_id all).at) (sym found.1) (subst (λ (s : Spot). P here s.at) (sym found.0) p)

-- nothing but the channel refuses
pub channel_passes : {T : Type 0} (r : Result T DumpFault) (x y z : Option DumpFault) → x ≡ None → y ≡ None → OnOk r (z ≡ None) → OnOk r (option_or x (option_or y z) ≡ None)
channel_passes (Ok value) x y z none also passes = none_later x (option_or y z) none (none_later y z also passes)
channel_passes (Err e) x y z none also passes = tt

pub channel_refused : {T : Type 0} (r : Result T DumpFault) (x y z : Option DumpFault) → x ≡ None → y ≡ None → IfErr r (IsFault z) → IfErr r (IsFault (option_or x (option_or y z)))
channel_refused (Ok value) x y z none also fault = tt
channel_refused (Err e) x y z none also fault = fault_later x (option_or y z) e none (fault_later y z e also fault)

-- the ID refuses
pub id_refused : (file : List ℕ) (base up : ℕ) (e : DumpFault) → file_refusal file base ≡ None → IsFault (id_refusal (ids (regions file base))) e → IsFault (refusal file base up) e
id_refused file base up e none fault =
    let all = regions file base in
    let channel = channel_refusal (holder all) (first_id all).at up in
    fault_later (file_refusal file base) (option_or (id_refusal (ids all)) channel) e none (fault_here (id_refusal (ids all)) channel e fault)

-- what holds of the segment and place that the code found
pub found_holder : (file : List ℕ) (base : ℕ) (list : List Span) (spot : Spot) (span : Span) (image : List ℕ) (P : Region → ℕ → Type 0) → map (region file) list ≡ regions file base
    → ids (map (region file) list) ≡ spot ∷ [] → slice_get list spot.segment ≡ Some span → image ≡ (region file span).bytes
    → P (record { base = span.base; bytes = image }) spot.at → P (holder (regions file base)) (first_id (regions file base)).at
found_holder file base list spot span image P all_is only is image_is p =
    let there : slice_get (map (region file) list) spot.segment ≡ Some (region file span) =
    slice_get-map (region file) list spot.segment ∙ ap (option_map (region file)) is in
    let here : P (region file span) spot.at = subst (λ (bytes : List ℕ). P (record { base = span.base; bytes = bytes }) spot.at) image_is p in
    subst (λ (all : List Region). P (holder all) (first_id all).at) all_is (at_holder (map (region file) list) spot (region file span) P only there here)

-- a part of the file is no longer than the file
pub part_short : (r : Result Buffer DumpFault) (file part : List ℕ) (span : Span) → part ≡ (region file span).bytes → IfOk r (λ b. length b.items ≤ length part)
    → IfOk r (λ b. length b.items ≤ length file)
part_short (Ok bytes) file part span is short = omega (arith, short, ap length is, length-take span.len (drop span.start file), length-drop span.start file)
part_short (Err e) file part span is short = tt
