-- The bytes of a buffer, and the up-buffers of a block.
use Rattle.std.proofs.Common.{◌≡◌, ◌∙◌, ℕ, zero, suc, ◌+◌, ◌-◌, ◌%◌, ◌<◌, ◌≤◌, Bool, true, false, inl, inr, List, [], ◌∷◌, ◌++◌, length, take, drop, refl, sym, ap, subst, arith, length-drop}
use Rattle.std.proofs.Math.Nat.{mod-lt}
use Rattle.std.specs.Option.{option_or}
use Rattle.std.specs.Prelude.{Option, Some, None, Result, Ok, IfSome, nat_lt, slice_get, unwrap_or, if◌then◌else◌}
use Rattle.std.proofs.lemmas.Bool.{cases_eq, cases_lt, eq-eqb, ne_eqb, le-ltb, lt-ltb}
use Rattle.std.proofs.lemmas.List.{take_all}
use Rattle.std.proofs.lemmas.Option.{slice_get-get_or, slice_get_within}
use Rattle.rtt_control.proofs.RoundLemmas.{round_join, round_part, round_take, round_turn, waiting_none, waiting_some}
use Rattle.rtt_control.specs.Checks.{HasMode, HasOffsets, LiesIn, Passes, lies_in, has_offsets, has_mode}
use Rattle.rtt_control.specs.Control.{block_at}
use Rattle.rtt_control.specs.Layout.{block_of, round, waiting}
use Rattle.rtt_control.specs.declared.block.Block.{Block}
use Rattle.rtt_control.specs.declared.block.Descriptor.{Descriptor}
use Rattle.rtt_control.specs.declared.fault.ControlFault.{ControlFault}
use Rattle.rtt_dump.specs.Answers.{block_refusal, channel_refusal}
use Rattle.rtt_dump.specs.Dump.{buffer_bytes, up_buffer, whole}
use Rattle.rtt_dump.specs.Faults.{IsFault, refused}
use Rattle.rtt_dump.specs.Segments.{Region}
use Rattle.rtt_dump.specs.declared.fault.Cause.TheVariants.{NoChannel}
use Rattle.rtt_dump.specs.declared.fault.DumpFault.{DumpFault}
use Rattle.rtt_dump.proofs.FlawLemmas.{fault_of_refusal}

-- ---- all bytes of a buffer

-- one whole turn is the bytes up to the end, and then those before the place
round_whole : (b : List ℕ) (z at : ℕ) → z ≤ length b → at ≤ z → round b z at z ≡ take (z - at) (drop at b) ++ take at b
round_whole b z at fits inside =
    let parts : z ≡ (z - at) + at = omega arith in
    let turn : at + (z - at) ≡ 0 + z = omega arith in
    ap (λ (n : ℕ). round b z at n) parts ∙ round_join b z at (z - at) at
    ∙ ap (λ (l : List ℕ). l ++ round b z (at + (z - at)) at) (round_part b z at (z - at) (omega arith) fits)
    ∙ ap (λ (l : List ℕ). take (z - at) (drop at b) ++ l) (ap (λ (k : ℕ). round b z k at) turn ∙ round_turn b z 0 at ∙ round_part b z 0 at (omega arith) fits)

pub whole_none : (image : List ℕ) (base : ℕ) (d : Descriptor) → d.size ≡ 0 → whole image base d ≡ []
unfolding whole
whole_none image base d none = rw (eq-eqb d.size 0 none) refl

whole_some : (image : List ℕ) (base : ℕ) (d : Descriptor) → (d.size ≡ 0 → ⊥) → whole image base d ≡ round (drop (d.start - base) image) d.size d.wr d.size
unfolding whole
whole_some image base d some = rw (ne_eqb d.size 0 some) refl

pub whole_in : (image buffer : List ℕ) (base : ℕ) (d : Descriptor) → (d.size ≡ 0 → ⊥) → buffer ≡ take d.size (drop (d.start - base) image) → length buffer ≡ d.size
    → d.wr < d.size → whole image base d ≡ drop d.wr buffer ++ take d.wr buffer
whole_in image buffer base d some is len inside =
    let z = d.size in
    whole_some image base d some ∙ sym (round_take (drop (d.start - base) image) z d.wr z (omega arith)) ∙ ap (λ (l : List ℕ). round l z d.wr z) (sym is)
    ∙ round_whole buffer z d.wr (omega arith) (omega arith)
    ∙ ap (λ (l : List ℕ). l ++ take d.wr buffer) (take_all (z - d.wr) (drop d.wr buffer) (omega (arith, length-drop d.wr buffer)))

-- the two parts in their order
pub two_parts : (start middle bytes older newer b : List ℕ) (at : ℕ) → start ≡ [] → middle ≡ start ++ older → bytes ≡ middle ++ newer → older ≡ drop at b → newer ≡ take at b
    → bytes ≡ drop at b ++ take at b
two_parts start middle bytes older newer b at none first second behind before =
    second ∙ ap (λ (l : List ℕ). l ++ newer) (first ∙ ap (λ (l : List ℕ). l ++ older) none ∙ behind) ∙ ap (λ (l : List ℕ). drop at b ++ l) before

-- ---- a buffer that lies in its segment has no more bytes than that

length-round : (b : List ℕ) (z at n : ℕ) → length (round b z at n) ≡ n
length-round b z at zero = refl
length-round b z at (suc n) = ap suc (length-round b z (at + 1) n)

whole_short : (image : List ℕ) (base : ℕ) (d : Descriptor) → LiesIn (length image) base d → length (whole image base d) ≤ length image
whole_short image base d lies = elim (cases_eq d.size 0) [
  | inl none ↦ let is : length (whole image base d) ≡ 0 = ap length (whole_none image base d none) in omega (arith, is)
  | inr some ↦
      let inside = lies (omega (arith, some)) in
      let is : length (whole image base d) ≡ d.size = ap length (whole_some image base d some) ∙ length-round (drop (d.start - base) image) d.size d.wr d.size in
      omega (arith, is, inside.1)
]

waiting_short : (image : List ℕ) (base : ℕ) (d : Descriptor) → LiesIn (length image) base d → length (waiting image base d) ≤ length image
waiting_short image base d lies = elim (cases_eq d.size 0) [
  | inl none ↦ let is : length (waiting image base d) ≡ 0 = ap length (waiting_none image base d none) in omega (arith, is)
  | inr some ↦
      let inside = lies (omega (arith, some)) in
      let count = (d.wr + d.size - d.rd) % d.size in
      let is : length (waiting image base d) ≡ count = ap length (waiting_some image base d some) ∙ length-round (drop (d.start - base) image) d.size d.rd count in
      let less : count < d.size = mod-lt (d.wr + d.size - d.rd) (omega (arith, some)) in
      omega (arith, is, less, inside.1)
]

pub buffer_short : (image bytes : List ℕ) (base : ℕ) (d : Descriptor) (old : Bool) → LiesIn (length image) base d → bytes ≡ buffer_bytes image base d old → length bytes ≤ length image
buffer_short image bytes base d true lies is = let short = whole_short image base d lies in omega (arith, ap length is, short)
buffer_short image bytes base d false lies is = let short = waiting_short image base d lies in omega (arith, ap length is, short)

-- ---- a descriptor of a block that passes

slice_get-append_left : (xs ys : List Descriptor) (k : ℕ) (x : Descriptor) → slice_get xs k ≡ Some x → slice_get (xs ++ ys) k ≡ Some x
slice_get-append_left [] ys k x is = absurd (cc)
slice_get-append_left (y ∷ xs) ys zero x is = is
slice_get-append_left (y ∷ xs) ys (suc k) x is = slice_get-append_left xs ys k x is

-- what the block's checks say of it
pub of_up : (Id Room : Type 0) (size base : ℕ) (block : Block) (k : ℕ) (d : Descriptor) → slice_get block.up k ≡ Some d
    → Passes Id Room (record { size = size; base = base; descriptors = block.up ++ block.down }) → LiesIn size base d × HasOffsets d × HasMode d
of_up Id Room size base block k d is passes =
    let here = slice_get-append_left block.up block.down k d is in (
      subst (λ (o : Option Descriptor). IfSome o (LiesIn size base)) here (passes (lies_in k)),
      subst (λ (o : Option Descriptor). IfSome o HasOffsets) here (passes (has_offsets k)),
      subst (λ (o : Option Descriptor). IfSome o HasMode) here (passes (has_mode k)),
    )

-- ---- an up-buffer

pub up_there : (image : List ℕ) (at up : ℕ) (d : Descriptor) → slice_get (block_of image at).up up ≡ Some d → up_buffer image at up ≡ d
up_there image at up d is =
    ap (λ (o : Option Descriptor). unwrap_or o (let none : Descriptor = record { name = 0; start = 0; size = 0; wr = 0; rd = 0; flags = 0 } in none)) is

-- what the channel is refused for
module _ (region : Region) (at up : ℕ) where
  abbrev ups : List Descriptor
  ups = (block_of region.bytes at).up

  of_read : (r : Result Block ControlFault) → block_at region.bytes region.base at ≡ r → channel_refusal region at up ≡ option_or (block_refusal r) (if nat_lt up (length ups) then None else Some (refused NoChannel up))
  of_read r is = ap (λ (x : Result Block ControlFault). option_or (block_refusal x) (if nat_lt up (length ups) then None else Some (refused NoChannel up))) is

  pub channel_there : (d : Descriptor) → block_at region.bytes region.base at ≡ Ok (block_of region.bytes at) → slice_get ups up ≡ Some d → channel_refusal region at up ≡ None
  channel_there d reads is = of_read (Ok (block_of region.bytes at)) reads ∙ rw (lt-ltb up (length ups) (slice_get_within ups up d is)) refl

  pub channel_missing : (e : DumpFault) → block_at region.bytes region.base at ≡ Ok (block_of region.bytes at) → slice_get ups up ≡ None → e ≡ refused NoChannel up
      → IsFault (channel_refusal region at up) e
  channel_missing e reads none is = elim (cases_lt up (length ups)) [
    | inl below ↦ let some = slice_get-get_or ups up (up_buffer region.bytes at up) below in absurd (cc)
    | inr past ↦
        let missing : channel_refusal region at up ≡ Some (refused NoChannel up) = of_read (Ok (block_of region.bytes at)) reads ∙ rw (le-ltb up (length ups) past) refl in
        fault_of_refusal (channel_refusal region at up) e (missing ∙ ap (λ (x : DumpFault). Some x) (sym is))
  ]
