-- The first check that doesn't hold, from what the calls answer.
use Rattle.std.proofs.Common.{◌≡◌, ◌∙◌, ℕ, ◌+◌, ◌<◌, List, [], ◌∷◌, ◌++◌, length, drop, refl, sym, ap, subst, arith, inl, inr}
use Rattle.std.specs.Prelude.{Option, Some, None, Result, Ok, Err, IfSome, slice_get}
use Rattle.std.proofs.lemmas.Bool.{cases_Bool, cases_lt, both_ways, lt-ltb, le-ltb}
use Rattle.byte_images.specs.First.{Before}
use Rattle.rtt_control.specs.declared.block.Block.{Block}
use Rattle.rtt_control.specs.declared.block.Descriptor.{Descriptor}
use Rattle.rtt_control.specs.declared.fault.Cause.{Cause}
use Rattle.rtt_control.specs.declared.fault.Cause.TheVariants.{NoId, Bounds, Offset, Flags, TwoIds}
use Rattle.rtt_control.specs.declared.fault.ControlFault.{ControlFault}
use Rattle.rtt_control.specs.declared.fault.ControlFault.TheVariants.{Refused, Memory}
use Rattle.rtt_control.specs.Layout.{block_bytes, block_len, block_of, downs_at, starts_with_id, ups_at, waiting, with_bytes}
use Rattle.rtt_control.specs.Checks.{Check, HasBlock, HasId, HasMode, HasOffsets, HasSpace, Holds, IsFirstRefusal, IsRefusal, LiesIn, Passes, Subject, place, read_subject, refused, unread_subject, write_subject, has_id, has_room, lies_in, has_offsets, has_mode}
use Rattle.rtt_control.specs.Control.{IsAnswer, block_at, first_refusal, unless, unread_of, written}
use Rattle.rtt_control.proofs.CheckLemmas.{FailsWith, IsGood, all_good, first_bad}
use Rattle.rtt_control.proofs.IdLemmas.{starts_with_id-Decides}

unless_err : {A : Type 0} (o : Option ControlFault) (value : A) (fault : ControlFault) → unless o value ≡ Err fault → o ≡ Some fault
unless_err (Some f) value fault is = let same : f ≡ fault = cc in ap Some same
unless_err None value fault is = absurd (cc)

unless_ok : {A : Type 0} (o : Option ControlFault) (value found : A) → unless o value ≡ Ok found → (o ≡ None) × (found ≡ value)
unless_ok (Some f) value found is = absurd (cc)
unless_ok None value found is = let same : found ≡ value = cc in (refl, same)

-- ---- the checks before one of a descriptor

module _ (Id Room : Type 0) (s : Subject) (n : ℕ) (id : Id) (room : Room) (earlier : (k : ℕ) → k < n → IsGood s.size s.base s.descriptors k) where
  before_all : (i : ℕ) → (0 < i → IfSome (slice_get s.descriptors n) (LiesIn s.size s.base)) → (1 < i → IfSome (slice_get s.descriptors n) HasOffsets)
      → (2 < i → IfSome (slice_get s.descriptors n) HasMode)
      → (other : Check) → Before (place other) (record { row = 2 + n; index = i }) → Holds Id Room s other
  before_all i lies offsets mode has_id before = id
  before_all i lies offsets mode has_room before = room
  before_all i lies offsets mode (lies_in m) before = elim before [
    | inl above ↦ (earlier m (omega arith)).lies
    | inr beside ↦ let same : n ≡ m = omega arith in subst (λ (k : ℕ). IfSome (slice_get s.descriptors k) (LiesIn s.size s.base)) same (lies beside.1)
  ]
  before_all i lies offsets mode (has_offsets m) before = elim before [
    | inl above ↦ (earlier m (omega arith)).offsets
    | inr beside ↦ let same : n ≡ m = omega arith in subst (λ (k : ℕ). IfSome (slice_get s.descriptors k) HasOffsets) same (offsets beside.1)
  ]
  before_all i lies offsets mode (has_mode m) before = elim before [
    | inl above ↦ (earlier m (omega arith)).mode
    | inr beside ↦ let same : n ≡ m = omega arith in subst (λ (k : ℕ). IfSome (slice_get s.descriptors k) HasMode) same (mode beside.1)
  ]

  here : (d : Descriptor) (P : Descriptor → Type 0) → slice_get s.descriptors n ≡ Some d → P d → IfSome (slice_get s.descriptors n) P
  here d P is p = subst (λ (o : Option Descriptor). IfSome o P) (sym is) p

  there : (d : Descriptor) (P : Descriptor → Type 0) → slice_get s.descriptors n ≡ Some d → IfSome (slice_get s.descriptors n) P → P d
  there d P is p = subst (λ (o : Option Descriptor). IfSome o P) is p

  first_by : (at : ℕ) (d : Descriptor) (c : Cause) → slice_get s.descriptors n ≡ Some d → FailsWith s.size s.base d c → IsFirstRefusal Id Room s at (refused c n)
  first_by at d NoId is fails = absurd fails
  first_by at d Bounds is fails = record {
    check = lies_in n;
    first = record {
      fails = λ h. fails (there d (LiesIn s.size s.base) is h);
      earlier = before_all 0 (λ lt. absurd (omega arith)) (λ lt. absurd (omega arith)) (λ lt. absurd (omega arith));
    };
    is = refl;
  }
  first_by at d Offset is fails = record {
    check = has_offsets n;
    first = record {
      fails = λ h. fails.1 (there d HasOffsets is h);
      earlier = before_all 1 (λ lt. here d (LiesIn s.size s.base) is fails.0) (λ lt. absurd (omega arith)) (λ lt. absurd (omega arith));
    };
    is = refl;
  }
  first_by at d Flags is fails = record {
    check = has_mode n;
    first = record {
      fails = λ h. fails.2 (there d HasMode is h);
      earlier = before_all 2 (λ lt. here d (LiesIn s.size s.base) is fails.0) (λ lt. here d HasOffsets is fails.1) (λ lt. absurd (omega arith));
    };
    is = refl;
  }
  first_by at d TwoIds is fails = absurd fails

-- ---- the descriptors' refusal is that of the first check that doesn't hold

descriptors_refused : (Id Room : Type 0) (s : Subject) (at : ℕ) (fault : ControlFault) → Id → Room → first_refusal s.size s.base 0 s.descriptors ≡ Some fault
    → IsFirstRefusal Id Room s at fault
descriptors_refused Id Room s at fault id room is =
    let bad = first_bad s.size s.base 0 s.descriptors fault is in
    let number : 0 + bad.number ≡ bad.number = omega arith in
    let fault_is : fault ≡ refused bad.cause bad.number = bad.is ∙ ap (refused bad.cause) number in
    subst (λ (f : ControlFault). IsFirstRefusal Id Room s at f) (sym fault_is) (first_by Id Room s bad.number id room bad.earlier at bad.bad bad.cause bad.here bad.fails)

descriptors_pass : (Id Room : Type 0) (s : Subject) → Id → Room → first_refusal s.size s.base 0 s.descriptors ≡ None → Passes Id Room s
descriptors_pass Id Room s id room is has_id = id
descriptors_pass Id Room s id room is has_room = room
descriptors_pass Id Room s id room is (lies_in n) = (all_good s.size s.base 0 s.descriptors is n).lies
descriptors_pass Id Room s id room is (has_offsets n) = (all_good s.size s.base 0 s.descriptors is n).offsets
descriptors_pass Id Room s id room is (has_mode n) = (all_good s.size s.base 0 s.descriptors is n).mode

id_refused : (Id Room : Type 0) (s : Subject) (at : ℕ) → (Id → ⊥) → IsFirstRefusal Id Room s at (refused NoId at)
id_refused Id Room s at fails = record {
  check = has_id;
  first = record { fails = fails; earlier = λ other before. absurd (elim before [ inl above ↦ omega arith | inr beside ↦ omega arith ]) };
  is = refl;
}

before_room : (Id Room : Type 0) (s : Subject) → Id → (other : Check) → Before (place other) (record { row = 1; index = 0 }) → Holds Id Room s other
before_room Id Room s id has_id before = id
before_room Id Room s id has_room before = absurd (elim before [ inl above ↦ omega arith | inr beside ↦ omega arith ])
before_room Id Room s id (lies_in n) before = absurd (elim before [ inl above ↦ omega arith | inr beside ↦ omega arith ])
before_room Id Room s id (has_offsets n) before = absurd (elim before [ inl above ↦ omega arith | inr beside ↦ omega arith ])
before_room Id Room s id (has_mode n) before = absurd (elim before [ inl above ↦ omega arith | inr beside ↦ omega arith ])

room_refused : (Id Room : Type 0) (s : Subject) (at : ℕ) → Id → (Room → ⊥) → IsFirstRefusal Id Room s at (refused Bounds at)
room_refused Id Room s at id fails = record { check = has_room; first = record { fails = fails; earlier = before_room Id Room s id }; is = refl }

as_first : {A : Type 0} (Id Room : Type 0) (s : Subject) (at : ℕ) (r : Result A ControlFault) (f fault : ControlFault) → r ≡ Err f → r ≡ Err fault
    → IsFirstRefusal Id Room s at f → IsFirstRefusal Id Room s at fault
as_first Id Room s at r f fault left right first = let is : f ≡ fault = cc in subst (λ (x : ControlFault). IsFirstRefusal Id Room s at x) is first

-- ---- read

pub read_refused : (image : List ℕ) (base at : ℕ) (fault : ControlFault) → block_at image base at ≡ Err fault
    → IsFirstRefusal (HasId image at) (HasBlock image at) (read_subject image base at) at fault
read_refused image base at fault is = elim (cases_Bool (starts_with_id (drop at image))) [
  | inr none ↦ as_first _ _ _ at (block_at image base at) (refused NoId at) fault (rw none refl) is (id_refused _ _ _ at (λ h. both_ways (starts_with_id (drop at image)) none ((starts_with_id-Decides image at).1 h)))
  | inl some ↦
      let id : HasId image at = (starts_with_id-Decides image at).0 some in
      elim (cases_lt (length image) (at + block_len (ups_at image at) (downs_at image at))) [
        | inl short ↦ as_first _ _ _ at (block_at image base at) (refused Bounds at) fault (rw (some, lt-ltb (length image) (at + block_len (ups_at image at) (downs_at image at)) short) refl) is
            (room_refused _ _ _ at id (λ h. omega arith))
        | inr fits ↦ descriptors_refused _ _ (read_subject image base at) at fault id fits
            (unless_err (first_refusal (length image) base 0 ((block_of image at).up ++ (block_of image at).down)) (block_of image at) fault
            (rw (some, le-ltb (length image) (at + block_len (ups_at image at) (downs_at image at)) fits) at is))
      ]
]

pub read_passes : (image : List ℕ) (base at : ℕ) (block : Block) → block_at image base at ≡ Ok block
    → Passes (HasId image at) (HasBlock image at) (read_subject image base at) × (block ≡ block_of image at)
read_passes image base at block is = elim (cases_Bool (starts_with_id (drop at image))) [
  | inr none ↦ let bad : Err (refused NoId at) ≡ Ok block = rw none at is in absurd (cc)
  | inl some ↦
      let id : HasId image at = (starts_with_id-Decides image at).0 some in
      elim (cases_lt (length image) (at + block_len (ups_at image at) (downs_at image at))) [
        | inl short ↦
            let bad : Err (refused Bounds at) ≡ Ok block = rw (some, lt-ltb (length image) (at + block_len (ups_at image at) (downs_at image at)) short) at is in
            absurd (cc)
        | inr fits ↦
            let parts = unless_ok (first_refusal (length image) base 0 ((block_of image at).up ++ (block_of image at).down)) (block_of image at) block
            (rw (some, le-ltb (length image) (at + block_len (ups_at image at) (downs_at image at)) fits) at is) in
            (descriptors_pass _ _ (read_subject image base at) id fits parts.0, parts.1)
      ]
]

-- ---- write

pub write_refused : (block : Block) (image : List ℕ) (base at : ℕ) (fault : ControlFault) → written block image base at ≡ Err fault
    → IsFirstRefusal (Unit {0}) (HasSpace image at block) (write_subject image base block) at fault
write_refused block image base at fault is =
    let len : ℕ = at + block_len (length block.up) (length block.down) in
    elim (cases_lt (length image) len) [
      | inl short ↦ as_first _ _ _ at (written block image base at) (refused Bounds at) fault (rw (lt-ltb (length image) len short) refl) is (room_refused _ _ _ at tt (λ h. omega arith))
      | inr fits ↦ descriptors_refused _ _ (write_subject image base block) at fault tt fits (unless_err (first_refusal (length image) base 0 (block.up ++ block.down)) (with_bytes image at (block_bytes block.up block.down)) fault (rw (le-ltb (length image) len fits) at is))
    ]

pub write_passes : (block : Block) (image new : List ℕ) (base at : ℕ) → written block image base at ≡ Ok new
    → Passes (Unit {0}) (HasSpace image at block) (write_subject image base block) × (new ≡ with_bytes image at (block_bytes block.up block.down))
write_passes block image new base at is =
    let len : ℕ = at + block_len (length block.up) (length block.down) in
    elim (cases_lt (length image) len) [
      | inl short ↦ let bad : Err (refused Bounds at) ≡ Ok new = rw (lt-ltb (length image) len short) at is in absurd (cc)
      | inr fits ↦
          let parts = unless_ok (first_refusal (length image) base 0 (block.up ++ block.down)) (with_bytes image at (block_bytes block.up block.down)) new
          (rw (le-ltb (length image) len fits) at is) in
          (descriptors_pass _ _ (write_subject image base block) tt fits parts.0, parts.1)
    ]

-- ---- unread

pub unread_refused : (image : List ℕ) (base : ℕ) (d : Descriptor) (fault : ControlFault) → unread_of image base d ≡ Err fault
    → IsFirstRefusal (Unit {0}) (Unit {0}) (unread_subject image base d) 0 fault
unread_refused image base d fault is = descriptors_refused _ _ (unread_subject image base d) 0 fault tt tt (unless_err (first_refusal (length image) base 0 (d ∷ [])) (waiting image base d) fault is)

pub unread_passes : (image bytes : List ℕ) (base : ℕ) (d : Descriptor) → unread_of image base d ≡ Ok bytes
    → Passes (Unit {0}) (Unit {0}) (unread_subject image base d) × (bytes ≡ waiting image base d)
unread_passes image bytes base d is =
    let parts = unless_ok (first_refusal (length image) base 0 (d ∷ [])) (waiting image base d) bytes is in
    (descriptors_pass _ _ (unread_subject image base d) tt tt parts.0, parts.1)

-- ---- want of memory is free

pub read_refusal : (image : List ℕ) (base at : ℕ) (fault : ControlFault) → IsAnswer (block_at image base at) fault
    → IsRefusal (HasId image at) (HasBlock image at) (read_subject image base at) at fault
read_refusal image base at Memory is = tt
read_refusal image base at (Refused cause place) is = read_refused image base at (Refused cause place) is

pub unread_refusal : (image : List ℕ) (base : ℕ) (d : Descriptor) (fault : ControlFault) → IsAnswer (unread_of image base d) fault
    → IsRefusal (Unit {0}) (Unit {0}) (unread_subject image base d) 0 fault
unread_refusal image base d Memory is = tt
unread_refusal image base d (Refused cause place) is = unread_refused image base d (Refused cause place) is
