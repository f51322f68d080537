-- The tests of a descriptor, and what they test.
use Rattle.std.proofs.Common.{◌≡◌, ◌∙◌, ℕ, zero, suc, ◌+◌, ◌-◌, ◌%◌, ◌<◌, List, [], ◌∷◌, ◌++◌, length, refl, sym, ap, subst, arith, inl, inr}
use Rattle.std.specs.Prelude.{◌==◌, ◌&&◌, Option, Some, None, IfSome, nat_le, nat_lt, slice_get}
use Rattle.std.specs.Bool.{Decides}
use Rattle.std.proofs.lemmas.Bool.{cases_Bool, cases_eq, both_ways, or_cases, and_parts, eqb-true, leb-true, ltb-true, eq-eqb, ne_eqb, le-leb, lt-ltb}
use Rattle.rtt_control.specs.declared.block.Descriptor.{Descriptor}
use Rattle.rtt_control.specs.declared.fault.Cause.{Cause}
use Rattle.rtt_control.specs.declared.fault.Cause.TheVariants.{NoId, Bounds, Offset, Flags, TwoIds}
use Rattle.rtt_control.specs.declared.fault.ControlFault.{ControlFault}
use Rattle.rtt_control.specs.Checks.{LiesIn, HasOffsets, HasMode, refused}
use Rattle.rtt_control.specs.Control.{lies_in, has_offsets, has_mode, cause_of, first_refusal, refused_or}

pub lies_in-Decides : (size base : ℕ) (d : Descriptor) → Decides (lies_in size base d) (LiesIn size base d)
lies_in-Decides size base d = (
  λ is some. elim (or_cases (d.size == 0) (nat_le base d.start && nat_le (d.start - base + d.size) size) is) [
    | inl none ↦ absurd (let e : d.size ≡ 0 = eqb-true d.size 0 none in omega arith)
    | inr both ↦ let parts = and_parts (nat_le base d.start) (nat_le (d.start - base + d.size) size) both in (leb-true base d.start parts.0, leb-true (d.start - base + d.size) size parts.1)
  ],
  λ lies. elim (cases_eq d.size 0) [
    | inl none ↦ rw (eq-eqb d.size 0 none) refl
    | inr some ↦ let inside = lies (omega arith) in rw (ne_eqb d.size 0 some, le-leb base d.start inside.0, le-leb (d.start - base + d.size) size inside.1) refl
  ],
)

pub has_offsets-Decides : (d : Descriptor) → Decides (has_offsets d) (HasOffsets d)
has_offsets-Decides d = elim (cases_eq d.size 0) [
  | inl none ↦ (
    λ is. let parts = and_parts (d.wr == 0) (d.rd == 0) (rw (eq-eqb d.size 0 none) at is) in ((λ _. (eqb-true d.wr 0 parts.0, eqb-true d.rd 0 parts.1)), λ some. absurd (omega arith)),
    λ has. let zeros = has.0 none in rw (eq-eqb d.size 0 none, eq-eqb d.wr 0 zeros.0, eq-eqb d.rd 0 zeros.1) refl,
  )
  | inr some ↦ (
    λ is. let parts = and_parts (nat_lt d.wr d.size) (nat_lt d.rd d.size) (rw (ne_eqb d.size 0 some) at is) in ((λ none. absurd (some none)), λ _. (ltb-true d.wr d.size parts.0, ltb-true d.rd d.size parts.1)),
    λ has. let within = has.1 (omega arith) in rw (ne_eqb d.size 0 some, lt-ltb d.wr d.size within.0, lt-ltb d.rd d.size within.1) refl,
  )
]

pub has_mode-Decides : (d : Descriptor) → Decides (has_mode d) (HasMode d)
has_mode-Decides d = (ltb-true (d.flags % 4) 3, lt-ltb (d.flags % 4) 3)

-- what doesn't hold where a descriptor has this cause, and what does
abbrev pub FailsWith : ℕ → ℕ → Descriptor → Cause → Type 0
FailsWith size base d NoId = ⊥
FailsWith size base d Bounds = LiesIn size base d → ⊥
FailsWith size base d Offset = LiesIn size base d × (HasOffsets d → ⊥)
FailsWith size base d Flags = LiesIn size base d × HasOffsets d × (HasMode d → ⊥)
FailsWith size base d TwoIds = ⊥

fails_at : (size base : ℕ) (d : Descriptor) (c e : Cause) → Some c ≡ Some e → FailsWith size base d c → FailsWith size base d e
fails_at size base d c e same fails = let is : c ≡ e = cc in subst (λ (x : Cause). FailsWith size base d x) is fails

pub cause_some : (size base : ℕ) (d : Descriptor) (c : Cause) → cause_of size base d ≡ Some c → FailsWith size base d c
unfolding cause_of
cause_some size base d c is = elim (cases_Bool (lies_in size base d)) [
  | inr out ↦ fails_at size base d Bounds c (rw out at is) (λ h. both_ways (lies_in size base d) out ((lies_in-Decides size base d).1 h))
  | inl inside ↦
      let lies = (lies_in-Decides size base d).0 inside in
      elim (cases_Bool (has_offsets d)) [
        | inr off ↦ fails_at size base d Offset c (rw (inside, off) at is) (lies, λ h. both_ways (has_offsets d) off ((has_offsets-Decides d).1 h))
        | inl on ↦
            let offsets = (has_offsets-Decides d).0 on in
            elim (cases_Bool (has_mode d)) [
              | inr other ↦ fails_at size base d Flags c (rw (inside, on, other) at is) (lies, offsets, λ h. both_ways (has_mode d) other ((has_mode-Decides d).1 h))
              | inl known ↦ let none : None ≡ Some c = rw (inside, on, known) at is in absurd (cc)
            ]
      ]
]

pub cause_none : (size base : ℕ) (d : Descriptor) → cause_of size base d ≡ None → LiesIn size base d × HasOffsets d × HasMode d
unfolding cause_of
cause_none size base d is = elim (cases_Bool (lies_in size base d)) [
  | inr out ↦ let some : Some Bounds ≡ None = rw out at is in absurd (cc)
  | inl inside ↦ elim (cases_Bool (has_offsets d)) [
    | inr off ↦ let some : Some Offset ≡ None = rw (inside, off) at is in absurd (cc)
    | inl on ↦ elim (cases_Bool (has_mode d)) [
      | inr other ↦ let some : Some Flags ≡ None = rw (inside, on, other) at is in absurd (cc)
      | inl known ↦ ((lies_in-Decides size base d).0 inside, (has_offsets-Decides d).0 on, (has_mode-Decides d).0 known)
    ]
  ]
]

-- ---- a list of descriptors

-- the descriptor number k, if there is one, has no cause
pub record IsGood (size base : ℕ) (ds : List Descriptor) (k : ℕ) : Type 0 where
  pub lies : IfSome (slice_get ds k) (LiesIn size base)
  pub offsets : IfSome (slice_get ds k) HasOffsets
  pub mode : IfSome (slice_get ds k) HasMode

good_here : (size base : ℕ) (d : Descriptor) (ds : List Descriptor) → cause_of size base d ≡ None → IsGood size base (d ∷ ds) 0
good_here size base d ds is = let all = cause_none size base d is in record { lies = all.0; offsets = all.1; mode = all.2 }

good_later : (size base : ℕ) (d : Descriptor) (ds : List Descriptor) (k : ℕ) → IsGood size base ds k → IsGood size base (d ∷ ds) (suc k)
good_later size base d ds k good = record { lies = good.lies; offsets = good.offsets; mode = good.mode }

none_parts : (o : Option Cause) (n : ℕ) (later : Option ControlFault) → refused_or o n later ≡ None → (o ≡ None) × (later ≡ None)
none_parts None n later is = (refl, is)
none_parts (Some c) n later is = absurd (cc)

pub all_good : (size base n : ℕ) (ds : List Descriptor) → first_refusal size base n ds ≡ None → (k : ℕ) → IsGood size base ds k
all_good size base n [] is k = record { lies = tt; offsets = tt; mode = tt }
all_good size base n (d ∷ ds) is zero = good_here size base d ds (none_parts (cause_of size base d) n (first_refusal size base (n + 1) ds) is).0
all_good size base n (d ∷ ds) is (suc k) =
    good_later size base d ds k (all_good size base (n + 1) ds (none_parts (cause_of size base d) n (first_refusal size base (n + 1) ds) is).1 k)

-- the first descriptor with a cause
pub record IsFirstBad (size base n : ℕ) (ds : List Descriptor) (fault : ControlFault) : Type 0 where
  pub number : ℕ
  pub cause : Cause
  pub is : fault ≡ refused cause (n + number)
  pub bad : Descriptor
  pub here : slice_get ds number ≡ Some bad
  pub fails : FailsWith size base bad cause
  pub earlier : (k : ℕ) → k < number → IsGood size base ds k

earlier_too : (size base : ℕ) (d : Descriptor) (ds : List Descriptor) (m : ℕ) → IsGood size base (d ∷ ds) 0 → ((k : ℕ) → k < m → IsGood size base ds k)
    → (k : ℕ) → k < suc m → IsGood size base (d ∷ ds) k
earlier_too size base d ds m first later zero lt = first
earlier_too size base d ds m first later (suc k) lt = good_later size base d ds k (later k (omega arith))

pub first_bad : (size base n : ℕ) (ds : List Descriptor) (fault : ControlFault) → first_refusal size base n ds ≡ Some fault → IsFirstBad size base n ds fault
first_bad size base n [] fault is = absurd (cc)
first_bad size base n (d ∷ ds) fault is =
    elim (cause_of size base d) as (λ o. cause_of size base d ≡ o → refused_or o n (first_refusal size base (n + 1) ds) ≡ Some fault → IsFirstBad size base n (d ∷ ds) fault) [
      | Some c ↦ λ cause same.
          let fault_is : refused c n ≡ fault = cc in
          let place : n ≡ n + 0 = omega arith in
          record {
            number = 0;
            cause = c;
            is = sym fault_is ∙ ap (refused c) place;
            bad = d;
            here = refl;
            fails = cause_some size base d c cause;
            earlier = λ k lt. absurd (omega arith);
          }
      | None ↦ λ cause same.
          let later = first_bad size base (n + 1) ds fault same in
          let place : n + 1 + later.number ≡ n + suc later.number = omega arith in
          record {
            number = suc later.number;
            cause = later.cause;
            is = later.is ∙ ap (refused later.cause) place;
            bad = later.bad;
            here = later.here;
            fails = later.fails;
            earlier = earlier_too size base d ds later.number (good_here size base d ds cause) later.earlier;
          }
    ] refl is

-- ---- two lists

-- what the second list is refused for, where the first isn't
abbrev pub or_later : Option ControlFault → Option ControlFault → Option ControlFault
or_later (Some fault) later = Some fault
or_later None later = later

joined_or : (o : Option Cause) (n : ℕ) (mid later : Option ControlFault) → refused_or o n (or_later mid later) ≡ or_later (refused_or o n mid) later
joined_or (Some c) n mid later = refl
joined_or None n mid later = refl

pub first_refusal_joined : (size base n : ℕ) (xs ys : List Descriptor)
    → first_refusal size base n (xs ++ ys) ≡ or_later (first_refusal size base n xs) (first_refusal size base (n + length xs) ys)
first_refusal_joined size base n [] ys = let e : n ≡ n + 0 = omega arith in ap (λ (k : ℕ). first_refusal size base k ys) e
first_refusal_joined size base n (x ∷ xs) ys =
    let e : n + 1 + length xs ≡ n + suc (length xs) = omega arith in
    ap (refused_or (cause_of size base x) n) (first_refusal_joined size base (n + 1) xs ys)
    ∙ joined_or (cause_of size base x) n (first_refusal size base (n + 1) xs) (first_refusal size base (n + 1 + length xs) ys)
    ∙ ap (λ (k : ℕ). or_later (refused_or (cause_of size base x) n (first_refusal size base (n + 1) xs)) (first_refusal size base k ys)) e
