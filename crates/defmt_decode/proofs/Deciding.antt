-- The event of a piece as a relation and as a function agree.
use Rattle.std.proofs.Common.{◌≡◌, ◌<◌, ◌≤◌, inl, inr, ℕ, Bool, true, false, cond, List, length, All, Option, Some, None, Ok, Err, refl, sym, ap, subst, ◌∙◌}
use Rattle.std.proofs.lemmas.Bool.{cases_Bool, cases_lt, or_cases, or_left, or_right, ltb-true, lt-ltb, le-leb, lt-leb, true≢false}
use Rattle.rzcobs_core.specs.Blocks.{Blocks, IsNoCode}
use Rattle.defmt_framing.specs.Decoded.{decoded}
use Rattle.defmt_framing.specs.Told.{of_piece}
use Rattle.defmt_framing.proofs.Agree.{decoded_found, decoded_none}
use Rattle.defmt_framing.proofs.Decides.{IsTold, told}
use Rattle.defmt_intern.specs.Catalog.{Catalog}
use Rattle.defmt_intern.specs.Table.{Map}
use Rattle.defmt_values.specs.Plain.{Vals}
use Rattle.defmt_eager.specs.Line.{eager_line, IsWide}
use Rattle.defmt_encode.specs.Cause.{cause_number}
use Rattle.defmt_encode.specs.Heard.{IsHeard}
use Rattle.defmt_encode.specs.Met.{IsMet}
use Rattle.defmt_encode.specs.Read.{Read}
use Rattle.defmt_encode.proofs.Numbers.{AreBytes}
use Rattle.defmt_encode.proofs.Laws.{heard_found, heard_again, met_found, met_again}
use Rattle.defmt_decode.proofs.Bytes.{are_bytes, blocks_bytes}
use Rattle.defmt_decode.specs.Event.{IsEventOf, too_long, no_code, line_told, too_wide, not_heard, is_wide, of_heard, read_of, of_read, of_code, tells, event_of, PlaceSuits}
use Rattle.defmt_plan.specs.Told.{parts_of}
use Rattle.defmt_decode.specs.declared.event.Event.{Event}
use Rattle.defmt_decode.specs.declared.event.Event.TheVariants.{Line, Bad}
use Rattle.defmt_decode.specs.declared.reader.Refusal.TheVariants.{Cobs, Long, Wide}
use Rattle.defmt_decode.specs.Refusal.{refused}

-- ---- wide

wide_so : (t : Map) (stamp : Vals) (index : ℕ) (vs : Vals) → is_wide t stamp index vs ≡ true → IsWide t stamp index vs
wide_so t stamp index vs e = elim (or_cases _ _ e) [ inl long ↦ inl (ltb-true _ _ long) | inr long ↦ inr (ltb-true _ _ long) ]

wide_test : (t : Map) (stamp : Vals) (index : ℕ) (vs : Vals) → IsWide t stamp index vs → is_wide t stamp index vs ≡ true
wide_test t stamp index vs (inl long) = or_left _ _ (lt-ltb _ _ long)
wide_test t stamp index vs (inr long) = or_right _ _ (lt-ltb _ _ long)

narrow_so : (t : Map) (stamp : Vals) (index : ℕ) (vs : Vals) → is_wide t stamp index vs ≡ false → IsWide t stamp index vs → ⊥
narrow_so t stamp index vs e wide = true≢false (sym (wide_test t stamp index vs wide) ∙ e)

narrow_test : (t : Map) (stamp : Vals) (index : ℕ) (vs : Vals) → (IsWide t stamp index vs → ⊥) → is_wide t stamp index vs ≡ false
narrow_test t stamp index vs narrow = elim (cases_Bool (is_wide t stamp index vs)) [
  | inl e ↦ absurd (narrow (wide_so t stamp index vs e))
  | inr e ↦ e
]

pub heard_wide : (t : Catalog) (size : ℕ) (place : Option ℕ) (stamp : Vals) (index : ℕ) (vs : Vals) → IsWide t.entries stamp index vs → of_heard t size place stamp index vs ≡ refused Wide
heard_wide t size place stamp index vs wide = ap (λ (b : Bool). cond b (refused Wide) (Line index place (parts_of t.entries size stamp index) (eager_line t.entries stamp index vs))) (wide_test t.entries stamp index vs wide)

pub heard_narrow : (t : Catalog) (size : ℕ) (place : Option ℕ) (stamp : Vals) (index : ℕ) (vs : Vals) → (IsWide t.entries stamp index vs → ⊥)
    → of_heard t size place stamp index vs ≡ Line index place (parts_of t.entries size stamp index) (eager_line t.entries stamp index vs)
heard_narrow t size place stamp index vs narrow = ap (λ (b : Bool). cond b (refused Wide) (Line index place (parts_of t.entries size stamp index) (eager_line t.entries stamp index vs))) (narrow_test t.entries stamp index vs narrow)

-- ---- read

pub heard_read : (t : Catalog) (bytes : List ℕ) (size : ℕ) (place : Option ℕ) (stamp : Vals) (index : ℕ) (vs : Vals) → IsHeard t bytes place stamp index vs
    → of_read t size (read_of t bytes) ≡ of_heard t size place stamp index vs
unfolding read_of
heard_read t bytes size place stamp index vs heard = ap (of_read t size) (heard_again t bytes place stamp index vs heard)

pub met_read : (t : Catalog) (bytes : List ℕ) (size cause : ℕ) → IsMet t bytes cause → of_read t size (read_of t bytes) ≡ Bad cause
unfolding read_of
met_read t bytes size cause (c, number, meets) = ap (of_read t size) (met_again t bytes c meets) ∙ ap (λ (n : ℕ). Bad n) (sym number)

-- ---- by the length and the code

long_is : (t : Catalog) (piece : List ℕ) → 65536 < length piece → event_of t piece ≡ refused Long
unfolding of_piece tells
long_is t piece long = ap (λ (b : Bool). cond b (of_code t (length piece) (decoded piece)) (refused Long)) (lt-leb (length piece) 65536 long)

short_is : (t : Catalog) (piece : List ℕ) → length piece ≤ 65536 → event_of t piece ≡ of_code t (length piece) (decoded piece)
unfolding of_piece tells
short_is t piece short = ap (λ (b : Bool). cond b (of_code t (length piece) (decoded piece)) (refused Long)) (le-leb (length piece) 65536 short)

read_is : (t : Catalog) (piece bytes : List ℕ) → length piece ≤ 65536 → Blocks piece bytes → event_of t piece ≡ of_read t (length piece) (read_of t bytes)
read_is t piece bytes short blocks = short_is t piece short ∙ ap (of_code t (length piece)) (decoded_found piece bytes blocks)

none_is : (t : Catalog) (piece : List ℕ) → length piece ≤ 65536 → IsNoCode piece → event_of t piece ≡ refused Cobs
none_is t piece short none = short_is t piece short ∙ ap (of_code t (length piece)) (decoded_none piece none)

-- ---- what the relation says is answered

pub only : (t : Catalog) (piece : List ℕ) (event : Event) → IsEventOf t piece event → event_of t piece ≡ event
only t piece _ (too_long long) = long_is t piece long
only t piece _ (no_code short none) = none_is t piece short none
only t piece _ (line_told bytes place stamp index vs short blocks heard narrow) =
    read_is t piece bytes short blocks ∙ heard_read t bytes (length piece) place stamp index vs heard ∙ heard_narrow t (length piece) place stamp index vs narrow
only t piece _ (too_wide bytes place stamp index vs short blocks heard wide) =
    read_is t piece bytes short blocks ∙ heard_read t bytes (length piece) place stamp index vs heard ∙ heard_wide t (length piece) place stamp index vs wide
only t piece _ (not_heard bytes cause short blocks met) = read_is t piece bytes short blocks ∙ met_read t bytes (length piece) cause met

-- ---- what is answered the relation says

by_width : (t : Catalog) (piece bytes : List ℕ) (place : Option ℕ) (stamp : Vals) (index : ℕ) (vs : Vals) → length piece ≤ 65536 → Blocks piece bytes
    → IsHeard t bytes place stamp index vs → IsEventOf t piece (of_heard t (length piece) place stamp index vs)
by_width t piece bytes place stamp index vs short blocks heard = elim (cases_Bool (is_wide t.entries stamp index vs)) [
  | inl e ↦
      let wide = wide_so t.entries stamp index vs e in
      subst (IsEventOf t piece) (sym (heard_wide t (length piece) place stamp index vs wide)) (too_wide bytes place stamp index vs short blocks heard wide)
  | inr e ↦
      let narrow = narrow_so t.entries stamp index vs e in
      subst (IsEventOf t piece) (sym (heard_narrow t (length piece) place stamp index vs narrow)) (line_told bytes place stamp index vs short blocks heard narrow)
]

by_read : (t : Catalog) (piece bytes : List ℕ) (r : Read (Option ℕ × Vals × ℕ × Vals)) → AreBytes bytes → read_of t bytes ≡ r → length piece ≤ 65536
    → Blocks piece bytes → IsEventOf t piece (of_read t (length piece) r)
unfolding read_of
by_read t piece bytes (Ok (place, stamp, index, vs)) all e short blocks = by_width t piece bytes place stamp index vs short blocks (heard_found t bytes place stamp index vs all e)
by_read t piece bytes (Err cause) all e short blocks = not_heard bytes (cause_number cause) short blocks (cause, refl, met_found t bytes cause all e)

by_code : (t : Catalog) (piece : List ℕ) (o : Option (List ℕ)) → AreBytes piece → IsTold piece o → length piece ≤ 65536 → IsEventOf t piece (event_of t piece)
by_code t piece (Some bytes) all blocks short =
    subst (IsEventOf t piece) (sym (read_is t piece bytes short blocks))
    (by_read t piece bytes (read_of t bytes) (blocks_bytes piece bytes blocks all) refl short blocks)
by_code t piece None all none short = subst (IsEventOf t piece) (sym (none_is t piece short none)) (no_code short none)

pub is_event : (t : Catalog) (piece : List ℕ) → All (λ b. b < 256) piece → IsEventOf t piece (event_of t piece)
is_event t piece all = elim (cases_lt 65536 (length piece)) [
  | inl long ↦ subst (IsEventOf t piece) (sym (long_is t piece long)) (too_long long)
  | inr short ↦ by_code t piece (decoded piece) (are_bytes piece all) (told piece) short
]

-- ---- places

pub suits : (t : Catalog) (piece : List ℕ) (event : Event) → IsEventOf t piece event → PlaceSuits t.profile event
suits t piece _ (too_long long) = tt
suits t piece _ (no_code short none) = tt
suits t piece _ (line_told bytes place stamp index vs short blocks heard narrow) = heard.placed
suits t piece _ (too_wide bytes place stamp index vs short blocks heard wide) = tt
suits t piece _ (not_heard bytes cause short blocks met) = tt
