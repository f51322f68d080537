-- The events of statements that are sent as frames.
use Rattle.std.proofs.Common.{◌≡◌, ◌+◌, ◌<◌, ◌≤◌, ◌^◌, ℕ, Bool, true, false, cond, nat_le, List, [], ◌∷◌, ◌++◌, length, length-append, map, take, drop, replicate, Option, refl, ap, ◌∙◌, arith}
use Rattle.rzcobs_core.specs.Blocks.{Blocks, end}
use Rattle.rzcobs_core.proofs.Backwards.{NoZero-blocks}
use Rattle.rzcobs_core.proofs.Greedy.{canon_stands}
use Rattle.rzcobs_core.proofs.OneReading.{one_reading}
use Rattle.rzcobs_core.proofs.Sizes.{some_canon}
use Rattle.rzcobs_core.proofs.Steps.{code_size}
use Rattle.defmt_framing.specs.Cut.{has_zero, front, pieces, tail}
use Rattle.defmt_framing.specs.Frames.{frame_of, AreCodes, beginning_from, ending_by}
use Rattle.defmt_framing.specs.Told.{of_front, of_tail, cut_off, events}
use Rattle.defmt_framing.proofs.FrameCodes.{no_zero}
use Rattle.defmt_framing.proofs.Telling.{intact}
use Rattle.defmt_framing.proofs.Truncating as framing
use Rattle.defmt_intern.specs.Catalog.{Catalog}
use Rattle.defmt_values.specs.Plain.{Vals}
use Rattle.defmt_eager.specs.Line.{eager_line, IsWide}
use Rattle.defmt_encode.specs.Carry.{message_of}
use Rattle.defmt_encode.specs.Heard.{IsHeard}
use Rattle.defmt_encode.proofs.Laws.{reads_back}
use Rattle.defmt_encode.proofs.Lengths.{message_lengths}
use Rattle.defmt_decode.specs.Event.{IsEventOf, line_told, tells, event_of, events_of}
use Rattle.defmt_decode.specs.Sent.{Sent, IsSent, AreSent, code_of, line_of, stream_of, sent_from, sent_by, front_event, tail_event}
use Rattle.defmt_plan.specs.Told.{parts_of}
use Rattle.defmt_decode.specs.declared.event.Event.{Event}
use Rattle.defmt_decode.specs.declared.event.Event.TheVariants.{Line}
use Rattle.defmt_decode.proofs.Bytes.{blocks_few}
use Rattle.defmt_decode.proofs.Deciding.{only}

-- ---- one statement

some_message : (t : Catalog) (place : Option ℕ) (stamp : Vals) (index : ℕ) (vs : Vals) → 0 < length (message_of t.entries place stamp index vs)
some_message t place stamp index vs = omega arith

pub code_none : (t : Catalog) (s : Sent) → has_zero (code_of t s) ≡ false
code_none t s = no_zero (code_of t s) (NoZero-blocks _ _ (canon_stands (message_of t.entries s.place s.stamp s.index s.args)).2)

pub code_some : (t : Catalog) (s : Sent) → 0 < length (code_of t s)
code_some t s = some_canon _ (some_message t s.place s.stamp s.index s.args)

pub code_short : (t : Catalog) (s : Sent) → length (message_of t.entries s.place s.stamp s.index s.args) ≤ 2000 → length (code_of t s) ≤ 65536
code_short t s short = omega (arith, code_size (message_of t.entries s.place s.stamp s.index s.args))

sent_event : (t : Catalog) (s : Sent) → IsSent t s → IsEventOf t (code_of t s) (line_of t s)
sent_event t s sent =
    let message : List ℕ = message_of t.entries s.place s.stamp s.index s.args in
    let c = canon_stands message in
    let few : length (message ++ replicate c.0 0) < 2 ^ 32 = blocks_few (code_of t s) (message ++ replicate c.0 0) sent.short c.2 in
    let lengths = message_lengths t.entries s.place s.stamp s.index s.args (omega (arith, few, length-append message (replicate c.0 0))) in
    line_told _ s.place s.stamp s.index s.args sent.short c.2
    (reads_back t s.place s.stamp s.index s.args _ sent.placed sent.stamp_fits sent.fits sent.logged sent.stamp_sound sent.sound lengths c.2)
    sent.narrow

pub sent_line : (t : Catalog) (s : Sent) → IsSent t s → event_of t (code_of t s) ≡ line_of t s
sent_line t s sent = only t (code_of t s) (line_of t s) (sent_event t s sent)

-- ---- many

pub sent_codes : (t : Catalog) (sent : List Sent) → AreCodes (map (code_of t) sent)
sent_codes t [] = tt
sent_codes t (s ∷ sent) = (code_none t s, code_some t s, sent_codes t sent)

-- a statement in front, or none, whose line is its code's event
with_front : (t : Catalog) (b : Bool) (s : Sent) (codes : List (List ℕ)) (sent : List Sent) → IsSent t s → map (event_of t) codes ≡ map (line_of t) sent
    → map (event_of t) (cond b (code_of t s ∷ []) [] ++ codes) ≡ map (line_of t) (cond b (s ∷ []) [] ++ sent)
with_front t true s codes sent is same = ap (λ (e : Event). e ∷ map (event_of t) codes) (sent_line t s is) ∙ ap (λ (l : List Event). line_of t s ∷ l) same
with_front t false s codes sent is same = same

lines_from : (t : Catalog) (place at : ℕ) (sent : List Sent) → AreSent t sent
    → map (event_of t) (beginning_from place at (map (code_of t) sent)) ≡ map (line_of t) (sent_from t place at sent)
unfolding beginning_from sent_from
lines_from t place at [] are = refl
lines_from t place at (s ∷ sent) are =
    with_front t (nat_le place at) s _ _ are.0 (lines_from t place (at + length (frame_of (code_of t s))) sent are.1)

lines_by : (t : Catalog) (place at : ℕ) (sent : List Sent) → AreSent t sent
    → map (event_of t) (ending_by place at (map (code_of t) sent)) ≡ map (line_of t) (sent_by t place at sent)
unfolding ending_by sent_by
lines_by t place at [] are = refl
lines_by t place at (s ∷ sent) are =
    with_front t (nat_le (at + length (frame_of (code_of t s))) place) s _ _ are.0 (lines_by t place (at + length (frame_of (code_of t s))) sent are.1)

-- ---- streams

pub front_is : (t : Catalog) (bytes : List ℕ) → cut_off (of_front (tells t)) bytes ≡ front_event bytes
unfolding of_front tells
front_is t [] = refl
front_is t (b ∷ bytes) = refl

pub tail_is : (t : Catalog) (bytes : List ℕ) → cut_off (of_tail (tells t)) bytes ≡ tail_event bytes
unfolding of_tail tells
tail_is t [] = refl
tail_is t (b ∷ bytes) = refl

pub parts_are : (t : Catalog) (stream : List ℕ)
    → events_of t stream ≡ front_event (front stream) ++ (map (event_of t) (pieces stream) ++ tail_event (tail stream))
unfolding events
parts_are t stream =
    ap (λ (l : List Event). l ++ (map (event_of t) (pieces stream) ++ cut_off (of_tail (tells t)) (tail stream))) (front_is t (front stream))
    ∙ ap (λ (l : List Event). front_event (front stream) ++ (map (event_of t) (pieces stream) ++ l)) (tail_is t (tail stream))

pub front_gone : (t : Catalog) (place : ℕ) (sent : List Sent) → AreSent t sent
    → events_of t (drop place (stream_of t sent)) ≡ front_event (front (drop place (stream_of t sent))) ++ map (line_of t) (sent_from t place 0 sent)
front_gone t place sent are =
    framing.without_front (tells t) place (map (code_of t) sent) (sent_codes t sent)
    ∙ ap (λ (l : List Event). l ++ map (event_of t) (beginning_from place 0 (map (code_of t) sent))) (front_is t (front (drop place (stream_of t sent))))
    ∙ ap (λ (l : List Event). front_event (front (drop place (stream_of t sent))) ++ l) (lines_from t place 0 sent are)

pub end_gone : (t : Catalog) (place : ℕ) (sent : List Sent) → AreSent t sent
    → events_of t (take place (stream_of t sent)) ≡ map (line_of t) (sent_by t place 0 sent) ++ tail_event (tail (take place (stream_of t sent)))
end_gone t place sent are =
    framing.without_end (tells t) place (map (code_of t) sent) (sent_codes t sent)
    ∙ ap (λ (l : List Event). l ++ cut_off (of_tail (tells t)) (tail (take place (stream_of t sent)))) (lines_by t place 0 sent are)
    ∙ ap (λ (l : List Event). map (line_of t) (sent_by t place 0 sent) ++ l) (tail_is t (tail (take place (stream_of t sent))))

-- ---- intact frames

pub piece_intact : (t : Catalog) (p c q : List ℕ) → has_zero c ≡ false → 0 < length c
    → events_of t (p ++ (0 ∷ (c ++ (0 ∷ q)))) ≡ events_of t (p ++ 0 ∷ []) ++ (event_of t c ∷ events_of t (0 ∷ q))
piece_intact t p c q none some =
    intact (tells t) p c q none ∙ ap (λ (l : List Event). events_of t (p ++ 0 ∷ []) ++ (l ++ events_of t (0 ∷ q))) (framing.told-some (tells t) c some)

-- the event of a piece, in its place
event_intact : (t : Catalog) (p c q : List ℕ) (event : Event) → has_zero c ≡ false → 0 < length c → IsEventOf t c event
    → events_of t (p ++ (0 ∷ (c ++ (0 ∷ q)))) ≡ events_of t (p ++ 0 ∷ []) ++ (event ∷ events_of t (0 ∷ q))
event_intact t p c q event none some is =
    piece_intact t p c q none some ∙ ap (λ (e : Event). events_of t (p ++ 0 ∷ []) ++ (e ∷ events_of t (0 ∷ q))) (only t c event is)

pub sent_intact : (t : Catalog) (p q : List ℕ) (s : Sent) → IsSent t s
    → events_of t (p ++ (0 ∷ (code_of t s ++ (0 ∷ q)))) ≡ events_of t (p ++ 0 ∷ []) ++ (line_of t s ∷ events_of t (0 ∷ q))
sent_intact t p q s sent = event_intact t p (code_of t s) q (line_of t s) (code_none t s) (code_some t s) (sent_event t s sent)

-- what is heard is in bytes, so its code isn't empty
code_there : (t : Catalog) (code bytes : List ℕ) (place : Option ℕ) (stamp : Vals) (index : ℕ) (vs : Vals) → Blocks code bytes → IsHeard t bytes place stamp index vs → 0 < length code
code_there t [] bytes place stamp index vs blocks heard =
    absurd (omega (arith, ap length (one_reading [] bytes [] blocks end), ap length heard.message))
code_there t (c ∷ code) bytes place stamp index vs blocks heard = omega arith

pub heard_intact : (t : Catalog) (p c q bytes : List ℕ) (place : Option ℕ) (stamp : Vals) (index : ℕ) (vs : Vals) → length c ≤ 65536 → Blocks c bytes
    → IsHeard t bytes place stamp index vs → (IsWide t.entries stamp index vs → ⊥)
    → events_of t (p ++ (0 ∷ (c ++ (0 ∷ q)))) ≡ events_of t (p ++ 0 ∷ []) ++ (Line index place (parts_of t.entries (length c) stamp index) (eager_line t.entries stamp index vs) ∷ events_of t (0 ∷ q))
heard_intact t p c q bytes place stamp index vs short blocks heard narrow =
    event_intact t p c q _ (no_zero c (NoZero-blocks c bytes blocks)) (code_there t c bytes place stamp index vs blocks heard)
    (line_told bytes place stamp index vs short blocks heard narrow)
