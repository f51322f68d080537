-- A cut between two frames of statements that are sent, and one within a frame.
use Rattle.std.proofs.Common.{◌≡◌, ℕ, ◌+◌, ◌<◌, ◌≤◌, Bool, cond, List, [], ◌∷◌, ◌++◌, length, map, take, drop, refl, ap, subst, ◌∙◌, arith}
use Rattle.std.proofs.lemmas.Bool.{le-leb, lt-leb}
use Rattle.std.proofs.lemmas.List.{map-append}
use Rattle.defmt_framing.specs.Frames.{frame_of, frames, AreCodes}
use Rattle.defmt_framing.proofs.InFrames as framing
use Rattle.defmt_framing.proofs.Truncating.{size_of}
use Rattle.defmt_intern.specs.Catalog.{Catalog}
use Rattle.defmt_decode.specs.Event.{tells, event_of, events_of}
use Rattle.defmt_decode.specs.Sent.{Sent, AreSent, code_of, line_of, stream_of, sent_from, sent_by, front_event, tail_event}
use Rattle.defmt_decode.specs.declared.event.Event.{Event}
use Rattle.defmt_decode.proofs.Sending.{sent_line, sent_codes, front_is, tail_is}

-- ---- which frames

abbrev size : Catalog → Sent → ℕ
size t s = length (frame_of (code_of t s))

size_more : (t : Catalog) (s : Sent) (sent : List Sent) → length (stream_of t (s ∷ sent)) ≡ size t s + length (stream_of t sent)
size_more t s sent = framing.size_more (code_of t s) (map (code_of t) sent)

not_from : (t : Catalog) (place at : ℕ) (s : Sent) (sent : List Sent) → at < place → sent_from t place at (s ∷ sent) ≡ sent_from t place (at + size t s) sent
unfolding sent_from
not_from t place at s sent less = ap (λ (b : Bool). cond b (s ∷ []) [] ++ sent_from t place (at + size t s) sent) (lt-leb place at less)

all_from : (t : Catalog) (place at : ℕ) (sent : List Sent) → place ≤ at → sent_from t place at sent ≡ sent
unfolding sent_from
all_from t place at [] le = refl
all_from t place at (s ∷ sent) le =
    ap (λ (b : Bool). cond b (s ∷ []) [] ++ sent_from t place (at + size t s) sent) (le-leb place at le)
    ∙ ap (λ (l : List Sent). s ∷ l) (all_from t place (at + size t s) sent (omega arith))

is_by : (t : Catalog) (place at : ℕ) (s : Sent) (sent : List Sent) → at + size t s ≤ place → sent_by t place at (s ∷ sent) ≡ s ∷ sent_by t place (at + size t s) sent
unfolding sent_by
is_by t place at s sent le = ap (λ (b : Bool). cond b (s ∷ []) [] ++ sent_by t place (at + size t s) sent) (le-leb (at + size t s) place le)

none_by : (t : Catalog) (place at : ℕ) (sent : List Sent) → place ≤ at → sent_by t place at sent ≡ []
unfolding sent_by
none_by t place at [] le = refl
none_by t place at (s ∷ sent) le =
    ap (λ (b : Bool). cond b (s ∷ []) [] ++ sent_by t place (at + size t s) sent) (lt-leb (at + size t s) place (omega arith))
    ∙ none_by t place (at + size t s) sent (omega arith)

not_by : (t : Catalog) (place at : ℕ) (s : Sent) (sent : List Sent) → place < at + size t s → sent_by t place at (s ∷ sent) ≡ []
unfolding sent_by
not_by t place at s sent less =
    ap (λ (b : Bool). cond b (s ∷ []) [] ++ sent_by t place (at + size t s) sent) (lt-leb (at + size t s) place less)
    ∙ none_by t place (at + size t s) sent (omega arith)

pub from_between : (t : Catalog) (place at : ℕ) (before after : List Sent) → place ≡ at + length (stream_of t before) → sent_from t place at (before ++ after) ≡ after
from_between t place at [] after is = all_from t place at after (omega (arith, is, framing.size_none))
from_between t place at (s ∷ before) after is =
    not_from t place at s (before ++ after) (omega (arith, is, size_more t s before))
    ∙ from_between t place (at + size t s) before after (omega (arith, is, size_more t s before))

pub by_between : (t : Catalog) (place at : ℕ) (before after : List Sent) → place ≡ at + length (stream_of t before) → sent_by t place at (before ++ after) ≡ before
by_between t place at [] after is = none_by t place at after (omega (arith, is, framing.size_none))
by_between t place at (s ∷ before) after is =
    is_by t place at s (before ++ after) (omega (arith, is, size_more t s before))
    ∙ ap (λ (l : List Sent). s ∷ l) (by_between t place (at + size t s) before after (omega (arith, is, size_more t s before)))

pub from_within : (t : Catalog) (place at : ℕ) (before after : List Sent) (s : Sent)
    → at + length (stream_of t before) < place → place < at + length (stream_of t before) + size t s → sent_from t place at (before ++ s ∷ after) ≡ after
from_within t place at [] after s late early =
    not_from t place at s after (omega (arith, late)) ∙ all_from t place (at + size t s) after (omega (arith, early, framing.size_none))
from_within t place at (b ∷ before) after s late early =
    not_from t place at b (before ++ s ∷ after) (omega (arith, late))
    ∙ from_within t place (at + size t b) before after s (omega (arith, late, size_more t b before)) (omega (arith, early, size_more t b before))

pub by_within : (t : Catalog) (place at : ℕ) (before after : List Sent) (s : Sent)
    → at + length (stream_of t before) < place → place < at + length (stream_of t before) + size t s → sent_by t place at (before ++ s ∷ after) ≡ before
by_within t place at [] after s late early = not_by t place at s after (omega (arith, early, framing.size_none))
by_within t place at (b ∷ before) after s late early =
    is_by t place at b (before ++ s ∷ after) (omega (arith, late, size_more t b before))
    ∙ ap (λ (l : List Sent). b ∷ l) (by_within t place (at + size t b) before after s (omega (arith, late, size_more t b before)) (omega (arith, early, size_more t b before)))

pub size_is : (t : Catalog) (s : Sent) → size t s ≡ length (code_of t s) + 2
size_is t s = size_of (code_of t s)

-- ---- their events

left : (t : Catalog) (before after : List Sent) → AreSent t (before ++ after) → AreSent t before
left t [] after are = tt
left t (s ∷ before) after are = (are.0, left t before after are.1)

right : (t : Catalog) (before after : List Sent) → AreSent t (before ++ after) → AreSent t after
right t [] after are = are
right t (s ∷ before) after are = right t before after are.1

codes_are : (t : Catalog) (before after : List Sent) → AreCodes (map (code_of t) before ++ map (code_of t) after)
codes_are t before after = subst AreCodes (map-append (code_of t) before after) (sent_codes t (before ++ after))

lines_are : (t : Catalog) (sent : List Sent) → AreSent t sent → map (event_of t) (map (code_of t) sent) ≡ map (line_of t) sent
lines_are t [] are = refl
lines_are t (s ∷ sent) are =
    ap (λ (e : Event). e ∷ map (event_of t) (map (code_of t) sent)) (sent_line t s are.0)
    ∙ ap (λ (l : List Event). line_of t s ∷ l) (lines_are t sent are.1)

pub told_from : (t : Catalog) (before after : List Sent) → AreSent t (before ++ after) → events_of t (drop (length (stream_of t before)) (stream_of t (before ++ after))) ≡ map (line_of t) after
told_from t before after are =
    ap (λ (codes : List (List ℕ)). events_of t (drop (length (stream_of t before)) (frames codes))) (map-append (code_of t) before after)
    ∙ framing.told_from (tells t) (map (code_of t) before) (map (code_of t) after) (codes_are t before after)
    ∙ lines_are t after (right t before after are)

pub told_by : (t : Catalog) (before after : List Sent) → AreSent t (before ++ after) → events_of t (take (length (stream_of t before)) (stream_of t (before ++ after))) ≡ map (line_of t) before
told_by t before after are =
    ap (λ (codes : List (List ℕ)). events_of t (take (length (stream_of t before)) (frames codes))) (map-append (code_of t) before after)
    ∙ framing.told_by (tells t) (map (code_of t) before) (map (code_of t) after) (codes_are t before after)
    ∙ lines_are t before (left t before after are)

pub told_behind : (t : Catalog) (n : ℕ) (before after : List Sent) (s : Sent) → AreSent t (before ++ s ∷ after) → n ≤ length (code_of t s)
    → events_of t (drop (length (stream_of t before) + 1 + n) (stream_of t (before ++ s ∷ after))) ≡ front_event (drop n (code_of t s)) ++ map (line_of t) after
told_behind t n before after s are short =
    ap (λ (codes : List (List ℕ)). events_of t (drop (length (stream_of t before) + 1 + n) (frames codes))) (map-append (code_of t) before (s ∷ after))
    ∙ framing.told_behind (tells t) n (map (code_of t) before) (map (code_of t) after) (code_of t s) (codes_are t before (s ∷ after)) short
    ∙ ap (λ (l : List Event). l ++ map (event_of t) (map (code_of t) after)) (front_is t (drop n (code_of t s)))
    ∙ ap (λ (l : List Event). front_event (drop n (code_of t s)) ++ l) (lines_are t after ((right t before (s ∷ after) are).1))

pub told_ahead : (t : Catalog) (n : ℕ) (before after : List Sent) (s : Sent) → AreSent t (before ++ s ∷ after) → n ≤ length (code_of t s)
    → events_of t (take (length (stream_of t before) + 1 + n) (stream_of t (before ++ s ∷ after))) ≡ map (line_of t) before ++ tail_event (take n (code_of t s))
told_ahead t n before after s are short =
    ap (λ (codes : List (List ℕ)). events_of t (take (length (stream_of t before) + 1 + n) (frames codes))) (map-append (code_of t) before (s ∷ after))
    ∙ framing.told_ahead (tells t) n (map (code_of t) before) (map (code_of t) after) (code_of t s) (codes_are t before (s ∷ after)) short
    ∙ ap (λ (l : List Event). map (event_of t) (map (code_of t) before) ++ l) (tail_is t (take n (code_of t s)))
    ∙ ap (λ (l : List Event). l ++ tail_event (take n (code_of t s))) (lines_are t before (left t before (s ∷ after) are))
