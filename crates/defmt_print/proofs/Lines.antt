-- In blocking and skip mode the events of what was sent are the lines of the frames that were sent whole, with their places, and in
-- trim mode each of these lines stands in its place among them.
use Rattle.std.proofs.Common.{◌≡◌, ◌≤◌, ◌+◌, ℕ, List, [], ◌∷◌, ◌++◌, Bool, length, map, drop, refl, sym, ◌∙◌, ap, arith, append_assoc}
use Rattle.std.specs.Prelude.{if◌then◌else◌, Option, Some, None, slice_get}
use Rattle.std.proofs.lemmas.Bool.{le-leb}
use Rattle.std.proofs.lemmas.List.{append-nil, map-append}
use Rattle.defmt_decode.specs.Event.{events_of}
use Rattle.defmt_decode.specs.Sent.{Sent, AreSent, IsSent, code_of, front_event, line_of, sent_from, stream_of as frames_of}
use Rattle.defmt_decode.specs.declared.event.Event.{Event}
use Rattle.defmt_decode.specs.declared.event.Event.TheVariants.{Line}
use Rattle.defmt_eager.specs.Line.{eager_line}
use Rattle.defmt_encode.proofs.Placing.{placed}
use Rattle.defmt_encode.specs.Carry.{message_of, stamp_args}
use Rattle.defmt_encode.specs.Placed.{place_in}
use Rattle.defmt_frames.proofs.Frames.{sound_at}
use Rattle.defmt_frames.specs.Frames.{first_stamp, frame_at, frame_with, stamp_step}
use Rattle.defmt_values.specs.Sound.{AreSound}
use Rattle.defmt_framing.specs.Cut.{front}
use Rattle.defmt_framing.specs.Frames.{frame_of, frames}
use Rattle.defmt_intern.specs.Catalog.{Catalog}
use Rattle.defmt_lines.specs.declared.settings.RingMode.{RingMode}
use Rattle.defmt_lines.specs.declared.settings.RingMode.TheVariants.{Block, Skip, Trim}
use Rattle.defmt_logger.specs.Tape.{IsLawful as IsLawfulTape, line_with, mark_frame, mark_line, mark_part, stream_from, stream_of}
use Rattle.defmt_logger.specs.declared.mark.Mark.{Mark}
use Rattle.defmt_print.proofs.Marks.{AreGood, IsGood, IsKept, are_good, good_whole, there}
use Rattle.defmt_print.proofs.Stamped.{Fit}
use Rattle.defmt_print.specs.Heard.{HaveWhole, IsWhole, LinesIn, catalog_of, event_by, events_after, events_before, mark_events, parts_at, sent_of, whole_events, whole_from}
use Rattle.defmt_print.specs.Printed.{mark_statement}
use Rattle.defmt_script.specs.Lawful.{IsLawful, IsSound, stamp_in}
use Rattle.defmt_script.specs.Script.{Script, statements_by}
use Rattle.defmt_values.specs.declared.value.Statement.{Statement}
use Rattle.rtt_modes.specs.Fates.{part_of}
use Rattle.rtt_modes.specs.declared.fate.Fate.{Fate}
use Rattle.rtt_modes.specs.declared.fate.Fate.TheVariants.{Whole, Dropped, Cut}

-- what is known of a script
pub record Known (s : Script) : Type 0 where
  pub lawful : IsLawful s
  pub fit : Fit
  pub base : first_stamp s.settings.stamp ≤ 281474976710656
  pub step : stamp_step s.settings.stamp ≤ 281474976710656
  pub sound : (writer place : ℕ) (stm : Statement) → slice_get (statements_by s writer) place ≡ Some stm → AreSound stm.args

-- ---- statements as they are sent

-- those of a frame that was sent whole
abbrev sent_by : Fate → Sent → List Sent
sent_by Whole x = x ∷ []
sent_by (Dropped need room) x = []
sent_by (Cut need room) x = []

abbrev statement_at : (s : Script) (m : Mark) → IsGood s m → Statement
statement_at s m good = (there (statements_by s m.writer) m.place good.placed).0

abbrev mark_sent : (s : Script) (number : ℕ) (m : Mark) → IsGood s m → Sent
mark_sent s number m good = sent_of s number m.stamp (statement_at s m good)

-- where the first mark has this number
abbrev sents : (s : Script) (number : ℕ) (tape : List Mark) → AreGood s tape → List Sent
sents s number [] good = []
sents s number (m ∷ ms) good = sent_by m.fate (mark_sent s number m good.0) ++ sents s (number + 1) ms good.1

-- ---- what was sent is the stream of their frames

part_is : (s : Script) (number : ℕ) (m : Mark) (stm : Statement) → slice_get (statements_by s m.writer) m.place ≡ Some stm → (fate : Fate) → IsKept fate
    → part_of (mark_frame s number m) fate ≡ frames (map (code_of (catalog_of s)) (sent_by fate (sent_of s number m.stamp stm)))
unfolding frame_at frames
part_is s number m stm found Whole kept =
    ap (frame_with s.table (place_in s.settings.profile number) (stamp_in s.settings.stamp m.stamp)) found ∙ sym (append-nil (frame_of (code_of (catalog_of s) (sent_of s number m.stamp stm))))
part_is s number m stm found (Dropped need room) kept = refl
part_is s number m stm found (Cut need room) kept = absurd kept

frames-append : (t : Catalog) (xs ys : List Sent) → frames (map (code_of t) (xs ++ ys)) ≡ frames (map (code_of t) xs) ++ frames (map (code_of t) ys)
unfolding frames
frames-append t [] ys = refl
frames-append t (x ∷ xs) ys =
    ap (λ (l : List ℕ). frame_of (code_of t x) ++ l) (frames-append t xs ys) ∙ sym (append_assoc (frame_of (code_of t x)) (frames (map (code_of t) xs)) (frames (map (code_of t) ys)))

stream_is : (s : Script) (number : ℕ) (tape : List Mark) (good : AreGood s tape) → stream_from s number tape ≡ frames_of (catalog_of s) (sents s number tape good)
unfolding frames
stream_is s number [] good = refl
stream_is s number (m ∷ ms) good =
    let x = mark_sent s number m good.0 in
    ap (λ (l : List ℕ). l ++ stream_from s (number + 1) ms) (part_is s number m (statement_at s m good.0) (there (statements_by s m.writer) m.place good.0.placed).1 m.fate good.0.kept)
    ∙ ap (λ (l : List ℕ). frames (map (code_of (catalog_of s)) (sent_by m.fate x)) ++ l) (stream_is s (number + 1) ms good.1)
    ∙ sym (frames-append (catalog_of s) (sent_by m.fate x) (sents s (number + 1) ms good.1))

-- ---- each of them is sent

stamp_sound : (o : Option ℕ) → AreSound (stamp_args o)
stamp_sound None = tt
stamp_sound (Some n) = (tt, tt)

abbrev pub Short : Type 0
Short = (t : Catalog) (x : Sent) → length (message_of t.entries x.place x.stamp x.index x.args) ≤ 2000 → length (code_of t x) ≤ 65536

is_sent : (s : Script) → Known s → Short → (number : ℕ) (m : Mark) (good : IsGood s m) → IsSent (catalog_of s) (mark_sent s number m good)
is_sent s known short number m good =
    let stm = statement_at s m good in
    let found = (there (statements_by s m.writer) m.place good.placed).1 in
    let sound : IsSound s.table s.settings stm = sound_at s m.writer m.place stm known.lawful found in
    record {
      placed = placed s.settings.profile number;
      stamp_fits = known.fit.fits s m.stamp known.lawful good.small;
      fits = sound.fits;
      logged = sound.logged;
      stamp_sound = stamp_sound (stamp_in s.settings.stamp m.stamp);
      sound = known.sound m.writer m.place stm found;
      narrow = known.fit.narrow s m.stamp stm known.lawful good.small sound;
      short = short (catalog_of s) (mark_sent s number m good) (sound.short number m.stamp);
    }

sent_more : (t : Catalog) (fate : Fate) (x : Sent) (xs : List Sent) → IsSent t x → AreSent t xs → AreSent t (sent_by fate x ++ xs)
sent_more t Whole x xs sent all = (sent, all)
sent_more t (Dropped need room) x xs sent all = all
sent_more t (Cut need room) x xs sent all = all

are_sent : (s : Script) → Known s → Short → (number : ℕ) (tape : List Mark) (good : AreGood s tape) → AreSent (catalog_of s) (sents s number tape good)
are_sent s known short number [] good = tt
are_sent s known short number (m ∷ ms) good =
    sent_more (catalog_of s) m.fate (mark_sent s number m good.0) (sents s (number + 1) ms good.1) (is_sent s known short number m good.0) (are_sent s known short (number + 1) ms good.1)

-- ---- their events

front_none : (t : Catalog) (xs : List Sent) → front (frames_of t xs) ≡ []
unfolding front frames
front_none t [] = refl
front_none t (x ∷ xs) = refl

all_from : (t : Catalog) (at : ℕ) (xs : List Sent) → sent_from t 0 at xs ≡ xs
unfolding sent_from
all_from t at [] = refl
all_from t at (x ∷ xs) =
    let more : List Sent = sent_from t 0 (at + length (frame_of (code_of t x))) xs in
    ap (λ (b : Bool). (if b then x ∷ [] else []) ++ more) (le-leb 0 at (omega arith)) ∙ ap (λ (l : List Sent). x ∷ l) (all_from t (at + length (frame_of (code_of t x))) xs)

abbrev pub WithoutFront : Type 0
WithoutFront = (t : Catalog) (place : ℕ) (xs : List Sent) → AreSent t xs
    → events_of t (drop place (frames_of t xs)) ≡ front_event (front (drop place (frames_of t xs))) ++ map (line_of t) (sent_from t place 0 xs)

lines_sent : WithoutFront → (t : Catalog) (xs : List Sent) → AreSent t xs → events_of t (frames_of t xs) ≡ map (line_of t) xs
lines_sent law t xs sent =
    law t 0 xs sent ∙ ap (λ (l : List ℕ). front_event l ++ map (line_of t) (sent_from t 0 0 xs)) (front_none t xs)
    ∙ ap (map (line_of t)) (all_from t 0 xs)

-- ---- their lines

pub line_is : (s : Script) (m : Mark) (stm : Statement) → slice_get (statements_by s m.writer) m.place ≡ Some stm
    → eager_line s.table (stamp_args (stamp_in s.settings.stamp m.stamp)) stm.index stm.args ≡ mark_line s m
unfolding mark_line
line_is s m stm found = ap (line_with s.table (stamp_in s.settings.stamp m.stamp)) (sym found)

fate_events : (s : Script) (number : ℕ) (m : Mark) (stm : Statement) (fate : Fate) → slice_get (statements_by s m.writer) m.place ≡ Some stm
    → map (line_of (catalog_of s)) (sent_by fate (sent_of s number m.stamp stm)) ≡ event_by fate (place_in s.settings.profile number) (mark_statement s m) (parts_at s number m.stamp) (mark_line s m)
fate_events s number m stm Whole found =
    let place : Option ℕ = place_in s.settings.profile number in
    ap (λ (line : List ℕ). Line stm.index place (parts_at s number m.stamp stm) line ∷ []) (line_is s m stm found)
    ∙ ap (λ (o : Option Statement). event_by Whole place o (parts_at s number m.stamp) (mark_line s m)) (sym found)
fate_events s number m stm (Dropped need room) found = refl
fate_events s number m stm (Cut need room) found = refl

lines_are : (s : Script) (number : ℕ) (tape : List Mark) (good : AreGood s tape) → map (line_of (catalog_of s)) (sents s number tape good) ≡ whole_from s number tape
lines_are s number [] good = refl
lines_are s number (m ∷ ms) good =
    map-append (line_of (catalog_of s)) (sent_by m.fate (mark_sent s number m good.0)) (sents s (number + 1) ms good.1)
    ∙ ap (λ (l : List Event). l ++ map (line_of (catalog_of s)) (sents s (number + 1) ms good.1))
    (fate_events s number m (statement_at s m good.0) m.fate (there (statements_by s m.writer) m.place good.0.placed).1)
    ∙ ap (λ (l : List Event). mark_events s number m ++ l) (lines_are s (number + 1) ms good.1)

-- ---- in trim mode each that was sent whole

abbrev pub Intact : Type 0
Intact = (t : Catalog) (p q : List ℕ) (x : Sent) → IsSent t x
    → events_of t (p ++ (0 ∷ (code_of t x ++ (0 ∷ q)))) ≡ events_of t (p ++ 0 ∷ []) ++ (line_of t x ∷ events_of t (0 ∷ q))

stream_split : (s : Script) (n : ℕ) (before after : List Mark) (m : Mark)
    → stream_from s n (before ++ m ∷ after) ≡ stream_from s n before ++ (mark_part s (n + length before) m ++ stream_from s ((n + length before) + 1) after)
stream_split s n [] after m =
    let z : n ≡ n + 0 = omega arith in
    ap (λ (k : ℕ). mark_part s k m ++ stream_from s (k + 1) after) z
stream_split s n (x ∷ before) after m =
    let z : (n + 1) + length before ≡ n + length (x ∷ before) = omega arith in
    ap (λ (l : List ℕ). mark_part s n x ++ l) (stream_split s (n + 1) before after m)
    ∙ sym (append_assoc (mark_part s n x) (stream_from s (n + 1) before) (mark_part s ((n + 1) + length before) m ++ stream_from s (((n + 1) + length before) + 1) after))
    ∙ ap (λ (k : ℕ). (mark_part s n x ++ stream_from s (n + 1) before) ++ (mark_part s k m ++ stream_from s (k + 1) after)) z

frame_is : (s : Script) (number : ℕ) (m : Mark) (stm : Statement) → slice_get (statements_by s m.writer) m.place ≡ Some stm
    → mark_frame s number m ≡ frame_of (code_of (catalog_of s) (sent_of s number m.stamp stm))
unfolding frame_at
frame_is s number m stm found = ap (frame_with s.table (place_in s.settings.profile number) (stamp_in s.settings.stamp m.stamp)) found

-- the frame stands in the stream with both its zeros
whole_stands : (s : Script) (before after : List Mark) (m : Mark) (stm : Statement) → slice_get (statements_by s m.writer) m.place ≡ Some stm → IsWhole m
    → stream_of s (before ++ m ∷ after)
    ≡ stream_of s before ++ (0 ∷ (code_of (catalog_of s) (sent_of s (length before) m.stamp stm) ++ (0 ∷ stream_from s (length before + 1) after)))
whole_stands s before after m stm found whole =
    let z : 0 + length before ≡ length before = omega arith in
    let number : ℕ = length before in
    let p : List ℕ = stream_of s before in
    let q : List ℕ = stream_from s (number + 1) after in
    let code : List ℕ = code_of (catalog_of s) (sent_of s number m.stamp stm) in
    stream_split s 0 before after m
    ∙ ap (λ (k : ℕ). p ++ (mark_part s k m ++ stream_from s (k + 1) after)) z
    ∙ ap (λ (fate : Fate). p ++ (part_of (mark_frame s number m) fate ++ q)) whole
    ∙ ap (λ (l : List ℕ). p ++ (l ++ q)) (frame_is s number m stm found)
    ∙ ap (λ (l : List ℕ). p ++ (0 ∷ l)) (append_assoc code (0 ∷ []) q)

pub have_whole : (s : Script) → Known s → Short → Intact → (tape : List Mark) → IsLawfulTape s tape → HaveWhole s tape (events_of (catalog_of s) (stream_of s tape))
have_whole s known short intact tape lawful before after m is whole =
    let t : Catalog = catalog_of s in
    let number : ℕ = length before in
    let good : IsGood s m = good_whole s tape before after m known.lawful lawful known.base known.step is whole in
    let stm : Statement = statement_at s m good in
    let found = (there (statements_by s m.writer) m.place good.placed).1 in
    let line : Event = line_of t (mark_sent s number m good) in
    let line_there : line ∷ [] ≡ mark_events s number m =
    fate_events s number m stm Whole found
    ∙ ap (λ (fate : Fate). event_by fate (place_in s.settings.profile number) (mark_statement s m) (parts_at s number m.stamp) (mark_line s m)) (sym whole) in
    ap (λ (l : List Mark). events_of t (stream_of s l)) is
    ∙ ap (events_of t) (whole_stands s before after m stm found whole)
    ∙ intact t (stream_of s before) (stream_from s (number + 1) after) (mark_sent s number m good) (is_sent s known short number m good)
    ∙ ap (λ (l : List Event). events_before s before ++ (l ++ events_after s (number + 1) after)) line_there

-- ---- both

pub heard_lines : (s : Script) → Known s → Short → WithoutFront → (tape : List Mark) → AreGood s tape → events_of (catalog_of s) (stream_of s tape) ≡ whole_events s tape
heard_lines s known short law tape good =
    ap (events_of (catalog_of s)) (stream_is s 0 tape good) ∙ lines_sent law (catalog_of s) (sents s 0 tape good) (are_sent s known short 0 tape good) ∙ lines_are s 0 tape good

in_mode : (mode : RingMode) (s : Script) (tape : List Mark) (events : List Event) → ((mode ≡ Trim → ⊥) → events ≡ whole_events s tape) → HaveWhole s tape events → LinesIn mode s tape events
in_mode Block s tape events lines whole = lines (λ e. absurd (cc e))
in_mode Skip s tape events lines whole = lines (λ e. absurd (cc e))
in_mode Trim s tape events lines whole = whole

pub lines_in : (s : Script) → Known s → Short → WithoutFront → Intact → (tape : List Mark) → IsLawfulTape s tape → LinesIn s.settings.mode s tape (events_of (catalog_of s) (stream_of s tape))
lines_in s known short law intact tape lawful =
    in_mode s.settings.mode s tape (events_of (catalog_of s) (stream_of s tape))
    (λ mode. heard_lines s known short law tape (are_good s tape known.lawful lawful mode known.base known.step))
    (have_whole s known short intact tape lawful)
