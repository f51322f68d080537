-- The frames of all statements of a script have at most so many bytes.
use Rattle.std.proofs.Common.{◌≡◌, Bool, true, false, ℕ, zero, suc, ◌+◌, ◌*◌, ◌/◌, ◌≤◌, List, [], ◌∷◌, ◌++◌, Option, Some, None, length, length-append, drop, drop_of_length-le, add-one, refl, ap, arith, if◌then◌else◌, slice_get, slice_index_or, length-take}
use Rattle.std.proofs.Math.Nat.{mul-div-le}
use Rattle.defmt_encode.specs.Carry.{message_of, stamp_args}
use Rattle.defmt_encode.specs.Placed.{place_in}
use Rattle.defmt_frames.proofs.Frames.{sound_at}
use Rattle.defmt_frames.specs.Frames.{frame_at, frame_with}
use Rattle.defmt_logger.proofs.Room.{tape_fits}
use Rattle.defmt_logger.specs.Tape.{IsLawful, mark_frame, mark_part, stream_from, stream_of}
use Rattle.defmt_logger.specs.declared.mark.Mark.{Mark}
use Rattle.defmt_script.specs.Lawful.{IsSound, IsLawful as HoldsOfScripts, stamp_in}
use Rattle.defmt_script.specs.Script.{Script, count_all, statements_by}
use Rattle.defmt_values.specs.declared.value.Statement.{Statement}
use Rattle.rtt_down.proofs.Room.{turns_fit}
use Rattle.rtt_down.specs.Steered.{IsSteered, turn_part, stream_from as steered_from, stream_of as steered_stream}
use Rattle.rtt_down.specs.declared.turn.Turn.{Turn}
use Rattle.rtt_modes.specs.Fates.{part_of}
use Rattle.rtt_modes.specs.declared.fate.Fate.{Fate}
use Rattle.rtt_modes.specs.declared.fate.Fate.TheVariants.{Whole, Dropped, Cut}
use Rattle.rzcobs_core.specs.Canon.{canon, bound_of, frame}

-- each code keeps within the bound
abbrev Bounded : Type 0
Bounded = (message : List ℕ) → length (canon message) ≤ bound_of (length message)

sum_short : (n c w q : ℕ) → n ≤ 2000 → c ≤ n + q → 7 * q ≤ n + 6 → w ≡ c + 1 → w ≤ 2287
sum_short n c w q short within most whole = omega (arith, short, within, most, whole)

frame_short : (message : List ℕ) → Bounded → length message ≤ 2000 → length (frame message) ≤ 2288
frame_short message bounded short =
    let most : 7 * ((length message + 6) / 7) ≤ length message + 6 = mul-div-le (length message + 6) 7 in
    let behind : length (canon message ++ 0 ∷ []) ≤ 2287 =
    sum_short (length message) (length (canon message)) (length (canon message ++ 0 ∷ [])) ((length message + 6) / 7) short (bounded message) most (length-append (canon message) (0 ∷ [])) in
    omega (arith, behind)

with_short : (s : Script) (number n : ℕ) (o : Option Statement) → Bounded → ((stm : Statement) → o ≡ Some stm → IsSound s.table s.settings stm)
    → length (frame_with s.table (place_in s.settings.profile number) (stamp_in s.settings.stamp n) o) ≤ 2288
with_short s number n None bounded sound = omega arith
with_short s number n (Some stm) bounded sound =
    frame_short (message_of s.table (place_in s.settings.profile number) (stamp_args (stamp_in s.settings.stamp n)) stm.index stm.args) bounded ((sound stm refl).short number n)

at_short : (s : Script) (number w k n : ℕ) → Bounded → HoldsOfScripts s → length (frame_at s number w k n) ≤ 2288
unfolding frame_at
at_short s number w k n bounded h = with_short s number n (slice_get (statements_by s w) k) bounded (λ stm is. sound_at s w k stm h is)

part_short : (bytes : List ℕ) (fate : Fate) → length bytes ≤ 2288 → length (part_of bytes fate) ≤ 2288
part_short bytes Whole short = short
part_short bytes (Dropped need room) short = omega arith
part_short bytes (Cut need room) short = omega (arith, short, length-take room bytes)

stream_short : (s : Script) (number : ℕ) (tape : List Mark) → Bounded → HoldsOfScripts s → length (stream_from s number tape) ≤ 2288 * length tape
stream_short s number [] bounded h = omega arith
stream_short s number (m ∷ ms) bounded h =
    let one : length (mark_part s number m) ≤ 2288 = part_short (mark_frame s number m) m.fate (at_short s number m.writer m.place m.stamp bounded h) in
    let others : length (stream_from s (number + 1) ms) ≤ 2288 * length ms = stream_short s (number + 1) ms bounded h in
    omega (arith, one, others, length-append (mark_part s number m) (stream_from s (number + 1) ms))

pub stream_fits : (s : Script) (tape : List Mark) (n : ℕ) → Bounded → HoldsOfScripts s → IsLawful s tape → n ≡ count_all s.writers → length (stream_of s tape) ≤ n * 2288
stream_fits s tape n bounded h lawful e = omega (arith, stream_short s 0 tape bounded h, tape_fits s tape lawful.within, e)

-- ---- turns

turn_short : (s : Script) (number : ℕ) (t : Turn) → Bounded → HoldsOfScripts s → length (turn_part s number t) ≤ 2288
turn_short s number t bounded h =
    let one : length (frame_at s number t.writer t.place t.stamp) ≤ 2288 = at_short s number t.writer t.place t.stamp bounded h in
    elim t.sent as (λ (b : Bool). length (if b then frame_at s number t.writer t.place t.stamp else []) ≤ 2288) [
      | true ↦ one
      | false ↦ omega arith
    ]

turns_short : (s : Script) (number : ℕ) (turns : List Turn) → Bounded → HoldsOfScripts s → length (steered_from s number turns) ≤ 2288 * length turns
turns_short s number [] bounded h = omega arith
turns_short s number (t ∷ ts) bounded h =
    let one : length (turn_part s number t) ≤ 2288 = turn_short s number t bounded h in
    let others : length (steered_from s (number + 1) ts) ≤ 2288 * length ts = turns_short s (number + 1) ts bounded h in
    omega (arith, one, others, length-append (turn_part s number t) (steered_from s (number + 1) ts))

pub turns_fit_in : (s : Script) (turns : List Turn) (got : List ℕ) (n : ℕ) → Bounded → HoldsOfScripts s → IsSteered s turns got → n ≡ count_all s.writers → length (steered_stream s turns) ≤ n * 2288
turns_fit_in s turns got n bounded h steered e = omega (arith, turns_short s 0 turns bounded h, turns_fit s turns steered.within, e)

-- ---- the counts of the writers that are left

next_by : (ws : List (List Statement)) (i : ℕ) → count_all (drop i ws) ≡ length (slice_index_or ws i []) + count_all (drop (suc i) ws)
next_by [] zero = refl
next_by [] (suc i) = refl
next_by (l ∷ ws) zero = refl
next_by (l ∷ ws) (suc i) = next_by ws i

pub count_next : (ws : List (List Statement)) (i : ℕ) → count_all (drop i ws) ≡ length (slice_index_or ws i []) + count_all (drop (i + 1) ws)
count_next ws i = rw add-one (next_by ws i)

pub count_whole : (ws : List (List Statement)) (n i : ℕ) → n + count_all (drop i ws) ≡ count_all ws → length ws ≤ i → n ≡ count_all ws
count_whole ws n i e le = omega (arith, e, ap count_all (drop_of_length-le ws le))
