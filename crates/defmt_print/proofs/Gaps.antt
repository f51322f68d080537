-- What the lines of what was sent print: in profile One they stand alone, and in profile Two with the gaps of the tape.
use Rattle.std.proofs.Common.{◌≡◌, ◌≤◌, ◌<◌, ◌+◌, ◌%◌, ℕ, List, [], ◌∷◌, ◌++◌, length, refl, sym, ◌∙◌, ap, subst, arith}
use Rattle.std.specs.Prelude.{Option, Some, None}
use Rattle.defmt_decode.specs.Gap.{gap_of}
use Rattle.defmt_decode.specs.declared.event.Event.{Event}
use Rattle.defmt_encode.specs.Placed.{place_in}
use Rattle.defmt_hooks.specs.declared.rules.Rules.{Rules}
use Rattle.defmt_intern.specs.declared.table.Profile.{Profile}
use Rattle.defmt_intern.specs.declared.table.Profile.TheVariants as profiles
use Rattle.defmt_lines.specs.declared.settings.RingMode.{RingMode}
use Rattle.defmt_lines.specs.declared.settings.RingMode.TheVariants.{Block, Skip, Trim}
use Rattle.defmt_logger.specs.Tape.{mark_line}
use Rattle.defmt_logger.specs.declared.mark.Mark.{Mark}
use Rattle.defmt_print.proofs.Between.{prints-append}
use Rattle.defmt_print.proofs.Marks.{placed_at, there}
use Rattle.defmt_print.proofs.ShownLines.{no_events, one_whole}
use Rattle.defmt_plan.specs.declared.message.Parts.{Parts}
use Rattle.defmt_print.specs.Heard.{GapsIn, HaveWhole, IsWhole, LinesIn, PrintWhole, event_by, events_after, events_before, mark_events, parts_at, place_behind, whole_events, whole_from}
use Rattle.defmt_recording.specs.Output.{gap_between, gap_line}
use Rattle.defmt_print.specs.Printed.{ArePlaced, IsPlaced, mark_statement}
use Rattle.defmt_print.specs.Shown.{dropped_behind, kept_line, shown_by, shown_mark_line, shown_mark_lines, shows_by, shows_mark, tape_line, tape_lines, tape_lines_by}
use Rattle.defmt_recording.specs.Shown.{event_lines_by, event_lines_from}
use Rattle.defmt_script.specs.Script.{Script, statements_by}
use Rattle.defmt_values.specs.declared.value.Statement.{Statement}
use Rattle.rtt_modes.specs.declared.fate.Fate.{Fate}
use Rattle.rtt_modes.specs.declared.fate.Fate.TheVariants.{Whole, Dropped, Cut}

-- what the law of gaps says
abbrev pub Counts : Type 0
Counts = (n more : ℕ) → more < 65536 → gap_of (n % 65536) ((n + (1 + more)) % 65536) ≡ more

module _ (only : Option Rules) (s : Script) where
  -- what events print behind a line with this place
  abbrev Prints : Option ℕ → List Event → List ℕ
  Prints last events = event_lines_from only s.table last events

  -- ---- profile One

  mark_alone : (fate : Fate) (place : Option ℕ) (statement : Option Statement) (parts : Statement → Parts) (line : List ℕ) (events : List Event) → place ≡ None
      → Prints None (event_by fate place statement parts line ++ events) ≡ shown_by fate statement (shows_by only s.table statement) line ++ Prints None events
  mark_alone Whole place (Some stm) parts line events is =
      one_whole only s.table None place stm (parts stm) line events
      ∙ ap (λ (o : Option ℕ). kept_line (shows_by only s.table (Some stm)) line ++ Prints o events) is
  mark_alone Whole place None parts line events is = refl
  mark_alone (Dropped need room) place statement parts line events is = refl
  mark_alone (Cut need room) place statement parts line events is = refl

  pub all_alone : s.settings.profile ≡ profiles.One → (n : ℕ) (ms : List Mark) → Prints None (whole_from s n ms) ≡ shown_mark_lines only s ms
  all_alone one n [] = no_events only s.table None
  all_alone one n (m ∷ ms) =
      mark_alone m.fate (place_in s.settings.profile n) (mark_statement s m) (parts_at s n m.stamp) (mark_line s m) (whole_from s (n + 1) ms) (ap (λ (p : Profile). place_in p n) one)
      ∙ ap (λ (l : List ℕ). shown_mark_line only s m ++ l) (all_alone one (n + 1) ms)

  -- ---- profile Two

  module _ (counts : Counts) (two : s.settings.profile ≡ profiles.Two) where
    place_is : (n : ℕ) → place_in s.settings.profile n ≡ Some (n % 65536)
    place_is n = ap (λ (p : Profile). place_in p n) two

    -- of a mark with a statement
    with_statement : (last dropped : Option ℕ) (n : ℕ) (m : Mark) (ms : List Mark) (stm : Statement) → mark_statement s m ≡ Some stm
        → Prints last (event_by m.fate (place_in s.settings.profile n) (Some stm) (parts_at s n m.stamp) (mark_line s m) ++ whole_from s (n + 1) ms)
        ≡ tape_line m.fate dropped (shows_by only s.table (Some stm)) (mark_line s m) ++ tape_lines only s (dropped_behind m.fate dropped) ms
        → Prints last (whole_from s n (m ∷ ms)) ≡ tape_lines only s dropped (m ∷ ms)
    with_statement last dropped n m ms stm found is =
        ap (λ (o : Option Statement). Prints last (event_by m.fate (place_in s.settings.profile n) o (parts_at s n m.stamp) (mark_line s m) ++ whole_from s (n + 1) ms)) found
        ∙ is
        ∙ sym (ap (λ (o : Option Statement). tape_line m.fate dropped (shows_by only s.table o) (mark_line s m) ++ tape_lines only s (dropped_behind m.fate dropped) ms) found)

    -- the lines of marks of which the first has the number n, behind the mark number q that was sent whole and d that weren't
    abbrev Behind : List Mark → Type 0
    Behind ms = (q d n : ℕ) → n ≡ q + (1 + d) → d + length ms < 65536 → Prints (Some (q % 65536)) (whole_from s n ms) ≡ tape_lines only s (Some d) ms

    behind_by : (fate : Fate) (q d n : ℕ) (stm : Statement) (parts : Statement → Parts) (line : List ℕ) (ms : List Mark) → n ≡ q + (1 + d) → d + (1 + length ms) < 65536 → Behind ms
        → Prints (Some (q % 65536)) (event_by fate (place_in s.settings.profile n) (Some stm) parts line ++ whole_from s (n + 1) ms)
        ≡ tape_line fate (Some d) (shows_by only s.table (Some stm)) line ++ tape_lines only s (dropped_behind fate (Some d)) ms
    behind_by Whole q d n stm parts line ms is few rest =
        let shown : List ℕ = kept_line (shows_by only s.table (Some stm)) line in
        let more : List Event = whole_from s (n + 1) ms in
        let gap : gap_of (q % 65536) (n % 65536) ≡ d = ap (λ (k : ℕ). gap_of (q % 65536) (k % 65536)) is ∙ counts q d (omega (arith, few)) in
        one_whole only s.table (Some (q % 65536)) (place_in s.settings.profile n) stm (parts stm) line more
        ∙ ap (λ (o : Option ℕ). (gap_line (gap_between (Some (q % 65536)) o) ++ shown) ++ Prints o more) (place_is n)
        ∙ ap (λ (k : ℕ). (gap_line k ++ shown) ++ Prints (Some (n % 65536)) more) gap
        ∙ ap (λ (l : List ℕ). (gap_line d ++ shown) ++ l) (rest n 0 (n + 1) (omega arith) (omega (arith, few)))
    behind_by (Dropped need room) q d n stm parts line ms is few rest = rest q (d + 1) (n + 1) (omega (arith, is)) (omega (arith, few))
    behind_by (Cut need room) q d n stm parts line ms is few rest = rest q (d + 1) (n + 1) (omega (arith, is)) (omega (arith, few))

    behind : (ms : List Mark) → ArePlaced s ms → Behind ms
    behind [] placed q d n is few = no_events only s.table (Some (q % 65536))
    behind (m ∷ ms) placed q d n is few =
        let found = there (statements_by s m.writer) m.place placed.0 in
        with_statement (Some (q % 65536)) (Some d) n m ms found.0 found.1
        (behind_by m.fate q d n found.0 (parts_at s n m.stamp) (mark_line s m) ms is (omega (arith, few)) (behind ms placed.1))

    -- those in front of which none was sent whole
    abbrev AtFirst : List Mark → Type 0
    AtFirst ms = (n : ℕ) → length ms < 65536 → Prints None (whole_from s n ms) ≡ tape_lines only s None ms

    first_by : (fate : Fate) (n : ℕ) (stm : Statement) (parts : Statement → Parts) (line : List ℕ) (ms : List Mark) → 1 + length ms < 65536 → ArePlaced s ms → AtFirst ms
        → Prints None (event_by fate (place_in s.settings.profile n) (Some stm) parts line ++ whole_from s (n + 1) ms)
        ≡ tape_line fate None (shows_by only s.table (Some stm)) line ++ tape_lines only s (dropped_behind fate None) ms
    first_by Whole n stm parts line ms few placed rest =
        let shown : List ℕ = kept_line (shows_by only s.table (Some stm)) line in
        let more : List Event = whole_from s (n + 1) ms in
        one_whole only s.table None (place_in s.settings.profile n) stm (parts stm) line more
        ∙ ap (λ (o : Option ℕ). shown ++ Prints o more) (place_is n)
        ∙ ap (λ (l : List ℕ). shown ++ l) (behind ms placed n 0 (n + 1) (omega arith) (omega (arith, few)))
    first_by (Dropped need room) n stm parts line ms few placed rest = rest (n + 1) (omega (arith, few))
    first_by (Cut need room) n stm parts line ms few placed rest = rest (n + 1) (omega (arith, few))

    pub at_first : (ms : List Mark) → ArePlaced s ms → AtFirst ms
    at_first [] placed n few = no_events only s.table None
    at_first (m ∷ ms) placed n few =
        let found = there (statements_by s m.writer) m.place placed.0 in
        with_statement None None n m ms found.0 found.1
        (first_by m.fate n found.0 (parts_at s n m.stamp) (mark_line s m) ms (omega (arith, few)) placed.1 (at_first ms placed.1))

  -- ---- any profile, in the place of a frame that was sent whole

  one_mark : (last : Option ℕ) (n : ℕ) (m : Mark) (events : List Event) → IsPlaced s m → IsWhole m
      → Prints last (mark_events s n m ++ events)
      ≡ (gap_line (gap_between last (place_in s.settings.profile n)) ++ kept_line (shows_mark only s m) (mark_line s m)) ++ Prints (place_in s.settings.profile n) events
  one_mark last n m events placed whole =
      let found = there (statements_by s m.writer) m.place placed in
      let place : Option ℕ = place_in s.settings.profile n in
      ap (λ (fate : Fate). Prints last (event_by fate place (mark_statement s m) (parts_at s n m.stamp) (mark_line s m) ++ events)) whole
      ∙ ap (λ (o : Option Statement). Prints last (event_by Whole place o (parts_at s n m.stamp) (mark_line s m) ++ events)) found.1
      ∙ one_whole only s.table last place found.0 (parts_at s n m.stamp found.0) (mark_line s m) events
      ∙ ap (λ (o : Option Statement). (gap_line (gap_between last place) ++ kept_line (shows_by only s.table o) (mark_line s m)) ++ Prints place events) (sym found.1)

-- ---- both

print_whole : (s : Script) (tape : List Mark) (events : List Event) → ArePlaced s tape → HaveWhole s tape events → PrintWhole s tape events
print_whole s tape events placed lines only before after m is whole =
    let number : ℕ = length before in
    let front : List Event = events_before s before in
    let rest : List Event = events_after s (number + 1) after in
    ap (event_lines_by only s.table) (lines before after m is whole)
    ∙ prints-append only s.table None front (mark_events s number m ++ rest)
    ∙ ap (λ (l : List ℕ). event_lines_by only s.table front ++ l)
    (one_mark only s (place_behind None front) number m rest (placed_at s before after m (subst (ArePlaced s) is placed)) whole)

pub printed_in : (profile : Profile) (s : Script) (tape : List Mark) → Counts → ArePlaced s tape → length tape ≤ 4096 → s.settings.profile ≡ profile
    → (only : Option Rules) → event_lines_by only s.table (whole_events s tape) ≡ tape_lines_by profile only s tape
printed_in profiles.One s tape counts placed few is only = all_alone only s is 0 tape
printed_in profiles.Two s tape counts placed few is only = at_first only s counts is tape placed 0 (omega (arith, few))

in_mode : (mode : RingMode) (s : Script) (tape : List Mark) (events : List Event) → Counts → ArePlaced s tape → length tape ≤ 4096
    → LinesIn mode s tape events → GapsIn mode s.settings.profile s tape events
in_mode Block s tape events counts placed few lines = λ only. ap (event_lines_by only s.table) lines ∙ printed_in s.settings.profile s tape counts placed few refl only
in_mode Skip s tape events counts placed few lines = λ only. ap (event_lines_by only s.table) lines ∙ printed_in s.settings.profile s tape counts placed few refl only
in_mode Trim s tape events counts placed few lines = print_whole s tape events placed lines

pub gaps_in : Counts → (s : Script) (tape : List Mark) (events : List Event) → ArePlaced s tape → length tape ≤ 4096 → LinesIn s.settings.mode s tape events
    → GapsIn s.settings.mode s.settings.profile s tape events
gaps_in counts s tape events placed few lines = in_mode s.settings.mode s tape events counts placed few lines
