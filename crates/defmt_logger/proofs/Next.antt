-- A desk on which one statement more is logged.
use Rattle.std.proofs.Common.{◌≡◌, ℕ, zero, suc, ◌+◌, ◌*◌, ◌<◌, ◌≤◌, List, [], ◌∷◌, ◌++◌, length, length-append, refl, sym, ap, ◌∙◌, subst, arith, replicate, slice_index_or, slice_set}
use Rattle.defmt_frames.proofs.Frames.{writer_below}
use Rattle.defmt_frames.specs.Frames.{count, frame_at, stamp_number}
use Rattle.defmt_frames.specs.declared.sites.Sites.{Sites}
use Rattle.defmt_hooks.specs.Even.{Pace}
use Rattle.defmt_logger.proofs.Append.{counts_append, kept_append, within_snoc}
use Rattle.defmt_logger.proofs.Room.{tape_fits}
use Rattle.defmt_logger.specs.Kept.{Counts, IsKept, IsWorking, Reel, SendsIn, Sheet, next_mark}
use Rattle.defmt_logger.specs.Tape.{marks_of}
use Rattle.defmt_logger.specs.declared.mark.Mark.{Mark}
use Rattle.defmt_script.specs.Lawful.{IsLawful as HoldsOfScripts}
use Rattle.defmt_script.specs.Script.{Script, count_all}
use Rattle.rtt_modes.specs.declared.fate.Fate.{Fate}
use Rattle.rtt_modes.specs.declared.fate.Fate.TheVariants.{Whole}
use Rattle.rtt_ring.specs.Views.{Up}
use Rattle.shared_work.proofs.Counted.{zeros}

-- a writer that has a statement left is one of eight
pub writer_is : (s : Script) (tape : List Mark) (w : ℕ) → HoldsOfScripts s → marks_of w tape < count s w → w < 8
writer_is s tape w h more = omega (arith, writer_below s.writers w (marks_of w tape) more, h.eight)

-- a desk that is the same has it too
pub more_left : (d e : Sheet) (w : ℕ) → d ≡ e → marks_of w e.tape.marks < count e.script w → marks_of w d.tape.marks < count d.script w
more_left d e w same more = subst (λ (x : Sheet). marks_of w x.tape.marks < count x.script w) (sym same) more

-- where a writer has a statement left the tape has room
pub room_left : (d : Sheet) (w : ℕ) → IsKept d → HoldsOfScripts d.script → marks_of w d.tape.marks < count d.script w → 0 < d.tape.room
room_left d w k h more =
    let m : Mark = next_mark d.script d.tape.marks w Whole in
    let fits : length (d.tape.marks ++ m ∷ []) ≤ count_all d.script.writers = tape_fits d.script (d.tape.marks ++ m ∷ []) (within_snoc d.script d.tape.marks m k.lawful.within more) in
    let len : length (d.tape.marks ++ m ∷ []) ≡ length d.tape.marks + 1 = length-append d.tape.marks (m ∷ []) in
    omega (arith, fits, len, h.few, k.room)

pub record Next (d : Sheet) (places : List ℕ) (w : ℕ) (fate : Fate) (now : Reel) (v : Up) : Type 0 where
  pub marks : now.marks ≡ d.tape.marks ++ next_mark d.script d.tape.marks w fate ∷ []
  pub sends : SendsIn d.script.settings.mode d.up v (frame_at d.script (length d.tape.marks) w (marks_of w d.tape.marks) (stamp_number d.script (length d.tape.marks))) fate
  pub kept : IsKept (record { script = d.script; tape = now; up = v })
  pub counts : Counts (slice_set places w (slice_index_or places w 0 + 1)) now.marks
  pub found : now.found ≡ d.tape.found ++ v.freed ∷ []

pub next_is : (d : Sheet) (sites : Sites) (places : List ℕ) (pace : Pace) (message frame : List ℕ) (w t stamp : ℕ) (fate : Fate) (now : Reel) (v : Up)
    → IsWorking d sites places pace message frame
    → HoldsOfScripts d.script
    → marks_of w d.tape.marks < count d.script w
    → t ≡ length d.tape.marks
    → stamp ≡ pace.base + pace.step * t
    → now.marks ≡ d.tape.marks ++ (record { writer = w; place = slice_index_or places w 0; stamp = stamp; fate = fate }) ∷ []
    → now.room + 1 ≡ d.tape.room
    → (now.split ≡ d.tape.split) × (now.looks ≡ v.looks) × (now.found ≡ d.tape.found ++ v.freed ∷ [])
    → SendsIn d.script.settings.mode d.up v (frame_at d.script t w (slice_index_or places w 0) stamp) fate
    → Next d places w fate now v
next_is d sites places pace message frame w t stamp fate now v k h more t_is given marks room end sends =
    let s = d.script in
    let tape : List Mark = d.tape.marks in
    let below : w < 8 = writer_is s tape w h more in
    let place_is : slice_index_or places w 0 ≡ marks_of w tape = k.counts.1 w below in
    let stamp_is : stamp ≡ stamp_number s (length tape) = given ∙ ap (λ (p : Pace). p.base + p.step * t) k.pace_is ∙ ap (stamp_number s) t_is in
    let is : now.marks ≡ tape ++ next_mark s tape w fate ∷ [] = cc in
    let same : frame_at s t w (slice_index_or places w 0) stamp ≡ frame_at s (length tape) w (marks_of w tape) (stamp_number s (length tape)) = cc in
    let sent : SendsIn s.settings.mode d.up v (frame_at s (length tape) w (marks_of w tape) (stamp_number s (length tape))) fate = subst (λ (l : List ℕ). SendsIn s.settings.mode d.up v l fate) same sends in
    record {
      marks = is;
      sends = sent;
      kept = kept_append d now w fate v k.kept is room end.0 end.1 end.2 more sent;
      counts = counts_append places tape now.marks (next_mark s tape w fate) k.counts is below;
      found = end.2;
    }

-- ---- a desk on which nothing was logged

pub no_counts : (tape : List Mark) → tape ≡ [] → Counts (0 ∷ 0 ∷ 0 ∷ 0 ∷ 0 ∷ 0 ∷ 0 ∷ 0 ∷ []) tape
no_counts tape none = (refl, λ w lt. zeros 8 w ∙ sym (ap (marks_of w) none))
