-- How a run ends.
use Rattle.std.proofs.Common.{◌≡◌, ℕ, zero, suc, ◌-◌, ◌^◌, ◌<◌, ◌≤◌, List, [], ◌++◌, true, length, sym, ap, ◌∙◌, subst, arith, min}
use Rattle.std.proofs.Math.Nat.{min-eq_left, le-min}
use Rattle.defmt_frames.specs.Frames.{count}
use Rattle.defmt_lines.specs.declared.settings.RingMode.{RingMode}
use Rattle.defmt_lines.specs.declared.settings.RingMode.TheVariants.{Block, Skip, Trim}
use Rattle.defmt_logger.proofs.Append.{released_more}
use Rattle.defmt_logger.specs.Kept.{Behind, IsKept, LooksIn, Reel}
use Rattle.defmt_logger.specs.Tape.{marks_of}
use Rattle.defmt_logger.specs.declared.mark.Mark.{Mark}
use Rattle.defmt_script.specs.Script.{Script}
use Rattle.defmt_writers.specs.Runs.{IsRun, ReachedIn}
use Rattle.rtt_ring.specs.Account.{Account}
use Rattle.rtt_ring.specs.Views.{Up}

pub below_eight : (P : ℕ → Type 0) → P 0 → P 1 → P 2 → P 3 → P 4 → P 5 → P 6 → P 7 → (w : ℕ) → w < 8 → P w
below_eight P a b c d e f g h zero lt = a
below_eight P a b c d e f g h (suc zero) lt = b
below_eight P a b c d e f g h (suc (suc zero)) lt = c
below_eight P a b c d e f g h (suc (suc (suc zero))) lt = d
below_eight P a b c d e f g h (suc (suc (suc (suc zero)))) lt = e
below_eight P a b c d e f g h (suc (suc (suc (suc (suc zero))))) lt = f
below_eight P a b c d e f g h (suc (suc (suc (suc (suc (suc zero)))))) lt = g
below_eight P a b c d e f g h (suc (suc (suc (suc (suc (suc (suc zero))))))) lt = h
below_eight P a b c d e f g h (suc (suc (suc (suc (suc (suc (suc (suc w)))))))) lt = absurd (omega arith)

reached : (mode : RingMode) (s : Script) (tape : List Mark) (u : Up) (n : ℕ) → Behind mode s tape u → u.freed ≤ n → ReachedIn mode s tape n
reached Block s tape u n b h = tt
reached Skip s tape u n b h = released_more s tape u.freed n h b.1
reached Trim s tape u n b h = released_more s tape u.freed n h b.1

-- so few looks are told as they are
looks_told : (mode : RingMode) (marks looks : ℕ) → marks ≤ 4096 → LooksIn mode marks looks → LooksIn mode marks (min looks (2 ^ 64 - 1))
looks_told Block marks looks few l = le-min l (omega (arith, few))
looks_told Skip marks looks few l = min-eq_left (omega (arith, few, l)) ∙ l
looks_told Trim marks looks few l = min-eq_left (omega (arith, few, l)) ∙ l

pub run_ends : (s q : Script) (tape : Reel) (u : Up) (a : Account) (captured rest : List ℕ) (looks : ℕ)
    → q ≡ s
    → IsKept (record { script = q; tape = tape; up = u })
    → ((w : ℕ) → w < 8 → marks_of w tape.marks ≡ count s w)
    → a.sent ≡ u.sent
    → a.got ≡ captured
    → a.sent ≡ a.got ++ rest
    → u.freed ≤ length a.got
    → (s.settings.late ≡ true → captured ≡ [])
    → looks ≡ min u.looks (2 ^ 64 - 1)
    → a.split ≡ u.split
    → IsRun s tape a captured rest looks
run_ends s q tape u a captured rest looks e k all sent got whole freed late told split =
    let now : IsKept (record { script = s; tape = tape; up = u }) = subst (λ (x : Script). IsKept (record { script = x; tape = tape; up = u })) e k in
    let few : length tape.marks ≤ 4096 = omega (arith, now.room) in
    record {
      lawful = now.lawful;
      all = all;
      sends = sent ∙ now.sent;
      takes = got;
      whole = whole ∙ ap (λ (l : List ℕ). l ++ rest) got;
      reach = reached s.settings.mode s tape.marks u (length a.got) now.behind freed;
      late = λ h. got ∙ late h;
      looked = subst (λ (n : ℕ). LooksIn s.settings.mode (length tape.marks) n) (sym told) (looks_told s.settings.mode (length tape.marks) u.looks few now.looks);
      split = split ∙ sym now.tape.split;
      counted = told ∙ ap (λ (n : ℕ). min n (2 ^ 64 - 1)) (sym now.tape.looks);
      rooms = now.rooms;
    }
