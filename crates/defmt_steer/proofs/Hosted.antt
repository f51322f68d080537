-- What a host sends, and how its run ends.
use Rattle.std.proofs.Common.{◌≡◌, ℕ, ◌+◌, ◌*◌, ◌<◌, ◌≤◌, List, [], ◌++◌, true, length, length-append, sym, ap, ◌∙◌, subst, inl, inr, arith, take}
use Rattle.std.specs.Prelude.{◌⊎◌}
use Rattle.std.proofs.lemmas.List.{length-take-le, nil_from_length}
use Rattle.defmt_frames.specs.Frames.{count}
use Rattle.defmt_hooks.specs.declared.level.Level.{Level}
use Rattle.defmt_script.specs.Script.{Script}
use Rattle.defmt_steer.proofs.Due.{due_few, joined_size}
use Rattle.defmt_steer.specs.Steers.{IsSteeredRun, Plan, due, whole_frames}
use Rattle.defmt_writers.proofs.Taken.{took_told, was_told_takes}
use Rattle.defmt_writers.specs.Runs.{HoldsStreams}
use Rattle.defmt_writers.specs.Takes.{Takes}
use Rattle.dl_io.specs.Buffer.{Buffer}
use Rattle.rtt_down.specs.Kept.{IsKept}
use Rattle.rtt_down.specs.Orders.{orders_joined}
use Rattle.rtt_down.specs.Reel.{Reel}
use Rattle.rtt_down.specs.Steered.{AreHeard, IsSteered, turns_of}
use Rattle.rtt_modes.specs.Fates.{ByLook, SkippedBy, part_of}
use Rattle.rtt_modes.specs.declared.fate.Fate.{Fate}
use Rattle.rtt_modes.specs.declared.fate.Fate.TheVariants.{Whole, Dropped, Cut}
use Rattle.rtt_ring.specs.Account.{Account}
use Rattle.rtt_ring.specs.Views.{Down, Up, UpKept}
use Rattle.writer_threads.proofs.Passed.{told_none}
use Rattle.writer_threads.specs.Passing.{Means, WasTold}

-- where nothing was captured no total was to be told
pub host_untold : (named : ℕ → Type 0) (items : List ℕ) → items ≡ [] → WasTold named 0 (length items)
host_untold named items none = told_none named 0 (length items) (omega (arith, ap length none))

-- the totals of what was captured, behind one take more
pub host_told : (named shown : ℕ → Type 0) (d e : Down) (b c : Buffer) (n : ℕ) → Means shown named → Takes d e b c n → c.room + n ≡ b.room → n ≤ 256
    → (0 < n → shown (length c.items)) → WasTold named 0 (length b.items) → WasTold named 0 (length c.items)
host_told named shown d e b c n means takes less few is told = was_told_takes named shown 0 d e b c n means takes told ∣ took_told shown d e b c n takes less few is ∣₁

-- ---- an order fits

whole_by : (u v : Up) (bytes : List ℕ) (fate : Fate) (left : ℕ) → SkippedBy left bytes fate → length bytes ≤ 3 → left + length u.sent + 1 ≡ v.freed + 256 → length u.sent ≤ 189
    → v.sent ≡ u.sent ++ part_of bytes fate → v.sent ≡ u.sent ++ bytes
whole_by u v bytes Whole left by short told few sent = sent
whole_by u v bytes (Dropped need room) left by short told few sent = absurd (omega (arith, by.0, by.1, by.2, told, short, few))
whole_by u v bytes (Cut need room) left by short told few sent = absurd by

pub sent_whole : (u v : Up) (bytes : List ℕ) (fate : Fate) → ByLook SkippedBy u v bytes fate → length bytes ≤ 3 → u.tells ≡ true → u.size ≡ 256 → length u.sent ≤ 189 → v.sent ≡ u.sent ++ bytes
sent_whole u v bytes fate h short tells size few =
    let told : h.left + length u.sent + 1 ≡ v.freed + u.size = h.told tells in
    whole_by u v bytes fate h.left h.fate_is short (omega (arith, told, size)) few h.sent

-- before one of so few orders so few bytes were sent
pub few_sent : (plan : Plan) (frames n : ℕ) (sent : List ℕ) → length plan ≤ 64 → n < length (due plan frames) → sent ≡ orders_joined (take n (due plan frames)) → length sent ≤ 189
few_sent plan frames n sent few below is =
    let levels : List Level = take n (due plan frames) in
    let long : length levels ≡ n = length-take-le n (due plan frames) (omega (arith, below)) in
    let size : length sent ≡ 3 * length levels = ap length is ∙ joined_size levels in
    omega (arith, size, long, due_few plan frames, few, below)

-- ---- the end

-- where the upper end only looked
pub kept_same : (s : Script) (reel : Reel) (u v : Up) (d : Down) → IsKept (record { script = s; turns = reel; up = u; down = d }) → UpKept u v → v.sent ≡ u.sent
    → IsKept (record { script = s; turns = reel; up = v; down = d })
kept_same s reel u v d k kept sent = record {
  steered = k.steered;
  sent = sent ∙ k.sent;
  staged = kept.staged;
  looks = k.looks;
  heard = k.heard;
  found = k.found;
  split = k.split ∙ sym kept.split;
  down = k.down;
  room = k.room;
}

-- nothing is left where all was released, and where all that can be sent was captured
all_taken : (u : Up) (a : Account) (captured rest : List ℕ) (left room : ℕ) → a.sent ≡ u.sent → a.got ≡ captured → a.sent ≡ a.got ++ rest → u.freed ≤ length a.got → length u.sent ≤ room
    → left + length captured ≡ room → (u.freed ≡ length u.sent) ⊎ (left ≡ 0) → rest ≡ []
all_taken u a captured rest left room sent got whole freed fits held ends =
    let total : length a.sent ≡ length a.got + length rest = ap length whole ∙ length-append a.got rest in
    let same : length a.sent ≡ length u.sent = ap length sent in
    let took : length a.got ≡ length captured = ap length got in
    nil_from_length rest (elim ends [ inl all ↦ omega (arith, all, total, same, freed) | inr full ↦ omega (arith, full, total, same, took, held, fits) ])

-- what a settled ring of frames was: its upper end, and what was left of the host's room
pub record Emptied (u : Up) (a : Account) (captured rest : List ℕ) (left room : ℕ) : Type 0 where
  pub split : a.split ≡ u.split
  pub sent : a.sent ≡ u.sent
  pub got : a.got ≡ captured
  pub whole : a.sent ≡ a.got ++ rest
  pub freed : u.freed ≤ length a.got
  pub held : left + length captured ≡ room
  pub ends : (u.freed ≡ length u.sent) ⊎ (left ≡ 0)

pub steered_ends : (s q : Script) (plan : Plan) (reel : Reel) (u : Up) (d : Down) (given name : List ℕ) (a b : Account) (captured rest unheard : List ℕ) (left room : ℕ)
    → q ≡ s
    → plan ≡ s.settings.orders
    → IsKept (record { script = q; turns = reel; up = u; down = d })
    → ((w : ℕ) → w < 8 → turns_of w reel.turns ≡ count s w)
    → Emptied u a captured rest left room
    → HoldsStreams s room
    → reel.ahead ≡ orders_joined (due plan 0)
    → given ≡ orders_joined (due plan (whole_frames captured))
    → b.split ≡ name → d.split ≡ name
    → b.sent ≡ given
    → b.got ≡ d.got
    → b.sent ≡ b.got ++ unheard
    → IsSteeredRun s reel a captured rest b unheard
steered_ends s q plan reel u d given name a b captured rest unheard left room e same k all t holds early is named down ordered heard behind =
    let P : Script → Type 0 = λ x. IsKept (record { script = x; turns = reel; up = u; down = d }) in
    let now : IsKept (record { script = s; turns = reel; up = u; down = d }) = subst P e k in
    let steered : IsSteered s reel.turns b.got = subst (λ (l : List ℕ). IsSteered s reel.turns l) (sym heard) now.steered in
    let fits : length u.sent ≤ room = subst (λ (l : List ℕ). length l ≤ room) (sym now.sent) (holds.turns reel.turns b.got steered) in
    record {
      steered = steered;
      hears = subst (λ (l : List ℕ). AreHeard l 0 reel.turns reel.found) (sym heard) now.heard;
      all = all;
      sends = t.sent ∙ now.sent;
      takes = t.got;
      whole = t.whole ∙ ap (λ (l : List ℕ). l ++ rest) t.got;
      taken = all_taken u a captured rest left room t.sent t.got t.whole t.freed fits t.held t.ends;
      split = t.split ∙ sym now.split;
      down = named ∙ sym down ∙ sym now.down;
      early = early ∙ ap (λ (p : Plan). orders_joined (due p 0)) same;
      ordered =
          ordered ∙ is ∙ ap (λ (l : List ℕ). orders_joined (due plan (whole_frames l))) (sym t.got)
          ∙ ap (λ (p : Plan). orders_joined (due p (whole_frames a.got))) same;
      heard = behind;
    }
