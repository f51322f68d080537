-- A bridge at which one turn more is taken.
use Rattle.std.proofs.Common.{◌≡◌, ℕ, ◌+◌, ◌-◌, ◌*◌, ◌<◌, ◌≤◌, List, [], ◌∷◌, ◌++◌, length, length-append, refl, sym, ap, subst, ◌∙◌, arith, take}
use Rattle.std.specs.Prelude.{min, slice_index_or}
use Rattle.std.proofs.lemmas.List.{length-take}
use Rattle.defmt_frames.specs.Frames.{count, pace_of, stamp_number}
use Rattle.defmt_hooks.specs.Even.{Pace}
use Rattle.defmt_script.specs.Script.{Script}
use Rattle.rtt_down.proofs.Hearing.{heard-snoc, last_found-snoc}
use Rattle.rtt_down.proofs.Next.{stream-snoc}
use Rattle.rtt_down.specs.Kept.{IsKept, Sheet, SteersBy, Turned}
use Rattle.rtt_down.specs.Orders.{orders}
use Rattle.rtt_down.specs.Reel.{Reel}
use Rattle.rtt_down.specs.Steered.{AreHeard, last_found, stream_of, taken_by, turn_part, turns_of}
use Rattle.rtt_down.specs.declared.course.Course.{Course}
use Rattle.rtt_down.specs.declared.turn.Turn.{Turn}
use Rattle.rtt_ring.specs.Views.{Down, Took, Up, UpKept}

-- ---- a turn

pub turned : (s : Script) (d e : Down) (c n : Course) (w : ℕ) (t u : Turn) (taken found : List ℕ)
    → Took d e taken
    → length taken ≡ min (e.found - length d.got) 192
    → t ≡ u → u.writer ≡ w → u.place ≡ slice_index_or c.places w 0 → u.seen ≡ n.heard.seen
    → n.turns.turns ≡ c.turns.turns ++ t ∷ []
    → n.turns.found ≡ c.turns.found ++ found → found ≡ e.found ∷ []
    → (n.turns.split ≡ c.turns.split) × (n.turns.down ≡ c.turns.down)
    → SteersBy s (d.got ++ taken) n
    → Turned s d e c n w t
turned s d e c n w t u taken found took count is writer place seen turns founds one rings steers =
    let got : e.got ≡ d.got ++ taken = ap (λ (x : Down). x.got) took.same in
    let len : length e.got ≡ length d.got + length taken = ap length got ∙ length-append d.got taken in
    record {
      steers = subst (λ (l : List ℕ). SteersBy s l n) (sym got) steers;
      turns = turns;
      writer = ap (λ (x : Turn). x.writer) is ∙ writer;
      place = ap (λ (x : Turn). x.place) is ∙ place;
      looks = ap (λ (x : Down). x.looks) took.same;
      split = ap (λ (x : Down). x.split) took.same;
      taken = taken;
      got = got;
      count = omega (arith, len, count, took.reached);
      reached = took.reached;
      seen = ap (λ (x : Turn). x.seen) is ∙ seen ∙ steers.heard.seen_is ∙ ap (λ (l : List ℕ). length (orders l)) (sym got);
      found = founds ∙ ap (λ (l : List ℕ). c.turns.found ++ l) one;
      rings = rings;
    }

-- a turn takes no more than its buffer holds
pub taken_few : (bytes : List ℕ) (n found room : ℕ) → n ≡ min found room → room ≡ 192 → length (take n bytes) ≤ 192
taken_few bytes n found room h e = omega (arith, length-take n bytes, h, e)

-- and no less than that, where so much was found
pub taken_count : (bytes : List ℕ) (n found room : ℕ) → n ≡ min found room → room ≡ 192 → room ≤ length bytes → length (take n bytes) ≡ min found 192
taken_count bytes n found room h e fits = omega (arith, length-take n bytes, h, e, fits)

-- the clock tells the stamp of the number
pub stamp_is : (s : Script) (pace : Pace) (t n stamp : ℕ) → pace ≡ pace_of s.settings.stamp → stamp ≡ pace.base + pace.step * t → t ≡ n → stamp ≡ stamp_number s n
stamp_is s pace t n stamp e given same = given ∙ ap (λ (p : Pace). p.base + p.step * t) e ∙ ap (stamp_number s) same

-- ---- the bridge

-- a bridge that is the same has the statement left too
pub more_left : (d e : Sheet) (w : ℕ) → d ≡ e → turns_of w e.turns.turns < count e.script w → turns_of w d.turns.turns < count d.script w
more_left d e w same more = subst (λ (x : Sheet). turns_of w x.turns.turns < count x.script w) (sym same) more

pub place_below : (s : Script) (got : List ℕ) (c : Course) (w : ℕ) → SteersBy s got c → w < 8 → turns_of w c.turns.turns < count s w → slice_index_or c.places w 0 < count s w
place_below s got c w k below more = omega (arith, k.counts.1 w below, more)

-- the statement of the turn is there
pub turn_below : (s : Script) (d e : Down) (c n : Course) (w : ℕ) (t : Turn) → Turned s d e c n w t → slice_index_or c.places w 0 < count s w → t.place < count s t.writer
turn_below s d e c n w t one below =
    let there : t.place < count s w = omega (arith, one.place, below) in
    subst (λ (k : ℕ). t.place < count s k) (sym one.writer) there

pub kept_next : (s : Script) (u v : Up) (d e : Down) (c n : Course) (w number : ℕ) (t : Turn)
    → IsKept (record { script = s; turns = c.turns; up = u; down = d })
    → Turned s d e c n w t
    → number ≡ length c.turns.turns
    → v.sent ≡ u.sent ++ turn_part s number t
    → UpKept u v
    → IsKept (record { script = s; turns = n.turns; up = v; down = e })
kept_next s u v d e c n w number t k one is sent kept =
    let turns : List Turn = c.turns.turns in
    let part : v.sent ≡ u.sent ++ turn_part s (length turns) t = sent ∙ ap (λ (m : ℕ). u.sent ++ turn_part s m t) is in
    let len : length n.turns.turns ≡ length turns + 1 = ap length one.turns ∙ length-append turns (t ∷ []) in
    let heard : AreHeard (d.got ++ one.taken) 0 (turns ++ t ∷ []) (c.turns.found ++ e.found ∷ []) =
    heard-snoc d.got one.taken 0 turns c.turns.found t e.found k.heard one.reached (ap length (sym one.got) ∙ one.count) (one.seen ∙ ap (λ (l : List ℕ). length (orders l)) one.got) in
    record {
      steered = one.steers.steered;
      sent = part ∙ ap (λ l. l ++ turn_part s (length turns) t) k.sent ∙ sym (stream-snoc s turns t) ∙ ap (stream_of s) (sym one.turns);
      staged = kept.staged;
      looks = omega (arith, len, one.looks, k.looks);
      heard = rw (one.got, one.turns, one.found) heard;
      found = ap (last_found 0) one.found ∙ last_found-snoc 0 c.turns.found e.found;
      split = one.rings.0 ∙ k.split ∙ sym kept.split;
      down = one.rings.1 ∙ k.down ∙ sym one.split;
      room = one.steers.room;
    }

-- ---- no turn yet

pub steers_none : (s : Script) (d : Down) (c : Course) → d.got ≡ [] → SteersBy s [] c → SteersBy s d.got c
steers_none s d c none steers = subst (λ (l : List ℕ). SteersBy s l c) (sym none) steers

pub kept_first : (s : Script) (u : Up) (d : Down) (c : Course) → u.sent ≡ [] → u.staged ≡ [] → d.got ≡ [] → d.looks ≡ 0 → d.found ≡ 0 → SteersBy s [] c
    → (c.turns.turns ≡ []) × (c.turns.found ≡ []) → c.turns.split ≡ u.split → c.turns.down ≡ d.split
    → IsKept (record { script = s; turns = c.turns; up = u; down = d })
kept_first s u d c sent staged got looks found steers (none, unfound) split down =
    let here : SteersBy s d.got c = steers_none s d c got steers in
    record {
      steered = here.steered;
      sent = sent ∙ ap (stream_of s) (sym none);
      staged = staged;
      looks = looks ∙ ap length (sym none);
      heard = rw (got, none, unfound) refl;
      found = ap (last_found 0) unfound ∙ sym found;
      split = split;
      down = down;
      room = here.room;
    }

-- the same turns, with a note of what was sent before them
pub kept_noted : (d : Sheet) (turns : Reel) (ahead : List ℕ) → turns ≡ record d.turns { ahead = ahead } → IsKept d → IsKept (record d { turns = turns })
kept_noted d turns ahead same k =
    subst (λ (r : Reel). IsKept (record d { turns = r })) (sym same)
    (record {
      steered = k.steered;
      sent = k.sent;
      staged = k.staged;
      looks = k.looks;
      heard = k.heard;
      found = k.found;
      split = k.split;
      down = k.down;
      room = k.room;
    })
