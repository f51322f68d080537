-- What a reporter counts, and what all events come to.
use Rattle.std.proofs.Common.{◌≡◌, ◌≤◌, ◌<◌, ◌+◌, ◌-◌, ◌^◌, ℕ, zero, suc, min, cond, Bool, true, false, List, [], ◌∷◌, length, refl, sym, subst, ◌∙◌, ap, arith}
use Rattle.std.specs.Prelude.{filter, if◌then◌else◌, Option, Some, None}
use Rattle.dl_io.specs.Outside.{last_count, raised}
use Rattle.defmt_decode.specs.declared.event.Event.{Event}
use Rattle.defmt_decode.specs.declared.event.Event.TheVariants.{Line, Bad, CutFront, CutTail}
use Rattle.defmt_hooks.specs.declared.level.Level.{Level}
use Rattle.defmt_listen.specs.Heard.{state_behind}
use Rattle.defmt_recording.specs.Decoding.{fault_by, fault_of_events, is_counted}
use Rattle.defmt_recording.specs.Output.{is_fault}
use Rattle.defmt_recording.specs.Styled.{Look, Reel, by_style, counted, is_cut, is_failing, reel, reel_behind}
use Rattle.defmt_recording.specs.declared.fault.Fault.{Fault}

-- ---- a count that goes from event to event

abbrev pub tally : (Event → Bool) → ℕ → List Event → ℕ
tally p n [] = n
tally p n (e ∷ es) = tally p (counted n (p e)) es

pub failing_is : (s : Reel) (es : List Event) → (state_behind by_style s es).failing ≡ tally (is_failing s.look) s.failing es
failing_is s [] = refl
failing_is s (e ∷ es) = failing_is (reel_behind s e) es

pub cuts_is : (s : Reel) (es : List Event) → (state_behind by_style s es).cuts ≡ tally is_cut s.cuts es
cuts_is s [] = refl
cuts_is s (e ∷ es) = cuts_is (reel_behind s e) es

one_step : (p : Event → Bool) (n : ℕ) (e : Event) (es : List Event) (b : Bool) → n ≤ last_count → ((m : ℕ) → m ≤ last_count → tally p m es ≡ min (m + length (filter p es)) last_count)
    → tally p (counted n b) es ≡ min (n + length (cond {A = List Event} b (e ∷ filter p es) (filter p es))) last_count
one_step p n e es true le more = more (raised n) (omega arith) ∙ omega arith
one_step p n e es false le more = more n le

-- it is how many there are, or the last value
pub tally_is : (p : Event → Bool) (es : List Event) (n : ℕ) → n ≤ last_count → tally p n es ≡ min (n + length (filter p es)) last_count
tally_is p [] n le = omega (arith, le)
tally_is p (e ∷ es) n le = one_step p n e es (p e) le (tally_is p es)

pub tally_from_none : (p : Event → Bool) (es : List Event) → tally p 0 es ≡ min (length (filter p es)) last_count
tally_from_none p es = tally_is p es 0 (omega arith) ∙ omega arith

-- ---- faults

same_here : (p q : Event → Bool) (e : Event) (es : List Event) (a b : Bool) → a ≡ b → length (filter p es) ≡ length (filter q es)
    → length (cond {A = List Event} a (e ∷ filter p es) (filter p es)) ≡ length (cond {A = List Event} b (e ∷ filter q es) (filter q es))
same_here p q e es a true is same = ap (λ (x : Bool). length (cond {A = List Event} x (e ∷ filter p es) (filter p es))) is ∙ omega (arith, same)
same_here p q e es a false is same = ap (λ (x : Bool). length (cond {A = List Event} x (e ∷ filter p es) (filter p es))) is ∙ same

same_count : (p q : Event → Bool) → ((e : Event) → p e ≡ q e) → (es : List Event) → length (filter p es) ≡ length (filter q es)
same_count p q is [] = refl
same_count p q is (e ∷ es) = same_here p q e es (p e) (q e) (is e) (same_count p q is es)

counts_all : (e : Event) → is_fault e ≡ is_counted false e
unfolding is_fault is_cut
counts_all (Line index place parts text) = refl
counts_all (Bad cause) = refl
counts_all (CutFront bytes) = refl
counts_all (CutTail bytes) = refl

-- every fault but a front and a tail counts while the device runs
cuts_apart : (es : List Event) → length (filter is_fault es) ≡ length (filter is_cut es) + length (filter (is_counted true) es)
unfolding is_fault is_cut
cuts_apart [] = refl
cuts_apart (Line index place parts text ∷ es) = cuts_apart es
cuts_apart (Bad cause ∷ es) = omega (arith, cuts_apart es)
cuts_apart (CutFront bytes ∷ es) = omega (arith, cuts_apart es)
cuts_apart (CutTail bytes ∷ es) = omega (arith, cuts_apart es)

bad_is : (live : Bool) (es : List Event) (count cuts : ℕ) → count ≡ length (filter is_fault es) → count ≤ last_count → cuts ≡ min (length (filter is_cut es)) last_count
    → (if live then count - cuts else count) ≡ length (filter (is_counted live) es)
bad_is true es count cuts is few cut = omega (arith, is, few, cut, cuts_apart es)
bad_is false es count cuts is few cut = is ∙ same_count is_fault (is_counted false) counts_all es

-- what a reporter has at the end is what the events come to
pub comes_to : (l : Look) (live : Bool) (es : List Event) (count : ℕ) (after : Reel) → count ≡ length (filter is_fault es) → count ≤ last_count → after ≡ state_behind by_style (reel l None 0 0) es
    → fault_by l.style.fail_on after.failing (if live then count - after.cuts else count) ≡ fault_of_events l live es
comes_to l live es count after is few goes =
    let failing : after.failing ≡ min (length (filter (is_failing l) es)) last_count =
    ap (λ (s : Reel). s.failing) goes ∙ failing_is (reel l None 0 0) es ∙ tally_from_none (is_failing l) es in
    let cuts : after.cuts ≡ min (length (filter is_cut es)) last_count = ap (λ (s : Reel). s.cuts) goes ∙ cuts_is (reel l None 0 0) es ∙ tally_from_none is_cut es in
    ap (λ (n : ℕ). fault_by l.style.fail_on n (if live then count - after.cuts else count)) failing
    ∙ ap (λ (n : ℕ). fault_by l.style.fail_on (min (length (filter (is_failing l) es)) last_count) n) (bad_is live es count after.cuts is few cuts)
