-- What is known of the two ends while frames go through.
use Rattle.std.proofs.Common.{◌≡◌, ℕ, suc, ◌+◌, ◌*◌, List, [], ◌++◌, length, arith, refl, sym, ap, ◌∙◌, append_assoc, append-nil, add-one, length-append, suc-mul, zero, ◌↔◌, Result, Ok, Err, subst}
use Rattle.std.proofs.lemmas.List.{nil_from_length}
use Rattle.rtt_ring.specs.declared.ends.RingFault.{RingFault}
use Rattle.rtt_ring.specs.declared.ends.RingFault.TheVariants.{Size, Memory}
use Rattle.rtt_ring.specs.Views.{Up, UpKept}
use Rattle.ring_bench.specs.Frames.{frames}

pub kept_first : (u : Up) → u.staged ≡ [] → UpKept u u
kept_first u empty = record { split = refl; size = refl; tells = refl; staged = empty; later = omega arith }

pub no_frames : (frame : List ℕ) → frames 0 frame ≡ []
unfolding frames
no_frames frame = refl

pub one_more : (n : ℕ) (frame : List ℕ) → frames (suc n) frame ≡ frames n frame ++ frame
unfolding frames
one_more n frame = refl

-- before the first frame
pub sent_first : (first frame : List ℕ) → first ≡ first ++ frames 0 frame
sent_first first frame = sym (ap (λ (l : List ℕ). first ++ l) (no_frames frame) ∙ append-nil first)

-- one more frame is sent
pub sent_more : (first now after frame : List ℕ) (n : ℕ) → now ≡ first ++ frames n frame → after ≡ now ++ frame → after ≡ first ++ frames (n + 1) frame
sent_more first now after frame n was is =
    is ∙ ap (λ (l : List ℕ). l ++ frame) was ∙ append_assoc first (frames n frame) frame ∙ ap (λ (l : List ℕ). first ++ l) (sym (one_more n frame))
    ∙ ap (λ (k : ℕ). first ++ frames k frame) (sym (add-one n))

pub frames_long : (n : ℕ) (frame : List ℕ) → length (frames n frame) ≡ n * length frame
frames_long zero frame = omega (arith, ap length (no_frames frame))
frames_long (suc n) frame =
    ap length (one_more n frame) ∙ length-append (frames n frame) frame ∙ ap (λ (k : ℕ). k + length frame) (frames_long n frame)
    ∙ sym (suc-mul n (length frame))

-- nothing is left of what was sent where as many bytes were taken
pub all_got : (sent got rest : List ℕ) → sent ≡ got ++ rest → length got ≡ length sent → got ≡ sent
all_got sent got rest is long =
    let none : length rest ≡ 0 = omega (arith, length-append got rest, ap length is) in
    sym (is ∙ ap (λ (l : List ℕ). got ++ l) (nil_from_length rest none) ∙ append-nil got)

-- any answer but that of a wrong size
abbrev NotSize : {T : Type 0} → Result T RingFault → Type 0
NotSize (Ok t) = Unit {0}
NotSize (Err Memory) = Unit {0}
NotSize (Err Size) = ⊥

pub not_refused : {T U : Type 0} (r : Result T RingFault) (s : Result U RingFault) (P : Type 0) → P ↔ (r ≡ Err Size) → NotSize r → NotSize s → P ↔ (s ≡ Err Size)
not_refused {T = T} {U = U} r s P f first last =
    (λ p. absurd (subst (λ (x : Result T RingFault). NotSize x) (f.0 p) first), λ e. absurd (subst (λ (x : Result U RingFault). NotSize x) e last))
