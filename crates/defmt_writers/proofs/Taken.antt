-- Takes behind takes, and what is got once all is released that was sent.
use Rattle.std.proofs.Common.{◌≡◌, ◌⊎◌, ℕ, ◌+◌, ◌<◌, ◌≤◌, List, ◌++◌, length, length-append, length-take, append-nil, sym, ap, subst, ◌∙◌, inl, inr, arith, take}
use Rattle.std.proofs.lemmas.List.{nil_from_length, take-take}
use Rattle.std.specs.Io.{StartsWith}
use Rattle.defmt_logger.specs.Tape.{stream_of}
use Rattle.defmt_script.specs.Script.{Script}
use Rattle.defmt_logger.specs.Kept.{IsKept, Reel}
use Rattle.defmt_writers.specs.Runs.{HoldsTapes}
use Rattle.defmt_writers.specs.Takes.{Takes}
use Rattle.dl_io.specs.Buffer.{Buffer}
use Rattle.rtt_ring.specs.Views.{Down, Up}
use Rattle.writer_threads.proofs.Passed.{all_told_on, was_told_on}
use Rattle.writer_threads.specs.Passing.{Means, ToldAll, WasTold}

starts_on : (xs ys zs : List ℕ) → StartsWith ys xs → StartsWith zs ys → StartsWith zs xs
starts_on xs ys zs p q =
    let le : length xs ≤ length ys = omega (arith, ap length p, length-take (length xs) ys) in
    sym (take-take (length xs) (length ys) zs le) ∙ ap (take (length xs)) q ∙ p

longer : (xs ys : List ℕ) → StartsWith ys xs → length xs ≤ length ys
longer xs ys p = omega (arith, ap length p, length-take (length xs) ys)

pub takes_on : (d e f : Down) (b c x : Buffer) (m n : ℕ) → Takes d e b c m → Takes e f c x n → Takes d f b x n
takes_on d e f b c x m n p q = record {
  size = q.size ∙ p.size;
  later = omega (arith, p.later, q.later);
  looks = omega (arith, p.looks, q.looks);
  looked = λ z. omega (arith, p.looks, q.looked z);
  front = starts_on b.items c.items x.items p.front q.front;
  room = q.room ∙ p.room;
  ended = q.ended;
}

-- where the last take took something
pub takes_more : (d e f : Down) (b c x : Buffer) (m n : ℕ) → Takes d e b c m → Takes e f c x n → Takes d f b x 1
takes_more d e f b c x m n p q = record {
  size = q.size ∙ p.size;
  later = omega (arith, p.later, q.later);
  looks = omega (arith, p.looks, q.looks);
  looked = λ z. absurd (omega (arith, z));
  front = starts_on b.items c.items x.items p.front q.front;
  room = q.room ∙ p.room;
  ended = λ z. absurd (omega (arith, z));
}

-- a take of at most 256 bytes whose total was told
pub took_told : (told : ℕ → Type 0) (d e : Down) (b c : Buffer) (n : ℕ) → Takes d e b c n → c.room + n ≡ b.room → n ≤ 256
    → (0 < n → told (length c.items)) → ToldAll told (length b.items) (length c.items)
took_told told d e b c n takes less few is = λ count from to.
    (length c.items, is (omega (arith, takes.room, less, from, to)), to, omega (arith, takes.room, less, few, from), omega arith)

-- takes behind those whose totals were told
pub told_takes : (told : ℕ → Type 0) (a : ℕ) (d e : Down) (b c : Buffer) (n : ℕ) → Takes d e b c n → ToldAll told a (length b.items) → ToldAll told (length b.items) (length c.items) → ToldAll told a (length c.items)
told_takes told a d e b c n takes p q = all_told_on told a (length b.items) (length c.items) (longer b.items c.items takes.front) p q

pub was_told_takes : (told shown : ℕ → Type 0) (a : ℕ) (d e : Down) (b c : Buffer) (n : ℕ) → Means shown told → Takes d e b c n
    → WasTold told a (length b.items) → WasTold shown (length b.items) (length c.items) → WasTold told a (length c.items)
was_told_takes told shown a d e b c n means takes p q = was_told_on told shown a (length b.items) (length c.items) (longer b.items c.items takes.front) means p q

-- where all was released that was sent, or no room is left of what holds it, all that was sent was got
pub released_got : (upper sent got rest : List ℕ) (freed : ℕ) (capture : Buffer)
    → length upper ≤ capture.room + length capture.items
    → sent ≡ upper
    → got ≡ capture.items
    → sent ≡ got ++ rest
    → freed ≤ length got
    → (freed ≡ length upper) ⊎ (capture.room ≡ 0)
    → got ≡ sent
released_got upper sent got rest freed capture holds same had whole few either =
    let is : length sent ≡ length upper = ap length same in
    let len : length sent ≡ length got + length rest = ap length whole ∙ length-append got rest in
    let none : length rest ≡ 0 = elim either [
      | inl all ↦ omega (arith, len, few, all, is)
      | inr full ↦ omega (arith, len, holds, full, is, ap length had)
    ] in
    sym (whole ∙ ap (λ (l : List ℕ). got ++ l) (nil_from_length rest none) ∙ append-nil got)

-- so of a run, whose capture holds the stream of any tape
pub run_got : (s q : Script) (tape : Reel) (u v : Up) (sent got rest : List ℕ) (capture : Buffer)
    → q ≡ s
    → IsKept (record { script = q; tape = tape; up = u })
    → HoldsTapes s (capture.room + length capture.items)
    → v.sent ≡ u.sent
    → sent ≡ v.sent
    → got ≡ capture.items
    → sent ≡ got ++ rest
    → v.freed ≤ length got
    → (v.freed ≡ length v.sent) ⊎ (capture.room ≡ 0)
    → got ≡ sent
run_got s q tape u v sent got rest capture e k holds same =
    let now : IsKept (record { script = s; tape = tape; up = u }) = subst (λ (x : Script). IsKept (record { script = x; tape = tape; up = u })) e k in
    let len : length v.sent ≡ length (stream_of s tape.marks) = ap length (same ∙ now.sent) in
    released_got v.sent sent got rest v.freed capture (omega (arith, len, holds tape.marks now.lawful))
