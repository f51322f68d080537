use Rattle.std.proofs.Common.{◌≡◌, ◌∙◌, ℕ, ◌-◌, ◌+◌, ◌<◌, ◌%◌, List, ◌++◌, length, take, drop, ap, arith, length-drop, mod-lt, take_all}
use Rattle.rtt_ring.specs.Image.{part}
use Rattle.rtt_ring.proofs.Kept.{runs_are}
use Rattle.rtt_ring.proofs.plain.PlainRing.runs.Goals as goal

pub returns-clause-bytes : goal.returns-clause-bytes
returns-clause-bytes c =
    let s = c.args.self.now in
    let memory = c.deref.result.now in
    let buffer : List ℕ = take (length memory - 48) (drop 48 memory) in
    let first = c.min-first.result in
    let is : buffer ≡ drop 48 s.image.items =
    take_all (length memory - 48) (drop 48 memory) (omega (arith, length-drop 48 memory)) ∙ ap (λ (l : List ℕ). drop 48 l) c.deref.ensures.value in
    let big = s.kept.big in
    let bound = s.kept.bound in
    let freed = s.kept.freed in
    let place = s.kept.place in
    let small : length s.journal.seat.me.0.got % s.size < s.size = mod-lt (length s.journal.seat.me.0.got) (omega arith) in
    let run : s.rd + first - s.rd ≡ first = omega arith in
    let whole : first + (c.args.count - first) ≡ c.args.count = omega arith in
    ap (λ (n : ℕ). take n (drop s.rd buffer) ++ take (c.args.count - first) buffer) run
    ∙ runs_are _ _ _ _ _ _ _ _ _ s.kept buffer first (c.args.count - first) is (omega arith) (omega arith) (λ more. omega arith)
    ∙ ap (λ (n : ℕ). part s.image.items s.size (length s.journal.seat.me.0.got) n) whole
