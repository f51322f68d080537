use Rattle.std.proofs.Common.{◌≡◌, ◌+◌, ◌||◌, nat_lt, ℕ, List, length, take, drop, true, Some, refl, sym, ◌∙◌, ap, subst, arith, length-take, length-drop}
use Rattle.std.proofs.lemmas.Bool.{true≢false}
use Rattle.defmt_framing.specs.Framing.{Framing, Stands, Hears}
use Rattle.defmt_framing.specs.Told.{told_size}
use Rattle.defmt_framing.proofs.Standing.{closes, piece_alone, piece_short, some_parts}
use Rattle.defmt_framing.proofs.framer.Framer.pass_piece.Goals as goal

pub returns : goal.returns
returns g c tells stream st =
    let s = c.self.inside in
    let w = c.requires in
    let bytes : List ℕ = c.args.bytes.now in
    let start : ℕ = c.args.start in
    let size : ℕ = c.args.size in
    let run : List ℕ = take size (drop start bytes) in
    let long : length run ≡ size = omega (arith, length-take size (drop start bytes), length-drop start bytes, w.within) in
    let before : Framing = record { heard = s.heard; zeros = s.zeros; since = s.since; kept = s.kept.items } in
    let after : Framing = record { heard = c.saturating_add-self-inside.result; zeros = true; since = s.since; kept = s.kept.items } in
    let none_since : s.since ≡ 0 = ap (λ (b : Framing). b.since) c.self.view_is ∙ w.since in
    let none_kept = ap (λ (b : Framing). b.kept) c.self.view_is ∙ w.kept in
    let begun : (s.zeros || nat_lt 0 start) ≡ true = ap (λ (b : Framing). b.zeros || nat_lt 0 start) c.self.view_is ∙ w.begun in
    let heard : after.heard ≡ told_size (before.heard + (start + length run + 1)) = omega (arith, c.saturating_add-self-inside.ensures, c.split_at.ensures.front_len, long) in
    subst (λ (taken : List ℕ). Hears tells after stream taken (Some (tells.piece run)))
    (some_parts bytes (drop start bytes) run start size (omega (arith, w.within)) w.zeros refl refl (omega (arith, length-drop start bytes, w.within)) w.zero)
    (closes tells before after stream run start (tells.piece run) (subst (λ (b : Framing). Stands b stream) (sym c.self.view_is) st)
    (λ not. absurd (not none_since)) w.none (omega (arith, long, w.some)) heard refl none_since none_kept
    (λ _. sym (piece_short tells run (omega (arith, long, w.short))) ∙ piece_alone tells s.kept.items run (ap length none_kept))
    (λ none. absurd (true≢false (sym begun ∙ none))))
