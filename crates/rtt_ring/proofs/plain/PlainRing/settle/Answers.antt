use Rattle.std.proofs.Common.{◌≡◌, ◌∙◌, ℕ, List, [], ◌++◌, refl, sym, ap, append_assoc}
use Rattle.std.specs.Prelude.{Result, Ok, Err, IfErr}
use Rattle.dl_io.specs.Buffer.{Buffer}
use Rattle.rtt_ring.proofs.plain.PlainRing.settle.Goals as goal

-- a front of what waits is in the rest
front_sent : (sent got front back whole items : List ℕ) → sent ≡ got ++ whole → front ++ back ≡ whole → items ≡ front → (more : List ℕ) × (sent ≡ (got ++ items) ++ more)
front_sent sent got front back whole items all e is =
    (back, all ∙ ap (λ (l : List ℕ). got ++ l) (sym e) ∙ sym (append_assoc got front back) ∙ ap (λ (l : List ℕ). (got ++ l) ++ back) (sym is))

if_err : {A E : Type 0} (r : Result A E) (P : Type 0) → P → IfErr r (λ _. P)
if_err (Ok x) P p = tt
if_err (Err x) P p = p

pub returns-in_err-extend_from_slice-clause-memory : goal.returns-in_err-extend_from_slice-clause-memory
returns-in_err-extend_from_slice-clause-memory c =
    let s = c.args.self in
    let items = ap (λ (b : Buffer). b.items) c.in_err-extend_from_slice.ensures.err ∙ c.requires.1 in
    if_err c.from_residual.result _ (front_sent _ _ [] _ _ c.extend_from_slice.new.self.items s.kept.sent_is refl items)

pub returns-in_err-extend_from_slice-2-clause-memory : goal.returns-in_err-extend_from_slice-2-clause-memory
returns-in_err-extend_from_slice-2-clause-memory c =
    let s = c.args.self in
    let items = ap (λ (b : Buffer). b.items) c.in_err-extend_from_slice-2.ensures.err ∙ c.in_ok-extend_from_slice.ensures.ok
    ∙ ap (λ (l : List ℕ). l ++ c.runs.result.0.now) c.requires.1 in
    if_err c.from_residual-in_err-extend_from_slice-2.result _ (front_sent _ _ _ _ _ c.extend_from_slice-2.new.self.items s.kept.sent_is c.runs.ensures.bytes items)
