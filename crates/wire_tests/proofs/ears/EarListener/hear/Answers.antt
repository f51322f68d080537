use Rattle.std.proofs.Common.{◌≡◌, ◌+◌, ◌++◌, ◌∷◌, [], ℕ, Bool, true, false, List, length, take, drop, nat_lt, Option, Some, sym, ◌∙◌, ap, subst, if◌then◌else◌}
use Rattle.std.proofs.Math.Seq.{take-length}
use Rattle.defmt_framing.specs.Framing.{Hears}
use Rattle.defmt_framing.specs.Told.{Tells}
use Rattle.wire_tests.specs.declared.ears.Told.{Told}
use Rattle.wire_tests.proofs.ears.EarListener.hear.Goals as goal

pub returns-in-Some-clause-hears : goal.returns-in-Some-clause-hears
returns-in-Some-clause-hears c stream st =
    let start : ℕ = c.in-Some.start in
    let size : ℕ = c.in-Some.size in
    let bytes : List ℕ = c.args.bytes.now in
    let piece : List ℕ = c.split_at-in-Some.result.0.now in
    let behind : List ℕ = drop c.args.at c.put_behind.new.buffer.items in
    let t : Tells Told = record { piece = λ piece. (if nat_lt (length piece) 3 then piece ++ 10 ∷ [] else [], false); long = (108 ∷ [], true); cut_front = λ _. (102 ∷ [], true); cut_tail = λ _. (116 ∷ [], true) } in
    let piece_is : piece ≡ take size (drop start bytes) = c.split_at-in-Some.ensures.front ∙ ap (take size) c.split_at.ensures.back in
    let text_is : take (length piece) behind ≡ piece = ap (take (length piece)) c.in_ok-put_behind.ensures.behind ∙ take-length piece in
    let line : Bool → List ℕ → Option Told = λ shown text. Some (if shown then text ++ 10 ∷ [] else [], false) in
    let told : line c.manner_of.result.shown (take (length piece) behind) ≡ Some (t.piece (take size (drop start bytes))) =
    ap (λ (shown : Bool). line shown (take (length piece) behind)) c.manner_of.ensures
    ∙ ap (line (nat_lt (length piece) 3)) text_is
    ∙ ap (λ (p : List ℕ). line (nat_lt (length p) 3) p) piece_is in
    subst (λ (o : Option Told). Hears t c.pass_piece.new.self stream (take (start + size + 1) bytes) o) (sym told)
    (c.pass_piece.ensures t stream st)
