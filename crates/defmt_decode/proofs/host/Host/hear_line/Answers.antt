use Rattle.std.proofs.Common.{◌+◌, ℕ, List, Option, Some, take, drop, sym, ◌∙◌, ap, subst}
use Rattle.std.proofs.lemmas.List.{take_rest}
use Rattle.defmt_framing.specs.Framing.{Hears, Stands}
use Rattle.defmt_decode.specs.Event.{line_with, tells}
use Rattle.defmt_decode.specs.Hearing.{Hearing}
use Rattle.defmt_decode.specs.declared.event.Event.{Event}
use Rattle.defmt_decode.proofs.host.Host.hear_line.Goals as goal

pub returns-clause-hears : goal.returns-clause-hears
returns-clause-hears c =
    let start : ℕ = c.in_ok-start.start in
    let size : ℕ = c.in_ok-start.size in
    let buffer : List ℕ = drop c.args.at c.line.new.text.items in
    subst (λ (h : Hearing). (stream : List ℕ) → Stands h.framing stream → Hears (tells h.table) c.pass_piece.new.self stream (take (start + size + 1) c.args.bytes.now) (Some (line_with c.in_ok-origin.origin (take c.in_ok-origin.count buffer)))) c.self.view_is
    (λ stream st. subst (λ (told : Option Event). Hears (tells c.self.inside.reader) c.pass_piece.new.self stream (take (start + size + 1) c.args.bytes.now) told)
    (sym (c.in_ok-origin.ensures.line.told ∙ ap (λ (l : List ℕ). Some ((tells c.self.inside.reader).piece (take size l))) (take_rest c.args.bytes.now start)))
    (c.pass_piece.ensures (tells c.self.inside.reader) stream st))
