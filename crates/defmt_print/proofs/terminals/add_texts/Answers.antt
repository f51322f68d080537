use Rattle.std.proofs.Common.{◌++◌, List, ℕ, flat_map, sym, ◌∙◌, ap, arith}
use Rattle.std.proofs.lemmas.List.{append-nil, take_all}
use Rattle.defmt_recording.specs.Output.{ended}
use Rattle.rtt_terminal.specs.Stream.{screen_at}
use Rattle.defmt_print.proofs.Texts.{one_text}
use Rattle.defmt_print.proofs.terminals.add_texts.Goals as goal

pub loop-place-init : goal.loop-place-init
loop-place-init c = sym (append-nil c.args.out.now.items)

pub loop-place-preserved : goal.loop-place-preserved
loop-place-preserved c =
    one_text c.args.out.now.items c.loop-place.out.items c.add_text.new.out.items (screen_at c.args.screens.now c.args.terminal) c.loop-place.place c.text-text.result.now
    c.text-text.ensures c.loop-place.invariant c.in_ok-add_text.ensures

pub returns : goal.returns
returns c =
    c.loop-place.invariant ∙ ap (λ (l : List (List ℕ)). c.args.out.now.items ++ flat_map ended l)
    (take_all c.loop-place.place (screen_at c.args.screens.now c.args.terminal) (omega (arith, c.count-count.ensures)))
