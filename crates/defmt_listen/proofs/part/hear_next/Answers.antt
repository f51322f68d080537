use Rattle.std.proofs.Common.{◌++◌, ◌∙◌, ℕ, List, ap, drop, sym, take, length-drop, arith}
use Rattle.std.proofs.lemmas.List.{append-nil}
use Rattle.std.specs.Prelude.{Some}
use Rattle.defmt_listen.proofs.Gathering.{counted_none, long_front}
use Rattle.defmt_listen.proofs.part.hear_next.Goals as goal

pub add_line_told-requires-clause-within : goal.add_line_told-requires-clause-within
add_line_told-requires-clause-within g c = omega (arith, long_front c.args.report.now.text.items c.hear_line.new.text.items c.args.report.now.end c.requires.within c.hear_line.ensures.front, c.in-Some.ensures.text, length-drop c.args.report.now.end c.hear_line.new.text.items)

pub returns-in_ok-add_line_told-in-Some-clause-next : goal.returns-in_ok-add_line_told-in-Some-clause-next
returns-in_ok-add_line_told-in-Some-clause-next g c =
    let event = g.L.Listener.line c.in-Some.origin (take c.in-Some.size (drop c.args.report.now.end c.hear_line.new.text.items)) in
    let shown = g.R.Reporter.reporting.line c.args.reporter.now event in
    record {
      event = Some event;
      within = c.in-Some.ensures.within;
      some = c.in-Some.ensures.some;
      hears = c.in-Some.ensures.hears;
      gathered = c.in_ok-add_line_told-in-Some.ensures.lines ∙ ap (λ (l : List ℕ). (c.args.report.now.lines.items ++ l) ++ shown) c.hear_line.ensures.front
          ∙ ap (λ (l : List ℕ). (c.args.report.now.lines.items ++ take c.args.report.now.end c.args.report.now.text.items) ++ l) (sym (append-nil shown));
      moved = c.in_ok-add_line_told-in-Some.ensures.moved;
      counted = counted_none g.R.Reporter.reporting.is_fault event c.add_line_told.new.report.faults c.args.report.now.faults (sym c.in_ok-add_line_told-in-Some.ensures.fine) c.add_line_told.ensures.faults;
    }
