use Rattle.std.proofs.Common.{◌++◌, ◌∙◌, ℕ, List, ap, drop}
use Rattle.std.specs.Prelude.{option_to_list}
use Rattle.defmt_framing.specs.Notices.{told_by}
use Rattle.defmt_listen.specs.Heard.{lines_from}
use Rattle.defmt_listen.proofs.Gathering.{long_front}
use Rattle.defmt_listen.proofs.part.hear_other.Goals as goal

pub add_noticed-requires-clause-within : goal.add_noticed-requires-clause-within
add_noticed-requires-clause-within g c = long_front c.args.report.now.text.items c.hear.new.text.items c.args.report.now.end c.requires.within c.hear.ensures.front

pub returns-clause-next : goal.returns-clause-next
returns-clause-next g c =
    let event = told_by g.L.Listener.line (drop c.args.report.now.end c.hear.new.text.items) c.in_ok-taken.notice in
    record {
      event = event;
      within = c.in_ok-taken.ensures.within;
      some = c.in_ok-taken.ensures.some c.requires.some;
      hears = c.in_ok-taken.ensures.hears;
      gathered = c.in_ok-add_noticed.ensures.lines ∙ ap (λ (l : List ℕ). (c.args.report.now.lines.items ++ l) ++ lines_from g.R.Reporter.reporting c.args.reporter.now (option_to_list event)) c.hear.ensures.front;
      moved = c.in_ok-add_noticed.ensures.moved;
      counted = c.in_ok-add_noticed.ensures.faults;
    }
