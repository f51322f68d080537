use Rattle.std.proofs.Common.{◌≡◌, ◌∙◌, length, sym, ap, arith}
use Rattle.std.specs.Prelude.{Some, option_map}
use Rattle.std.specs.List.{flat_map}
use Rattle.std.proofs.lemmas.List.{length_push}
use Rattle.std.proofs.lemmas.List.Elements.{All-push}
use Rattle.std.proofs.lemmas.Result.{err_from_is_err_and}
use Rattle.rtt_dump.specs.Elf.{loaded}
use Rattle.rtt_dump.specs.Faults.{flawed}
use Rattle.rtt_dump.specs.Flaws.{first_flaw, segment_tests}
use Rattle.rtt_dump.specs.Segments.{IsInside}
use Rattle.rtt_dump.proofs.FlawLemmas.{handed_on}
use Rattle.rtt_dump.proofs.LoadedLemmas.{read_all, step_flaw, step_here, step_other}
use Rattle.rtt_dump.proofs.spans.loaded_spans.Goals as goal
use Rattle.rtt_dump.proofs.spans.loaded_spans.Goals.{then-is_loaded+in_ok-span_in+in_ok-push, else-is_loaded}

pub returns-in_err-span_in-clause-refused : goal.returns-in_err-span_in-clause-refused
returns-in_err-span_in-clause-refused c =
    let p = err_from_is_err_and c.from_residual.result c.from_residual.ensures.1 in
    let flaw = c.in_err-span_in.field-0.0 in
    let some : first_flaw c.args.file.now (flat_map segment_tests (loaded c.args.file.now)) ≡ Some flaw =
    step_flaw c.args.file.now c.args.table.now.count c.loop-k.k c.loop-k.spans.items c.entry-p.result flaw c.loop-k-test.true c.entry-p.ensures
    (sym c.is_loaded.ensures ∙ c.if-is_loaded.true) c.in_err-span_in.ensures.flaw c.loop-k.invariant.read in
    handed_on c.from_residual.result (option_map flawed (first_flaw c.args.file.now (flat_map segment_tests (loaded c.args.file.now)))) p.0 (flawed flaw) p.1 p.2 (ap (option_map flawed) some)

pub loop-k-preserved : goal.loop-k-preserved
loop-k-preserved c =
    let file = c.args.file.now in
    let n = c.args.table.now.count in
    let k = c.loop-k.k in
    let old = c.loop-k.spans.items in
    let p = c.entry-p.result in
    let before = c.loop-k.invariant in
    record {
      read = elim c.if-is_loaded.branch [
        | then-is_loaded+in_ok-span_in+in_ok-push w ↦ rw w.spans-is
            (step_here file n k old w.push.new.self.items p w.in_ok-span_in.field-0 c.loop-k-test.true c.entry-p.ensures (sym c.is_loaded.ensures ∙ w.if-is_loaded.true)
            w.in_ok-span_in.ensures.passes w.in_ok-span_in.ensures.span w.in_ok-push.ensures.items before.read)
        | else-is_loaded w ↦ rw w.spans-is (step_other file n k old p c.loop-k-test.true c.entry-p.ensures (sym c.is_loaded.ensures ∙ w.if-is_loaded.false) before.read)
      ];
      inside = elim c.if-is_loaded.branch [
        | then-is_loaded+in_ok-span_in+in_ok-push w ↦
            rw (w.spans-is, w.in_ok-push.ensures.items) (All-push (IsInside (length file)) old w.in_ok-span_in.field-0 before.inside w.in_ok-span_in.ensures.inside)
        | else-is_loaded w ↦ rw w.spans-is before.inside
      ];
      few = let few = before.few in
          elim c.if-is_loaded.branch [
            | then-is_loaded+in_ok-span_in+in_ok-push w ↦ rw (w.spans-is, w.in_ok-push.ensures.items, length_push) (omega arith)
            | else-is_loaded w ↦ rw w.spans-is (omega arith)
          ];
    }

pub returns-clause-passes : goal.returns-clause-passes
returns-clause-passes c = (read_all c.args.file.now c.args.table.now.count c.loop-k.k c.loop-k.spans.items (omega arith) c.loop-k.invariant.read).1
