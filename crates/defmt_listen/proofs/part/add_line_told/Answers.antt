use Rattle.std.proofs.Common.{drop, refl, sym, take}
use Rattle.std.proofs.lemmas.List.{append-nil}
use Rattle.defmt_listen.specs.Gathered.{gathered}
use Rattle.defmt_listen.proofs.part.add_line_told.Goals as goal

pub returns-in-Kept-clause-lines : goal.returns-in-Kept-clause-lines
returns-in-Kept-clause-lines g c =
    rw (c.in-Kept.ensures.kept refl (take c.args.size (drop c.args.report.now.end c.args.report.now.text.items))) c.end_line.ensures.lines

pub returns-in-LeftOut-clause-lines : goal.returns-in-LeftOut-clause-lines
returns-in-LeftOut-clause-lines g c =
    rw (c.in-LeftOut.ensures.left_out refl (take c.args.size (drop c.args.report.now.end c.args.report.now.text.items))) (sym (append-nil (gathered c.args.report.now)))
