use Rattle.std.proofs.Common.{below_more, arith}
use Rattle.std.proofs.lemmas.Option.{slice_get_within}
use Rattle.defmt_frames.proofs.Frames.{writer_below}
use Rattle.defmt_frames.proofs.SiteLaws.{have_more}
use Rattle.defmt_script.specs.Script.{statements_by}
use Rattle.defmt_frames.specs.Sites.{HaveSites}
use Rattle.defmt_frames.proofs.sites.Sites.of.Goals as goal

pub loop-writer-preserved : goal.loop-writer-preserved
loop-writer-preserved c = (
  c.in_ok-add_all.ensures.own,
  below_more (λ v. HaveSites c.add_all.new.self (statements_by c.args.script.now v)) _
      (λ v lt. have_more c.loop-writer.sites c.add_all.new.self (statements_by c.args.script.now v) c.in_ok-add_all.ensures.kept (c.loop-writer.invariant.1 v lt))
      c.in_ok-add_all.ensures.all,
)

-- a writer that has a statement is one of eight
pub returns : goal.returns
returns c = record {
  own = c.loop-writer.invariant.0;
  all = λ w place stm there.
      let some = slice_get_within (statements_by c.args.script.now w) place stm there in
      c.loop-writer.invariant.1 w (omega (arith, writer_below c.args.script.now.writers w place some, c.lawful.ensures.eight, c.loop-writer-test.false, c.loop-writer.auto.writer-end)) place stm there;
}
