use Rattle.std.proofs.Common.{◌++◌, codes}
use Rattle.defmt_eager.proofs.Parts.{narrow_two}
use Rattle.defmt_eager.specs.Line.{IsLong, stamp_space, stamp_text}
use Rattle.defmt_encode.specs.Carry.{stamp_args}
use Rattle.defmt_intern.specs.Stamp.{stamp_of}
use Rattle.defmt_eager.proofs.placed.put_front.Goals as goal

pub returns : goal.returns
returns c =
    let t = c.args.table.now.entries in
    let stamp = stamp_text t (stamp_of t) (stamp_args c.args.stamp) in
    rw c.in-Some.is (narrow_two (IsLong stamp) c.put_level.result c.put_level.new.out (stamp ++ stamp_space (stamp_of t)) (c.in-Some.level.now ++ codes " ")
    c.requires.place c.in_ok-stamped.ensures c.put_level.ensures)
