use Rattle.std.proofs.lemmas.Result.{err_from_is_err_and}
use Rattle.defmt_encode.specs.Carry.{stamp_slots, stamp_args, bytes_vals}
use Rattle.defmt_encode.specs.Placed.{place_bytes}
use Rattle.defmt_intern.specs.Stamp.{stamp_of}
use Rattle.defmt_encode.proofs.Chain.{refused_more, chain}
use Rattle.defmt_encode.proofs.writing.put_place_and_stamp.Goals as goal

pub returns-in_err-at : goal.returns-in_err-at
returns-in_err-at c =
    let p = err_from_is_err_and c.from_residual.result c.from_residual.ensures.1 in
    rw p.1 (refused_more c.args.out.now c.put_place.new.out c.args.at (place_bytes c.args.place) (bytes_vals c.args.table.now.entries (stamp_slots c.args.table.now.entries (stamp_of c.args.table.now.entries)) (stamp_args c.args.stamp)) c.in_err-at.ensures)

pub returns : goal.returns
returns c = chain c.args.out.now c.put_place.new.out c.put_stamp.new.out c.args.at c.in_ok-at.at c.put_stamp.result (place_bytes c.args.place) (bytes_vals c.args.table.now.entries (stamp_slots c.args.table.now.entries (stamp_of c.args.table.now.entries)) (stamp_args c.args.stamp)) c.in_ok-at.ensures c.put_stamp.ensures
