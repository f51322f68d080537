use Rattle.std.proofs.Common.{Ok, ◌++◌}
use Rattle.std.proofs.lemmas.Result.{err_from_is_err_and}
use Rattle.byteorder.specs.Endian.{little_bytes}
use Rattle.defmt_encode.specs.Carry.{own_slots, stamp_slots, stamp_args, bytes_vals}
use Rattle.defmt_encode.specs.Placed.{place_bytes}
use Rattle.defmt_intern.specs.Stamp.{stamp_of}
use Rattle.defmt_encode.proofs.Chain.{refused_more, refused_behind, chain}
use Rattle.defmt_encode.proofs.writing.put_message.Goals as goal

pub returns-in_err-at : goal.returns-in_err-at
returns-in_err-at c =
    let p = err_from_is_err_and c.from_residual.result c.from_residual.ensures.1 in
    let index = little_bytes 2 c.args.stm.now.index in
    let rest = place_bytes c.args.place ++ bytes_vals c.args.table.now.entries (stamp_slots c.args.table.now.entries (stamp_of c.args.table.now.entries)) (stamp_args c.args.stamp) in
    let args = bytes_vals c.args.table.now.entries (own_slots c.args.table.now.entries c.args.stm.now.index) c.args.stm.now.args in
    let one = rw c.from.ensures at c.in_err-at.ensures.puts in
    rw p.1 (refused_more c.args.out.now c.put_number.new.out 0 (index ++ rest) args (refused_more c.args.out.now c.put_number.new.out 0 index rest one))

pub returns-in_err-at-2 : goal.returns-in_err-at-2
returns-in_err-at-2 c =
    let p = err_from_is_err_and c.from_residual-in_err-at-2.result c.from_residual-in_err-at-2.ensures.1 in
    let index = little_bytes 2 c.args.stm.now.index in
    let rest = place_bytes c.args.place ++ bytes_vals c.args.table.now.entries (stamp_slots c.args.table.now.entries (stamp_of c.args.table.now.entries)) (stamp_args c.args.stamp) in
    let args = bytes_vals c.args.table.now.entries (own_slots c.args.table.now.entries c.args.stm.now.index) c.args.stm.now.args in
    let one = rw c.from.ensures at c.in_ok-at.ensures.puts in
    rw p.1 (refused_more c.args.out.now c.put_place_and_stamp.new.out 0 (index ++ rest) args (refused_behind c.args.out.now c.put_number.new.out c.put_place_and_stamp.new.out 0 c.in_ok-at.at index rest one c.in_err-at-2.ensures))

pub returns : goal.returns
returns c =
    let index = little_bytes 2 c.args.stm.now.index in
    let rest = place_bytes c.args.place ++ bytes_vals c.args.table.now.entries (stamp_slots c.args.table.now.entries (stamp_of c.args.table.now.entries)) (stamp_args c.args.stamp) in
    let args = bytes_vals c.args.table.now.entries (own_slots c.args.table.now.entries c.args.stm.now.index) c.args.stm.now.args in
    let one = rw c.from.ensures at c.in_ok-at.ensures.puts in
    let three = rw c.own_slots.ensures at c.put_args.ensures in
    chain c.args.out.now c.put_place_and_stamp.new.out c.put_args.new.out 0 c.in_ok-at-2.at c.put_args.result (index ++ rest) args
    (chain c.args.out.now c.put_number.new.out c.put_place_and_stamp.new.out 0 c.in_ok-at.at (Ok c.in_ok-at-2.at) index rest one c.in_ok-at-2.ensures)
    three
