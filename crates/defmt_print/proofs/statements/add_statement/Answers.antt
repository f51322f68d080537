use Rattle.defmt_print.proofs.Stamped.{prints}
use Rattle.defmt_print.proofs.statements.add_statement.Goals as goal

pub add_line-requires : goal.add_line-requires
add_line-requires c =
    prints (record { fits = c.stamps_fit.ensures.fits; narrow = c.stamps_fit.ensures.narrow }) c.args.script.now c.lawful.ensures c.table-table.result.now.entries c.stamp_number-stamp.result c.stamp_in-carried.result c.args.statement.now
    c.table-table.ensures.entries c.stamp_in-carried.ensures.carried c.stamp_in-carried.ensures.small c.requires.sound
