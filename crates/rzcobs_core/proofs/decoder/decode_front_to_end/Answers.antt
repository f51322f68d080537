use Rattle.std.proofs.Common.{take, arith}
use Rattle.std.proofs.lemmas.List.{length-take-le}
use Rattle.rzcobs_core.proofs.Backwards.{NoZero-before, no_code}
use Rattle.rzcobs_core.proofs.Spreading.{front_begun, front_smaller, front_goes_on}
use Rattle.rzcobs_core.proofs.decoder.decode_front_to_end.Goals as goal

pub blocks-2-init : goal.blocks-2-init
blocks-2-init c = front_begun c.args.bytes.now c.args.size c.args.out.now c.requires.size c.requires.room

pub read_last_of-requires-clause-none : goal.read_last_of-requires-clause-none
read_last_of-requires-clause-none c = NoZero-before (take c.args.size c.args.bytes.now) (take c.blocks-2.rest c.args.bytes.now) c.blocks-2.invariant.0.done c.blocks-2.invariant.0.piece_is c.requires.none

pub returns-in-None-clause-malformed : goal.returns-in-None-clause-malformed
returns-in-None-clause-malformed c err bytes blocks =
    no_code (take c.args.size c.args.bytes.now) c.blocks-2.out (take c.blocks-2.rest c.args.bytes.now) c.blocks-2.at (omega (arith, length-take-le c.blocks-2.rest c.args.bytes.now (omega arith)))
    c.blocks-2.invariant.0 c.in-None.ensures bytes blocks

pub blocks-2-smaller : goal.blocks-2-smaller
blocks-2-smaller c = front_smaller c.args.bytes.now c.blocks-2.out c.read_last_of.new.out c.blocks-2.rest c.blocks-2.at c.in-Some.front c.in-Some.begin (omega arith) c.in-Some.ensures

pub blocks-2-preserved : goal.blocks-2-preserved
blocks-2-preserved c = front_goes_on c.args.bytes.now c.args.size c.blocks-2.out c.read_last_of.new.out c.blocks-2.rest c.blocks-2.at c.in-Some.front c.in-Some.begin c.requires.size (omega arith) c.blocks-2.invariant c.in-Some.ensures
