use Rattle.std.proofs.Common.{arith, sym, ◌∙◌}
use Rattle.rzcobs_core.proofs.Backwards.{NoZero-before, nothing_read, goes_on, shorter, no_code, some_length}
use Rattle.rzcobs_core.proofs.decoder.decode_zeroless_to_end.Goals as goal

pub blocks-2-init : goal.blocks-2-init
blocks-2-init c = nothing_read c.args.piece.now c.args.out.now c.requires.room

pub returns-in-None-clause-malformed : goal.returns-in-None-clause-malformed
returns-in-None-clause-malformed c err bytes blocks = no_code c.args.piece.now c.blocks-2.out c.blocks-2.rest.now c.blocks-2.at (some_length c.blocks-2.rest.now (sym c.is_empty.ensures ∙ c.blocks-2-test.true)) c.blocks-2.invariant c.in-None.ensures bytes blocks

pub blocks-2-smaller : goal.blocks-2-smaller
blocks-2-smaller c = shorter c.blocks-2.rest.now c.blocks-2.out c.in-Some.front.now c.read_last.new.out c.blocks-2.at c.in-Some.begin c.in-Some.ensures

pub blocks-2-preserved : goal.blocks-2-preserved
blocks-2-preserved c = goes_on c.args.piece.now c.blocks-2.out c.blocks-2.rest.now c.in-Some.front.now c.read_last.new.out c.blocks-2.at c.in-Some.begin (omega arith) c.blocks-2.invariant c.in-Some.ensures

pub read_last-requires-clause-none : goal.read_last-requires-clause-none
read_last-requires-clause-none c = NoZero-before c.args.piece.now c.blocks-2.rest.now c.blocks-2.invariant.done c.blocks-2.invariant.piece_is c.requires.none
