use Rattle.std.proofs.Common.{arith}
use Rattle.defmt_encode.proofs.Numbers.{written_one, written_once}
use Rattle.defmt_encode.proofs.put.write_low_first.Goals as goal

pub returns-in-1 : goal.returns-in-1
returns-in-1 c = written_one c.args.bytes.now c.args.n (omega arith)

pub returns-in-2 : goal.returns-in-2
returns-in-2 c = written_once 2 c.args.bytes.now c.write_u16.new.buf c.args.n (omega arith) c.write_u16.ensures

pub returns-in-4 : goal.returns-in-4
returns-in-4 c = written_once 4 c.args.bytes.now c.write_u32.new.buf c.args.n (omega arith) c.write_u32.ensures

pub returns-in-8 : goal.returns-in-8
returns-in-8 c = written_once 8 c.args.bytes.now c.write_u64.new.buf c.args.n (omega arith) c.write_u64.ensures
