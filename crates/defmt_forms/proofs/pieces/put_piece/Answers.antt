use Rattle.std.proofs.Common.{arith}
use Rattle.defmt_forms.proofs.Placed.{piece_placed}
use Rattle.defmt_forms.proofs.pieces.put_piece.Goals as goal

pub returns-then-count-le16 : goal.returns-then-count-le16
returns-then-count-le16 c =
    piece_placed c.args.text.now c.put_bytes.new.text c.args.at c.put_bytes.result 16 c.len-count.result c.args.block.now c.front_of.result c.args.piece.now.items
    c.requires.0 c.len-count.ensures c.if-count-le16.true c.front_of.ensures c.put_bytes.ensures.placed

pub returns-then-count-le32 : goal.returns-then-count-le32
returns-then-count-le32 c =
    piece_placed c.args.text.now c.put_bytes-then-count-le32.new.text c.args.at c.put_bytes-then-count-le32.result 32 c.len-count.result c.args.block.now
    c.front_of-then-count-le32.result c.args.piece.now.items
    c.requires.0 c.len-count.ensures c.if-count-le32.true c.front_of-then-count-le32.ensures c.put_bytes-then-count-le32.ensures.placed

pub returns-else-count-le32 : goal.returns-else-count-le32
returns-else-count-le32 c =
    piece_placed c.args.text.now c.put_bytes-else-count-le32.new.text c.args.at c.put_bytes-else-count-le32.result 64 c.len-count.result c.args.block.now
    c.front_of-else-count-le32.result c.args.piece.now.items
    c.requires.0 c.len-count.ensures (omega (arith, c.len-count.ensures, c.requires.0.short)) c.front_of-else-count-le32.ensures c.put_bytes-else-count-le32.ensures.placed
