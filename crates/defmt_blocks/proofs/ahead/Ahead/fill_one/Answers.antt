use Rattle.std.proofs.Common.{List, [], ℕ, take, sym, ◌∙◌, ap, subst}
use Rattle.std.specs.Io.KnownBytes.{Consumes, prepend_known}
use Rattle.defmt_blocks.specs.Queue.{bytes_in}
use Rattle.defmt_blocks.proofs.Queue.{bytes_behind, read_behind}
use Rattle.defmt_blocks.proofs.ahead.Ahead.fill_one.Goals as goal

pub returns-clause-bytes : goal.returns-clause-bytes
returns-clause-bytes g c =
    let ahead : List ℕ = bytes_in c.args.self.now.parts.items in
    let read : List ℕ = take c.fill_front-portion.result.count c.fill_front-portion.new.buf.items in
    subst (λ (l : List ℕ). Consumes (prepend_known ahead (g.S.Source.left c.args.src.now)) (prepend_known l (g.S.Source.left c.fill_front-portion.new.src)) [])
    (sym (ap bytes_in c.push.ensures.parts ∙ bytes_behind c.args.self.now.parts.items _))
    (read_behind (g.S.Source.left c.args.src.now) (g.S.Source.left c.fill_front-portion.new.src) ahead read c.fill_front-portion.ensures.bytes)
