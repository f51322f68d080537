use Rattle.std.proofs.Common.{◌≡◌, ℕ, List, length, take, drop, sym, subst, arith}
use Rattle.std.specs.Io.KnownBytes.{Consumes}
use Rattle.std.proofs.lemmas.List.{take_at}
use Rattle.defmt_blocks.proofs.ahead.fill_front.Goals as goal

pub returns-clause-bytes : goal.returns-clause-bytes
returns-clause-bytes g c =
    let buf : List ℕ = c.fill_some.new.buf in
    let rest : List ℕ = drop (length buf) c.args.buf.now.items in
    let len : length buf ≡ c.args.buf.now.len = omega (arith, c.fill_some.ensures.size, c.deref_mut.ensures.len) in
    subst (λ (l : List ℕ). Consumes (g.S.Source.left c.args.src.now) (g.S.Source.left c.fill_some.new.src) (take c.fill_some.result.count l)) (sym (take_at buf rest c.args.buf.now.len len)) c.fill_some.ensures.bytes
