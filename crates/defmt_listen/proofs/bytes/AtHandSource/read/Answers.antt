use Rattle.std.proofs.Common.{◌≡◌, ◌-◌, ◌++◌, ◌∙◌, ℕ, List, length, take, drop, ap, sym}
use Rattle.std.proofs.lemmas.List.{take_rest}
use Rattle.defmt_listen.proofs.ByteSource.{copied_front}
use Rattle.defmt_listen.proofs.bytes.AtHandSource.read.Goals as goal

pub returns-clause-bytes : goal.returns-clause-bytes
returns-clause-bytes c =
    let bytes : List ℕ = c.args.self.now.left.now in
    let n : ℕ = c.min-count.result in
    let written : List ℕ = c.copy_from_slice.new.self ++ drop n c.args.buf.now in
    let behind : take (length bytes - n) (drop n bytes) ≡ drop n bytes = take_rest bytes n in
    let found = copied_front bytes c.args.buf.now c.copy_from_slice.new.self n c.min-count.ensures c.copy_from_slice.ensures.after in
    (found.0 ∙ ap (λ (l : List ℕ). take n written ++ l) (sym behind), λ none some. behind ∙ found.1 none some)
