use Rattle.std.proofs.Common.{List, ℕ, ap, ◌∙◌, string_bytes}
use Rattle.std.specs.FinMap.{insert}
use Rattle.dl_io.specs.Cabinet.{Cabinet, Files}
use Rattle.dl_io.proofs.Files.{put_shown}
use Rattle.dl_io.proofs.mem_shelf.MemShelf.put.Goals as goal

pub returns-clause-ok : goal.returns-clause-ok
returns-clause-ok c =
    let inside = c.self.inside in
    let file = c.args.bytes in
    ap (λ (f : Files). record { files = f; plan = inside.fails }) (put_shown (string_bytes c.in_ok-key.key) file inside.files c.insert.new.self c.in_ok-insert.ensures.updates)
    ∙ ap (λ (s : Cabinet). record { files = insert s.files (string_bytes c.in_ok-key.key) file.items; plan = s.plan }) c.self.view_is
    ∙ ap (λ (l : List ℕ). record { files = insert c.args.self.now.files l file.items; plan = c.args.self.now.plan }) c.in_ok-key.ensures.ok
