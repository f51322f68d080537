use Rattle.std.proofs.Common.{ap, sym, ◌∙◌, Some}
use Rattle.std.specs.FinMap.{get}
use Rattle.dl_io.specs.Cabinet.{Cabinet}
use Rattle.dl_io.proofs.Files.{found_shown}
use Rattle.dl_io.proofs.mem_shelf.MemShelf.file.Goals as goal

pub returns-in-Some : goal.returns-in-Some
returns-in-Some c =
    sym (ap (λ (s : Cabinet). get s.files c.args.name.now) (sym c.self.view_is)
    ∙ found_shown c.self.inside.files c.args.name.now _ c.in-Some.ensures.value
    ∙ ap Some (sym c.as_slice.ensures))

pub returns-in-None : goal.returns-in-None
returns-in-None c =
    sym (ap (λ (s : Cabinet). get s.files c.args.name.now) (sym c.self.view_is)
    ∙ found_shown c.self.inside.files c.args.name.now _ c.in-None.ensures.value)
