use Rattle.std.proofs.Common.{◌∙◌, ap, arith, refl, take_all}
use Rattle.elf_section.specs.Symbol.{plain_refs}
use Rattle.elf_section.proofs.ListedLaws.{owned_more}
use Rattle.elf_section.proofs.symbols.owned.Goals as goal

pub loop-symbol-preserved : goal.loop-symbol-preserved
loop-symbol-preserved c = owned_more c.args.symbols.now c.loop-symbol.copies.items c.push.new.self.items c.loop-symbol.symbol-index _ _ (omega arith) c.loop-symbol.invariant c.in_ok-from_slice.ensures.items refl c.in_ok-push.ensures.items

pub returns : goal.returns
returns c = c.loop-symbol.invariant ∙ ap plain_refs (take_all c.loop-symbol.symbol-index c.args.symbols.now (omega arith))
