use Rattle.elf_table.proofs.ListedLaws.{made_more, named_more}
use Rattle.elf_table.proofs.writing.symbols_of.Goals as goal

pub loop-index-preserved : goal.loop-index-preserved
loop-index-preserved c = record {
  can = tt;
  finite = tt;
  made = made_more c.loop-index.symbols.items c.push.new.self.items c.in_ok-symbol_for.field-0 c.loop-index.yielded (c.in-Some.index, c.in-Some.entry) c.in_ok-push.ensures.items c.loop-index.invariant.made c.in_ok-symbol_for.ensures.value;
  named = named_more c.loop-index.yielded (c.in-Some.index, c.in-Some.entry) c.loop-index.invariant.named c.in_ok-symbol_for.ensures.named;
}
