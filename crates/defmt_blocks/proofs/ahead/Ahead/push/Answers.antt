use Rattle.std.proofs.Common.{◌+◌, ℕ, List, length, sym, ◌∙◌, ap}
use Rattle.defmt_blocks.specs.Queue.{bytes_in}
use Rattle.defmt_blocks.specs.declared.part.Part.{Part}
use Rattle.defmt_blocks.proofs.Queue.{size_behind}
use Rattle.defmt_blocks.proofs.ahead.Ahead.push.Goals as goal

pub invariant_of-self : goal.invariant_of-self
invariant_of-self c = record {
  size_is = ap (λ (n : ℕ). n + c.args.part.count) c.args.self.now.size_is ∙ sym (size_behind c.args.self.now.parts.items c.args.part c.args.part.within)
      ∙ sym (ap (λ (parts : List Part). length (bytes_in parts)) c.push_back_reserved.ensures.items);
}
