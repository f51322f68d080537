use Rattle.std.proofs.Common.{List, ℕ, refl, subst}
use Rattle.defmt_blocks.specs.Blocks.{IsSaid}
use Rattle.defmt_decode.specs.Event.{tells}
use Rattle.defmt_decode.specs.declared.event.Event.{Event}
use Rattle.defmt_framing.specs.Told.{Tells}
use Rattle.defmt_recording.specs.Styled.{Look}
use Rattle.defmt_blocks.specs.declared.side.Side.{Side}
use Rattle.defmt_blocks.proofs.Telling.{said_by, says_on}
use Rattle.defmt_blocks.proofs.sent.Sent.hear.Goals as goal

pub invariant_of-self : goal.invariant_of-self
invariant_of-self g c =
    let was : Side = c.args.self.now.side in
    let now : Side = c.hear_block.new.self in
    let look : Look = was.reporter.look in
    let t : Tells Event = tells was.listener.host.table in
    record {
      says = λ still.
          let kin = c.hear_block.ensures.kin look t (λ lost. (refl, refl)) still in
          says_on g.G.Kin.says look now.reporter.look t (tells now.listener.host.table) kin.0 kin.1 (c.args.self.now.says (c.hear_block.ensures.still still));
      said = subst (λ (l : List ℕ). IsSaid g.G.Kin.says l now) c.as_slice.ensures
          (said_by g.G.Kin.says look t c.as_slice.result.now now was.lost now.block (c.hear_block.ensures.told look t (λ lost. (refl, refl))) c.hear_block.ensures.known c.args.self.now.says);
    }
