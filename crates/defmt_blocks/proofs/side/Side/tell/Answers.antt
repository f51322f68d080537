use Rattle.std.proofs.Common.{◌∷◌, [], ◌∙◌, ap, sym}
use Rattle.std.specs.Prelude.{Option}
use Rattle.defmt_decode.specs.Event.{tells}
use Rattle.defmt_recording.specs.Styled.{Look, reel}
use Rattle.defmt_blocks.proofs.Telling.{tells_from}
use Rattle.defmt_blocks.proofs.side.Side.tell.Goals as goal

pub returns-clause-told : goal.returns-clause-told
returns-clause-told c =
    let way = c.in_ok-follow.ensures in
    let l : Look = c.args.self.now.reporter.look in
    tells_from l (tells c.args.self.now.listener.host.table) _ c.last-last.result c.follow.new.reporter _ _ _ _ _ c.args.bytes.now
    way.tells_is (way.reporter_is ∙ ap (λ (o : Option _). reel l o 0 0) (sym c.last-last.ensures)) c.clear.ensures way.none c.in_ok-hear_part.ensures.same
    (c.in_ok-hear_part.ensures.heard (0 ∷ []) way.stands) c.in_ok-hear_part.ensures.few
