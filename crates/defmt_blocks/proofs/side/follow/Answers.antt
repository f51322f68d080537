use Rattle.std.proofs.Common.{◌≡◌, ◌∷◌, [], ◌∙◌, ℕ, ap, sym}
use Rattle.std.specs.Prelude.{Option}
use Rattle.defmt_decode.specs.Event.{tells}
use Rattle.defmt_recording.specs.Styled.{Look, Reel, reel}
use Rattle.defmt_blocks.proofs.Counting.{look_is}
use Rattle.defmt_blocks.proofs.side.follow.Goals as goal

pub returns : goal.returns
returns c =
    let heard = c.in_ok-hear_part.ensures.heard (0 ∷ []) c.begin.ensures.stands in
    let same : c.hear_part.new.reporter.look ≡ c.args.reporter.now.look = ap (λ (s : Reel). s.look) heard.moved ∙ look_is c.args.reporter.now heard.told in
    record {
      stands = c.begin-2.ensures.stands;
      tells_is = ap tells c.begin-2.ensures.table ∙ c.in_ok-hear_part.ensures.same ∙ ap tells c.begin.ensures.table;
      reporter_is = c.count_anew.ensures ∙ ap (λ (l : Look). reel l c.hear_part.new.reporter.last 0 0) same
          ∙ ap (λ (o : Option ℕ). reel c.args.reporter.now.look o 0 0) (sym (ap (λ (r : Reel). r.last) c.count_anew.ensures));
      within = c.clear-2.ensures.within;
      empty = c.clear-2.ensures.empty;
      none = c.clear-2.ensures.none;
    }
