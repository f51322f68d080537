use Rattle.std.proofs.Common.{rules, ◌≡◌, ◌<◌, ◌++◌, [], ◌∷◌, ◌∙◌, length, ap, subst, arith}
use Rattle.std.specs.Prelude.{slice_index_or}
use Rattle.std.proofs.lemmas.Grind.{common_steps}
use Rattle.defmt_frames.specs.Frames.{count}
use Rattle.rtt_down.proofs.Turned.{kept_next, more_left, place_below, turn_below}
use Rattle.rtt_down.specs.Kept.{Sheet}
use Rattle.rtt_down.specs.Steered.{taken_by}
use Rattle.rtt_down.proofs.bridge.Bridge.append.Goals as goal

pub next_turn-turn-requires-clause-place : goal.next_turn-turn-requires-clause-place
next_turn-turn-requires-clause-place g c =
    let s = c.self.inside in
    place_below s.script (g.D.DownEnd.view s.down).got s.course c.args.writer c.self.invariant.steers c.requires.writer (more_left _ _ c.args.writer c.self.view_is c.requires.place)

pub send_turn-requires-clause-place : goal.send_turn-requires-clause-place
send_turn-requires-clause-place g c =
    let s = c.self.inside in
    let below : slice_index_or s.course.places c.args.writer 0 < count s.script c.args.writer =
    place_below s.script (g.D.DownEnd.view s.down).got s.course c.args.writer c.self.invariant.steers c.requires.writer (more_left _ _ c.args.writer c.self.view_is c.requires.place) in
    turn_below s.script _ _ s.course c.next_turn-turn.new.course c.args.writer c.next_turn-turn.result c.next_turn-turn.ensures below

pub invariant_of-self : goal.invariant_of-self
invariant_of-self g c =
    let s = c.self.inside in
    record {
      kept = kept_next s.script _ _ _ _ s.course c.next_turn-turn.new.course c.args.writer c.count-number.result c.next_turn-turn.result c.self.invariant.kept c.next_turn-turn.ensures c.count-number.ensures c.send_turn.ensures.sent c.send_turn.ensures.kept;
      steers = c.next_turn-turn.ensures.steers;
      sites_are = c.self.invariant.sites_are;
      pace_is = c.self.invariant.pace_is;
      message_size = first_of (search rules, grind (arith, common_steps));
      frame_size = first_of (search rules, grind (arith, common_steps));
    }

pub returns-clause-turns : goal.returns-clause-turns
returns-clause-turns g c = subst (λ (x : Sheet). c.next_turn-turn.new.course.turns.turns ≡ x.turns.turns ++ c.next_turn-turn.result ∷ []) c.self.view_is c.next_turn-turn.ensures.turns

pub returns-clause-writer : goal.returns-clause-writer
returns-clause-writer g c = c.next_turn-turn.ensures.writer

pub returns-clause-down : goal.returns-clause-down
returns-clause-down g c = c.next_turn-turn.ensures.split ∙ ap (λ (x : Sheet). x.down.split) c.self.view_is

pub returns-clause-kept : goal.returns-clause-kept
returns-clause-kept g c =
    let s = c.self.inside in
    kept_next s.script _ _ _ _ s.course c.next_turn-turn.new.course c.args.writer c.count-number.result c.next_turn-turn.result c.self.invariant.kept c.next_turn-turn.ensures c.count-number.ensures c.send_turn.ensures.sent c.send_turn.ensures.kept

pub returns-clause-found : goal.returns-clause-found
returns-clause-found g c = c.next_turn-turn.ensures.found ∙ ap (λ (x : Sheet). x.turns.found ++ (g.D.DownEnd.view c.next_turn-turn.new.down).found ∷ []) c.self.view_is

pub returns-clause-took : goal.returns-clause-took
returns-clause-took g c = c.next_turn-turn.ensures.count ∙ ap (λ (x : Sheet). taken_by (length x.down.got) (g.D.DownEnd.view c.next_turn-turn.new.down).found) c.self.view_is

pub returns-clause-tells : goal.returns-clause-tells
returns-clause-tells g c = c.send_turn.ensures.kept.tells ∙ ap (λ (x : Sheet). x.up.tells) c.self.view_is
