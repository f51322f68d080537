use Rattle.std.proofs.Common.{◌≡◌, ◌++◌, [], ◌∷◌, ◌∙◌, subst, sym, arith}
use Rattle.std.proofs.lemmas.Grind.{common_steps}
use Rattle.rtt_booth.proofs.Next.{Next, more_left, next_is, place_below, place_small, room_left}
use Rattle.rtt_booth.specs.Kept.{Sheet, word}
use Rattle.rtt_booth.specs.Said.{words_of}
use Rattle.rtt_booth.proofs.stand.Stand.append.Given.{Over}
use Rattle.rtt_booth.proofs.stand.Stand.append.Goals.{After-push_reserved}
use Rattle.rtt_booth.proofs.stand.Stand.append.Goals as goal

-- the stand once the word stands among those that were said
next : (g : Over) (c : After-push_reserved g) → let s = c.self.inside in Next (record { speech = s.speech; said = s.said; up = g.U.UpEnd.view s.up }) s.places c.args.writer c.terminal-terminal.result c.push_reserved.new.self (g.U.UpEnd.view c.send_line.new.up)
next g c =
    let s = c.self.inside in
    let d : Sheet = record { speech = s.speech; said = s.said; up = g.U.UpEnd.view s.up } in
    next_is d s.places s.current s.line.items c.args.writer c.terminal-terminal.result c.text-text.result.now c.saying_at-saying.result.now c.push_reserved.new.self (g.U.UpEnd.view c.send_line.new.up)
    c.self.invariant c.requires.writer (more_left d _ c.args.writer c.self.view_is c.requires.place) c.saying_at-saying.ensures.saying c.terminal-terminal.ensures c.text-text.ensures c.saying_at-saying.ensures.sayable.one
    c.send_line.ensures.sent c.send_line.ensures.kept.staged c.push_reserved.ensures.words c.push_reserved.ensures.room
    (c.push_reserved.ensures.split ∙ c.self.invariant.kept.split ∙ sym c.send_line.ensures.kept.split)

pub saying_at-saying-requires : goal.saying_at-saying-requires
saying_at-saying-requires g c = place_below _ _ _ _ c.args.writer c.self.invariant c.requires.writer (more_left _ _ c.args.writer c.self.view_is c.requires.place)

pub push_reserved-requires : goal.push_reserved-requires
push_reserved-requires g c = room_left _ c.args.writer c.self.invariant.kept c.lawful.ensures (more_left _ _ c.args.writer c.self.view_is c.requires.place)

pub overflow_add-self : goal.overflow_add-self
overflow_add-self g c = record { fits = omega (arith, place_small _ _ _ _ c.args.writer c.self.invariant c.lawful.ensures c.requires.writer (more_left _ _ c.args.writer c.self.view_is c.requires.place)) }

pub invariant_of-self : goal.invariant_of-self
invariant_of-self g c =
    let n = next g (goal.at.invariant_of-self g c).After-push_reserved in
    record {
      kept = n.kept;
      counts = n.counts;
      current_is = n.current_is;
      current_below = n.current_below;
      size = grind (arith, common_steps);
    }

pub returns-clause-words : goal.returns-clause-words
returns-clause-words g c =
    let n = next g (goal.at.returns-clause-words g c).After-push_reserved in
    subst (λ (x : Sheet). c.push_reserved.new.self.words ≡ x.said.words ++ word c.args.writer (words_of c.args.writer x.said.words) ∷ []) c.self.view_is n.words

pub returns-clause-kept : goal.returns-clause-kept
returns-clause-kept g c = (next g (goal.at.returns-clause-kept g c).After-push_reserved).kept
