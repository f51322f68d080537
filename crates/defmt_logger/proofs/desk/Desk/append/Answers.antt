use Rattle.std.proofs.Common.{rules, ◌≡◌, ◌<◌, ◌++◌, [], ◌∷◌, length, subst, arith, slice_index_or}
use Rattle.std.proofs.lemmas.Grind.{common_steps}
use Rattle.defmt_frames.specs.Frames.{count, frame_at, stamp_number}
use Rattle.defmt_logger.proofs.Next.{Next, more_left, next_is, room_left, writer_is}
use Rattle.defmt_logger.proofs.Room.{marks_within}
use Rattle.defmt_logger.specs.Kept.{SendsIn, Sheet, next_mark}
use Rattle.defmt_logger.specs.Tape.{marks_of}
use Rattle.defmt_logger.proofs.desk.Desk.append.Given.{Over}
use Rattle.defmt_logger.proofs.desk.Desk.append.Goals.{After-push_reserved}
use Rattle.defmt_logger.proofs.desk.Desk.append.Goals as goal

-- the desk once the mark stands on its tape
next : (g : Over) (c : After-push_reserved g) → let s = c.self.inside in Next (record { script = s.script; tape = s.tape; up = g.U.UpEnd.view s.up }) s.places c.args.writer c.send_statement-fate.result c.push_reserved.new.self (g.U.UpEnd.view c.send_statement-fate.new.up)
next g c =
    let s = c.self.inside in
    let d : Sheet = record { script = s.script; tape = s.tape; up = g.U.UpEnd.view s.up } in
    next_is d s.sites s.places s.stamp s.message.items s.frame.items c.args.writer c.len-marks.result c.at-stamp.result c.send_statement-fate.result c.push_reserved.new.self _
    c.self.invariant c.lawful.ensures (more_left d _ c.args.writer c.self.view_is c.requires.place) c.len-marks.ensures c.at-stamp.ensures.stamp c.push_reserved.ensures.marks c.push_reserved.ensures.room c.push_reserved.ensures.end c.send_statement-fate.ensures.sent

pub bounds-self-inside-writer : goal.bounds-self-inside-writer
bounds-self-inside-writer g c = writer_is c.self.inside.script c.self.inside.tape.marks c.args.writer c.lawful.ensures (more_left _ _ c.args.writer c.self.view_is c.requires.place)

pub push_reserved-requires : goal.push_reserved-requires
push_reserved-requires g c = room_left _ c.args.writer c.self.invariant.kept c.lawful.ensures (more_left _ _ c.args.writer c.self.view_is c.requires.place)

pub overflow_add-self : goal.overflow_add-self
overflow_add-self g c =
    let w = c.args.writer in
    let s = c.self.inside in
    let more : marks_of w s.tape.marks < count s.script w = more_left _ _ w c.self.view_is c.requires.place in
    let here : slice_index_or s.places w 0 ≡ marks_of w s.tape.marks = c.self.invariant.counts.1 w (writer_is s.script s.tape.marks w c.lawful.ensures more) in
    record { fits = omega (arith, here, marks_within w s.tape.marks, c.self.invariant.kept.room) }

pub bounds-self-inside-writer-2 : goal.bounds-self-inside-writer-2
bounds-self-inside-writer-2 g c = writer_is c.self.inside.script c.self.inside.tape.marks c.args.writer c.lawful.ensures (more_left _ _ c.args.writer c.self.view_is c.requires.place)

pub invariant_of-self : goal.invariant_of-self
invariant_of-self g c =
    let n = next g (goal.at.invariant_of-self g c).After-push_reserved in
    record {
      kept = n.kept;
      sites_are = c.self.invariant.sites_are;
      counts = n.counts;
      pace_is = c.self.invariant.pace_is;
      message_size = first_of (search rules, grind (arith, common_steps));
      frame_size = first_of (search rules, grind (arith, common_steps));
    }

pub returns-clause-mark : goal.returns-clause-mark
returns-clause-mark g c =
    let n = next g (goal.at.returns-clause-mark g c).After-push_reserved in
    subst (λ (x : Sheet). c.push_reserved.new.self.marks ≡ x.tape.marks ++ next_mark x.script x.tape.marks c.args.writer c.send_statement-fate.result ∷ []) c.self.view_is n.marks

pub returns-clause-found : goal.returns-clause-found
returns-clause-found g c =
    let n = next g (goal.at.returns-clause-found g c).After-push_reserved in
    subst (λ (x : Sheet). c.push_reserved.new.self.found ≡ x.tape.found ++ (g.U.UpEnd.view c.send_statement-fate.new.up).freed ∷ []) c.self.view_is n.found

pub returns-clause-sent : goal.returns-clause-sent
returns-clause-sent g c =
    let w = c.args.writer in
    let n = next g (goal.at.returns-clause-sent g c).After-push_reserved in
    subst (λ (x : Sheet). SendsIn x.script.settings.mode x.up (g.U.UpEnd.view c.send_statement-fate.new.up) (frame_at x.script (length x.tape.marks) w (marks_of w x.tape.marks) (stamp_number x.script (length x.tape.marks))) c.send_statement-fate.result) c.self.view_is n.sends

pub returns-clause-kept : goal.returns-clause-kept
returns-clause-kept g c = (next g (goal.at.returns-clause-kept g c).After-push_reserved).kept
