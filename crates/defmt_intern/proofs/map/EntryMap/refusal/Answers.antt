use Rattle.std.proofs.Common.{arith, ap, length}
use Rattle.defmt_intern.proofs.TableLaws.{no_stamp, no_refusal}
use Rattle.defmt_intern.proofs.map.EntryMap.refusal.Goals as goal
use Rattle.defmt_intern.proofs.map.EntryMap.refusal.Goals.{else-is_stamp-via-then-is_stamp+else-is_some, else-is_stamp-via-else-is_stamp}
use Rattle.defmt_intern.specs.Table.{Map, StampIs}
use Rattle.std.proofs.Common.{subst, sym, ◌∙◌}

pub returns : goal.returns
returns c =
    let stamp : StampIs c.args.self.now c.self.inside.stamp = subst (λ (t : Map). StampIs t c.self.inside.stamp) c.self.view_is c.self.invariant.kept.stamp_is in
    no_refusal c.args.self.now c.args.entry.now (omega (arith, ap length c.as_str.ensures.text)) (elim c.else-is_stamp.branch [
      | else-is_stamp-via-then-is_stamp+else-is_some w ↦ λ second. no_stamp c.args.self.now c.self.inside.stamp stamp (sym w.is_some.ensures ∙ w.if-is_some.false) second.1.0 second.1.1
      | else-is_stamp-via-else-is_stamp w ↦ λ second. w.if-is_stamp.ensures second.0
    ])
