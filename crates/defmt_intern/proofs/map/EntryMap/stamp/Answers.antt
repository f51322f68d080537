use Rattle.std.proofs.Common.{sym, subst}
use Rattle.defmt_intern.specs.Table.{Map, IsKept}
use Rattle.defmt_intern.proofs.Stamps.{stamp_is}
use Rattle.defmt_intern.proofs.map.EntryMap.stamp.Goals as goal

pub returns : goal.returns
returns c =
    let kept : IsKept c.args.self.now c.self.inside.stamp = subst (λ (t : Map). IsKept t c.self.inside.stamp) c.self.view_is c.self.invariant.kept in
    sym (stamp_is c.args.self.now c.self.inside.stamp kept.lawful kept.stamp_is)
