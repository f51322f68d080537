use Rattle.std.proofs.Common.{◌∙◌, sym}
use Rattle.defmt_intern.specs.Entries as map
use Rattle.defmt_intern.proofs.TableLaws.{none_there, refused_by_entry}
use Rattle.defmt_intern.proofs.map.EntryMap.refusal_at.Goals as goal

pub returns : goal.returns
returns c =
    let free = none_there c.get.result (map.get c.args.self.now c.args.index) c.get.ensures (sym c.is_some.ensures ∙ c.if-is_some.false) in
    refused_by_entry c.args.self.now c.args.index c.args.entry.now c.refusal.result free c.refusal.ensures
