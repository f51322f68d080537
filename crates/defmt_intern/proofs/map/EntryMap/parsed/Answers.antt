use Rattle.std.proofs.Common.{◌∙◌, Some, ap, option_map}
use Rattle.defmt_intern.specs.Body.{body_of}
use Rattle.defmt_intern.proofs.map.EntryMap.parsed.Goals as goal

pub returns-in-Some : goal.returns-in-Some
returns-in-Some c = ap Some c.in-Some.ensures.read ∙ ap (option_map (body_of c.args.self.now.language)) c.in-Some.ensures.entry

pub returns-in-None : goal.returns-in-None
returns-in-None c = ap (option_map (body_of c.args.self.now.language)) c.in-None.ensures.entry
