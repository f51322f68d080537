use Rattle.std.proofs.Common.{Result, subst, ◌∙◌}
use Rattle.defmt_frames.proofs.SiteLaws.{only_memory, own_slots}
use Rattle.defmt_macros.specs.Sites.{GivesOnly}
use Rattle.defmt_macros.specs.declared.site.Site.{Site}
use Rattle.defmt_macros.specs.declared.site.SiteFault.{SiteFault}
use Rattle.defmt_frames.proofs.sites.site_of.Goals as goal

pub want_of-requires : goal.want_of-requires
want_of-requires c =
    let table = c.args.table.now.entries in
    let own = own_slots table c.args.index c.requires c.in-Some.field-0-0.now c.in-Some.body.now c.in-One.pieces c.in-Some.ensures.0 c.in-Some.ensures.1 c.in-One.is in
    only_memory table c.args.index c.slots.result.now c.in-Err.fault c.requires (c.slots.ensures.slots ∙ own)
    (λ tag site. subst (λ (r : Result Site SiteFault). GivesOnly r tag) c.in-Err.is (c.new.ensures.made tag site))
