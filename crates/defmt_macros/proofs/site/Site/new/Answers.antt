use Rattle.defmt_macros.proofs.Places.{no_site, one_fault, no_fault}
use Rattle.defmt_macros.proofs.site.Site.new.Goals as goal

pub returns-in-Some-clause-made : goal.returns-in-Some-clause-made
returns-in-Some-clause-made c tag h = no_site _ _ _ _ c.in_ok-tag.ensures.found _ _ tag c.in-Some.ensures.0 h

pub returns-in-Some-clause-refused : goal.returns-in-Some-clause-refused
returns-in-Some-clause-refused c fault h = one_fault _ _ _ _ c.in_ok-tag.ensures.found _ _ fault c.in-Some.ensures.0 h

pub returns-clause-refused : goal.returns-clause-refused
returns-clause-refused c fault h = no_fault _ _ _ _ c.in_ok-tag.ensures.found _ fault c.in_default.ensures h
