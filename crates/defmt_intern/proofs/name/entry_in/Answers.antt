use Rattle.std.proofs.Common.{◌∙◌}
use Rattle.serde_json.specs.View.{view}
use Rattle.defmt_intern.proofs.NameLaws.{lacks_tag, lacks_data, lacks_disambiguator, names_entry}
use Rattle.defmt_intern.proofs.name.entry_in.Goals as goal

pub returns-in_default-text_at : goal.returns-in_default-text_at
returns-in_default-text_at c =
    let o = c.requires in
    lacks_tag c.args.name.now (view c.args.value.now) o.0 c.in-Some.package.now o.1 o.2 c.in-Some.ensures c.in_default-text_at.ensures

pub returns-in_default-text_at-2 : goal.returns-in_default-text_at-2
returns-in_default-text_at-2 c =
    let o = c.requires in
    lacks_data c.args.name.now (view c.args.value.now) o.0 c.in-Some.package.now c.in-Some-text_at.tag.now o.1 o.2 c.in-Some.ensures c.in-Some-text_at.ensures c.in_default-text_at-2.ensures

pub returns-in_default-text_at-3 : goal.returns-in_default-text_at-3
returns-in_default-text_at-3 c =
    let o = c.requires in
    lacks_disambiguator c.args.name.now (view c.args.value.now) o.0 c.in-Some.package.now c.in-Some-text_at.tag.now c.in-Some-text_at-2.data.now o.1 o.2 c.in-Some.ensures c.in-Some-text_at.ensures c.in-Some-text_at-2.ensures c.in_default-text_at-3.ensures

pub returns : goal.returns
returns c =
    let o = c.requires in
    names_entry c.args.name.now (view c.args.value.now) o.0 c.in-Some.package.now c.in-Some-text_at.tag.now c.in-Some-text_at-2.data.now c.in-Some-text_at-3.disambiguator.now _ o.1 o.2
    c.in-Some.ensures c.in-Some-text_at.ensures c.in-Some-text_at-2.ensures c.in-Some-text_at-3.ensures
    (c.in_ok-entry_of.ensures.tag ∙ c.in_ok-tag.ensures) c.in_ok-entry_of.ensures.owner c.in_ok-entry_of.ensures.text c.in_ok-entry_of.ensures.disambiguator
