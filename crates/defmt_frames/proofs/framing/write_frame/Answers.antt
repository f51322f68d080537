use Rattle.std.proofs.Common.{◌≡◌, ℕ, Some, sym, ap, ◌∙◌, slice_get, option_copied}
use Rattle.defmt_encode.specs.Carry.{frame_of, message_of, stamp_args}
use Rattle.defmt_frames.proofs.Frames.{frame_is, has_place, statement_there}
use Rattle.defmt_frames.proofs.SiteLaws.{site_there, writes}
use Rattle.defmt_script.specs.Script.{statements_by}
use Rattle.defmt_frames.specs.Sites.{site_at}
use Rattle.defmt_frames.proofs.framing.write_frame.Goals as goal
use Rattle.defmt_macros.specs.declared.site.Site.{Site}
use Rattle.defmt_values.specs.declared.value.Statement.{Statement}

pub unreachable-requires : goal.unreachable-requires
unreachable-requires c = statement_there (statements_by c.args.script.now c.args.writer) c.args.place c.requires.place (sym c.in_default.ensures)

pub unreachable-requires-in_default-get : goal.unreachable-requires-in_default-get
unreachable-requires-in_default-get c =
    let stm : Statement = c.in-Some.statement.now in
    let there : slice_get (statements_by c.args.script.now c.args.writer) c.args.place ≡ Some stm = sym c.statement.ensures ∙ ap option_copied c.in-Some.is in
    site_there c.args.script.now c.args.sites.now c.args.writer c.args.place stm c.requires.sites there (sym c.in_default-get.ensures)

pub write_values-requires-clause-place : goal.write_values-requires-clause-place
write_values-requires-clause-place c =
    has_place c.table.result.now.profile c.args.script.now.settings.profile c.args.number c.carried_place-counted.result c.table.ensures.profile c.carried_place-counted.ensures

pub write_values-requires-clause-writes : goal.write_values-requires-clause-writes
write_values-requires-clause-writes c =
    let s = c.args.script.now in
    let stm : Statement = c.in-Some.statement.now in
    let there : slice_get (statements_by s c.args.writer) c.args.place ≡ Some stm = sym c.statement.ensures ∙ ap option_copied c.in-Some.is in
    let site : Site = c.in-Some-get.site.now in
    let at : site_at c.args.sites.now stm.index ≡ Some site = sym c.get.ensures ∙ ap option_copied c.in-Some-get.is in
    writes s c.args.sites.now c.args.number c.args.writer c.args.place c.args.stamp stm site c.table.result.now.entries c.carried_place-counted.result c.carried_stamp-carried.result
    c.lawful.ensures c.requires.sites there at c.table.ensures.entries c.carried_place-counted.ensures c.carried_stamp-carried.ensures

pub returns-clause-frame : goal.returns-clause-frame
returns-clause-frame c =
    let s = c.args.script.now in
    let stm : Statement = c.in-Some.statement.now in
    let there : slice_get (statements_by s c.args.writer) c.args.place ≡ Some stm = sym c.statement.ensures ∙ ap option_copied c.in-Some.is in
    let site : Site = c.in-Some-get.site.now in
    let at : site_at c.args.sites.now stm.index ≡ Some site = sym c.get.ensures ∙ ap option_copied c.in-Some-get.is in
    c.write_values.ensures.frame
    ∙ ap (λ (i : ℕ). frame_of (message_of c.table.result.now.entries c.carried_place-counted.result (stamp_args c.carried_stamp-carried.result) i stm.args)) (c.requires.sites.own stm.index site at).0
    ∙ frame_is s c.args.number c.args.writer c.args.place c.args.stamp stm c.table.result.now.entries c.carried_place-counted.result c.carried_stamp-carried.result
    there c.table.ensures.entries c.carried_place-counted.ensures c.carried_stamp-carried.ensures
