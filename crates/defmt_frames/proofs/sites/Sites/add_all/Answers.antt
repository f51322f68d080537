use Rattle.std.proofs.Common.{◌≡◌, List, Some, sym, ap, subst, ◌∙◌, arith, get_or, length, slice_get}
use Rattle.std.proofs.lemmas.Option.{slice_get-get_or, slice_get_within}
use Rattle.defmt_frames.proofs.Frames.{sound_at}
use Rattle.defmt_frames.proofs.SiteLaws.{sound_message}
use Rattle.defmt_script.specs.Script.{statements_by}
use Rattle.defmt_frames.specs.Sites.{IsMessage}
use Rattle.defmt_intern.specs.Table.{Map}
use Rattle.defmt_frames.proofs.sites.Sites.add_all.Goals as goal
use Rattle.defmt_values.specs.declared.value.Statement.{Statement}

pub add-requires-clause-message : goal.add-requires-clause-message
add-requires-clause-message c =
    let s = c.args.script.now in
    let list : List Statement = c.statements-statements.result.now in
    let place = c.loop-place.place in
    let stm : Statement = get_or list place c.index-statements-place.result in
    let there : slice_get (statements_by s c.args.writer) place ≡ Some stm =
    ap (λ (l : List Statement). slice_get l place) (sym c.statements-statements.ensures) ∙ slice_get-get_or list place c.index-statements-place.result c.loop-place-test.true in
    subst (λ (t : Map). IsMessage t stm.index) (sym c.table.ensures.entries) (sound_message s stm (sound_at s c.args.writer place stm c.lawful.ensures there))

pub returns-clause-all : goal.returns-clause-all
returns-clause-all c place stm there =
    c.loop-place.invariant.2 place (omega (arith, slice_get_within (statements_by c.args.script.now c.args.writer) place stm there, c.loop-place-test.false, ap length c.statements-statements.ensures)) stm there
