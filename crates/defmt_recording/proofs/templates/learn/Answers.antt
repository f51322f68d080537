use Rattle.defmt_recording.proofs.Filled.{put_are, same_are}
use Rattle.defmt_recording.proofs.templates.learn.Goals as goal

pub returns-in_err-grow : goal.returns-in_err-grow
returns-in_err-grow c =
    same_are c.args.style.now c.args.table.now.entries c.args.places.now c.args.templates.now.items c.grow.new.templates.items c.requires c.grow.ensures.same

pub returns : goal.returns
returns c =
    put_are c.args.style.now c.args.table.now.entries c.args.places.now c.args.templates.now.items c.grow.new.templates.items c.args.index c.in_ok-made.made
    c.requires c.grow.ensures.same c.in_ok-made.ensures
