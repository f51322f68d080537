use Rattle.std.proofs.Common.{◌++◌, ◌∷◌, [], inl, inr, refl}
use Rattle.dl_io.proofs.Streams.{appends_then}
use Rattle.defmt_listen.proofs.Fronts.{longer_front, then_front}
use Rattle.defmt_cli.proofs.Saying.{rose_later}
use Rattle.defmt_cli.proofs.answer.tell.Goals as goal

pub returns-in-Err : goal.returns-in-Err
returns-in-Err g c =
    inr (
      longer_front (g.E.Sink.held c.args.errors.now) (g.E.Sink.held c.write_all.new.out) c.args.text.now (10 ∷ []) (c.args.text.now ++ 10 ∷ []) refl c.in-Err.ensures.prefix,
      c.in-Err.ensures.failed,
    )

pub returns-in-Ok-write_all : goal.returns-in-Ok-write_all
returns-in-Ok-write_all g c =
    inl (appends_then (g.E.Sink.held c.args.errors.now) (g.E.Sink.held c.write_all.new.out) (g.E.Sink.held c.write_all-2.new.out) c.args.text.now (10 ∷ []) c.in-Ok.ensures.ok c.in-Ok-write_all.ensures.ok)

pub returns-in-Err-write_all : goal.returns-in-Err-write_all
returns-in-Err-write_all g c =
    inr (
      then_front (g.E.Sink.held c.args.errors.now) (g.E.Sink.held c.write_all.new.out) (g.E.Sink.held c.write_all-2.new.out) c.args.text.now (10 ∷ []) c.in-Ok.ensures.ok c.in-Err-write_all.ensures.prefix,
      rose_later _ _ _ c.write_all.ensures.later c.in-Err-write_all.ensures.failed,
    )
