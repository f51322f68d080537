use Rattle.std.proofs.Common.{refl, arith}
use Rattle.atomic_table.specs.Table.{keeps}
use Rattle.rtt_ring.proofs.journal.Journal.note.Goals as goal

pub store-requires : goal.store-requires
store-requires g c =
    let s = c.args.self.now in
    (s.seated.0, omega (arith, s.seated.1), λ state h len at lt. (g.N.Note.after g.B.Named.bytes s.seat.me.0, keeps, tt, tt, refl))
