use Rattle.std.proofs.Common.{◌≡◌, length, vec_len, Bool, true, Result, Ok, Err, IfOk, sym, ◌∙◌, arith}
use Rattle.std.proofs.lemmas.Bool.{eqb-true}
use Rattle.defmt_framing.proofs.Standing.{piece_alone}
use Rattle.defmt_framing.proofs.framer.tell.Goals as goal

told_as : {A E : Type 0} (r : Result A E) (zeros : Bool) (one other : A) → one ≡ other → IfOk r (λ told. told ≡ one) → IfOk r (λ told. zeros ≡ true → told ≡ other)
told_as (Ok told) zeros one other same is = λ _. is ∙ same
told_as (Err fault) zeros one other same is = tt

pub returns-then-is_empty-clause-piece : goal.returns-then-is_empty-clause-piece
returns-then-is_empty-clause-piece g c =
    let size = eqb-true (vec_len c.args.kept.now) 0 (sym c.is_empty.ensures ∙ c.if-is_empty.true) in
    let none : length c.args.kept.now.items ≡ 0 = omega (arith, size, c.args.kept.now.ok.0) in
    told_as c.tell_piece.result c.args.zeros _ _ (piece_alone (g.T.Teller.tells c.args.teller.now) c.args.kept.now.items c.args.run.now none)
    c.tell_piece.ensures.told
