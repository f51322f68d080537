use Rattle.std.proofs.Common.{◌∷◌, [], ◌++◌, ℕ, List, Option, Some, None}
use Rattle.std.specs.Prelude.{IfSome}
use Rattle.defmt_eager.specs.Line.{eager_line}
use Rattle.defmt_encode.specs.Carry.{stamp_args}
use Rattle.defmt_hints.proofs.Chains.{written_two}
use Rattle.defmt_hints.specs.Written.{Writes, Written}
use Rattle.defmt_print.proofs.statements.put_ended.Goals as goal

-- a text behind a text that stands at the front
behind_it : (r : Option ℕ) (old mid new : List ℕ) (m : ℕ) (a b : List ℕ) → Written old 0 mid m a → Writes r mid m new b → IfSome r (λ (end : ℕ). Written old 0 new end (a ++ b))
behind_it None old mid new m a b v w = tt
behind_it (Some end) old mid new m a b v w = written_two old mid new 0 m end a b v w

pub returns : goal.returns
returns c =
    behind_it c.put.result c.args.room.now c.put_line.new.out c.put.new.out c.in_ok-end.end (eager_line c.args.table.now.entries (stamp_args c.args.stamp) c.args.statement.now.index c.args.statement.now.args) (10 ∷ [])
    c.in_ok-end.ensures.placed.written c.put.ensures
