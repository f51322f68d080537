use Rattle.std.proofs.Common.{◌≡◌, ◌++◌, List, ℕ, subst}
use Rattle.std.specs.Prelude.{OnOk}
use Rattle.defmt_eager.proofs.rooms.append.Goals as goal

pub returns : goal.returns
returns c = subst (λ (t : List ℕ). OnOk c.push_str.result (c.push_str.new.self ≡ c.args.out.now ++ t)) c.in-Ok.ensures.cases.0 c.push_str.ensures.ok
