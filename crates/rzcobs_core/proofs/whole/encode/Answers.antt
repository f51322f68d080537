use Rattle.std.proofs.Common.{◌≡◌, drop, ◌∙◌, ap, rules}
use Rattle.rzcobs_core.proofs.Behind.{both_written}
use Rattle.rzcobs_core.proofs.whole.encode.Goals as goal

pub returns-clause-bound : goal.returns-clause-bound
returns-clause-bound c = c.end.ensures.bound _ c.put_all.ensures.all

pub returns-clause-behind : goal.returns-clause-behind
returns-clause-behind c =
    let whole = both_written _ _ _ _ _ _ c.put_all.ensures.behind c.end.ensures.behind in
    let left : drop c.end.result c.end.new.self.0 ≡ drop c.end.result c.args.out.now = whole.behind ∙ ap (drop c.end.result) c.new-encoder.ensures.same in
    search rules
