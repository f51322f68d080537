use Rattle.std.proofs.Common.{rules, ap, arith}
use Rattle.rtt_words.specs.WordRule.{lower_of}
use Rattle.rtt_words.proofs.Keeps.{same_name, down_looked_keeps, found_published}
use Rattle.rtt_words.proofs.WordSteps.{down_loads_wr_off}
use Rattle.rtt_words.proofs.down.DownWords.load_wr_off.Goals as goal

pub load-requires : goal.load-requires
load-requires c =
    let k = c.args.self.now.kept in
    let e = c.deref.ensures in
    let w = k.table.words in
    let table = ap (λ t. t.shared.table_id.words) e in
    (search rules, omega arith, down_loads_wr_off _ _ _ _ k.is_down)

pub invariant_of-self : goal.invariant_of-self
invariant_of-self c =
    let s = c.load.ensures in
    let f = s.2 in
    record { kept = down_looked_keeps _ _ _ _ _ _ c.args.self.now.kept s.0 f.0 f.1 f.2 f.6 }

pub returns-clause-name : goal.returns-clause-name
returns-clause-name c =
    let s = c.load.ensures in
    same_name _ _ _ _ (ap (λ m. (lower_of m.0).size) s.2.2) s.0

pub returns-clause-found : goal.returns-clause-found
returns-clause-found c =
    let f = c.load.ensures.2 in
    found_published _ _ _ f.0 f.1 (ap (λ m. lower_of m.0) f.2) f.3 f.4 f.5 f.6
