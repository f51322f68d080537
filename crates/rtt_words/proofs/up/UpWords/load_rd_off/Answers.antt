use Rattle.std.proofs.Common.{rules, ap, arith}
use Rattle.rtt_words.specs.WordRule.{upper_of}
use Rattle.rtt_words.proofs.Keeps.{same_name, up_looked_keeps, found_released}
use Rattle.rtt_words.proofs.WordSteps.{up_loads_rd_off}
use Rattle.rtt_words.proofs.up.UpWords.load_rd_off.Goals as goal

pub load-requires : goal.load-requires
load-requires c =
    let k = c.args.self.now.kept in
    let e = c.deref.ensures in
    let w = k.table.words in
    let table = ap (λ t. t.shared.table_id.words) e in
    (search rules, omega arith, up_loads_rd_off _ _ _ _ k.is_up)

pub invariant_of-self : goal.invariant_of-self
invariant_of-self c =
    let s = c.load.ensures in
    let f = s.2 in
    record { kept = up_looked_keeps _ _ _ _ _ _ c.args.self.now.kept s.0 f.0 f.1 f.2 f.6 }

pub returns-clause-name : goal.returns-clause-name
returns-clause-name c =
    let s = c.load.ensures in
    same_name _ _ _ _ (ap (λ m. (upper_of m.0).size) s.2.2) s.0

pub returns-clause-found : goal.returns-clause-found
returns-clause-found c =
    let f = c.load.ensures.2 in
    found_released _ _ _ f.0 f.1 (ap (λ m. upper_of m.0) f.2) f.3 f.4 f.5 f.6
