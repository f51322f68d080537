use Rattle.std.proofs.Common.{rules, ◌+◌, ◌-◌, refl, ap, div-add-mod', arith}
use Rattle.rtt_words.specs.WordRule.{upper_of, holds_word}
use Rattle.rtt_words.proofs.Keeps.{same_name, upper_keeps}
use Rattle.rtt_words.proofs.WordSteps.{up_loads_word}
use Rattle.rtt_words.proofs.up.UpWords.load_word.Goals as goal

pub overflow_add-word : goal.overflow_add-word
overflow_add-word c = let k = c.args.self.now.kept in let t = k.table.big in let s = k.sized in let r = c.requires in record { fits = omega arith }

pub load-requires : goal.load-requires
load-requires c =
    let k = c.args.self.now.kept in
    let e = c.deref.ensures in
    let w = k.table.words in
    let s = k.sized in
    let r = c.requires in
    let table = ap (λ t. t.shared.table_id.words) e in
    (search rules, omega (arith, div-add-mod' (c.args.self.now.table.value.shared.key + 7) 8), up_loads_word _ _ _ _ _ k.is_up)

pub invariant_of-self : goal.invariant_of-self
invariant_of-self c =
    let s = c.load.ensures in
    record { kept = upper_keeps _ _ _ _ _ _ c.args.self.now.kept s.0 (holds_word (upper_of c.args.self.now.seat.me.0) (c.args.word + 2 - 2) c.load.result) s.2 refl refl refl refl }

pub returns-clause-name : goal.returns-clause-name
returns-clause-name c =
    let s = c.load.ensures in
    same_name _ _ _ _ (ap (λ m. (upper_of m.0).size) s.2) s.0
