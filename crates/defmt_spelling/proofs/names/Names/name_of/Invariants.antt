use Rattle.std.proofs.Common.{◌≡◌}
use Rattle.std.specs.Option.{option_copied}
use Rattle.defmt_spelling.specs.Names.{name_of, pairs}
use Rattle.defmt_spelling.proofs.NameLaws.{least_named}
use Rattle.defmt_spelling.proofs.names.Names.name_of.Given as goal

abbrev pub invariant-loop-name : goal.invariant-loop-name
invariant-loop-name l =
    (goal.iterator-loop-name).can_next l.name-iterator ×
    (goal.iterator-loop-name).is_finite l.name-iterator ×
    (least_named (pairs l.name-iterator) l.index (option_copied l.least) ≡ name_of l.self l.index)
