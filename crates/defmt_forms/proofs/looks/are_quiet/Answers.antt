use Rattle.defmt_forms.proofs.looks.are_quiet.Goals as goal

pub returns-then-are_printable : goal.returns-then-are_printable
returns-then-are_printable c = λ _. c.are_printable.ensures c.if-are_printable.true
