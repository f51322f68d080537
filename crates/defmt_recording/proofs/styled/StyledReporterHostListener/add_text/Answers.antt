use Rattle.defmt_recording.proofs.styled.StyledReporterHostListener.add_text.Goals as goal

pub returns-then-branch-clause-moved : goal.returns-then-branch-clause-moved
returns-then-branch-clause-moved c = c.go_on_behind.ensures c.args.text.now
