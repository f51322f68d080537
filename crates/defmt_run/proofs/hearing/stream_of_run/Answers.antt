use Rattle.std.proofs.Common.{◌++◌, ◌∙◌, List, ℕ, ap, refl, sym}
use Rattle.defmt_run.proofs.RunMade.{unheard}
use Rattle.defmt_run.proofs.hearing.stream_of_run.Goals as goal

pub returns : goal.returns
returns c = λ said silent.
    let run = c.args.run.now in (
      unheard run.script run.tape run.settled run.captured.items run.rest.items run.looks c.requires.0 c.requires.1 c.requires.2
          c.new.result said c.new.ensures silent,
      c.in_ok-output.ensures ∙ ap (λ (l : List ℕ). l ++ c.as_slice-2.result.now) c.as_slice.ensures ∙ ap (λ (l : List ℕ). run.captured.items ++ l) c.as_slice-2.ensures
          ∙ sym c.requires.0.whole ∙ c.requires.0.sends,
      refl,
    )
