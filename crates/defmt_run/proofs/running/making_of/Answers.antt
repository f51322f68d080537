use Rattle.std.proofs.Common.{inl, refl}
use Rattle.defmt_listen.specs.Streams.{Input}
use Rattle.defmt_script.specs.Script.{Script as Read}
use Rattle.defmt_recording.specs.declared.fault.Fault.TheVariants.{Memory}
use Rattle.defmt_run.specs.Running.{Comes, ComesNot, Gave, TookShort}
use Rattle.defmt_words.specs.declared.job.ScriptJob.{ScriptJob}
use Rattle.defmt_words.specs.declared.job.ScriptJob.TheVariants.{Run, Record, Terminals, Steer, Table, Print, Generate}
use Rattle.defmt_run.proofs.running.making_of.Goals as goal

took : (input : Input) (s : Read) → Gave input s → TookShort input
took input s gave = (gave.text, gave.whole.within, gave.whole.taken)

-- behind a script that came memory may be wanting
wanting : (job : ScriptJob) (input : Input) (s : Read) → Comes job input s → ComesNot job input Memory
wanting (Run options) input s came = took input s came
wanting Record input s came = took input s came
wanting Terminals input s came = took input s came
wanting Steer input s came = inl (took input s came.0)
wanting Table input s came = took input s came
wanting Print input s came = took input s came
wanting (Generate count) input s came = (refl, came.1)

pub returns-in-Ok-clause-made : goal.returns-in-Ok-clause-made
returns-in-Ok-clause-made g c = record { script = c.in_ok-script.script; comes = c.in_ok-script.ensures.comes; makes = c.in-Ok.ensures.makes }

pub returns-in-Err-clause-comes_not : goal.returns-in-Err-clause-comes_not
returns-in-Err-clause-comes_not g c = wanting _ _ _ c.in_ok-script.ensures.comes
