use Rattle.std.proofs.Common.{◌≡◌, ℕ, sym, ap, ◌∙◌, subst, arith}
use Rattle.rtt_terminal.specs.Speech.{IsSpeech, Speech, silence}
use Rattle.rtt_terminal.proofs.SpeechLaws.{is_silence, one_more}
use Rattle.rtt_terminal.proofs.speech.Speech.new.Goals as goal

all_silent : (speech : Speech) (n : ℕ) → speech ≡ silence n → n ≡ 8 → speech ≡ silence 8
all_silent speech n is all = is ∙ ap silence all

pub loop-preserved : goal.loop-preserved
loop-preserved c = rw one_more (rw (← c.loop.invariant) (rw c.new.ensures at c.in_ok-push.ensures.items))

pub invariant_of-result : goal.invariant_of-result
invariant_of-result c = subst (λ (s : Speech). IsSpeech s) (sym (all_silent c.loop.writers.items c.loop.counter c.loop.invariant (omega arith))) is_silence

pub returns : goal.returns
returns c = all_silent c.loop.writers.items c.loop.counter c.loop.invariant (omega arith)
