-- Any of the five kinds of statements of a generated text.
use Rattle.std.proofs.Common.{◌<◌, ◌^◌, ℕ, zero, suc, arith}
use Rattle.defmt_generate.proofs.CallParts.{Call}
use Rattle.defmt_generate.proofs.NumberCalls.{boot_call, fail_call, tick_call}
use Rattle.defmt_generate.proofs.PairCalls.{link_call, temp_call}

pub called : (turn x : ℕ) → turn < 5 → x < 2 ^ 32 → Call turn x
called zero x lt small = boot_call x
called (suc zero) x lt small = temp_call x
called (suc (suc zero)) x lt small = link_call x
called (suc (suc (suc zero))) x lt small = fail_call x small
called (suc (suc (suc (suc zero)))) x lt small = tick_call x small
called (suc (suc (suc (suc (suc turn))))) x lt small = absurd (omega (arith, lt))
