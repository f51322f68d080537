use Rattle.std.proofs.Common.{sym}
use Rattle.dl_io.proofs.Faults.{given_refused}
use Rattle.dl_io.proofs.adapters.StdSinkSink.write.Goals as goal

pub returns-in-Err-clause-stuck : goal.returns-in-Err-clause-stuck
returns-in-Err-clause-stuck g c = λ e some. given_refused (sym e)

pub returns-in-Err-clause-none : goal.returns-in-Err-clause-none
returns-in-Err-clause-none g c = λ e some. given_refused (sym e)
