use Rattle.std.proofs.Common.{ap}
use Rattle.rtt_booth.specs.Said.{words_of}
use Rattle.rtt_booth.proofs.booth.Booth+Eight+E+EachText+K+Speaking+K+U.start.Goals as goal

pub start-shared-requires-clause-fresh : goal.start-shared-requires-clause-fresh
start-shared-requires-clause-fresh g c w = ap (words_of w) c.in_ok-stand.ensures.words
