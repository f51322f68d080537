use Rattle.std.proofs.Common.{◌≡◌, ◌+◌, ◌++◌, length, take, drop}
use Rattle.rtt_terminal.specs.Reading.{up_to_newline, from_newline}
use Rattle.rtt_terminal.proofs.item.split_line.Given as goal

abbrev pub invariant-loop-rest : goal.invariant-loop-rest
invariant-loop-rest l = record {
  size : l.count + length l.rest ≡ length l.bytes;
  rest : l.rest ≡ drop l.count l.bytes;
  front : up_to_newline l.bytes ≡ take l.count l.bytes ++ up_to_newline l.rest;
  behind : from_newline l.bytes ≡ from_newline l.rest;
}

abbrev pub decreases-loop-rest : goal.decreases-loop-rest
decreases-loop-rest l = length l.rest
