use Rattle.std.proofs.Common.{arith}
use Rattle.rtt_dump.proofs.FlawLemmas.{addresses_flaw, bytes_flaw, no_flaw}
use Rattle.rtt_dump.proofs.spans.span_in.Goals as goal
use Rattle.rtt_dump.proofs.spans.span_in.Goals.{then-len-p-via-then-len-p, then-len-p-via-else-len-p+then-len-p-2, then-p-gt-ADDRESSES-via-then-p-gt-ADDRESSES, then-p-gt-ADDRESSES-via-else-p-gt-ADDRESSES+then-p}

pub returns-then-len-p-clause-flaw : goal.returns-then-len-p-clause-flaw
returns-then-len-p-clause-flaw c =
    bytes_flaw c.args.file.now c.args.p.now
    (elim c.then-len-p.branch [ then-len-p-via-then-len-p w ↦ omega arith | then-len-p-via-else-len-p+then-len-p-2 w ↦ omega arith ])

pub returns-then-p-gt-ADDRESSES-clause-flaw : goal.returns-then-p-gt-ADDRESSES-clause-flaw
returns-then-p-gt-ADDRESSES-clause-flaw c =
    addresses_flaw c.args.file.now c.args.p.now (omega arith)
    (elim c.then-p-gt-ADDRESSES.branch [ then-p-gt-ADDRESSES-via-then-p-gt-ADDRESSES w ↦ omega arith | then-p-gt-ADDRESSES-via-else-p-gt-ADDRESSES+then-p w ↦ omega arith ])

pub returns-clause-passes : goal.returns-clause-passes
returns-clause-passes c = no_flaw c.args.file.now c.args.p.now (omega arith) (omega arith)
