use Rattle.std.proofs.Common.{arith}
use Rattle.elf_section.proofs.TableLaws.{seen_same, seen_none, same_bytes, marker_by_seen}
use Rattle.elf_section.proofs.markers.has_marker.Goals as goal
use Rattle.elf_section.proofs.markers.has_marker.Goals.{in-Some+else-ne, in_default}

pub symbols-preserved : goal.symbols-preserved
symbols-preserved c = elim c.match-says.branch [
  | in-Some+else-ne w ↦ rw w.seen-is (seen_same c.args.file.now c.args.table.now.number c.args.front.now c.args.value.now c.symbols.k c.symbols.seen w.in-Some.rest.now c.symbols.invariant w.in-Some.ensures (same_bytes w.in-Some.rest.now c.args.value.now w.if-ne.ensures))
  | in_default w ↦ rw w.seen-is (seen_none c.args.file.now c.args.table.now.number c.args.front.now c.args.value.now c.symbols.k c.symbols.seen c.symbols.invariant w.in_default.ensures)
]

pub returns : goal.returns
returns c = marker_by_seen c.args.file.now c.args.table.now.number c.args.front.now c.args.value.now c.symbols.k c.symbols.seen (let n = c.requires.count_is in omega (arith, n)) c.symbols.invariant
