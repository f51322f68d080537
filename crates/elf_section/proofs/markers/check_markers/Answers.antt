use Rattle.std.proofs.Common.{refl, codes}
use Rattle.elf_section.specs.Checks.{HasMarker}
use Rattle.elf_section.specs.Checks as check
use Rattle.elf_section.proofs.SectionLaws.{for_symbols}
use Rattle.elf_section.proofs.Stages.{refuse, passed_more}
use Rattle.elf_section.proofs.markers.check_markers.Goals as goal

pub returns-then-not-has_marker : goal.returns-then-not-has_marker
returns-then-not-has_marker c = rw c.alone.ensures (refuse c.args.file.now check.has_version c.requires.passed refl (λ h. c.if-not-has_marker.ensures (h c.args.table.now.number c.requires.open.symbols)))

pub returns-then-not-has_marker-2 : goal.returns-then-not-has_marker-2
returns-then-not-has_marker-2 c =
    let p = passed_more c.args.file.now 15 c.requires.passed (λ _ j s. for_symbols c.args.file.now c.args.table.now.number (λ n. HasMarker c.args.file.now n (codes "_defmt_version_ = ") (codes "4")) c.requires.open.symbols c.if-not-has_marker.ensures j s) in
    rw c.alone-then-not-has_marker-2.ensures (refuse c.args.file.now check.has_encoding p refl (λ h. c.if-not-has_marker-2.ensures (h c.args.table.now.number c.requires.open.symbols)))

pub returns : goal.returns
returns c =
    let p = passed_more c.args.file.now 15 c.requires.passed (λ _ j s. for_symbols c.args.file.now c.args.table.now.number (λ n. HasMarker c.args.file.now n (codes "_defmt_version_ = ") (codes "4")) c.requires.open.symbols c.if-not-has_marker.ensures j s) in
    passed_more c.args.file.now 16 p (λ _ j s. for_symbols c.args.file.now c.args.table.now.number (λ n. HasMarker c.args.file.now n (codes "_defmt_encoding_ = ") (codes "rzcobs")) c.requires.open.symbols c.if-not-has_marker-2.ensures j s)
