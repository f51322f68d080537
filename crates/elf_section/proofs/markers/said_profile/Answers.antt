use Rattle.defmt_intern.specs.declared.table.Profile.TheVariants as profiles
use Rattle.elf_section.specs.Checks.{profile_front, profile_word}
use Rattle.elf_section.proofs.TableLaws.{only_marked}
use Rattle.elf_section.proofs.markers.said_profile.Goals as goal

pub returns-then-not-is_said : goal.returns-then-not-is_said
returns-then-not-is_said c = record { every = λ k rest says. absurd (c.if-not-is_said.ensures (k, (rest, says))) }

pub returns-then-has_marker : goal.returns-then-has_marker
returns-then-has_marker c = record { every = c.if-has_marker.ensures.every }

pub returns-then-has_marker-2 : goal.returns-then-has_marker-2
returns-then-has_marker-2 c = c.if-has_marker-2.ensures

pub returns : goal.returns
returns c = (
  λ one. c.if-has_marker.ensures (only_marked c.args.file.now c.args.table.now.number profile_front (profile_word profiles.One) c.if-not-is_said.ensures one),
  λ two. c.if-has_marker-2.ensures (only_marked c.args.file.now c.args.table.now.number profile_front (profile_word profiles.Two) c.if-not-is_said.ensures two),
)
