use Rattle.std.proofs.Common.{◌≡◌, [], length}
use denote.Text.{Utf8}
use denote.Shadow.{shadow}
use Rattle.defmt_hooks.specs.Reading.{all_added, parts}
use Rattle.defmt_hooks.proofs.reading.floors_of.Given as goal

abbrev pub invariant-parts : goal.invariant-parts
invariant-parts l = record {
  utf8 : shadow (Utf8 l.rest);
  read : all_added l.floors (parts l.rest) ≡ all_added [] (parts l.fn.text);
}

abbrev pub decreases-parts : goal.decreases-parts
decreases-parts l = length l.rest
