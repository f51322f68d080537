use Rattle.std.proofs.Common.{length}
use Rattle.std.specs.Str.{IsUtf8}
use Rattle.defmt_shapes.specs.Shape.{Shapes, SpellsShapes}
use Rattle.defmt_spelling.specs.Reading.{SpellsSome}
use Rattle.defmt_spelling.proofs.reading.are_values.Given as goal

abbrev pub invariant-each : goal.invariant-each
invariant-each l = record {
  utf8 : IsUtf8 l.rest;
  front : (ss : Shapes) → SpellsShapes l.language l.rest ss → SpellsSome l.language l.text;
}

abbrev pub decreases-each : goal.decreases-each
decreases-each l = length l.rest
