use Rattle.std.proofs.Common.{◌≡◌, ◌≤◌, length}
use denote.Text.{Utf8}
use denote.Shadow.{shadow}
use Rattle.defmt_intern.specs.Body.{forms_of, variants}
use Rattle.defmt_intern.proofs.BodyLaws.{behind_forms}
use Rattle.defmt_intern.proofs.parsed.forms_of.Given as goal

abbrev pub invariant-variants : goal.invariant-variants
invariant-variants l = record {
  utf8 : shadow (Utf8 l.rest);
  read : behind_forms l.forms (forms_of l.fn.mode (variants l.rest)) ≡ forms_of l.fn.mode (variants l.text);
  shorter : length l.rest ≤ length l.text;
}

abbrev pub decreases-variants : goal.decreases-variants
decreases-variants l = length l.rest
