use Rattle.std.proofs.Common.{◌≡◌, ◌≤◌, length}
use denote.Text.{Utf8}
use denote.Shadow.{shadow}
use Rattle.defmt_grammar.specs.Language.{lenient_of}
use Rattle.defmt_intern.specs.Body.{forms_of, variants}
use Rattle.defmt_intern.proofs.BodyLaws.{behind_forms}
use Rattle.defmt_lines.proofs.Verdicts.{IsBehind}
use Rattle.defmt_lines.proofs.verdict.parse_forms.Given as goal

abbrev pub invariant-variants : goal.invariant-variants
invariant-variants l = record {
  utf8 : shadow (Utf8 l.rest);
  taken : IsBehind l.language l.rest l.text;
  read : behind_forms l.forms (forms_of (lenient_of l.language) (variants l.rest)) ≡ forms_of (lenient_of l.language) (variants l.text);
  shorter : length l.rest ≤ length l.text;
}

abbrev pub decreases-variants : goal.decreases-variants
decreases-variants l = length l.rest
