use Rattle.std.proofs.Common.{Bool, length}
use Rattle.std.specs.Option.{option_copied}
use Rattle.std.specs.Str.{IsUtf8}
use Rattle.elf_table.proofs.QuickLaws.{Quick, behind_comma}
use Rattle.elf_table.proofs.quick.quick_texts.Given as goal

abbrev pub invariant-members : goal.invariant-members
invariant-members l = record {
  utf8 : IsUtf8 l.rest;
  comma : Bool;
  read : Quick l.name (option_copied l.«package») (option_copied l.tag) (option_copied l.text) (option_copied l.disambiguator) comma (behind_comma comma l.rest);
}

abbrev pub decreases-members : goal.decreases-members
decreases-members l = length l.rest
