-- Languages of format strings and their modes.
use Rattle.std.specs.Prelude.{Bool, true, false}
use Rattle.defmt_grammar.specs.declared.language.Language.{Language}
use Rattle.defmt_grammar.specs.declared.language.Language.TheVariants.{Base, Full}
use Rattle.defmt_grammar.specs.declared.fault.Mode.{Mode}
use Rattle.defmt_grammar.specs.declared.fault.Mode.TheVariants.{Strict, Lenient, StrictFull, LenientFull}

-- the mode that refuses a hint that isn't known
abbrev pub strict_of : Language → Mode
strict_of Base = Strict
strict_of Full = StrictFull

-- the mode that reads it as Plain
abbrev pub lenient_of : Language → Mode
lenient_of Base = Lenient
lenient_of Full = LenientFull

-- the language of a mode
abbrev pub language_of : Mode → Language
language_of Strict = Base
language_of Lenient = Base
language_of StrictFull = Full
language_of LenientFull = Full

-- whether it reads a hint that isn't known as Plain
abbrev pub is_lenient : Mode → Bool
is_lenient Strict = false
is_lenient Lenient = true
is_lenient StrictFull = false
is_lenient LenientFull = true
