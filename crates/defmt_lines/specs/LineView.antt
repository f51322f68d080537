-- What the code's lines stand for.
use Rattle.std.specs.Prelude.{ℕ, List, [], ◌∷◌}
use Rattle.defmt_lines.specs.Line.{Line, blank, head, entry, act, other}
use Rattle.defmt_lines.specs.declared.content.Line.{Line as Kept}
use Rattle.defmt_lines.specs.declared.content.Line.TheVariants as lines
use Rattle.defmt_lines.specs.declared.content.Words.{Words}
use Rattle.defmt_lines.specs.declared.content.Words.TheVariants as words

abbrev pub words_view : Words → List (List ℕ)
words_view (words.One word) = word.now ∷ []
words_view (words.Two first second) = first.now ∷ second.now ∷ []

abbrev pub line_view : Kept → Line
line_view lines.Blank = blank
line_view (lines.Head form given) = head form (words_view given)
line_view (lines.Entry e) = entry e.name.now e.tag e.text.now
line_view (lines.Act form a) = act form a.writer a.field.now a.rest.now
line_view lines.Other = other
