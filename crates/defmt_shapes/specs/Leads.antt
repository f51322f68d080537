-- What a value's text begins with, on lists.
use Rattle.std.specs.Prelude.{◌≡◌, ◌≢◌, ℕ, ◌-◌, Bool, true, false, ◌||◌, ◌==◌, ◌%◌, if◌then◌else◌, bytes_eq, List, [], ◌∷◌, ◌++◌, length, take, codes, Option, Some, None, option_map, unwrap_or}
use Rattle.std.specs.Borrow.{Bor}
use Rattle.std.specs.List.{AllByRecursion}
use Rattle.std.specs.Option.{option_copied}
use Rattle.defmt_grammar.specs.Cut.{behind, strip}
use Rattle.defmt_grammar.specs.Param.{has_leading_zero}
use Rattle.defmt_grammar.specs.declared.language.Language.{Language}
use Rattle.defmt_grammar.specs.declared.language.Language.TheVariants.{Base, Full}
use Rattle.defmt_shapes.specs.declared.parts.Class.TheVariants.{Decimal, Hexadecimal, Word}
use Rattle.defmt_shapes.specs.declared.head.Head.{Head}
use Rattle.defmt_shapes.specs.declared.head.Head.TheVariants as heads
use Rattle.defmt_shapes.specs.declared.head.Whole.{Whole}
use Rattle.defmt_shapes.specs.declared.head.Whole.TheVariants as wholes
use Rattle.defmt_shapes.specs.Runs.{in_class, run, either, is_variant}
use Rattle.defmt_shapes.specs.Escapes.{IsCharacter, IsQuotedEnd}
use Rattle.defmt_shapes.specs.Shape.{Shape, Shapes, Items, IsFull, IsFloat, AreCalls, IsNumber, IsVariant, is_name, SpellsBytes, SpellsQuoted, SpellsShapes, SpellsItems, StartsThere}
use Rattle.defmt_shapes.specs.Shape as shapes

-- a value without values inside, with its digits, its name or what stands in its quotes, or the front
-- of one up to its first bracket
pub data Lead : Type 0 where
  decimal : List ℕ → Lead
  hexadecimal : List ℕ → Lead
  negative : List ℕ → Lead
  flag : Bool → Lead
  character : ℕ → Lead
  quoted : List ℕ → Lead
  interned : List ℕ → Lead
  bytes : List ℕ → Lead
  empty : Lead
  float : List ℕ → Lead
  call : List ℕ → Option (List ℕ) → Lead
  sequence : List ℕ → Lead
  nodes : Lead

abbrev pub view_whole : Whole → Lead
view_whole (wholes.Decimal digits) = decimal digits.now
view_whole (wholes.Hexadecimal digits) = hexadecimal digits.now
view_whole (wholes.Negative digits) = negative digits.now
view_whole (wholes.Flag b) = flag b
view_whole (wholes.Character c) = character c
view_whole (wholes.Quoted inside) = quoted inside.now
view_whole (wholes.Interned name) = interned name.now
view_whole (wholes.Bytes digits) = bytes digits.now
view_whole wholes.Empty = empty
view_whole (wholes.Float text) = float text.now

abbrev pub view_head : Head → Lead
view_head (heads.Whole whole) = view_whole whole
view_head (heads.Call name variant) = call name.now (option_copied variant)
view_head (heads.Sequence name) = sequence name.now
view_head heads.Nodes = nodes

abbrev pub view_heads : Option (Head × Bor (List ℕ)) → Option (Lead × List ℕ)
view_heads o = option_map (λ p. (view_head p.0, p.1.now)) o

-- ---- by their first byte

abbrev pub some_digits : (List ℕ → Lead) → List ℕ × List ℕ → Option (Lead × List ℕ)
some_digits make d = if length d.0 == 0 then None else Some (make d.0, d.1)

unfoldable pub decimal_lead : List ℕ → Option (Lead × List ℕ)
decimal_lead text = some_digits decimal (run (in_class Decimal) text)

-- behind `0x`
unfoldable pub hexadecimal_lead : List ℕ → Option (Lead × List ℕ)
hexadecimal_lead text = some_digits hexadecimal (run (in_class Hexadecimal) text)

-- behind `-`
unfoldable pub negative_lead : List ℕ → Option (Lead × List ℕ)
negative_lead text = some_digits negative (run (in_class Decimal) text)

abbrev pub name_in : List ℕ × List ℕ → Option (Lead × List ℕ)
name_in d = if is_name d.0 then Some (interned d.0, d.1) else None

-- behind `@`
unfoldable pub interned_lead : List ℕ → Option (Lead × List ℕ)
interned_lead text = name_in (run (in_class Word) text)

abbrev pub pairs_in : List ℕ × List ℕ → Option (Lead × List ℕ)
pairs_in d = if length d.0 % 2 == 0 then Some (bytes d.0, d.1) else None

-- behind `#`
unfoldable pub bytes_lead : List ℕ → Option (Lead × List ℕ)
bytes_lead text = pairs_in (run (in_class Hexadecimal) text)

abbrev pub variant_in : List ℕ → List ℕ × List ℕ → Option (Lead × List ℕ)
variant_in name d =
    if is_variant d.0
    then either (behind 40 d.1) (λ inside. Some (call name (Some d.0), inside)) None else None

-- behind a name and `:`
unfoldable pub variant_lead : List ℕ → List ℕ → Option (Lead × List ℕ)
variant_lead name text = variant_in name (run (in_class Decimal) text)

unfoldable pub flag_lead : List ℕ → List ℕ → Option (Lead × List ℕ)
flag_lead name rest =
    if bytes_eq name (codes "true") then Some (flag true, rest)
    else (if bytes_eq name (codes "false") then Some (flag false, rest) else None)

-- behind a name
unfoldable pub named_lead : List ℕ → List ℕ → Option (Lead × List ℕ)
named_lead name rest =
    either (behind 40 rest) (λ inside. Some (call name None, inside))
    (either (behind 58 rest) (variant_lead name)
    (either (behind 91 rest) (λ inside. Some (sequence name, inside))
    (flag_lead name rest)))

abbrev pub word_in : List ℕ × List ℕ → Option (Lead × List ℕ)
word_in d = if is_name d.0 then named_lead d.0 d.1 else None

unfoldable pub word_lead : List ℕ → Option (Lead × List ℕ)
word_lead text = word_in (run (in_class Word) text)

-- the digits in front, or else a name
abbrev pub or_word : List ℕ → Option (Lead × List ℕ) → Option (Lead × List ℕ)
or_word text None = word_lead text
or_word text (Some p) = Some p

unfoldable pub plain_lead : List ℕ → Option (Lead × List ℕ)
plain_lead text =
    either (strip (codes "0x") text) hexadecimal_lead (or_word text (decimal_lead text))

-- all but what begins with a quote
unfoldable pub marked_lead : List ℕ → Option (Lead × List ℕ)
marked_lead text =
    either (behind 45 text) negative_lead
    (either (behind 64 text) interned_lead
    (either (behind 35 text) bytes_lead
    (either (strip (codes "[]") text) (λ rest. Some (empty, rest))
    (plain_lead text))))

-- it begins with a character, and neither with a mark nor with a zero
abbrev pub IsBare : List ℕ → Type 0
IsBare [] = ⊥
IsBare (c ∷ cs) = AllByRecursion (λ mark. c ≢ mark) (codes "\"'-@#[0")

abbrev pub quoted_lead : Option (List ℕ × List ℕ) → Option (Lead × List ℕ)
quoted_lead o = option_map (λ p. (quoted p.0, p.1)) o

abbrev pub character_lead : Option (ℕ × List ℕ) → Option (Lead × List ℕ)
character_lead None = None
character_lead (Some p) = either (behind 39 p.1) (λ rest. Some (character p.0, rest)) None

abbrev pub IsCharacterLead : List ℕ → Option (List ℕ) → Option (Lead × List ℕ) → Type 0
IsCharacterLead text None o = o ≡ marked_lead text
IsCharacterLead text (Some inside) o =
    (p : Option (ℕ × List ℕ)) × IsCharacter 39 inside p × (o ≡ character_lead p)

abbrev pub IsQuotedLead : List ℕ → Option (List ℕ) → Option (Lead × List ℕ) → Type 0
IsQuotedLead text None o = IsCharacterLead text (behind 39 text) o
IsQuotedLead text (Some inside) o =
    (q : Option (List ℕ × List ℕ)) × IsQuotedEnd inside q × (o ≡ quoted_lead q)

-- what the text begins with in the language Base, and what follows it
abbrev pub IsLead : List ℕ → Option (Lead × List ℕ) → Type 0
IsLead text o = IsQuotedLead text (behind 34 text) o

-- ---- what the language Full has beside

-- a space, a closing bracket or nothing
abbrev pub stops_there : List ℕ → Bool
stops_there [] = true
stops_there (c ∷ cs) = c == 32 || c == 41 || c == 62

abbrev pub some_rest : List ℕ × List ℕ → Option (List ℕ)
some_rest d = if length d.0 == 0 then None else Some d.1

-- what follows digits in front, at least one
unfoldable pub after_digits : List ℕ → Option (List ℕ)
after_digits text = some_rest (run (in_class Decimal) text)

unfoldable pub after_fraction : List ℕ → Option (List ℕ)
after_fraction text = either (behind 46 text) after_digits None

unfoldable pub after_exponent : List ℕ → Option (List ℕ)
after_exponent text =
    either (behind 101 text)
    (λ more. either (behind 45 more) after_digits
    (either (behind 43 more) after_digits (after_digits more))) None

-- what follows a fraction, an exponent or both
unfoldable pub after_scale : List ℕ → Option (List ℕ)
after_scale text =
    either (after_fraction text) (λ rest. Some (unwrap_or (after_exponent rest) rest))
    (after_exponent text)

unfoldable pub after_unsigned : List ℕ → Option (List ℕ)
after_unsigned text =
    either (strip (codes "inf") text) (λ rest. Some rest)
    (either (after_digits text) after_scale None)

unfoldable pub after_float : List ℕ → Option (List ℕ)
after_float text =
    either (strip (codes "NaN") text) (λ rest. Some rest)
    (either (behind 45 text) after_unsigned (after_unsigned text))

abbrev pub ended_float : List ℕ → List ℕ → Option (Lead × List ℕ)
ended_float text rest = if stops_there rest
    then Some (float (take (length text - length rest) text), rest) else None

unfoldable pub float_lead : List ℕ → Option (Lead × List ℕ)
float_lead text = either (after_float text) (ended_float text) None

abbrev pub other_lead : List ℕ → Option (Lead × List ℕ)
other_lead text = either (behind 60 text) (λ rest. Some (nodes, rest)) (float_lead text)

abbrev pub opens : Lead → Bool
opens (call name mark) = true
opens (sequence name) = true
opens nodes = true
opens lead = false

-- the front of a value, or a whole one that may end there
abbrev pub settles : Option (Lead × List ℕ) → Bool
settles None = false
settles (Some p) = opens p.0 || stops_there p.1

abbrev pub full_lead : List ℕ → Option (Lead × List ℕ) → Option (Lead × List ℕ)
full_lead text o = if settles o then o else other_lead text

-- what the text begins with in this language, and what follows it
abbrev pub IsLeadIn : Language → List ℕ → Option (Lead × List ℕ) → Type 0
IsLeadIn Base text o = IsLead text o
IsLeadIn Full text o = (l : Option (Lead × List ℕ)) × IsLead text l × (o ≡ full_lead text l)

-- ---- elements

abbrev pub mark_of : List ℕ → Option (List ℕ)
mark_of [] = None
mark_of (d ∷ ds) = Some (d ∷ ds)

abbrev pub item_in : List ℕ × List ℕ → Option (Option (List ℕ) × List ℕ)
item_in d =
    if has_leading_zero d.0 then None
    else option_map (λ inside. (mark_of d.0, inside)) (behind 40 d.1)

-- the variant in front of an element's `(`, and what follows that
unfoldable pub item_of : List ℕ → Option (Option (List ℕ) × List ℕ)
item_of text = item_in (run (in_class Decimal) text)

abbrev pub view_item : Option (Option (Bor (List ℕ)) × Bor (List ℕ))
    → Option (Option (List ℕ) × List ℕ)
view_item o = option_map (λ p. (option_copied p.0, p.1.now)) o

-- ---- what a lead says of the shape

-- the variant's digits, and its number
abbrev pub IsMark : Option (List ℕ) → Option ℕ → Type 0
IsMark None None = Unit {0}
IsMark None (Some v) = ⊥
IsMark (Some digits) None = ⊥
IsMark (Some digits) (Some v) = IsVariant digits v

-- what the lead and what stands behind it, up to the rest, say of the shape
abbrev pub Leads : Language → Lead → List ℕ → List ℕ → Shape → Type 0
Leads language (decimal digits) after rest s =
    (n : ℕ) × (s ≡ shapes.decimal n) × IsNumber 10 digits n × (after ≡ rest)
Leads language (hexadecimal digits) after rest s =
    (n : ℕ) × (s ≡ shapes.hexadecimal n) × IsNumber 16 digits n × (after ≡ rest)
Leads language (negative digits) after rest s =
    (n : ℕ) × (s ≡ shapes.negative n) × IsNumber 10 digits n × (after ≡ rest)
Leads language (flag b) after rest s = (s ≡ shapes.flag b) × (after ≡ rest)
Leads language (character c) after rest s = (s ≡ shapes.character c) × (after ≡ rest)
Leads language (quoted inside) after rest s =
    (t : List ℕ) × (s ≡ shapes.quoted t) × SpellsQuoted inside t × (after ≡ rest)
Leads language (interned name) after rest s = (s ≡ shapes.interned name) × (after ≡ rest)
Leads language (bytes digits) after rest s =
    (bs : List ℕ) × (s ≡ shapes.bytes bs) × SpellsBytes digits bs × (after ≡ rest)
Leads language empty after rest s = (s ≡ shapes.empty) × (after ≡ rest)
Leads language (float text) after rest s =
    (s ≡ shapes.float text) × IsFull language × IsFloat text × (after ≡ rest)
Leads language (call name mark) after rest s = (v : Option ℕ) × (ss : Shapes) × (inside : List ℕ)
    × (s ≡ shapes.call name v ss) × IsMark mark v × SpellsShapes language inside ss
    × (after ≡ inside ++ 41 ∷ rest)
Leads language (sequence name) after rest s = (items : Items) × (inside : List ℕ)
    × (s ≡ shapes.sequence name items) × StartsThere inside × SpellsItems language inside items
    × (after ≡ inside ++ 93 ∷ rest)
Leads language nodes after rest s = (ss : Shapes) × (inside : List ℕ) × (s ≡ shapes.nodes ss)
    × IsFull language × AreCalls ss × SpellsShapes language inside ss
    × (after ≡ inside ++ 62 ∷ rest)

-- the lead is a whole value
abbrev pub IsWhole : Lead → Type 0
IsWhole (decimal digits) = Unit {0}
IsWhole (hexadecimal digits) = Unit {0}
IsWhole (negative digits) = Unit {0}
IsWhole (flag b) = Unit {0}
IsWhole (character c) = Unit {0}
IsWhole (quoted inside) = Unit {0}
IsWhole (interned name) = Unit {0}
IsWhole (bytes digits) = Unit {0}
IsWhole empty = Unit {0}
IsWhole (float text) = Unit {0}
IsWhole (call name mark) = ⊥
IsWhole (sequence name) = ⊥
IsWhole nodes = ⊥
