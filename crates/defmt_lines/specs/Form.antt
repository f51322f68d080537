-- The forms of lines, and the order in which they stand in a script.
use Rattle.std.specs.Prelude.{◌≡◌, ◌||◌, ℕ, Bool, true, false, List, [], ◌∷◌, codes, Option, if◌then◌else◌}
use Rattle.defmt_grammar.specs.Kind.{at_word}
use Rattle.defmt_lines.specs.declared.form.Form.{Form}
use Rattle.defmt_lines.specs.declared.form.Form.TheVariants as forms

-- the form that a line's first word gives it
abbrev pub form_of : List ℕ → Option Form
form_of word = at_word word (
    (codes "language", forms.Language) ∷ (codes "ring", forms.Ring) ∷ (codes "mode", forms.Mode)
    ∷ (codes "reader", forms.Reader) ∷ (codes "stamp", forms.Stamp)
    ∷ (codes "profile", forms.Profile) ∷ (codes "d", forms.Order) ∷ (codes "s", forms.Entry)
    ∷ (codes "w", forms.Statement) ∷ (codes "t", forms.Say) ∷ [])

-- What stands behind the first word: so many words that set something; the name, the tag and the text of a string; or a writer, a field
-- and the rest of the line.
pub data Shape : Type 0 where
  setting : ℕ → Shape
  string : Shape
  action : Shape

abbrev pub shape_of : Form → Shape
shape_of forms.Language = setting 1
shape_of forms.Ring = setting 1
shape_of forms.Mode = setting 1
shape_of forms.Reader = setting 1
shape_of forms.Stamp = setting 2
shape_of forms.Profile = setting 1
shape_of forms.Order = setting 2
shape_of forms.Entry = string
shape_of forms.Statement = action
shape_of forms.Say = action

abbrev pub IsSetting : Form → Type 0
IsSetting form = (count : ℕ) × (shape_of form ≡ setting count)

-- ---- the order

-- the lines of a script stand in this order, but that statements and texts may come in any
abbrev pub order : List Form
order =
    forms.Language ∷ forms.Ring ∷ forms.Mode ∷ forms.Reader ∷ forms.Stamp ∷ forms.Profile
    ∷ forms.Order ∷ forms.Entry ∷ forms.Statement ∷ forms.Say ∷ []

abbrev pub is_form : Form → Form → Bool
is_form forms.Language forms.Language = true
is_form forms.Ring forms.Ring = true
is_form forms.Mode forms.Mode = true
is_form forms.Reader forms.Reader = true
is_form forms.Stamp forms.Stamp = true
is_form forms.Profile forms.Profile = true
is_form forms.Order forms.Order = true
is_form forms.Entry forms.Entry = true
is_form forms.Statement forms.Statement = true
is_form forms.Say forms.Say = true
is_form one other = false

abbrev pub has_form : Form → List Form → Bool
has_form form [] = false
has_form form (one ∷ more) = is_form form one || has_form form more

-- the part of a list that begins with this form
abbrev pub from : Form → List Form → List Form
from form [] = []
from form (one ∷ more) = if is_form form one then one ∷ more else from form more

-- a line of the second form may come where the first is the first form that may
abbrev pub in_order : Form → Form → Bool
in_order first form = has_form form (from first order)

-- the first form that may come behind a line of this form: orders, strings, statements and texts may come again, and each other setting
-- stands at most once
abbrev pub next : Form → Form
next forms.Language = forms.Ring
next forms.Ring = forms.Mode
next forms.Mode = forms.Reader
next forms.Reader = forms.Stamp
next forms.Stamp = forms.Profile
next forms.Profile = forms.Order
next forms.Order = forms.Order
next forms.Entry = forms.Entry
next forms.Statement = forms.Statement
next forms.Say = forms.Statement

-- ---- where a script stands, by the first form that may come

abbrev pub ReaderMayCome : Form → Type 0
ReaderMayCome first = in_order first forms.Reader ≡ true

abbrev pub StringsMayCome : Form → Type 0
StringsMayCome first = in_order first forms.Entry ≡ true

abbrev pub StringsAreOver : Form → Type 0
StringsAreOver first = in_order first forms.Entry ≡ false

-- ---- for private clauses

-- the place of a form in the order
abbrev pub rank : Form → ℕ
rank forms.Language = 0
rank forms.Ring = 1
rank forms.Mode = 2
rank forms.Reader = 3
rank forms.Stamp = 4
rank forms.Profile = 5
rank forms.Order = 6
rank forms.Entry = 7
rank forms.Statement = 8
rank forms.Say = 9
