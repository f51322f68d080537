-- The order of forms.
use Rattle.std.proofs.Common.{◌≡◌, ◌≤◌, leb, true, refl, sym, ◌∙◌, arith}
use Rattle.std.specs.Prelude.{ℕ, nat_le}
use Rattle.std.proofs.lemmas.Bool.{leb-true}
use Rattle.std.proofs.lemmas.Bool.Decides.{nat_tests}
use Rattle.defmt_lines.specs.Form.{IsSetting, StringsMayCome, in_order, next, rank}
use Rattle.defmt_lines.specs.declared.form.Form.{Form}
use Rattle.defmt_lines.specs.declared.form.Form.TheVariants as forms

-- the code's test, by the places of the forms
pub ranked : (first form : Form) → in_order first form ≡ nat_le (rank first) (rank form)
ranked forms.Language forms.Language = refl
ranked forms.Language forms.Ring = refl
ranked forms.Language forms.Mode = refl
ranked forms.Language forms.Reader = refl
ranked forms.Language forms.Stamp = refl
ranked forms.Language forms.Profile = refl
ranked forms.Language forms.Order = refl
ranked forms.Language forms.Entry = refl
ranked forms.Language forms.Statement = refl
ranked forms.Language forms.Say = refl
ranked forms.Ring forms.Language = refl
ranked forms.Ring forms.Ring = refl
ranked forms.Ring forms.Mode = refl
ranked forms.Ring forms.Reader = refl
ranked forms.Ring forms.Stamp = refl
ranked forms.Ring forms.Profile = refl
ranked forms.Ring forms.Order = refl
ranked forms.Ring forms.Entry = refl
ranked forms.Ring forms.Statement = refl
ranked forms.Ring forms.Say = refl
ranked forms.Mode forms.Language = refl
ranked forms.Mode forms.Ring = refl
ranked forms.Mode forms.Mode = refl
ranked forms.Mode forms.Reader = refl
ranked forms.Mode forms.Stamp = refl
ranked forms.Mode forms.Profile = refl
ranked forms.Mode forms.Order = refl
ranked forms.Mode forms.Entry = refl
ranked forms.Mode forms.Statement = refl
ranked forms.Mode forms.Say = refl
ranked forms.Reader forms.Language = refl
ranked forms.Reader forms.Ring = refl
ranked forms.Reader forms.Mode = refl
ranked forms.Reader forms.Reader = refl
ranked forms.Reader forms.Stamp = refl
ranked forms.Reader forms.Profile = refl
ranked forms.Reader forms.Order = refl
ranked forms.Reader forms.Entry = refl
ranked forms.Reader forms.Statement = refl
ranked forms.Reader forms.Say = refl
ranked forms.Stamp forms.Language = refl
ranked forms.Stamp forms.Ring = refl
ranked forms.Stamp forms.Mode = refl
ranked forms.Stamp forms.Reader = refl
ranked forms.Stamp forms.Stamp = refl
ranked forms.Stamp forms.Profile = refl
ranked forms.Stamp forms.Order = refl
ranked forms.Stamp forms.Entry = refl
ranked forms.Stamp forms.Statement = refl
ranked forms.Stamp forms.Say = refl
ranked forms.Profile forms.Language = refl
ranked forms.Profile forms.Ring = refl
ranked forms.Profile forms.Mode = refl
ranked forms.Profile forms.Reader = refl
ranked forms.Profile forms.Stamp = refl
ranked forms.Profile forms.Profile = refl
ranked forms.Profile forms.Order = refl
ranked forms.Profile forms.Entry = refl
ranked forms.Profile forms.Statement = refl
ranked forms.Profile forms.Say = refl
ranked forms.Order forms.Language = refl
ranked forms.Order forms.Ring = refl
ranked forms.Order forms.Mode = refl
ranked forms.Order forms.Reader = refl
ranked forms.Order forms.Stamp = refl
ranked forms.Order forms.Profile = refl
ranked forms.Order forms.Order = refl
ranked forms.Order forms.Entry = refl
ranked forms.Order forms.Statement = refl
ranked forms.Order forms.Say = refl
ranked forms.Entry forms.Language = refl
ranked forms.Entry forms.Ring = refl
ranked forms.Entry forms.Mode = refl
ranked forms.Entry forms.Reader = refl
ranked forms.Entry forms.Stamp = refl
ranked forms.Entry forms.Profile = refl
ranked forms.Entry forms.Order = refl
ranked forms.Entry forms.Entry = refl
ranked forms.Entry forms.Statement = refl
ranked forms.Entry forms.Say = refl
ranked forms.Statement forms.Language = refl
ranked forms.Statement forms.Ring = refl
ranked forms.Statement forms.Mode = refl
ranked forms.Statement forms.Reader = refl
ranked forms.Statement forms.Stamp = refl
ranked forms.Statement forms.Profile = refl
ranked forms.Statement forms.Order = refl
ranked forms.Statement forms.Entry = refl
ranked forms.Statement forms.Statement = refl
ranked forms.Statement forms.Say = refl
ranked forms.Say forms.Language = refl
ranked forms.Say forms.Ring = refl
ranked forms.Say forms.Mode = refl
ranked forms.Say forms.Reader = refl
ranked forms.Say forms.Stamp = refl
ranked forms.Say forms.Profile = refl
ranked forms.Say forms.Order = refl
ranked forms.Say forms.Entry = refl
ranked forms.Say forms.Statement = refl
ranked forms.Say forms.Say = refl

leb_when : (m n : ℕ) → m ≤ n → leb m n ≡ true
leb_when m n le = grind (arith, nat_tests)

le_when : (first form : Form) → in_order first form ≡ true → rank first ≤ rank form
le_when first form order =
    let test : leb (rank first) (rank form) ≡ true = sym (ranked first form) ∙ order in leb-true (rank first) (rank form) test

-- a form that may come leaves those behind it
pub in_order_on : (first form later : Form) → in_order first form ≡ true → in_order form later ≡ true → in_order first later ≡ true
in_order_on first form later one two =
    let le : rank first ≤ rank later = omega (arith, le_when first form one, le_when form later two) in
    let test : leb (rank first) (rank later) ≡ true = leb_when (rank first) (rank later) le in
    ranked first later ∙ test

-- strings may come behind a setting
setting_first : (form : Form) → IsSetting form → in_order form forms.Entry ≡ true
setting_first forms.Language h = refl
setting_first forms.Ring h = refl
setting_first forms.Mode h = refl
setting_first forms.Reader h = refl
setting_first forms.Stamp h = refl
setting_first forms.Profile h = refl
setting_first forms.Order h = refl
setting_first forms.Entry h = refl
setting_first forms.Statement h = absurd (cc h.1)
setting_first forms.Say h = absurd (cc h.1)

pub strings_before : (first form : Form) → in_order first form ≡ true → IsSetting form → StringsMayCome first
strings_before first form order h = in_order_on first form forms.Entry order (setting_first form h)

pub strings_behind : (form : Form) → IsSetting form → StringsMayCome (next form)
strings_behind forms.Language h = refl
strings_behind forms.Ring h = refl
strings_behind forms.Mode h = refl
strings_behind forms.Reader h = refl
strings_behind forms.Stamp h = refl
strings_behind forms.Profile h = refl
strings_behind forms.Order h = refl
strings_behind forms.Entry h = refl
strings_behind forms.Statement h = absurd (cc h.1)
strings_behind forms.Say h = absurd (cc h.1)
