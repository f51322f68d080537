-- The checks of the header, one after another.
use Rattle.std.proofs.Common.{◌≡◌, ◌∙◌, ℕ, Bool, true, false, cond, List, [], ◌∷◌, refl, ap}
use Rattle.std.specs.Prelude.{not, Option, Some, None, option_map}
use Rattle.std.specs.List.{find}
use Rattle.rtt_dump.specs.Flaws.{Test, first_flaw, flaw_of, header_tests, holds, has_class, is_little, has_header, is_core, has_entry_len, has_program_headers}

pub flaw_step : (file : List ℕ) (check : Test) (more : List Test) → holds file check ≡ true → first_flaw file (check ∷ more) ≡ first_flaw file more
unfolding first_flaw
flaw_step file check more is = ap (λ (b : Bool). option_map flaw_of (cond {A = Option Test} (not b) (Some check) (find (λ (c : Test). not (holds file c)) more))) is

pub flaw_stop : (file : List ℕ) (check : Test) (more : List Test) → holds file check ≡ false → first_flaw file (check ∷ more) ≡ Some (flaw_of check)
unfolding first_flaw
flaw_stop file check more is = ap (λ (b : Bool). option_map flaw_of (cond {A = Option Test} (not b) (Some check) (find (λ (c : Test). not (holds file c)) more))) is

pub flaw_none : (file : List ℕ) → first_flaw file [] ≡ None
unfolding first_flaw
flaw_none file = refl

-- the checks that are left behind one
abbrev pub behind_class : List Test
behind_class = is_little ∷ has_header ∷ is_core ∷ has_entry_len ∷ has_program_headers ∷ []

abbrev pub behind_order : List Test
behind_order = has_header ∷ is_core ∷ has_entry_len ∷ has_program_headers ∷ []

abbrev pub behind_header : List Test
behind_header = is_core ∷ has_entry_len ∷ has_program_headers ∷ []

abbrev pub behind_kind : List Test
behind_kind = has_entry_len ∷ has_program_headers ∷ []

abbrev pub behind_entry_len : List Test
behind_entry_len = has_program_headers ∷ []

module _ (file : List ℕ) (class : holds file has_class ≡ true) where
  pub past_class : first_flaw file header_tests ≡ first_flaw file behind_class
  past_class = flaw_step file has_class behind_class class

  pub past_order : holds file is_little ≡ true → first_flaw file header_tests ≡ first_flaw file behind_order
  past_order little = past_class ∙ flaw_step file is_little behind_order little

  pub past_header : holds file is_little ≡ true → holds file has_header ≡ true → first_flaw file header_tests ≡ first_flaw file behind_header
  past_header little whole = past_order little ∙ flaw_step file has_header behind_header whole

  pub past_kind : holds file is_little ≡ true → holds file has_header ≡ true → holds file is_core ≡ true → first_flaw file header_tests ≡ first_flaw file behind_kind
  past_kind little whole core = past_header little whole ∙ flaw_step file is_core behind_kind core

  pub past_entry_len : holds file is_little ≡ true → holds file has_header ≡ true → holds file is_core ≡ true → holds file has_entry_len ≡ true
      → first_flaw file header_tests ≡ first_flaw file behind_entry_len
  past_entry_len little whole core entry = past_kind little whole core ∙ flaw_step file has_entry_len behind_entry_len entry

  pub past_all : holds file is_little ≡ true → holds file has_header ≡ true → holds file is_core ≡ true → holds file has_entry_len ≡ true → holds file has_program_headers ≡ true
      → first_flaw file header_tests ≡ None
  past_all little whole core entry table = past_entry_len little whole core entry ∙ flaw_step file has_program_headers [] table ∙ flaw_none file
