-- The rows of the symbol table: the markers and the list.
use Rattle.std.proofs.Common.{◌≡◌, ◌≢◌, ◌≤◌, ◌+◌, ◌^◌, inl, inr, ℕ, zero, suc, eqb, cond, Bool, true, false, List, [], ◌∷◌, ◌++◌, length, get_or, Some, refl, sym, ap, subst, ◌∙◌, arith, codes}
use Rattle.std.specs.Prelude.{slice_get}
use Rattle.std.specs.List.{All}
use Rattle.std.proofs.lemmas.List.{append_cancel_left}
use Rattle.std.proofs.lemmas.List.Elements.{recursion_from_All}
use Rattle.defmt_intern.specs.declared.table.Profile.{Profile}
use Rattle.defmt_intern.specs.declared.table.Profile.TheVariants as profiles
use Rattle.elf_section.specs.Bytes.{IsUnquoted}
use Rattle.elf_section.specs.Checks.{version_front, encoding_front, profile_front, profile_word}
use Rattle.elf_section.specs.Symbol.{PlainSymbol}
use Rattle.elf_section.specs.Written.{Row, listed, listed_all, marked, version_name, encoding_name, profile_name, markers, rows, names, IsWritable, KeepsMarker, KeepsMarkers}
use Rattle.elf_section.proofs.FieldLaws.{NoZero}
use Rattle.elf_section.proofs.WritingLaws.{names_short, rows_len, rows_names_len, all_at}

-- ---- names without a zero

abbrev nonzero : List ℕ → Bool
nonzero [] = true
nonzero (b ∷ bytes) = cond {A = Bool} (eqb b 0) false (nonzero bytes)

one_byte : (b : ℕ) (bytes : List ℕ) (t : Bool) → eqb b 0 ≡ t → cond {A = Bool} t false (nonzero bytes) ≡ true → (nonzero bytes ≡ true → NoZero bytes) → (b ≢ 0) × NoZero bytes
one_byte b bytes true q e more = absurd cc
one_byte b bytes false q e more = (λ z. absurd (let k : true ≡ false = ap (λ (n : ℕ). eqb n 0) (sym z) ∙ q in cc), more e)

no_zero_by : (bytes : List ℕ) → nonzero bytes ≡ true → NoZero bytes
no_zero_by [] e = tt
no_zero_by (b ∷ bytes) e = one_byte b bytes (eqb b 0) refl e (no_zero_by bytes)

-- ---- rows that can be written

pub record IsPlainRow (r : Row) : Type 0 where
  pub small : r.value ≤ 65535
  pub in_sections : r.section ≤ 65535
  pub no_zero : NoZero r.name

pub record AreWritable (rs : List Row) : Type 0 where
  pub few : length rs ≤ 65539
  pub short : length (names rs) ≤ 2 ^ 30 + 65602
  pub each : (p : ℕ) (r : Row) → slice_get rs p ≡ Some r → IsPlainRow r

marked_plain : (name : List ℕ) → nonzero name ≡ true → IsPlainRow (marked name)
marked_plain name e = record { small = omega arith; in_sections = omega arith; no_zero = no_zero_by name e }

-- row p of a list is its symbol p
listed_at : (xs : List PlainSymbol) (p : ℕ) (r : Row) → slice_get (listed_all xs) p ≡ Some r → (s : PlainSymbol) × (slice_get xs p ≡ Some s) × (listed s ≡ r)
listed_at [] p r e = absurd cc
listed_at (x ∷ xs) zero r e = (x, refl, cc)
listed_at (x ∷ xs) (suc p) r e = listed_at xs p r e

listed_plain : (xs : List PlainSymbol) → IsWritable xs → (p : ℕ) (r : Row) → slice_get (listed_all xs) p ≡ Some r → IsPlainRow r
listed_plain xs w p r e =
    let x = listed_at xs p r e in
    subst IsPlainRow x.2 (record {
      small = all_at (λ s. s.value ≤ 65535) xs p x.0 w.small x.1;
      in_sections = omega arith;
      no_zero = recursion_from_All (λ b. b ≢ 0) x.0.name (all_at (λ s. All (λ b. b ≢ 0) s.name) xs p x.0 w.no_zero x.1);
    })

is_row : (name : List ℕ) (r : Row) → nonzero name ≡ true → Some (marked name) ≡ Some r → IsPlainRow r
is_row name r z e = let same : marked name ≡ r = cc in subst IsPlainRow same (marked_plain name z)

row_plain : (profile : Profile) (xs : List PlainSymbol) → IsWritable xs → (p : ℕ) (r : Row) → slice_get (rows profile xs) p ≡ Some r → IsPlainRow r
row_plain profiles.One xs w zero r e = is_row version_name r refl e
row_plain profiles.One xs w (suc zero) r e = is_row encoding_name r refl e
row_plain profiles.One xs w (suc (suc p)) r e = listed_plain xs w p r e
row_plain profiles.Two xs w zero r e = is_row version_name r refl e
row_plain profiles.Two xs w (suc zero) r e = is_row encoding_name r refl e
row_plain profiles.Two xs w (suc (suc zero)) r e = is_row profile_name r refl e
row_plain profiles.Two xs w (suc (suc (suc p))) r e = listed_plain xs w p r e

few_markers : (profile : Profile) → length (markers profile) ≤ 3
few_markers profiles.One = omega arith
few_markers profiles.Two = omega arith

short_markers : (profile : Profile) → length (names (markers profile)) ≤ 66
short_markers profiles.One = omega arith
short_markers profiles.Two = omega arith

pub rows_writable : (profile : Profile) (xs : List PlainSymbol) → IsWritable xs → AreWritable (rows profile xs)
rows_writable profile xs w = record {
  few = (let a = w.few in omega (arith, a, rows_len profile xs, few_markers profile));
  short = omega (arith, rows_names_len profile xs, names_short xs w, short_markers profile);
  each = row_plain profile xs w;
}

-- ---- rows that speak of no other version, encoding or profile

-- a name that doesn't begin with `"` is itself
pub plain_unquoted : (name inner : List ℕ) → get_or name 0 0 ≢ 34 → IsUnquoted name inner → inner ≡ name
plain_unquoted name inner n (inl e) = absurd (n (ap (λ (t : List ℕ). get_or t 0 0) e))
plain_unquoted name inner n (inr e) = e.0

pub itself : (name : List ℕ) → get_or name 0 0 ≢ 34 → IsUnquoted name name
itself name n = inr (refl, λ text e. n (ap (λ (t : List ℕ). get_or t 0 0) e))

-- a marker keeps its own value
keeps_own : (front value : List ℕ) → get_or (front ++ value) 0 0 ≡ 95 → KeepsMarker front value (front ++ value)
keeps_own front value first = λ inner rest u e.
    let plain : inner ≡ front ++ value = plain_unquoted (front ++ value) inner (λ q. absurd (omega (arith, first, q))) u in
    append_cancel_left front rest value (sym e ∙ plain)

-- and is none of another front, of which byte 7 is another
keeps_other : (name front value : List ℕ) (a b : ℕ) → get_or name 0 0 ≡ 95 → get_or name 7 0 ≡ a → ((rest : List ℕ) → get_or (front ++ rest) 7 0 ≡ b) → a ≢ b → KeepsMarker front value name
keeps_other name front value a b first seventh begins unlike = λ inner rest u e.
    let plain : inner ≡ name = plain_unquoted name inner (λ q. absurd (omega (arith, first, q))) u in
    let same : a ≡ b = sym seventh ∙ ap (λ (t : List ℕ). get_or t 7 0) (sym plain ∙ e) ∙ begins rest in
    absurd (unlike same)

-- each of these rows has this value behind the front, where it begins so
abbrev pub RowsKeep : List ℕ → List ℕ → List Row → Type 0
RowsKeep front value rs = (p : ℕ) (r : Row) → slice_get rs p ≡ Some r → KeepsMarker front value r.name

-- the marker that the second profile alone has
abbrev LastKeeps : List ℕ → List ℕ → Profile → Type 0
LastKeeps front value profiles.One = Unit {0}
LastKeeps front value profiles.Two = KeepsMarker front value profile_name

module _ (front value : List ℕ) (xs : List PlainSymbol) (list : All (λ s. KeepsMarker front value s.name) xs) (version : KeepsMarker front value version_name) (encoding : KeepsMarker front value encoding_name) where
  mark_keeps : (name : List ℕ) (r : Row) → KeepsMarker front value name → Some (marked name) ≡ Some r → KeepsMarker front value r.name
  mark_keeps name r k e = let same : marked name ≡ r = cc in subst (λ (x : Row). KeepsMarker front value x.name) same k

  list_keeps : (p : ℕ) (r : Row) → slice_get (listed_all xs) p ≡ Some r → KeepsMarker front value r.name
  list_keeps p r e =
      let x = listed_at xs p r e in
      subst (λ (y : Row). KeepsMarker front value y.name) x.2 (all_at (λ s. KeepsMarker front value s.name) xs p x.0 list x.1)

  rows_keep : (profile : Profile) → LastKeeps front value profile → RowsKeep front value (rows profile xs)
  rows_keep profiles.One last zero r e = mark_keeps version_name r version e
  rows_keep profiles.One last (suc zero) r e = mark_keeps encoding_name r encoding e
  rows_keep profiles.One last (suc (suc p)) r e = list_keeps p r e
  rows_keep profiles.Two last zero r e = mark_keeps version_name r version e
  rows_keep profiles.Two last (suc zero) r e = mark_keeps encoding_name r encoding e
  rows_keep profiles.Two last (suc (suc zero)) r e = mark_keeps profile_name r last e
  rows_keep profiles.Two last (suc (suc (suc p))) r e = list_keeps p r e

last_keeps : (front value : List ℕ) (profile : Profile) → KeepsMarker front value profile_name → LastKeeps front value profile
last_keeps front value profiles.One k = tt
last_keeps front value profiles.Two k = k

pub version_kept : (profile : Profile) (xs : List PlainSymbol) → KeepsMarkers profile xs → RowsKeep version_front (codes "4") (rows profile xs)
version_kept profile xs keeps =
    rows_keep version_front (codes "4") xs keeps.version (keeps_own version_front (codes "4") refl)
    (keeps_other encoding_name version_front (codes "4") 101 118 refl refl (λ rest. refl) (λ q. absurd (omega (arith, q)))) profile
    (last_keeps version_front (codes "4") profile (keeps_other profile_name version_front (codes "4") 112 118 refl refl (λ rest. refl) (λ q. absurd (omega (arith, q)))))

pub encoding_kept : (profile : Profile) (xs : List PlainSymbol) → KeepsMarkers profile xs → RowsKeep encoding_front (codes "rzcobs") (rows profile xs)
encoding_kept profile xs keeps =
    rows_keep encoding_front (codes "rzcobs") xs keeps.encoding
    (keeps_other version_name encoding_front (codes "rzcobs") 118 101 refl refl (λ rest. refl) (λ q. absurd (omega (arith, q)))) (keeps_own encoding_front (codes "rzcobs") refl) profile
    (last_keeps encoding_front (codes "rzcobs") profile (keeps_other profile_name encoding_front (codes "rzcobs") 112 101 refl refl (λ rest. refl) (λ q. absurd (omega (arith, q)))))

own_profile : (profile : Profile) → LastKeeps profile_front (profile_word profile) profile
own_profile profiles.One = tt
own_profile profiles.Two = keeps_own profile_front (codes "2") refl

pub profile_kept : (profile : Profile) (xs : List PlainSymbol) → KeepsMarkers profile xs → RowsKeep profile_front (profile_word profile) (rows profile xs)
profile_kept profile xs keeps =
    rows_keep profile_front (profile_word profile) xs keeps.profile
    (keeps_other version_name profile_front (profile_word profile) 118 112 refl refl (λ rest. refl) (λ q. absurd (omega (arith, q))))
    (keeps_other encoding_name profile_front (profile_word profile) 101 112 refl refl (λ rest. refl) (λ q. absurd (omega (arith, q)))) profile (own_profile profile)
