-- The files of a shelf as a finite map.
use Rattle.std.proofs.Common.{◌≡◌, ℕ, List, [], ◌∷◌, cond, true, false, refl, sym, ◌∙◌, ap, map}
use Rattle.std.specs.Prelude.{Some, Option, String}
use Rattle.std.specs.Option.{option_map}
use Rattle.std.specs.Ordering.{nat_cmp, is_eq, eq_by_cmp}
use Rattle.std.specs.Cmp.Lexicographic.{slice_cmp}
use Rattle.std.specs.Map.{lookup}
use Rattle.std.specs.Str.{bytes_eq}
use Rattle.std.specs.String.{string_bytes, string_cmp}
use Rattle.std.specs.BTreeMap.{BTreeMap, UpdatesBy, is_at, get_by_text}
use Rattle.std.specs.FinMap.{find, get, insert, from_entries, get-from_entries, get-insert, same_map, slice_cmp-IsAntisymmetric, nat_cmp-IsAntisymmetric}
use Rattle.std.proofs.lemmas.Cmp.{nat_list_cmp_total, eq_by_cmp_equiv}
use Rattle.std.proofs.lemmas.Map.Text.{btree_map_updates_text, is_eq-slice_cmp}
use Rattle.dl_io.specs.Buffer.{Buffer}

pub find_shown : {K X : Type 0} (key : K → List ℕ) (bytes : X → List ℕ) (name : List ℕ) (es : List (K × X))
    → find (slice_cmp nat_cmp) name (map (λ e. (key e.0, bytes e.1)) es) ≡ option_map bytes (lookup (is_at (λ k. slice_cmp nat_cmp name (key k))) es)
find_shown key bytes name [] = refl
find_shown {K} {X} key bytes name (e ∷ es) =
    let shown : List (List ℕ × List ℕ) = map (λ (x : K × X). (key x.0, bytes x.1)) es in
    elim (is_eq (slice_cmp nat_cmp name (key e.0))) as (λ b. cond b (Some (bytes e.1)) (find (slice_cmp nat_cmp) name shown)
    ≡ option_map bytes (cond b (Some e.1) (lookup (is_at (λ k. slice_cmp nat_cmp name (key k))) es))) [
      | true ↦ refl
      | false ↦ find_shown key bytes name es
    ]

-- the files of a map, as a shelf shows them
abbrev shown : {Y : Type 0} → BTreeMap (String Y) Buffer → List (List ℕ × List ℕ)
shown m = map (λ e. (string_bytes e.0, e.1.items)) m.entries

pub get_shown : {Y : Type 0} (m : BTreeMap (String Y) Buffer) (name : List ℕ)
    → get (from_entries {R = slice_cmp nat_cmp} (map (λ e. (string_bytes e.0, e.1.items)) m.entries)) name ≡ option_map (λ b. b.items) (get_by_text m name)
get_shown m name = get-from_entries nat_list_cmp_total (shown m) name ∙ find_shown string_bytes (λ b. b.items) name m.entries

pub found_shown : {Y : Type 0} (m : BTreeMap (String Y) Buffer) (name : List ℕ) (found : Option Buffer) → found ≡ get_by_text m name
    → get (from_entries {R = slice_cmp nat_cmp} (map (λ e. (string_bytes e.0, e.1.items)) m.entries)) name ≡ option_map (λ b. b.items) found
found_shown m name found is = get_shown m name ∙ ap (option_map (λ (b : Buffer). b.items)) (sym is)

-- one more file, or another one of the same name
pub put_shown : {Y : Type 0} (name : List ℕ) (file : Buffer) (m n : BTreeMap (String Y) Buffer)
    → UpdatesBy string_cmp (λ k. slice_cmp nat_cmp name (string_bytes k)) m n (Some file)
    → from_entries {R = slice_cmp nat_cmp} (map (λ e. (string_bytes e.0, e.1.items)) n.entries)
    ≡ insert (from_entries (map (λ e. (string_bytes e.0, e.1.items)) m.entries)) name file.items
put_shown name file m n updates =
    same_map nat_list_cmp_total (slice_cmp-IsAntisymmetric nat_cmp-IsAntisymmetric) _ _ (λ q.
    let test : eq_by_cmp (slice_cmp nat_cmp) q name ≡ bytes_eq name q = (eq_by_cmp_equiv nat_list_cmp_total).symm q name ∙ is_eq-slice_cmp name q in
    let picked : option_map (λ (b : Buffer). b.items) (cond (bytes_eq name q) (Some file) (get_by_text m q))
    ≡ cond (bytes_eq name q) (Some file.items) (option_map (λ (b : Buffer). b.items) (get_by_text m q))
    = elim (bytes_eq name q) as (λ t. option_map (λ (b : Buffer). b.items) (cond t (Some file) (get_by_text m q)) ≡ cond t (Some file.items) (option_map (λ (b : Buffer). b.items) (get_by_text m q))) [
      | true ↦ refl
      | false ↦ refl
    ] in
    get_shown n q
    ∙ ap (option_map (λ (b : Buffer). b.items)) (btree_map_updates_text name m n (Some file) updates q)
    ∙ picked
    ∙ ap (λ t. cond t (Some file.items) (option_map (λ (b : Buffer). b.items) (get_by_text m q))) (sym test)
    ∙ ap (cond (eq_by_cmp (slice_cmp nat_cmp) q name) (Some file.items)) (sym (get_shown m q))
    ∙ sym (get-insert nat_list_cmp_total (from_entries (shown m)) name file.items q))
