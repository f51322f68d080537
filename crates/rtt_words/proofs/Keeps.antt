-- What each end keeps after a step.
use Rattle.std.proofs.Common.{◌≡◌, ℕ, ◌+◌, ◌%◌, ◌≤◌, List, [], length, refl, sym, ap, ◌∙◌, subst}
use Rattle.atomic_table.specs.Seated.{TableId}
use Rattle.atomic_table.specs.Table.{Me}
use Rattle.rtt_words.specs.declared.view.Access.{Access}
use Rattle.rtt_words.specs.declared.view.UpView.{UpView}
use Rattle.rtt_words.specs.declared.view.DownView.{DownView}
use Rattle.rtt_words.specs.declared.view.View.{View}
use Rattle.rtt_words.specs.declared.view.View.TheVariants.{Up, Down}
use Rattle.rtt_words.specs.Told.{FoundReleased, IsPublished, FoundPublished, IsReleased}
use Rattle.rtt_words.specs.History.{IsLoaded, IsStored, loads_in, last_loaded}
use Rattle.rtt_words.specs.Seats.{IsTableOf, IsUpper, IsLower, name_of}
use Rattle.rtt_words.specs.WordRule.{upper_of, lower_of, up_looked, published, down_looked, gave_back}
use Rattle.rtt_words.proofs.Histories.{load_counted, load_found}

-- the names are the same where the table and the size are
pub same_name : (size size' : ℕ) (z z' : TableId) → size' ≡ size → z' ≡ z → name_of size' z' ≡ name_of size z
same_name size size' z z' s e = ap (λ (n : ℕ). name_of n z') s ∙ ap (name_of size) e

module _ {S : Type 0} (z : TableId) (key : ℕ) (of of' : TableId) (m m' : Me S View) (k : IsUpper z key of m) (same : of' ≡ of) where
  table_kept : IsTableOf z key of'
  table_kept = record { words = k.table.words; big = k.table.big; seated = same ∙ k.table.seated }

  -- no load of RdOff
  pub upper_keeps : (v : UpView) → m' ≡ (Up v, m.1) → v.size ≡ (upper_of m.0).size → v.rd_off ≡ (upper_of m.0).rd_off → v.looks ≡ (upper_of m.0).looks → v.freed ≡ (upper_of m.0).freed → IsUpper z key of' m'
  upper_keeps v is size log looks freed =
      let now : m' ≡ (Up v, []) = is ∙ ap (λ (c : List (ℕ × S)). (Up v, c)) (ap (λ (x : Me S View). x.1) k.is_up) in
      subst (λ (x : Me S View). IsUpper z key of' x) (sym now) record {
        table = table_kept;
        is_up = refl;
        sized = size ∙ k.sized;
        counted = ap loads_in log ∙ k.counted ∙ sym looks;
        last = ap (last_loaded 0) log ∙ k.last ∙ sym freed;
      }

  pub up_looked_keeps : (r : ℕ) (h : List Access) → m' ≡ (Up (up_looked (upper_of m.0) r h), m.1) → IsLoaded (upper_of m.0).rd_off r h → IsUpper z key of' m'
  up_looked_keeps r h is load =
      let v : UpView = up_looked (upper_of m.0) r h in
      let now : m' ≡ (Up v, []) = is ∙ ap (λ (c : List (ℕ × S)). (Up v, c)) (ap (λ (x : Me S View). x.1) k.is_up) in
      subst (λ (x : Me S View). IsUpper z key of' x) (sym now) record {
        table = table_kept;
        is_up = refl;
        sized = k.sized;
        counted = load_counted (upper_of m.0).rd_off h r load ∙ ap (λ (n : ℕ). n + 1) k.counted;
        last = load_found (upper_of m.0).rd_off h r load;
      }

module _ {S : Type 0} (z : TableId) (key : ℕ) (of of' : TableId) (m m' : Me S View) (k : IsLower z key of m) (same : of' ≡ of) where
  table_kept' : IsTableOf z key of'
  table_kept' = record { words = k.table.words; big = k.table.big; seated = same ∙ k.table.seated }

  pub lower_keeps : (v : DownView) → m' ≡ (Down v, m.1) → v.size ≡ (lower_of m.0).size → v.wr_off ≡ (lower_of m.0).wr_off → v.looks ≡ (lower_of m.0).looks → v.found ≡ (lower_of m.0).found → IsLower z key of' m'
  lower_keeps v is size log looks found =
      let now : m' ≡ (Down v, []) = is ∙ ap (λ (c : List (ℕ × S)). (Down v, c)) (ap (λ (x : Me S View). x.1) k.is_down) in
      subst (λ (x : Me S View). IsLower z key of' x) (sym now) record {
        table = table_kept';
        is_down = refl;
        sized = size ∙ k.sized;
        counted = ap loads_in log ∙ k.counted ∙ sym looks;
        last = ap (last_loaded 0) log ∙ k.last ∙ sym found;
      }

  pub down_looked_keeps : (f : ℕ) (h : List Access) → m' ≡ (Down (down_looked (lower_of m.0) f h), m.1) → IsLoaded (lower_of m.0).wr_off f h → IsLower z key of' m'
  down_looked_keeps f h is load =
      let v : DownView = down_looked (lower_of m.0) f h in
      let now : m' ≡ (Down v, []) = is ∙ ap (λ (c : List (ℕ × S)). (Down v, c)) (ap (λ (x : Me S View). x.1) k.is_down) in
      subst (λ (x : Me S View). IsLower z key of' x) (sym now) record {
        table = table_kept';
        is_down = refl;
        sized = k.sized;
        counted = load_counted (lower_of m.0).wr_off h f load ∙ ap (λ (n : ℕ). n + 1) k.counted;
        last = load_found (lower_of m.0).wr_off h f load;
      }

-- what each step of an offset tells
pub found_released : (u v : UpView) (n r : ℕ) (h : List Access) → v ≡ up_looked u r h → n ≡ r % u.size → u.freed ≤ r → r ≤ length u.sent → IsLoaded u.rd_off r h → FoundReleased u n v
found_released u v n r h e is le up load = subst (λ (x : UpView). FoundReleased u n x) (sym e) record { same = refl; load = load; read = is; later = le; within = up }

pub is_published : (u v : UpView) (h : List Access) → v ≡ published u h → IsStored u.wr_off (length u.sent + length u.staged) h → IsPublished u v
is_published u v h e store = subst (λ (x : UpView). IsPublished u x) (sym e) record { same = refl; store = store }

pub found_published : (d e : DownView) (n f : ℕ) (h : List Access) → e ≡ down_looked d f h → n ≡ f % d.size → d.found ≤ f → f + 1 ≤ length d.got + d.size → IsLoaded d.wr_off f h → FoundPublished d n e
found_published d e n f h is read le fits load = subst (λ (x : DownView). FoundPublished d n x) (sym is) record { same = refl; load = load; read = read; later = le; fits = fits }

pub is_released : (d e : DownView) (h : List Access) → e ≡ gave_back d h → IsStored d.rd_off (length d.got) h → IsReleased d e
is_released d e h is store = subst (λ (x : DownView). IsReleased d x) (sym is) record { same = refl; store = store }

-- ends with one name are of one size and one table
pub same_size : (m n : ℕ) (y z : TableId) → name_of m y ≡ name_of n z → m ≡ n
same_size m n y z e = cc

pub same_table : (m n : ℕ) (y z : TableId) → name_of m y ≡ name_of n z → y ≡ z
same_table m n y z e =
    let words : y.words ≡ z.words = cc in
    let slots : y.slots ≡ z.slots = cc in
    let views_name : y.views_name ≡ z.views_name = cc in
    let atom : y.atom ≡ z.atom = cc in
    let block : y.block ≡ z.block = cc in
    let offset : y.offset ≡ z.offset = cc in
    let slot_names : y.slot_names ≡ z.slot_names = cc in
    λ i. record { words = words i; slots = slots i; views_name = views_name i; atom = atom i; block = block i; offset = offset i; slot_names = slot_names i }
