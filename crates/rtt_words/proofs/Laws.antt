-- The laws of the look.
use Rattle.std.proofs.Common.{ℕ, zero, suc, [], ◌∷◌, Option, Some, None, refl, ◌≡◌, ◌+◌, ◌/◌, ◌%◌, ◌<◌, ◌≤◌, length, sym, ap, ◌∙◌, arith}
use Rattle.std.specs.Prelude.{slice_index}
use Rattle.atomic_table.proofs.Lists.{one_turn}
use native.Mathlib.Decide.{dec_le}
use mathlib.Core.Option.{some, some-injective}
use lib.ListN.{get_elem?}
use Rattle.rtt_words.specs.declared.view.Access.TheVariants.{Stored, Loaded}
use Rattle.rtt_words.specs.declared.view.UpView.{UpView}
use Rattle.rtt_words.specs.declared.view.DownView.{DownView}
use Rattle.rtt_words.specs.LookLaws.{LookFindsPublished, LookFindsReleased, NoBlindLowerLook, NoBlindUpperLook, OneLoad, ResidueTellsPublished, ResidueTellsReleased}
use Rattle.rtt_words.specs.WordRule.{Facts, lane, lanes}
use Rattle.rtt_words.proofs.Histories.{load_finds_stored, load_found}
use Rattle.rtt_words.proofs.Fronts.{there}

-- numbers less than a size apart that have one residue are one
near : (m n size : ℕ) → m < n + size → n < m + size → m % size ≡ n % size → m ≡ n
near m n size below above same = by_order (dec_le m n)
  where
    by_order : Dec (m ≤ n) → m ≡ n
    by_order (yes le) = one_turn m n size le above same
    by_order (no gt) = sym (one_turn n m size (omega arith) below (sym same))

pub residue_tells_released : ResidueTellsReleased
residue_tells_released size words u v d f l =
    let o = f.order in
    let later = l.later in
    let within = l.within in
    near v.freed d.released size (omega arith) (omega arith) (ap (λ (n : ℕ). v.freed % n) (sym f.sizes.0) ∙ sym l.read ∙ f.stored.rd_off)

pub residue_tells_published : ResidueTellsPublished
residue_tells_published size words u d e f l =
    let o = f.order in
    let sized = f.sizes.1 in
    let later = l.later in
    let fits = l.fits in
    near e.found (length u.sent) size (omega arith) (omega arith) (ap (λ (n : ℕ). e.found % n) (sym sized) ∙ sym l.read ∙ f.stored.wr_off)

pub one_load : OneLoad
one_load known now m n a b = sym (load_found known now m a) ∙ load_found known now n b

pub finds_released : LookFindsReleased
finds_released size words words' u v d n f f' l = load_finds_stored d.rd_off u.rd_off v.rd_off d.released d.released n f.rd_told f'.rd_told l

pub finds_published : LookFindsPublished
finds_published size words words' u d e n f f' l = load_finds_stored u.wr_off d.wr_off e.wr_off (length u.sent) (length u.sent) n f.wr_told f'.wr_told l

none_held : (j w : ℕ) → ◌≡◌ {A = Option (ℕ × ℕ)} None (Some (j, w)) → ⊥
none_held j w e = cc

apart : ◌≡◌ {A = ℕ} 0 1 → ⊥
apart e = absurd (omega arith)

-- a byte was sent, taken and released, and the upper end hasn't looked
abbrev u : UpView
u = record { size = 16; sent = 5 ∷ []; staged = []; freed = 0; held = None; looks = 0; rd_off = []; wr_off = Stored 1 ∷ [] }

abbrev d : DownView
d = record { size = 16; got = 5 ∷ []; found = 1; released = 1; looks = 1; wr_off = Stored 1 ∷ Loaded 1 ∷ []; rd_off = Stored 1 ∷ [] }

none_waits : (i b : ℕ) → 1 ≤ i → get_elem? (5 ∷ []) i ≡ some b → ⊥
none_waits i b le e = let h = there (5 ∷ []) i b e in absurd (omega arith)

released_since : Facts 16 (1 ∷ 1 ∷ 5 ∷ 0 ∷ []) u d
released_since = record {
  sizes = (refl, refl, omega arith);
  order = record { freed_first = omega arith; released_next = omega arith; got_next = omega arith; found_last = omega arith; room = omega arith };
  front = ([], refl);
  stored = record { wide = refl; wr_off = refl; rd_off = refl; bytes = λ i b le e. absurd (none_waits i b le e) };
  held = λ k v e. absurd (none_held k v e);
  rd_told = record { more_loads = []; more_stores = Stored 1 ∷ []; one = refl; loads = refl; stores = refl; latest = refl };
  wr_told = record { more_loads = Loaded 1 ∷ []; more_stores = []; one = refl; loads = refl; stores = refl; latest = refl };
}

pub no_blind_upper : NoBlindUpperLook
no_blind_upper blind =
    let b = blind 16 (1 ∷ 1 ∷ 5 ∷ 0 ∷ []) u d released_since in
    let e : u.freed ≡ d.released = finds_released 16 (1 ∷ 1 ∷ 5 ∷ 0 ∷ []) b.0 u b.1 d u.freed released_since b.2 b.3 in
    apart e

-- that byte was sent, and the lower end hasn't looked
abbrev d' : DownView
d' = record { size = 16; got = []; found = 0; released = 0; looks = 0; wr_off = []; rd_off = [] }

lane_five : lane 5 0 ≡ 5
unfolding lanes
lane_five = refl

one_waits : (i b : ℕ) → get_elem? (5 ∷ []) i ≡ some b → (lane (slice_index (1 ∷ 0 ∷ 5 ∷ 0 ∷ []) (i % 16 / 8 + 2)) (i % 16 % 8) ≡ b) × (b < 256)
one_waits zero b e = let is : 5 ≡ b = some-injective 5 b e in (lane_five ∙ is, omega arith)
one_waits (suc i) b e = let h = there (5 ∷ []) (suc i) b e in absurd (omega arith)

published_since : Facts 16 (1 ∷ 0 ∷ 5 ∷ 0 ∷ []) u d'
published_since = record {
  sizes = (refl, refl, omega arith);
  order = record { freed_first = omega arith; released_next = omega arith; got_next = omega arith; found_last = omega arith; room = omega arith };
  front = (5 ∷ [], refl);
  stored = record { wide = refl; wr_off = refl; rd_off = refl; bytes = λ i b le e. one_waits i b e };
  held = λ k v e. absurd (none_held k v e);
  rd_told = record { more_loads = []; more_stores = []; one = refl; loads = refl; stores = refl; latest = refl };
  wr_told = record { more_loads = []; more_stores = Stored 1 ∷ []; one = refl; loads = refl; stores = refl; latest = refl };
}

pub no_blind_lower : NoBlindLowerLook
no_blind_lower blind =
    let b = blind 16 (1 ∷ 0 ∷ 5 ∷ 0 ∷ []) u d' published_since in
    let e : d'.found ≡ length u.sent = finds_published 16 (1 ∷ 0 ∷ 5 ∷ 0 ∷ []) b.0 u d' b.1 d'.found published_since b.2 b.3 in
    apart e
