-- Each step keeps the rule, as the table asks it.
use Rattle.std.proofs.Common.{◌/◌, ◌*◌, ◌≡◌, ℕ, zero, suc, ◌+◌, ◌%◌, ◌<◌, ◌≤◌, List, [], length, get_or, replicate, Some, sym, refl, subst}
use Rattle.std.specs.Prelude.{slice_index}
use mathlib.Core.Option.{none}
use Rattle.atomic_table.specs.Table.{Me, step, Allows, Splits, Joins}
use Rattle.rtt_words.specs.declared.view.View.{View}
use Rattle.rtt_words.specs.declared.view.View.TheVariants.{Spent, Up, Down, Both}
use Rattle.rtt_words.specs.WordRule.{Mixes, Kept, fresh, upper_of, lower_of, up_part, down_part, both, loads_rd_off, loads_word, stores_bytes, stores_wr_off, loads_wr_off, loads_bytes, stores_rd_off, loads_rest}
use Rattle.rtt_words.proofs.WordMoves.{may_load_rd_off, may_load_word, may_store_bytes, may_store_wr_off, may_load_wr_off, may_load_bytes, may_store_rd_off, may_load_rest, may_split, may_join}

-- the same for a seat whose view is known to be one of an end
module _ {S : Type 0} (z slots id : ℕ) (m : Me S View) where
  pub up_loads_rd_off : m ≡ (Up (upper_of m.0), []) → Allows (Kept {S = S} z) slots id m 1 (λ n. n) (loads_rd_off (step slots 1 0 0 none) m)
  up_loads_rd_off is = subst (λ (x : Me S View). Allows (Kept {S = S} z) slots id x 1 (λ n. n) (loads_rd_off (step slots 1 0 0 none) x)) (sym is) (may_load_rd_off z slots id [] (upper_of m.0))

  pub up_loads_word : (k : ℕ) → m ≡ (Up (upper_of m.0), []) → Allows (Kept {S = S} z) slots id m (k + 2) (λ n. n) (loads_word (step slots (k + 2) 0 0 none) m)
  up_loads_word k is = subst (λ (x : Me S View). Allows (Kept {S = S} z) slots id x (k + 2) (λ n. n) (loads_word (step slots (k + 2) 0 0 none) x)) (sym is) (may_load_word z slots id [] (upper_of m.0) k)

  pub up_stores_bytes : (k l v n : ℕ) (bs : List ℕ) → m ≡ (Up (upper_of m.0), []) → let u = upper_of m.0 in u.held ≡ Some (k, v) → (length u.sent + length u.staged) % z ≡ k * 8 + l → l < 8 → (length u.sent + length u.staged) % z + length bs ≤ z
      → length u.sent + length u.staged + length bs + 1 ≤ u.freed + z → Mixes v n l bs → ((t : ℕ) → t < length bs → slice_index bs t < 256)
      → Allows (Kept {S = S} z) slots id m (k + 2) (λ _. n) (λ _. stores_bytes bs (step slots (k + 2) n 0 none) m n)
  up_stores_bytes k l v n bs is held place small flat fits mix bytes_small =
      subst (λ (x : Me S View). Allows (Kept {S = S} z) slots id x (k + 2) (λ _. n) (λ _. stores_bytes bs (step slots (k + 2) n 0 none) x n)) (sym is) (may_store_bytes z slots id [] (upper_of m.0) k l v n bs held place small flat fits mix bytes_small)

  pub up_stores_wr_off : (n : ℕ) → m ≡ (Up (upper_of m.0), []) → n ≡ (length (upper_of m.0).sent + length (upper_of m.0).staged) % z → Allows (Kept {S = S} z) slots id m 0 (λ _. n) (λ _. stores_wr_off (step slots 0 n 0 none) m n)
  up_stores_wr_off n is place = subst (λ (x : Me S View). Allows (Kept {S = S} z) slots id x 0 (λ _. n) (λ _. stores_wr_off (step slots 0 n 0 none) x n)) (sym is) (may_store_wr_off z slots id [] (upper_of m.0) n place)

  pub down_loads_wr_off : m ≡ (Down (lower_of m.0), []) → Allows (Kept {S = S} z) slots id m 0 (λ n. n) (loads_wr_off (step slots 0 0 0 none) m)
  down_loads_wr_off is = subst (λ (x : Me S View). Allows (Kept {S = S} z) slots id x 0 (λ n. n) (loads_wr_off (step slots 0 0 0 none) x)) (sym is) (may_load_wr_off z slots id [] (lower_of m.0))

  pub down_loads_bytes : (i count : ℕ) → m ≡ (Down (lower_of m.0), []) → let d = lower_of m.0 in d.size ≡ z → i ≡ length d.got % z / 8 + 2 → length d.got % z % 8 + count ≤ 8 → length d.got % z + count ≤ z → length d.got + count ≤ d.found
      → Allows (Kept {S = S} z) slots id m i (λ n. n) (loads_bytes count (step slots i 0 0 none) m)
  down_loads_bytes i count is sized place inside flat found =
      subst (λ (x : Me S View). Allows (Kept {S = S} z) slots id x i (λ n. n) (loads_bytes count (step slots i 0 0 none) x)) (sym is) (may_load_bytes z slots id [] (lower_of m.0) i count sized place inside flat found)

  pub down_stores_rd_off : (n : ℕ) → m ≡ (Down (lower_of m.0), []) → n ≡ length (lower_of m.0).got % z → Allows (Kept {S = S} z) slots id m 1 (λ _. n) (λ _. stores_rd_off (step slots 1 n 0 none) m n)
  down_stores_rd_off n is place = subst (λ (x : Me S View). Allows (Kept {S = S} z) slots id x 1 (λ _. n) (λ _. stores_rd_off (step slots 1 n 0 none) x n)) (sym is) (may_store_rd_off z slots id [] (lower_of m.0) n place)

  pub both_loads_rest : (i : ℕ) → m ≡ (Both (upper_of m.0) (lower_of m.0), []) → Allows (Kept {S = S} z) slots id m i (λ n. n) (loads_rest (step slots i 0 0 none) m)
  both_loads_rest i is = subst (λ (x : Me S View). Allows (Kept {S = S} z) slots id x i (λ n. n) (loads_rest (step slots i 0 0 none) x)) (sym is) (may_load_rest z slots id [] (upper_of m.0) (lower_of m.0) i)

pub blank : (n i : ℕ) → let none : ℕ = 0 in get_or (replicate n none) i none ≡ none
blank zero i = refl
blank (suc n) zero = refl
blank (suc n) (suc i) = blank n i

-- a seat that knows both ends may be split whatever they did, and each end keeps what is known of it
splits : {S : Type 0} (z id : ℕ) (v : View) → v ≡ Both (upper_of v) (lower_of v) → Splits (Kept {S = S} z) id v (up_part v) (down_part v)
splits {S} z id v is = subst (λ (x : View). Splits (Kept {S = S} z) id x (up_part x) (down_part x)) (sym is) (may_split z 0 id [] (upper_of v) (lower_of v))

pub splits_fresh : {S : Type 0} (z id size : ℕ) (v : View) → v ≡ fresh size → Splits (Kept {S = S} z) id v (up_part v) (down_part v)
splits_fresh z id size v is = splits z id v (subst (λ (x : View). x ≡ Both (upper_of x) (lower_of x)) (sym is) refl)

pub joins : {S : Type 0} (z id other : ℕ) (v w : View) → v ≡ Up (upper_of v) → w ≡ Down (lower_of w) → Joins (Kept {S = S} z) id v other w (both v w) Spent
joins {S} z id other v w is is' = subst (λ (x : View × View). Joins (Kept {S = S} z) id x.0 other x.1 (both x.0 x.1) Spent) (λ i. (sym is i, sym is' i)) (may_join z 0 id [] (upper_of v) other (lower_of w))
