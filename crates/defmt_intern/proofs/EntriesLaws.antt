-- The entries of a table as a map: the laws of `FinMap`, under their names there.
use Rattle.std.proofs.Common.{◌≡◌, ◌+◌, ℕ, cond, T, List, length, Some, None, nat_cmp}
use Rattle.std.specs.Prelude.{is_some}
use Rattle.std.specs.Cmp.{nat_cmp_total}
use Rattle.std.specs.FinMap as std
use Rattle.std.specs.FinMap.{find, put, is_sorted, nat_cmp-IsAntisymmetric}
use Rattle.std.specs.Ordering.{eq_by_cmp}
use Rattle.defmt_grammar.specs.declared.language.Language.{Language}
use Rattle.defmt_intern.specs.declared.entry.Entry.{Entry}
use Rattle.defmt_intern.specs.Entries.{Map, get, len, entries, insert, empty, empty_of, from_entries}

-- ---- what is there

pub get-entries : (m : Map) (q : ℕ) → get m q ≡ find nat_cmp q (entries m)
get-entries m q = std.get-entries m.entries q

pub get-empty_of : (language : Language) (q : ℕ) → get (empty_of language) q ≡ None
get-empty_of language q = std.get-empty nat_cmp q

pub get-empty : (q : ℕ) → get empty q ≡ None
get-empty q = std.get-empty nat_cmp q

pub get-insert : (m : Map) (k : ℕ) (v : Entry) (q : ℕ) → get (insert m k v) q ≡ cond (eq_by_cmp nat_cmp q k) (Some v) (get m q)
get-insert m k v q = std.get-insert nat_cmp_total m.entries k v q

pub get-from_entries : (language : Language) (es : List (ℕ × Entry)) (q : ℕ) → get (from_entries language es) q ≡ find nat_cmp q es
get-from_entries language es q = std.get-from_entries nat_cmp_total es q

-- ---- how many

pub len-entries : (m : Map) → len m ≡ length (entries m)
len-entries m = std.len-entries m.entries

pub len-empty_of : (language : Language) → len (empty_of language) ≡ 0
len-empty_of language = std.len-empty nat_cmp Entry

pub len-empty : len empty ≡ 0
len-empty = std.len-empty nat_cmp Entry

pub len-insert : (m : Map) (k : ℕ) (v : Entry) → len (insert m k v) ≡ cond (is_some (get m k)) (len m) (len m + 1)
len-insert m k v = std.len-insert nat_cmp_total m.entries k v

-- ---- in order

pub entries_sorted : (m : Map) → T (is_sorted nat_cmp (entries m))
entries_sorted m = std.entries_sorted m.entries

pub entries-insert : (m : Map) (k : ℕ) (v : Entry) → entries (insert m k v) ≡ put nat_cmp k v (entries m)
entries-insert m k v = std.entries-insert nat_cmp_total m.entries k v

-- ---- the same

-- two maps of one language that answer alike are equal
pub same_map : (m n : Map) → m.language ≡ n.language → ((q : ℕ) → get m q ≡ get n q) → m ≡ n
same_map m n spoken is =
    let kept = std.same_map nat_cmp_total nat_cmp-IsAntisymmetric m.entries n.entries is in
    λ i. record { language = spoken i; entries = kept i }
