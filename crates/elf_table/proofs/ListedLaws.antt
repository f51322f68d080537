-- The symbols of a table name it, and can be written.
use Rattle.std.proofs.Common.{◌≡◌, ◌≢◌, ◌≤◌, ◌<◌, ◌+◌, ◌*◌, ◌^◌, ℕ, List, [], ◌∷◌, ◌++◌, length, Option, Some, None, refl, sym, ap, subst, ◌∙◌, arith, get_or, option_map, Bor, Bool, true, false, cond, Ordering, Less, Equal, Greater, is_eq, nat_cmp, map as map_list}
use Rattle.std.specs.Prelude.{slice_get}
use Rattle.std.specs.List.{All, sum_by}
use Rattle.std.proofs.lemmas.Option.{slice_get-map, slice_get-get_or, get_or_from_slice_get, slice_get_within}
use Rattle.std.proofs.lemmas.List.Elements.{All-map, All-push, All-same}
use Rattle.std.proofs.lemmas.List.Sums.{sum_by-cons, sum_by-append}
use Rattle.std.specs.FinMap.{find}
use Rattle.std.specs.FinMap.Entries.{put, by_order}
use Rattle.defmt_grammar.specs.declared.language.Language.{Language}
use Rattle.defmt_intern.specs.Entries as map
use Rattle.defmt_intern.proofs.EntriesLaws.{len-entries, len-empty_of, get-entries, entries-insert}
use Rattle.defmt_intern.specs.declared.entry.Entry.{Entry}
use Rattle.defmt_intern.specs.Table.{Map, IsLawful}
use Rattle.defmt_intern.specs.declared.table.Profile.{Profile}
use Rattle.elf_section.specs.Listed.{Lists, Carries}
use Rattle.elf_section.specs.Symbol.{PlainSymbol, plain, plain_all}
use Rattle.elf_section.specs.declared.symbols.Symbol.{Symbol}
use Rattle.std.proofs.lemmas.List.{map-append}
use Rattle.elf_section.specs.Written.{IsWritable, AreBraced}
use Rattle.elf_table.specs.Names.{At, NameCheck, has_entry, is_small, is_single, is_short, is_one_stamp, Holds, IsTableOf, NamesTable}
use Rattle.elf_table.specs.Listed.{symbol_of, symbols_in, entry_size, item_size, size_of, AreSpelled, IsNamed}
use Rattle.elf_table.specs.Said.{Says}
use Rattle.elf_table.proofs.SaidLaws.{names_say, one_said}
use Rattle.elf_table.proofs.EntriesLaws.{entry_rises, entry_there, entry_place}
use Rattle.elf_table.proofs.NameTextLaws.{name_has_no_zero, name_len}

abbrev Items : Type 0
Items = List (ℕ × Entry)

-- a symbol of the table stands for the entry at its place
pub record IsOf (table : Map) (p : ℕ) (s : PlainSymbol) : Type 0 where
  pub item : ℕ × Entry
  pub there : slice_get (map.entries table) p ≡ Some item
  pub is : symbol_of item ≡ s

of_option : (table : Map) (p : ℕ) (s : PlainSymbol) (o : Option (ℕ × Entry)) → slice_get (map.entries table) p ≡ o → option_map symbol_of o ≡ Some s → IsOf table p s
of_option table p s None e h = absurd cc
of_option table p s (Some item) e h = record { item = item; there = e; is = cc }

is_of : (table : Map) (p : ℕ) (s : PlainSymbol) → At (symbols_in table) p s → IsOf table p s
is_of table p s at = of_option table p s (slice_get (map.entries table) p) refl (sym (slice_get-map symbol_of (map.entries table) p) ∙ at)

-- one of a list of which it holds
all_at : (P : ℕ × Entry → Type 0) (items : Items) (p : ℕ) (x : ℕ × Entry) → All P items → slice_get items p ≡ Some x → P x
all_at P items p x all at = subst P (get_or_from_slice_get items p x x at) (all p x (slice_get_within items p x at))

-- ---- the table is theirs

-- what is known of a symbol of the table
pub record Known (table : Map) (p : ℕ) (s : PlainSymbol) : Type 0 where
  pub item : ℕ × Entry
  pub place : slice_get (map.entries table) p ≡ Some item
  pub value : item.0 ≡ s.value
  pub there : map.get table s.value ≡ Some item.1
  pub names : Says table.language s.name item.1

module _ (table : Map) (lawful : IsLawful table) (spelled : AreSpelled table) (named : All IsNamed (map.entries table)) where
  known : (p : ℕ) (s : PlainSymbol) → At (symbols_in table) p s → Known table p s
  known p s at =
      let o = is_of table p s at in
      let got : map.get table o.item.0 ≡ Some o.item.1 = entry_there table p o.item o.there in
      record {
        item = o.item;
        place = o.there;
        value = ap (λ (x : PlainSymbol). x.value) o.is;
        there = ap (map.get table) (sym (ap (λ (x : PlainSymbol). x.value) o.is)) ∙ got;
        names = subst (λ (x : PlainSymbol). Says table.language x.name o.item.1) o.is (names_say table.language (symbol_of o.item).name o.item.1 (all_at IsNamed (map.entries table) p o.item named o.there (spelled o.item.0 o.item.1 got)));
      }

  small : (p : ℕ) (s : PlainSymbol) → At (symbols_in table) p s → s.value < 2 ^ 16
  small p s at = let k = known p s at in lawful.small s.value k.item.1 k.there

  rises : (p q : ℕ) (s t : PlainSymbol) → p < q → At (symbols_in table) p s → At (symbols_in table) q t → s.value < t.value
  rises p q s t l a b =
      let k = known p s a in
      let m = known q t b in
      omega (arith, entry_rises table p q k.item m.item l k.place m.place, k.value, m.value)

  holds : (check : NameCheck) → Holds table.language (symbols_in table) check
  holds (has_entry p) = λ s at. let k = known p s at in (k.item.1, k.names)
  holds (is_small p) = λ s at. let b = small p s at in omega arith
  holds (is_single p) = λ s at q t less at' e. let r = rises q p t s less at' at in absurd (omega (arith, r, e))
  holds (is_short p) = λ s e at names. let k = known p s at in subst (λ (x : Entry). length x.text ≤ 4096) (one_said table.language s.name k.item.1 e k.names names) (lawful.short s.value k.item.1 k.there)
  holds (is_one_stamp p) = λ s e at names is q t f less at' names' is'.
      let k = known p s at in
      let m = known q t at' in
      let r = rises q p t s less at' at in
      let same = one_said table.language s.name k.item.1 e k.names names in
      let same' = one_said table.language t.name m.item.1 f m.names names' in
      let one = lawful.one_stamp s.value t.value (record { entry = k.item.1; there = k.there; is_stamp = ap (λ (x : Entry). x.tag) same ∙ is }) (record { entry = m.item.1; there = m.there; is_stamp = ap (λ (x : Entry). x.tag) same' ∙ is' }) in
      absurd (omega (arith, r, one))

  only : (i : ℕ) (e : Entry) → map.get table i ≡ Some e → (p : ℕ) × (s : PlainSymbol) × At (symbols_in table) p s × (s.value ≡ i) × Says table.language s.name e
  only i e h =
      let o = entry_place table i e h in
      let at : At (symbols_in table) o.0 (symbol_of (i, e)) = slice_get-map symbol_of (map.entries table) o.0 ∙ ap (option_map symbol_of) o.1 in
      (o.0, symbol_of (i, e), at, refl, names_say table.language (symbol_of (i, e)).name e (all_at IsNamed (map.entries table) o.0 (i, e) named o.1 (spelled i e h)))

  table_listed : IsTableOf table.language (symbols_in table) table
  table_listed = record {
    spoken = refl;
    passes = holds;
    each = λ p s e at names. let k = known p s at in k.there ∙ ap Some (one_said table.language s.name k.item.1 e k.names names);
    only = only;
  }

pub names_table : (t : Map) (profile : Profile) → IsLawful t → AreSpelled t → All IsNamed (map.entries t)
    → (file : List ℕ) (xs : List PlainSymbol) → xs ≡ symbols_in t → Carries file xs profile → NamesTable t.language file (record { entries = t; profile = profile })
names_table t profile lawful spelled named file xs e carries = record {
  symbols = symbols_in t;
  lists = subst (Lists file) e carries.0;
  table_of = table_listed t lawful spelled named;
  profile = carries.1;
}

-- ---- they can be written

map_len : (items : Items) → length (map_list symbol_of items) ≡ length items
map_len [] = refl
map_len (x ∷ items) = omega (arith, map_len items)

-- the names have at most six bytes for each of the entries', and 200 more an entry
names_len : (items : Items) → sum_by (λ s. length s.name) (map_list symbol_of items) ≤ 6 * sum_by item_size items + 200 * length items
names_len [] = omega arith
names_len (x ∷ items) =
    let a = sum_by-cons (λ (s : PlainSymbol). length s.name) (symbol_of x) (map_list symbol_of items) in
    let b = sum_by-cons item_size x items in
    let c = name_len x.1 in
    let d = names_len items in
    omega (arith, a, b, c, d)

braced_all : (items : Items) → AreBraced (map_list symbol_of items)
braced_all items = All-map (λ s. get_or s.name 0 0 ≡ 123) symbol_of items (λ k d l. refl)

pub are_braced : (table : Map) (xs : List PlainSymbol) → xs ≡ symbols_in table → AreBraced xs
are_braced table xs e = subst AreBraced (sym e) (braced_all (map.entries table))

small_values : (table : Map) → IsLawful table → All (λ s. s.value ≤ 65535) (symbols_in table)
small_values table lawful = All-map (λ s. s.value ≤ 65535) symbol_of (map.entries table) (λ k d l.
    let x = get_or (map.entries table) k d in
    let b = lawful.small x.0 x.1 (entry_there table k x (slice_get-get_or (map.entries table) k d l)) in
    omega arith)

writable_symbols : (table : Map) → IsLawful table → map.len table ≤ 65536 → size_of table ≤ 2 ^ 26 → IsWritable (symbols_in table)
writable_symbols table lawful few short = record {
  few = omega (arith, map_len (map.entries table), few, len-entries table);
  small = small_values table lawful;
  no_zero = All-map (λ s. All (λ b. b ≢ 0) s.name) symbol_of (map.entries table) (λ k d l. name_has_no_zero (get_or (map.entries table) k d).1);
  short = omega (arith, names_len (map.entries table), few, short, len-entries table);
}

pub writable : (table : Map) (xs : List PlainSymbol) → xs ≡ symbols_in table → IsLawful table → map.len table ≤ 65536 → size_of table ≤ 2 ^ 26 → IsWritable xs
writable table xs e lawful few short = subst IsWritable (sym e) (writable_symbols table lawful few short)

-- ---- an iterator over the entries

abbrev pub item_of : ℕ × Bor Entry → ℕ × Entry
item_of x = (x.0, x.1.now)

-- the size of what was yielded is at most that of the table
pub size_within : (table : Map) (done : Items) (x : ℕ × Entry) (rest : Items) → map.entries table ≡ done ++ x ∷ rest → sum_by item_size done + item_size x ≤ size_of table
size_within table done x rest e =
    let a : size_of table ≡ sum_by item_size (done ++ x ∷ rest) = ap (sum_by item_size) e in
    omega (arith, a, sum_by-append item_size done (x ∷ rest), sum_by-cons item_size x rest)

-- ---- a table with one entry more

by_order_size : (o : Ordering) (e : ℕ × Entry) (es : Items) (k : ℕ) (v : Entry) (more : Items) → nat_cmp k e.0 ≡ o → is_eq o ≡ false → sum_by item_size more ≡ sum_by item_size es + entry_size v → sum_by item_size (by_order o ((k, v) ∷ e ∷ es) ((e.0, v) ∷ es) (e ∷ more)) ≡ sum_by item_size (e ∷ es) + entry_size v
by_order_size Less e es k v more c n h = omega (arith, sum_by-cons item_size (k, v) (e ∷ es))
by_order_size Equal e es k v more c n h = absurd cc
by_order_size Greater e es k v more c n h = omega (arith, sum_by-cons item_size e more, sum_by-cons item_size e es, h)

not_here : (b : Bool) (e : Entry) (o : Option Entry) → cond b (Some e) o ≡ None → (b ≡ false) × (o ≡ None)
not_here true e o h = absurd cc
not_here false e o h = (refl, h)

size-put : (es : Items) (k : ℕ) (v : Entry) → find nat_cmp k es ≡ None → sum_by item_size (put nat_cmp k v es) ≡ sum_by item_size es + entry_size v
size-put [] k v none = refl
size-put (e ∷ es) k v none =
    let n = not_here (is_eq (nat_cmp k e.0)) e.1 (find nat_cmp k es) none in
    by_order_size (nat_cmp k e.0) e es k v (put nat_cmp k v es) refl n.0 (size-put es k v n.1)

pub size-insert : (table : Map) (k : ℕ) (v : Entry) → map.get table k ≡ None → size_of (map.insert table k v) ≡ size_of table + entry_size v
size-insert table k v none = ap (sum_by item_size) (entries-insert table k v) ∙ size-put (map.entries table) k v (sym (get-entries table k) ∙ none)

no_items : (items : Items) → length items ≡ 0 → items ≡ []
no_items [] e = refl
no_items (x ∷ items) e = absurd (omega arith)

pub size-empty_of : (language : Language) → size_of (map.empty_of language) ≡ 0
size-empty_of language = ap (sum_by item_size) (no_items (map.entries (map.empty_of language)) (sym (len-entries (map.empty_of language)) ∙ len-empty_of language))

-- ---- the symbols so far

pub made_more : (old new : List Symbol) (s : Symbol) (xs : List (ℕ × Bor Entry)) (x : ℕ × Bor Entry) → new ≡ old ++ s ∷ [] → plain_all old ≡ map_list symbol_of (map_list item_of xs) → plain s ≡ symbol_of (item_of x) → plain_all new ≡ map_list symbol_of (map_list item_of (xs ++ x ∷ []))
made_more old new s xs x e made is =
    ap plain_all e ∙ map-append plain old (s ∷ []) ∙ ap (λ (ys : List PlainSymbol). ys ++ plain s ∷ []) made ∙ ap (λ (t : PlainSymbol). map_list symbol_of (map_list item_of xs) ++ t ∷ []) is
    ∙ sym (ap (map_list symbol_of) (map-append item_of xs (x ∷ [])) ∙ map-append symbol_of (map_list item_of xs) (item_of x ∷ []))

pub named_more : (xs : List (ℕ × Bor Entry)) (x : ℕ × Bor Entry) → All IsNamed (map_list item_of xs) → IsNamed (item_of x) → All IsNamed (map_list item_of (xs ++ x ∷ []))
named_more xs x all one = All-same IsNamed _ _ (map-append item_of xs (x ∷ [])) (All-push IsNamed (map_list item_of xs) (item_of x) all one)
