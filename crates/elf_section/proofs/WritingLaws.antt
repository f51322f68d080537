-- What is written, symbol after symbol.
use Rattle.std.proofs.Common.{◌≡◌, ◌≤◌, ◌<◌, ◌+◌, ◌*◌, ◌-◌, ◌%◌, ◌^◌, replicate, ℕ, zero, suc, List, [], ◌∷◌, ◌++◌, length, take, drop, get_or, refl, sym, ap, subst, ◌∙◌, arith, append_assoc, length-append}
use Rattle.std.proofs.lemmas.List.{take_more, append-nil, take-append-drop, take_all}
use Rattle.std.specs.List.{All}
use Rattle.std.specs.List.{sum_by}
use Rattle.std.specs.Prelude.{slice_get, Some}
use Rattle.std.proofs.lemmas.List.{get_or-map, length-map}
use Rattle.std.proofs.lemmas.List.Sums.{sum_by-cons}
use Rattle.defmt_intern.specs.declared.table.Profile.{Profile}
use Rattle.defmt_intern.specs.declared.table.Profile.TheVariants as profiles
use Rattle.elf_section.specs.Written.{Row, listed, listed_all, markers, rows, IsWritable, names, ended, symbol_bytes, entries, header_bytes, symbol_table, string_table, section_names, headers_for, written_rows}
use Rattle.elf_section.specs.Symbol.{PlainSymbol, plain, plain_all}
use Rattle.elf_section.specs.declared.symbols.Symbol.{Symbol}

pub names_append : (xs ys : List Row) → names (xs ++ ys) ≡ names xs ++ names ys
names_append [] ys = refl
names_append (x ∷ xs) ys = ap (λ (t : List ℕ). ended x ++ t) (names_append xs ys) ∙ sym (append_assoc (ended x) (names xs) (names ys))

-- the names of a list and a zero for each
names_len : (xs : List PlainSymbol) → length (names (listed_all xs)) ≡ sum_by (λ s. length s.name) xs + length xs
names_len [] = refl
names_len (x ∷ xs) =
    let a = length-append (ended (listed x)) (names (listed_all xs)) in
    let b = length-append x.name (0 ∷ []) in
    let c = sum_by-cons {X = PlainSymbol} (λ s. length s.name) x xs in
    let d = names_len xs in
    omega (arith, a, b, c, d)

pub names_short : (xs : List PlainSymbol) → IsWritable xs → length (names (listed_all xs)) ≤ 2 ^ 30 + 65536
names_short xs w = let a = names_len xs in let b = w.short in let c = w.few in omega (arith, a, b, c)

-- ---- the markers and the list

pub rows_len : (profile : Profile) (xs : List PlainSymbol) → length (rows profile xs) ≡ length (markers profile) + length xs
rows_len profile xs = let a = length-append (markers profile) (listed_all xs) in let b = length-map xs listed in omega (arith, a, b)

pub rows_names_len : (profile : Profile) (xs : List PlainSymbol) → length (names (rows profile xs)) ≡ length (names (markers profile)) + length (names (listed_all xs))
rows_names_len profile xs = ap length (names_append (markers profile) (listed_all xs)) ∙ length-append (names (markers profile)) (names (listed_all xs))

-- ---- elements by their number

pub at_get : {X : Type 0} (xs : List X) (p : ℕ) (x : X) → slice_get xs p ≡ Some x → (p < length xs) × (get_or xs p x ≡ x)
at_get [] p x e = absurd cc
at_get (y ∷ ys) zero x e = (omega arith, cc)
at_get (y ∷ ys) (suc p) x e = let more = at_get ys p x e in (let l = more.0 in omega (arith, l), more.1)

get_at : {X : Type 0} (xs : List X) (p : ℕ) (d : X) → p < length xs → slice_get xs p ≡ Some (get_or xs p d)
get_at [] p d l = absurd (omega arith)
get_at (y ∷ ys) zero d l = refl
get_at (y ∷ ys) (suc p) d l = get_at ys p d (omega arith)

-- what holds of all elements, and of each
pub all_at : {X : Type 0} (P : X → Type 0) (xs : List X) (p : ℕ) (x : X) → All P xs → slice_get xs p ≡ Some x → P x
all_at P xs p x h e = let at = at_get xs p x e in subst P at.1 (h p x at.0)

pub all_by : {X : Type 0} (P : X → Type 0) (xs : List X) → ((p : ℕ) (x : X) → slice_get xs p ≡ Some x → P x) → All P xs
all_by P xs h = λ k d l. h k (get_or xs k d) (get_at xs k d l)

-- item i of a list, as a row
pub item : (list : List Symbol) (i : ℕ) (s : Symbol) → i < length list → s ≡ get_or list i s → listed (plain s) ≡ get_or (listed_all (plain_all list)) i (listed (plain s))
item list i s l e =
    let within : i < length (plain_all list) = omega (arith, l, length-map list plain) in
    ap (λ (x : Symbol). listed (plain x)) e
    ∙ ap listed (sym (get_or-map plain list i s (plain s) l))
    ∙ sym (get_or-map listed (plain_all list) i (plain s) (listed (plain s)) within)

pub item_there : (list : List Symbol) (i : ℕ) (s : Symbol) → i < length list → s ≡ get_or list i s → slice_get (plain_all list) i ≡ Some (plain s)
item_there [] i s l e = absurd (omega arith)
item_there (x ∷ xs) zero s l e = ap (λ (y : Symbol). Some (plain y)) (sym e)
item_there (x ∷ xs) (suc i) s l e = item_there xs i s (omega arith) e

pub items : (list : List Symbol) → length (plain_all list) ≡ length list
items list = length-map list plain

pub rows_of : (list : List Symbol) → length (listed_all (plain_all list)) ≡ length list
rows_of list = length-map (plain_all list) listed ∙ items list

pub all_taken : (list : List Symbol) (i : ℕ) → length list ≤ i → take i (listed_all (plain_all list)) ≡ listed_all (plain_all list)
all_taken list i l = take_all i (listed_all (plain_all list)) (omega (arith, l, rows_of list))

next : (xs : List Row) (i : ℕ) (s : Row) → i < length xs → s ≡ get_or xs i s → take (i + 1) xs ≡ take i xs ++ s ∷ []
next xs i s l e = take_more xs i s l ∙ ap (λ (x : Row). take i xs ++ x ∷ []) (sym e)

pub names_next : (xs : List Row) (i : ℕ) (s : Row) → i < length xs → s ≡ get_or xs i s → names (take (i + 1) xs) ≡ names (take i xs) ++ (s.name ++ 0 ∷ [])
names_next xs i s l e = ap names (next xs i s l e) ∙ names_append (take i xs) (s ∷ []) ∙ ap (λ (t : List ℕ). names (take i xs) ++ t) (append-nil (ended s))

pub names_len_next : (xs : List Row) (i : ℕ) (s : Row) → i < length xs → s ≡ get_or xs i s → length (names (take (i + 1) xs)) ≡ length (names (take i xs)) + length s.name + 1
names_len_next xs i s l e =
    let a = ap length (names_next xs i s l e) in
    let b = length-append (names (take i xs)) (s.name ++ 0 ∷ []) in
    let c = length-append s.name (0 ∷ []) in
    omega (arith, a, b, c)

pub names_room : (xs : List Row) (i : ℕ) (s : Row) → i < length xs → s ≡ get_or xs i s → length (names (take i xs)) + length s.name + 1 ≤ length (names xs)
names_room xs i s l e =
    let a = names_len_next xs i s l e in
    let whole : length (names xs) ≡ length (names (take (i + 1) xs) ++ names (drop (i + 1) xs)) = ap length (sym (ap names (take-append-drop (i + 1) xs)) ∙ names_append (take (i + 1) xs) (drop (i + 1) xs)) in
    let b = length-append (names (take (i + 1) xs)) (names (drop (i + 1) xs)) in
    omega (arith, a, b, whole)

entries_push : (at : ℕ) (xs : List Row) (s : Row) → entries at (xs ++ s ∷ []) ≡ entries at xs ++ symbol_bytes (at + length (names xs)) s.value 16 s.section
entries_push at [] s = append-nil (symbol_bytes at s.value 16 s.section) ∙ ap (λ (n : ℕ). symbol_bytes n s.value 16 s.section) (let k : at ≡ at + 0 = omega arith in k)
entries_push at (x ∷ xs) s =
    let place : (at + length x.name + 1) + length (names xs) ≡ at + length (ended x ++ names xs) = (let a = length-append (ended x) (names xs) in let b = length-append x.name (0 ∷ []) in omega (arith, a, b)) in
    ap (λ (t : List ℕ). symbol_bytes at x.value 16 x.section ++ t) (entries_push (at + length x.name + 1) xs s ∙ ap (λ (n : ℕ). entries (at + length x.name + 1) xs ++ symbol_bytes n s.value 16 s.section) place)
    ∙ sym (append_assoc (symbol_bytes at x.value 16 x.section) (entries (at + length x.name + 1) xs) (symbol_bytes (at + length (ended x ++ names xs)) s.value 16 s.section))

pub entries_append : (at : ℕ) (xs ys : List Row) → entries at (xs ++ ys) ≡ entries at xs ++ entries (at + length (names xs)) ys
entries_append at [] ys = ap (λ (n : ℕ). entries n ys) (let k : at ≡ at + 0 = omega arith in k)
entries_append at (x ∷ xs) ys =
    let place : (at + length x.name + 1) + length (names xs) ≡ at + length (ended x ++ names xs) = (let a = length-append (ended x) (names xs) in let b = length-append x.name (0 ∷ []) in omega (arith, a, b)) in
    ap (λ (t : List ℕ). symbol_bytes at x.value 16 x.section ++ t) (entries_append (at + length x.name + 1) xs ys ∙ ap (λ (n : ℕ). entries (at + length x.name + 1) xs ++ entries n ys) place)
    ∙ sym (append_assoc (symbol_bytes at x.value 16 x.section) (entries (at + length x.name + 1) xs) (entries (at + length (ended x ++ names xs)) ys))

pub entries_next : (at : ℕ) (xs : List Row) (i : ℕ) (s : Row) → i < length xs → s ≡ get_or xs i s → entries at (take (i + 1) xs) ≡ entries at (take i xs) ++ symbol_bytes (at + length (names (take i xs))) s.value 16 s.section
entries_next at xs i s l e = ap (entries at) (next xs i s l e) ∙ entries_push at (take i xs) s

pub regroup4 : (o a b c e t : List ℕ) → (o ++ (a ++ (b ++ (c ++ e)))) ++ t ≡ o ++ (a ++ (b ++ (c ++ (e ++ t))))
regroup4 o a b c e t = simp append_assoc

regroup5 : (a b c d e f : List ℕ) → (((((a ++ b) ++ c) ++ d) ++ e) ++ f) ≡ a ++ (b ++ (c ++ (d ++ (e ++ f))))
regroup5 a b c d e f = simp append_assoc

-- ---- the parts of the file, one after another

abbrev mark_bytes : ℕ → List ℕ
mark_bytes at = symbol_bytes at 1 16 0xfff1

pub first_markers : (out : List ℕ) → (out ++ mark_bytes 1) ++ mark_bytes 21 ≡ out ++ entries 1 (markers profiles.One)
first_markers out = append_assoc out (mark_bytes 1) (mark_bytes 21) ∙ ap (λ (t : List ℕ). out ++ (mark_bytes 1 ++ t)) (sym (append-nil (mark_bytes 21)))

pub second_markers : (out : List ℕ) → ((out ++ mark_bytes 1) ++ mark_bytes 21) ++ mark_bytes 47 ≡ out ++ entries 1 (markers profiles.Two)
second_markers out =
    append_assoc (out ++ mark_bytes 1) (mark_bytes 21) (mark_bytes 47) ∙ append_assoc out (mark_bytes 1) (mark_bytes 21 ++ mark_bytes 47)
    ∙ ap (λ (t : List ℕ). out ++ (mark_bytes 1 ++ (mark_bytes 21 ++ t))) (sym (append-nil (mark_bytes 47)))

-- the null symbol, the markers and the list
pub table_is : (out : List ℕ) (profile : Profile) (xs : List PlainSymbol) → ((out ++ symbol_bytes 0 0 0 0) ++ entries 1 (markers profile)) ++ entries (1 + length (names (markers profile))) (listed_all xs) ≡ out ++ symbol_table (rows profile xs)
table_is out profile xs =
    let null : List ℕ = symbol_bytes 0 0 0 0 in
    let marks : List ℕ = entries 1 (markers profile) in
    let list : List ℕ = entries (1 + length (names (markers profile))) (listed_all xs) in
    append_assoc (out ++ null) marks list ∙ append_assoc out null (marks ++ list)
    ∙ ap (λ (t : List ℕ). out ++ (null ++ t)) (sym (entries_append 1 (markers profile) (listed_all xs)))

-- a zero, the markers' names and those of the list
pub strings_are : (out : List ℕ) (profile : Profile) (xs : List PlainSymbol) → ((out ++ 0 ∷ []) ++ names (markers profile)) ++ names (listed_all xs) ≡ out ++ string_table (rows profile xs)
strings_are out profile xs =
    append_assoc (out ++ 0 ∷ []) (names (markers profile)) (names (listed_all xs)) ∙ append_assoc out (0 ∷ []) (names (markers profile) ++ names (listed_all xs))
    ∙ ap (λ (t : List ℕ). out ++ (0 ∷ t)) (sym (names_append (markers profile) (listed_all xs)))

-- n of three zeros
pub zeros : (n : ℕ) → n ≤ 3 → take {A = ℕ} n (0 ∷ 0 ∷ 0 ∷ []) ≡ replicate {A = ℕ} n 0
zeros zero l = refl
zeros (suc zero) l = refl
zeros (suc (suc zero)) l = refl
zeros (suc (suc (suc zero))) l = refl
zeros (suc (suc (suc (suc n)))) l = absurd (omega arith)

abbrev parts : ℕ → ℕ → ℕ → List Row → List ℕ
parts at n s rs =
    header_bytes (at + 34 + (4 - (at + 34) % 4) % 4) ++ (symbol_table rs ++ (string_table rs ++ (section_names ++ (replicate ((4 - (at + 34) % 4) % 4) 0 ++ headers_for n s))))

-- the parts of the file, one after another
pub written_is : (rs : List Row) (at n s : ℕ) (out : List ℕ) → n ≡ length rs → s ≡ 1 + length (names rs) → at ≡ 52 + (16 + 16 * n) + s
    → out ≡ ((((header_bytes (at + 34 + (4 - (at + 34) % 4) % 4) ++ symbol_table rs) ++ string_table rs) ++ section_names) ++ replicate ((4 - (at + 34) % 4) % 4) 0) ++ headers_for n s
    → out ≡ written_rows rs
unfolding written_rows
written_is rs at n s out en es ea e =
    let flat : out ≡ parts at n s rs = e ∙ regroup5 (header_bytes (at + 34 + (4 - (at + 34) % 4) % 4)) (symbol_table rs) (string_table rs) section_names (replicate ((4 - (at + 34) % 4) % 4) 0) (headers_for n s) in
    flat ∙ ap (λ (a : ℕ). parts a n s rs) (ea ∙ ap (λ (k : ℕ). 52 + (16 + 16 * k) + s) en ∙ ap (λ (k : ℕ). 52 + (16 + 16 * length rs) + k) es) ∙ ap (λ (k : ℕ). parts (52 + (16 + 16 * length rs) + (1 + length (names rs))) k s rs) en ∙ ap (λ (k : ℕ). parts (52 + (16 + 16 * length rs) + (1 + length (names rs))) (length rs) k rs) es
