-- Symbol after symbol.
use Rattle.std.proofs.Common.{◌≡◌, ◌≢◌, ◌≤◌, ◌<◌, ◌+◌, inl, inr, ℕ, List, length, get_or, Option, Some, None, refl, sym, ap, subst, ◌∙◌, arith, option_map}
use Rattle.std.specs.Prelude.{IsSome, is_some, slice_get}
use Rattle.std.proofs.lemmas.Bool.{cases_lt, cases_eq}
use Rattle.std.proofs.lemmas.Option.{slice_get_within, slice_get-get_or, slice_get-map}
use Rattle.byte_images.specs.First.{FirstToFail}
use Rattle.byte_images.proofs.FirstLaws.{one_first_check}
use Rattle.defmt_grammar.specs.declared.language.Language.{Language}
use Rattle.defmt_intern.specs.declared.entry.Entry.{Entry}
use Rattle.defmt_intern.specs.declared.entry.Tag.TheVariants.{Timestamp}
use Rattle.defmt_intern.specs.Entries as map
use Rattle.defmt_intern.specs.Table.{Map, InsertRefused, EntryRefused, IsStamp}
use Rattle.defmt_intern.proofs.EntriesLaws.{get-empty_of, same_map}
use Rattle.defmt_intern.proofs.TableLaws.{here, apart}
use Rattle.elf_section.specs.Symbol.{PlainSymbol, plain_ref, plain_refs}
use Rattle.elf_section.specs.declared.symbols.SymbolRef.{SymbolRef}
use Rattle.elf_table.specs.Names.{At, NameCheck, has_entry, is_small, is_single, is_short, is_one_stamp, place, cause_of, Holds, IsTableOf, NamesRefused, Made, SaysNone, StepRefused, Puts}
use Rattle.elf_table.specs.Said.{Says}
use Rattle.elf_table.proofs.SaidLaws.{one_said}

pub same_there : {X : Type 0} (o : Option X) (a b : X) → o ≡ Some a → o ≡ Some b → a ≡ b
same_there o a b e f = let k : Some a ≡ Some b = sym e ∙ f in cc

-- a check of row n, by its index
row_n : (language : Language) (symbols : List PlainSymbol) (n k : ℕ) (other : NameCheck) → (place other).row ≡ n → (place other).index < k → (0 < k → Holds language symbols (has_entry n)) → (1 < k → Holds language symbols (is_small n)) → (2 < k → Holds language symbols (is_single n)) → (3 < k → Holds language symbols (is_short n)) → (4 < k → Holds language symbols (is_one_stamp n)) → Holds language symbols other
row_n language symbols n k (has_entry p) e l a b c d f = subst (λ (r : ℕ). Holds language symbols (has_entry r)) (sym e) (a (omega arith))
row_n language symbols n k (is_small p) e l a b c d f = subst (λ (r : ℕ). Holds language symbols (is_small r)) (sym e) (b (omega arith))
row_n language symbols n k (is_single p) e l a b c d f = subst (λ (r : ℕ). Holds language symbols (is_single r)) (sym e) (c (omega arith))
row_n language symbols n k (is_short p) e l a b c d f = subst (λ (r : ℕ). Holds language symbols (is_short r)) (sym e) (d (omega arith))
row_n language symbols n k (is_one_stamp p) e l a b c d f = subst (λ (r : ℕ). Holds language symbols (is_one_stamp r)) (sym e) (f (omega arith))

index_below : (other : NameCheck) → (place other).index < 5
index_below (has_entry p) = omega arith
index_below (is_small p) = omega arith
index_below (is_single p) = omega arith
index_below (is_short p) = omega arith
index_below (is_one_stamp p) = omega arith

-- ---- what stands of symbol n

module _ (language : Language) (symbols : List PlainSymbol) (n : ℕ) (table : Map) (made : Made language symbols n table) (s : PlainSymbol) (there : At symbols n s) where
  entry_there : (e : Entry) → Says language s.name e → Holds language symbols (has_entry n)
  entry_there e names = λ t at. (e, subst (λ (u : PlainSymbol). Says language u.name e) (same_there (slice_get symbols n) s t there at) names)

  small_there : s.value ≤ 65535 → Holds language symbols (is_small n)
  small_there le = λ t at. subst (λ (u : PlainSymbol). u.value ≤ 65535) (same_there (slice_get symbols n) s t there at) le

  -- an earlier symbol is in the table
  in_table : (q : ℕ) (t : PlainSymbol) → q < n → At symbols q t → (f : Entry) × Says language t.name f × (map.get table t.value ≡ Some f)
  in_table q t l at = let e = made.passed (has_entry q) l t at in (e.0, e.1, made.each q t e.0 l at e.1)

  free_alone : (IsSome (map.get table s.value) → ⊥) → (q : ℕ) (t : PlainSymbol) → q < n → At symbols q t → t.value ≢ s.value
  free_alone free q t l at e = let i = in_table q t l at in free (ap (λ (v : ℕ). is_some (map.get table v)) (sym e) ∙ ap is_some i.2)

  single_there : (IsSome (map.get table s.value) → ⊥) → Holds language symbols (is_single n)
  single_there free = λ u at q t l at' e. free_alone free q t l at' (e ∙ ap (λ (x : PlainSymbol). x.value) (same_there (slice_get symbols n) u s at there))

  short_there : (e : Entry) → Says language s.name e → length e.text ≤ 4096 → Holds language symbols (is_short n)
  short_there e names le = λ u f at g. subst (λ (x : Entry). length x.text ≤ 4096) (one_said language s.name e f names (subst (λ (x : PlainSymbol). Says language x.name f) (same_there (slice_get symbols n) u s at there) g)) le

  stamp_there : (e : Entry) → Says language s.name e → (e.tag ≡ Timestamp → (i : ℕ) → IsStamp table i → ⊥) → Holds language symbols (is_one_stamp n)
  stamp_there e names none = λ u f at g is q t h l at' names' is'.
      let same : e ≡ f = one_said language s.name e f names (subst (λ (x : PlainSymbol). Says language x.name f) (same_there (slice_get symbols n) u s at there) g) in
      let i = in_table q t l at' in
      let that : i.0 ≡ h = one_said language t.name i.0 h i.1 names' in
      none (ap (λ (x : Entry). x.tag) same ∙ is) t.value (record { entry = h; there = i.2 ∙ ap Some that; is_stamp = is' })

  -- what is in the table stands for an earlier symbol
  taken_by : (o : Option Entry) → map.get table s.value ≡ o → IsSome o → Holds language symbols (is_single n) → ⊥
  taken_by None e i h = absurd cc
  taken_by (Some f) e i h = let p = made.only s.value f e in h s there p.0 p.1 p.2 p.3 p.4

  taken : IsSome (map.get table s.value) → Holds language symbols (is_single n) → ⊥
  taken some h = taken_by (map.get table s.value) refl some h

  -- the timestamp of the table is that of an earlier symbol
  stamped : (e : Entry) → Says language s.name e → e.tag ≡ Timestamp → (i : ℕ) → IsStamp table i → Holds language symbols (is_one_stamp n) → ⊥
  stamped e names is i a h = let p = made.only i a.entry a.there in h s e there names is p.0 p.1 a.entry p.2 p.3 p.5 a.is_stamp

  -- ---- refusals

  refuse : (check : NameCheck) → (place check).row ≡ n → (Holds language symbols check → ⊥) → ((other : NameCheck) → (place other).row ≡ n → (place other).index < (place check).index → Holds language symbols other) → NamesRefused language symbols (cause_of check) n
  refuse check row fails before = record {
    check = check;
    first = record { fails = fails; earlier = λ other b. elim b [ inl l ↦ made.passed other (omega (arith, l, row)) | inr same ↦ before other (same.0 ∙ row) same.1 ] };
    cause_is = refl;
    symbol_is = sym row;
  }

  none : (k : ℕ) (P : Type 0) → k < k → P
  none k P l = absurd (omega arith)

  refuse_unread : SaysNone language s.name → NamesRefused language symbols 3 n
  refuse_unread no_entry = refuse (has_entry n) refl (λ h. let e = h s there in no_entry e.0 e.1) (λ other row l. absurd (omega arith))

  refuse_large : 65535 < s.value → (e : Entry) → Says language s.name e → NamesRefused language symbols 6 n
  refuse_large large e names = refuse (is_small n) refl (λ h. let le = h s there in absurd (omega arith))
      (λ other row l. row_n language symbols n 1 other row l (λ _. entry_there e names) (λ b. absurd (omega arith)) (λ b. absurd (omega arith)) (λ b. absurd (omega arith)) (λ b. absurd (omega arith)))

  refuse_double : (e : Entry) → Says language s.name e → s.value ≤ 65535 → IsSome (map.get table s.value) → NamesRefused language symbols 2 n
  refuse_double e names small some = refuse (is_single n) refl (taken some)
      (λ other row l. row_n language symbols n 2 other row l (λ _. entry_there e names) (λ _. small_there small) (λ b. absurd (omega arith)) (λ b. absurd (omega arith)) (λ b. absurd (omega arith)))

  refuse_long : (e : Entry) → Says language s.name e → s.value ≤ 65535 → (IsSome (map.get table s.value) → ⊥) → 4096 < length e.text → NamesRefused language symbols 4 n
  refuse_long e names small free long = refuse (is_short n) refl (λ h. let le = h s e there names in absurd (omega arith))
      (λ other row l. row_n language symbols n 3 other row l (λ _. entry_there e names) (λ _. small_there small) (λ _. single_there free) (λ b. absurd (omega arith)) (λ b. absurd (omega arith)))

  refuse_stamp : (e : Entry) → Says language s.name e → s.value ≤ 65535 → (IsSome (map.get table s.value) → ⊥) → length e.text ≤ 4096 → e.tag ≡ Timestamp → (i : ℕ) → IsStamp table i → NamesRefused language symbols 5 n
  refuse_stamp e names small free short is i a = refuse (is_one_stamp n) refl (stamped e names is i a)
      (λ other row l. row_n language symbols n 4 other row l (λ _. entry_there e names) (λ _. small_there small) (λ _. single_there free) (λ _. short_there e names short) (λ b. absurd (omega arith)))

  refuse_entry : (e : Entry) (cause : ℕ) → Says language s.name e → s.value ≤ 65535 → (IsSome (map.get table s.value) → ⊥) → EntryRefused table e cause → NamesRefused language symbols cause n
  refuse_entry e cause names small free (inl x) = subst (λ (c : ℕ). NamesRefused language symbols c n) (sym x.0) (refuse_long e names small free x.1)
  refuse_entry e cause names small free (inr x) =
      let short : length e.text ≤ 4096 = elim (cases_lt 4096 (length e.text)) [ inl l ↦ absurd (x.1 l) | inr le ↦ le ] in
      subst (λ (c : ℕ). NamesRefused language symbols c n) (sym x.0) (refuse_stamp e names small free short x.2.0 x.2.1.0 x.2.1.1)

  refuse_insert : (e : Entry) (cause : ℕ) → Says language s.name e → s.value ≤ 65535 → InsertRefused table s.value e cause → NamesRefused language symbols cause n
  refuse_insert e cause names small (inl x) = subst (λ (c : ℕ). NamesRefused language symbols c n) (sym x.0) (refuse_double e names small x.1)
  refuse_insert e cause names small (inr x) = refuse_entry e cause names small x.0 x.1

  spoken_is : (e : Entry) → Says table.language s.name e → Says language s.name e
  spoken_is e said = subst (λ (l : Language). Says l s.name e) made.spoken said

  pub refuse_step : (cause : ℕ) → StepRefused table s cause → NamesRefused language symbols cause n
  refuse_step cause (inl x) = subst (λ (c : ℕ). NamesRefused language symbols c n) (sym x.0) (refuse_unread (subst (λ (l : Language). SaysNone l s.name) made.spoken x.1))
  refuse_step cause (inr (inl x)) = subst (λ (c : ℕ). NamesRefused language symbols c n) (sym x.0) (refuse_large x.1 x.2.0 (spoken_is x.2.0 x.2.1))
  refuse_step cause (inr (inr x)) = refuse_insert x.0 cause (spoken_is x.0 x.1) x.2 x.3

  -- ---- one symbol more

  free_of : (e : Entry) → ((cause : ℕ) → InsertRefused table s.value e cause → ⊥) → IsSome (map.get table s.value) → ⊥
  free_of e may some = may 2 (inl (refl, some))

  short_of : (e : Entry) → ((cause : ℕ) → InsertRefused table s.value e cause → ⊥) → length e.text ≤ 4096
  short_of e may = elim (cases_lt 4096 (length e.text)) [ inl l ↦ absurd (may 4 (inr (free_of e may, inl (refl, l)))) | inr le ↦ le ]

  first_of_all : (e : Entry) → ((cause : ℕ) → InsertRefused table s.value e cause → ⊥) → e.tag ≡ Timestamp → (i : ℕ) → IsStamp table i → ⊥
  first_of_all e may is i a = let short = short_of e may in may 5 (inr (free_of e may, inr (refl, (λ (l : 4096 < length e.text). absurd (omega arith)), (is, (i, a)))))

  each_more : (e : Entry) (new : Map) → Says language s.name e → (IsSome (map.get table s.value) → ⊥) → new ≡ map.insert table s.value e → (p : ℕ) (t : PlainSymbol) (f : Entry) → p < n + 1 → At symbols p t → Says language t.name f → map.get new t.value ≡ Some f
  each_more e new names free is p t f l at g = elim (cases_lt p n) [
    | inl before ↦ ap (λ (m : Map). map.get m t.value) is ∙ apart table s.value e t.value (free_alone free p t before at) ∙ made.each p t f before at g
    | inr le ↦
        let now : p ≡ n = omega arith in
        let same : s ≡ t = same_there (slice_get symbols n) s t there (subst (λ (q : ℕ). At symbols q t) now at) in
        let one : e ≡ f = one_said language s.name e f names (subst (λ (x : PlainSymbol). Says language x.name f) (sym same) g) in
        ap (λ (m : Map). map.get m t.value) is ∙ ap (λ (x : PlainSymbol). map.get (map.insert table s.value e) x.value) (sym same) ∙ here table s.value e ∙ ap Some one
  ]

  only_more : (e : Entry) (new : Map) → Says language s.name e → new ≡ map.insert table s.value e → (i : ℕ) (f : Entry) → map.get new i ≡ Some f → (p : ℕ) × (t : PlainSymbol) × (p < n + 1) × At symbols p t × (t.value ≡ i) × Says language t.name f
  only_more e new names is i f h = elim (cases_eq i s.value) [
    | inl same ↦
        let got : Some e ≡ Some f = sym (here table s.value e) ∙ ap (map.get (map.insert table s.value e)) (sym same) ∙ ap (λ (m : Map). map.get m i) (sym is) ∙ h in
        let one : e ≡ f = cc in
        (n, s, omega arith, there, sym same, subst (Says language s.name) one names)
    | inr other ↦
        let old = made.only i f (sym (apart table s.value e i other) ∙ ap (λ (m : Map). map.get m i) (sym is) ∙ h) in
        let l = old.2 in
        (old.0, old.1, omega arith, old.3, old.4, old.5)
  ]

  pub made_more : (new : Map) → Puts table new s → Made language symbols (n + 1) new
  made_more new put =
      let e = put.entry in
      let names = spoken_is e put.names in
      let free = free_of e put.may in
      record {
        spoken = ap (λ (m : Map). m.language) put.new_is ∙ made.spoken;
        passed = λ check l. elim (cases_lt (place check).row n) [
          | inl before ↦ made.passed check before
          | inr le ↦ row_n language symbols n 5 check (let k : (place check).row ≡ n = omega arith in k) (index_below check)
              (λ _. entry_there e names) (λ _. small_there put.small) (λ _. single_there free) (λ _. short_there e names (short_of e put.may)) (λ _. stamp_there e names (first_of_all e put.may))
        ];
        each = each_more e new names free put.new_is;
        only = only_more e new names put.new_is;
      }

-- ---- from none to all

pub made_none : (language : Language) (symbols : List PlainSymbol) → Made language symbols 0 (map.empty_of language)
made_none language symbols = record {
  spoken = refl;
  passed = λ check l. absurd (omega arith);
  each = λ p s e l at names. absurd (omega arith);
  only = λ i e h. absurd (let k : map.get (map.empty_of language) i ≡ None = get-empty_of language i in cc);
}

-- there is no symbol past the end
past : (symbols : List PlainSymbol) (p : ℕ) (s : PlainSymbol) → length symbols ≤ p → At symbols p s → ⊥
past symbols p s le at = let l = slice_get_within symbols p s at in absurd (omega arith)

holds_past : (language : Language) (symbols : List PlainSymbol) (check : NameCheck) → length symbols ≤ (place check).row → Holds language symbols check
holds_past language symbols (has_entry p) le = λ s at. absurd (past symbols p s le at)
holds_past language symbols (is_small p) le = λ s at. absurd (past symbols p s le at)
holds_past language symbols (is_single p) le = λ s at q t l at' e. past symbols p s le at
holds_past language symbols (is_short p) le = λ s e at names. absurd (past symbols p s le at)
holds_past language symbols (is_one_stamp p) le = λ s e at names is q t f l at' names' is'. past symbols p s le at

pub made_all : (language : Language) (symbols : List PlainSymbol) (table : Map) → Made language symbols (length symbols) table → IsTableOf language symbols table
made_all language symbols table m = record {
  spoken = m.spoken;
  passes = λ check. elim (cases_lt (place check).row (length symbols)) [ inl l ↦ m.passed check l | inr le ↦ holds_past language symbols check le ];
  each = λ p s e at names. m.each p s e (slice_get_within symbols p s at) at names;
  only = λ i e h. let o = m.only i e h in (o.0, o.1, o.3, o.4, o.5);
}

-- ---- exactly one answer

in_other : (language : Language) (symbols : List PlainSymbol) (a b : Map) → IsTableOf language symbols a → IsTableOf language symbols b → (i : ℕ) (e : Entry) → map.get a i ≡ Some e → map.get b i ≡ Some e
in_other language symbols a b x y i e h = let o = x.only i e h in ap (map.get b) (sym o.3) ∙ y.each o.0 o.1 e o.2 o.4

same_look : (o p : Option Entry) → ((e : Entry) → o ≡ Some e → p ≡ Some e) → ((e : Entry) → p ≡ Some e → o ≡ Some e) → o ≡ p
same_look None None f g = refl
same_look None (Some e) f g = g e refl
same_look (Some e) p f g = sym (f e refl)

pub one_table : (language : Language) (symbols : List PlainSymbol) (a b : Map) → IsTableOf language symbols a → IsTableOf language symbols b → a ≡ b
one_table language symbols a b x y = same_map a b (x.spoken ∙ sym y.spoken) (λ i. same_look (map.get a i) (map.get b i) (in_other language symbols a b x y i) (in_other language symbols b a y x i))

same_check : (a b : NameCheck) → (place a).row ≡ (place b).row → (place a).index ≡ (place b).index → a ≡ b
same_check (has_entry p) (has_entry q) r i = ap has_entry r
same_check (has_entry p) (is_small q) r i = absurd (omega arith)
same_check (has_entry p) (is_single q) r i = absurd (omega arith)
same_check (has_entry p) (is_short q) r i = absurd (omega arith)
same_check (has_entry p) (is_one_stamp q) r i = absurd (omega arith)
same_check (is_small p) (has_entry q) r i = absurd (omega arith)
same_check (is_small p) (is_small q) r i = ap is_small r
same_check (is_small p) (is_single q) r i = absurd (omega arith)
same_check (is_small p) (is_short q) r i = absurd (omega arith)
same_check (is_small p) (is_one_stamp q) r i = absurd (omega arith)
same_check (is_single p) (has_entry q) r i = absurd (omega arith)
same_check (is_single p) (is_small q) r i = absurd (omega arith)
same_check (is_single p) (is_single q) r i = ap is_single r
same_check (is_single p) (is_short q) r i = absurd (omega arith)
same_check (is_single p) (is_one_stamp q) r i = absurd (omega arith)
same_check (is_short p) (has_entry q) r i = absurd (omega arith)
same_check (is_short p) (is_small q) r i = absurd (omega arith)
same_check (is_short p) (is_single q) r i = absurd (omega arith)
same_check (is_short p) (is_short q) r i = ap is_short r
same_check (is_short p) (is_one_stamp q) r i = absurd (omega arith)
same_check (is_one_stamp p) (has_entry q) r i = absurd (omega arith)
same_check (is_one_stamp p) (is_small q) r i = absurd (omega arith)
same_check (is_one_stamp p) (is_single q) r i = absurd (omega arith)
same_check (is_one_stamp p) (is_short q) r i = absurd (omega arith)
same_check (is_one_stamp p) (is_one_stamp q) r i = ap is_one_stamp r

pub one_check : (language : Language) (symbols : List PlainSymbol) (a b : NameCheck) → FirstToFail place (Holds language symbols) a → FirstToFail place (Holds language symbols) b → a ≡ b
one_check language symbols a b x y = one_first_check same_check a b x y

-- ---- the code's lists

pub symbol_at : (symbols : List SymbolRef) (p : ℕ) (d : SymbolRef) → p < length symbols → At (plain_refs symbols) p (plain_ref (get_or symbols p d))
symbol_at symbols p d l = slice_get-map plain_ref symbols p ∙ ap (option_map plain_ref) (slice_get-get_or symbols p d l)
