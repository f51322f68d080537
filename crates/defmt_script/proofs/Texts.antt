-- The texts of a script's table have not many more bytes than the script.
use Rattle.std.proofs.Common.{◌≡◌, ◌≤◌, ◌+◌, ◌*◌, ◌-◌, ◌^◌, inl, inr, ℕ, suc, Bool, true, false, cond, List, [], ◌∷◌, Option, Some, None, Ok, refl, sym, ◌∙◌, ap, arith, length, take}
use Rattle.std.specs.Prelude.{◌==◌, IsSome, codes, slice_index}
use Rattle.std.specs.FinMap as name_map
use Rattle.std.specs.Fmt.{decimal}
use Rattle.std.specs.List.{onto_first, slice_split}
use Rattle.std.specs.Str.Lines.{lines, lines_of_parts}
use Rattle.std.proofs.lemmas.Fmt.{length-decimal-le}
use Rattle.std.proofs.lemmas.List.{length-take}
use Rattle.defmt_grammar.specs.declared.language.Language.TheVariants.{Base}
use Rattle.defmt_intern.specs.Entries as map
use Rattle.defmt_intern.specs.Table.{Map}
use Rattle.defmt_intern.specs.declared.entry.Entry.{Entry}
use Rattle.defmt_intern.specs.declared.entry.Tag.{Tag}
use Rattle.defmt_intern.specs.declared.entry.Tag.TheVariants as tags
use Rattle.defmt_lines.proofs.FormLaws.{strings_before}
use Rattle.defmt_lines.specs.Form.{StringsMayCome, in_order}
use Rattle.defmt_lines.specs.Line.{is_string_tag}
use Rattle.defmt_lines.specs.Settings.{Sets}
use Rattle.defmt_lines.specs.declared.form.Form.{Form}
use Rattle.defmt_lines.specs.declared.form.Form.TheVariants as forms
use Rattle.defmt_lines.specs.declared.settings.Settings.{Settings}
use Rattle.defmt_script.proofs.Counts.{len-added, no_names}
use Rattle.defmt_script.proofs.Settled.{is_setting}
use Rattle.defmt_script.proofs.Steadiness.{behind_line, nowhere, over_or_not}
use Rattle.defmt_script.proofs.StringSteadiness.{some_or_before}
use Rattle.defmt_script.proofs.Kept.{reads_kept}
use Rattle.defmt_script.proofs.Steps.{Ends, IsAdded, Keeps, set_to, total}
use Rattle.defmt_script.specs.Reads.{Reads, with_string}
use Rattle.defmt_script.specs.Script.{Script, count_strings, next_index}
use Rattle.defmt_script.specs.State.{State, closed, entry_at, no_lines, stamp_entry, table_behind, with_stamp_entry}
use Rattle.defmt_script.specs.Texts.{CountsTexts, IsKnown}

-- ---- the bytes of all lines

strip_len : (b : Bool) (line : List ℕ) → length (cond b (take (length line - 1) line) line) ≤ length line
strip_len true line = omega (arith, length-take (length line - 1) line)
strip_len false line = omega arith

last_total : (b : Bool) (line : List ℕ) → total (cond b [] (line ∷ [])) ≤ length line
last_total true line = omega arith
last_total false line = omega arith

parts_total : (parts : List (List ℕ)) → total (lines_of_parts parts) ≤ total parts
parts_total [] = omega arith
parts_total (line ∷ []) = omega (arith, last_total (length line == 0) line)
parts_total (line ∷ next ∷ more) = omega (arith, strip_len (slice_index line (length line - 1) == 13) line, parts_total (next ∷ more))

onto_total : (b : Bool) (x : ℕ) (parts : List (List ℕ)) → total (cond b ([] ∷ parts) (onto_first x parts)) ≤ suc (total parts)
onto_total true x parts = omega arith
onto_total false x [] = omega arith
onto_total false x (part ∷ parts) = omega arith

split_total : (test : ℕ → Bool) (text : List ℕ) → total (slice_split test text) ≤ length text
split_total test [] = omega arith
split_total test (x ∷ text) = omega (arith, onto_total (test x) x (slice_split test text), split_total test text)

lines_total : (text : List ℕ) → total (lines text) ≤ length text
lines_total text = omega (arith, parts_total (slice_split (λ b. b == 10) text), split_total (λ b. b == 10) text)

-- ---- what a count of texts says of a state

none_of : (o : Option Entry) → (IsSome o → ⊥) → o ≡ None
none_of None h = refl
none_of (Some e) h = absurd (h refl)

-- Each string has at most 11 bytes beside its text, and the timestamp's entry at most 20.
record IsWithin (count : Map → ℕ) (s : State) (bytes : ℕ) : Type 0 where
  few : count_strings s.script ≤ 65534
  free : StringsMayCome s.first → (index : ℕ) → IsSome (map.get s.script.table index) → index ≤ count_strings s.script
  opened : StringsMayCome s.first → count s.script.table ≤ bytes + 11 * count_strings s.script
  whole : count s.script.table ≤ bytes + 11 * count_strings s.script + 20

known : (tag : Tag) → is_string_tag tag ≡ true → IsKnown tag
known tag string = λ name is. let clash : true ≡ false = sym string ∙ ap is_string_tag is in absurd (cc clash)

module _ (count : Map → ℕ) (counts : CountsTexts count) where
  more_within : (s : State) (b n : ℕ) → IsWithin count s b → IsWithin count s (b + n)
  more_within s b n h = record { few = h.few; free = h.free; opened = λ low. omega (arith, h.opened low); whole = omega (arith, h.whole) }

  set_within : (s : State) (form : Form) (words : List (List ℕ)) (t : Settings) (b : ℕ) → in_order s.first form ≡ true → Sets form words s.script.settings (Ok t) → IsWithin count s b
      → IsWithin count (set_to s form t) b
  set_within s form words t b order given h =
      let may : StringsMayCome s.first = strings_before s.first form order (is_setting form words s.script.settings t given) in
      let none : count (map.empty_of t.language) ≡ 0 = counts.empty t.language in
      let strings : ℕ = count_strings s.script in
      let free : (m : Map) → Type 0 = λ m. (index : ℕ) → IsSome (map.get m index) → index ≤ strings in
      let opened : count (table_behind form t.language s.script.table) ≤ b + 11 * strings =
      behind_line (λ (m : Map). count m ≤ b + 11 * strings) form t.language s.script.table (h.opened may) (omega (arith, none)) in
      record {
        few = h.few;
        free = λ _. behind_line free form t.language s.script.table (h.free may) (λ index some. absurd (nowhere t.language index some));
        opened = λ _. opened;
        whole = omega (arith, opened);
      }

  -- an entry of a script at a new index
  one_more : (table : Map) (k : ℕ) (tag : Tag) (text : List ℕ) → (IsSome (map.get table k) → ⊥) → IsKnown tag → k ≤ 65535
      → count (map.insert table k (entry_at k tag text)) ≤ count table + length text + 11
  one_more table k tag text new is_known small =
      let more : count (map.insert table k (entry_at k tag text)) ≡ count table + (6 + length text + length (decimal k)) =
      counts.more table k (entry_at k tag text) (none_of (map.get table k) new) is_known in
      omega (arith, more, length-decimal-le 5 k (omega arith) (omega arith) (omega arith))

  string_within : (before : State) (name : List ℕ) (tag : Tag) (text : List ℕ) (b n : ℕ) → IsAdded before name tag text n → IsWithin count before b → IsWithin count (with_string before name tag text) (b + n)
  string_within before name tag text b n i h =
      let k : ℕ = next_index before.script in
      let new : IsSome (map.get before.script.table k) → ⊥ = λ some. absurd (omega (arith, h.free i.may k some)) in
      let added : count (map.insert before.script.table k (entry_at k tag text)) ≤ count before.script.table + length text + 11 =
      one_more before.script.table k tag text new (known tag i.string) (omega (arith, i.room)) in
      let len : name_map.len (name_map.insert before.script.names name k) ≡ count_strings before.script + 1 = len-added before.script.names name k i.new in
      record {
        few = omega (arith, i.room, len);
        free = λ _ index some. elim (some_or_before before.script.table k (entry_at k tag text) index some) [
          | inl same ↦ omega (arith, same, len)
          | inr old ↦ omega (arith, h.free i.may index old, len)
        ];
        opened = λ _. omega (arith, added, i.within, h.opened i.may, len);
        whole = omega (arith, added, i.within, h.opened i.may, len);
      }

  -- the timestamp's entry
  stamped : (o : Option (ℕ × ℕ)) (table : Map) (strings b : ℕ) → strings ≤ 65534 → ((index : ℕ) → IsSome (map.get table index) → index ≤ strings) → count table ≤ b + 11 * strings
      → count (with_stamp_entry o (strings + 1) table) ≤ b + 11 * strings + 20
  stamped None table strings b few free le = omega (arith, le)
  stamped (Some p) table strings b few free le =
      let k : ℕ = strings + 1 in
      let new : IsSome (map.get table k) → ⊥ = λ some. absurd (omega (arith, free k some)) in
      let added : count (map.insert table k (stamp_entry k)) ≤ count table + 9 + 11 = one_more table k tags.Timestamp (codes "{=u64:us}") new (λ name is. absurd (cc is)) (omega (arith, few)) in
      omega (arith, added, le)

  closed_by : (q : Bool) (s : State) (b : ℕ) → in_order s.first forms.Entry ≡ q → IsWithin count s b
      → IsWithin count (cond q (record s { first = forms.Statement; script = record s.script { table = with_stamp_entry s.script.settings.stamp (next_index s.script) s.script.table } }) s) b
  closed_by true s b may h = record {
    few = h.few;
    free = λ string. absurd (over_or_not forms.Statement string refl);
    opened = λ string. absurd (over_or_not forms.Statement string refl);
    whole = stamped s.script.settings.stamp s.script.table (count_strings s.script) b h.few (h.free may) (h.opened may);
  }
  closed_by false s b is h = h

  closed_within : (s : State) (b : ℕ) → IsWithin count s b → IsWithin count (closed s) b
  closed_within s b h = closed_by (in_order s.first forms.Entry) s b refl h

  keeps_within : Keeps (IsWithin count)
  keeps_within = record {
    more = more_within;
    settings = λ s form words t b order given h. set_within s form words t b order given h;
    string = string_within;
    closes = closed_within;
    statement = λ s writer stm b taken h. record { few = h.few; free = h.free; opened = h.opened; whole = h.whole };
    text = λ s writer terminal text b said h. record { few = h.few; free = h.free; opened = h.opened; whole = h.whole };
  }

  begins_within : IsWithin count no_lines 0
  begins_within = record {
    few = omega (arith, no_names);
    free = λ _ index some. absurd (nowhere Base index some);
    opened = λ _. omega (arith, counts.empty Base);
    whole = omega (arith, counts.empty Base);
  }

pub texts_are_few : (count : Map → ℕ) (text : List ℕ) (script : Script) → CountsTexts count → Reads text (Ok script) → count script.table ≤ length text + 2 ^ 20
texts_are_few count text script counts reads =
    let ends : Ends (IsWithin count) script (0 + total (lines text)) = reads_kept (IsWithin count) (keeps_within count counts) text script reads (begins_within count counts) in
    omega (arith, ap (λ (s : Script). count s.table) ends.script_is, ends.holds.whole, ends.holds.few, lines_total text)
