-- One value of each spelling.
use Rattle.std.proofs.Common.{◌≡◌, ◌-◌, ℕ, nat_lt, Bool, true, false, List, Option, Some, None, Result, Ok, Err, refl, sym, ap, subst, ◌∙◌, length}
use Rattle.defmt_grammar.specs.declared.kind.Kind.TheVariants as kinds
use Rattle.defmt_grammar.specs.declared.piece.Piece.{Piece}
use Rattle.defmt_grammar.specs.declared.slot.Slot.{Slot}
use Rattle.defmt_grammar.specs.declared.slot.Slot.TheVariants as slots
use Rattle.defmt_intern.specs.Table.{Map}
use Rattle.defmt_intern.specs.declared.parsed.Parsed.{Parsed}
use Rattle.defmt_shapes.specs.Shape as shapes
use Rattle.defmt_shapes.specs.Shape.{Shape, Shapes, Items, no_items, item, SpellsItems, StartsThere}
use Rattle.defmt_spelling.proofs.Heads.{empty_starts}
use Rattle.defmt_spelling.specs.Leaves.{decimal_cause, hexadecimal_cause, negative_cause, empty_cause, sum_or}
use Rattle.defmt_spelling.specs.Meaning.{bits_at, index_of, decimal_at, hexadecimal_at, negative_at, meant_val, meant_vals, meant_elems}
use Rattle.defmt_spelling.specs.Names.{NameMap}
use Rattle.defmt_spelling.specs.Reading.{GivesValue, element_scan, found_scan, form_scan, item_scan, meant_inside}
use Rattle.defmt_spelling.specs.declared.fault.ArgFault.{ArgFault}
use Rattle.defmt_values.specs.Entries.{places_of}
use Rattle.defmt_values.specs.Plain.{Val, flag, char, str, istr, bytes, format, seq, float, Vals, Elems, no_elems, elem, elems_empty, elems_len}
use Rattle.defmt_values.specs.Scan.{◌>>=◌, test, flag_cause, float_cause, char_cause, str_cause, istr_cause, bytes_cause, node_cause, list_cause, count_cause, element_form, form_at, add, pick, places_in, node_places, scan_val, scan_vals, scan_elems}
use Rattle.defmt_values.specs.declared.value.Value.{Value}

module _ (t : Map) (left weight sum : ℕ) where
  -- ---- values without values inside

  pub decimal_scan : (slot : Slot) (n : ℕ) → scan_val t left slot weight sum (decimal_at slot n) ≡ sum_or (decimal_cause slot n) sum
  unfolding scan_val
  decimal_scan (slots.One (kinds.Uint size)) n = refl
  decimal_scan (slots.One (kinds.Int size)) n = refl
  decimal_scan (slots.One kinds.Bool) n = refl
  decimal_scan (slots.One kinds.Char) n = refl
  decimal_scan (slots.One kinds.Str) n = refl
  decimal_scan (slots.One kinds.Istr) n = refl
  decimal_scan (slots.One kinds.Bytes) n = refl
  decimal_scan (slots.One (kinds.ByteArray count)) n = refl
  decimal_scan (slots.One kinds.Format) n = refl
  decimal_scan (slots.One kinds.FormatSlice) n = refl
  decimal_scan (slots.One (kinds.FormatArray count)) n = refl
  decimal_scan (slots.One (kinds.Bits lo hi)) n = refl
  decimal_scan (slots.One (kinds.Float size)) n = refl
  decimal_scan (slots.One kinds.Debug) n = refl
  decimal_scan (slots.One kinds.Display) n = refl
  decimal_scan (slots.One kinds.Sequence) n = refl
  decimal_scan (slots.Bits first width) n = refl

  pub hexadecimal_scan : (slot : Slot) (n : ℕ) → scan_val t left slot weight sum (hexadecimal_at slot n) ≡ sum_or (hexadecimal_cause slot n) sum
  unfolding scan_val
  hexadecimal_scan (slots.One (kinds.Uint size)) n = refl
  hexadecimal_scan (slots.One (kinds.Int size)) n = refl
  hexadecimal_scan (slots.One kinds.Bool) n = refl
  hexadecimal_scan (slots.One kinds.Char) n = refl
  hexadecimal_scan (slots.One kinds.Str) n = refl
  hexadecimal_scan (slots.One kinds.Istr) n = refl
  hexadecimal_scan (slots.One kinds.Bytes) n = refl
  hexadecimal_scan (slots.One (kinds.ByteArray count)) n = refl
  hexadecimal_scan (slots.One kinds.Format) n = refl
  hexadecimal_scan (slots.One kinds.FormatSlice) n = refl
  hexadecimal_scan (slots.One (kinds.FormatArray count)) n = refl
  hexadecimal_scan (slots.One (kinds.Bits lo hi)) n = refl
  hexadecimal_scan (slots.One (kinds.Float size)) n = refl
  hexadecimal_scan (slots.One kinds.Debug) n = refl
  hexadecimal_scan (slots.One kinds.Display) n = refl
  hexadecimal_scan (slots.One kinds.Sequence) n = refl
  hexadecimal_scan (slots.Bits first width) n = refl

  pub negative_scan : (slot : Slot) (n : ℕ) → scan_val t left slot weight sum (negative_at slot n) ≡ sum_or (negative_cause slot n) sum
  unfolding scan_val
  negative_scan (slots.One (kinds.Uint size)) n = refl
  negative_scan (slots.One (kinds.Int size)) n = refl
  negative_scan (slots.One kinds.Bool) n = refl
  negative_scan (slots.One kinds.Char) n = refl
  negative_scan (slots.One kinds.Str) n = refl
  negative_scan (slots.One kinds.Istr) n = refl
  negative_scan (slots.One kinds.Bytes) n = refl
  negative_scan (slots.One (kinds.ByteArray count)) n = refl
  negative_scan (slots.One kinds.Format) n = refl
  negative_scan (slots.One kinds.FormatSlice) n = refl
  negative_scan (slots.One (kinds.FormatArray count)) n = refl
  negative_scan (slots.One (kinds.Bits lo hi)) n = refl
  negative_scan (slots.One (kinds.Float size)) n = refl
  negative_scan (slots.One kinds.Debug) n = refl
  negative_scan (slots.One kinds.Display) n = refl
  negative_scan (slots.One kinds.Sequence) n = refl
  negative_scan (slots.Bits first width) n = refl

  pub empty_scan : (slot : Slot) → scan_val t left slot weight sum (seq None no_elems) ≡ sum_or (empty_cause slot) sum
  unfolding scan_val
  empty_scan (slots.One (kinds.Uint size)) = refl
  empty_scan (slots.One (kinds.Int size)) = refl
  empty_scan (slots.One kinds.Bool) = refl
  empty_scan (slots.One kinds.Char) = refl
  empty_scan (slots.One kinds.Str) = refl
  empty_scan (slots.One kinds.Istr) = refl
  empty_scan (slots.One kinds.Bytes) = refl
  empty_scan (slots.One (kinds.ByteArray count)) = refl
  empty_scan (slots.One kinds.Format) = refl
  empty_scan (slots.One kinds.FormatSlice) = refl
  empty_scan (slots.One (kinds.FormatArray count)) = refl
  empty_scan (slots.One (kinds.Bits lo hi)) = refl
  empty_scan (slots.One (kinds.Float size)) = refl
  empty_scan (slots.One kinds.Debug) = refl
  empty_scan (slots.One kinds.Display) = refl
  empty_scan (slots.One kinds.Sequence) = refl
  empty_scan (slots.Bits first width) = refl

  -- a leaf that was given with its sum
  arm : (slot : Slot) (v : Val) (cause : Result (Unit {0}) ℕ) (result : Result (Value × ℕ) ArgFault) → scan_val t left slot weight sum v ≡ sum_or cause sum → GivesValue result v (sum_or cause sum) → GivesValue result v (scan_val t left slot weight sum v)
  arm slot v cause result e h = subst (GivesValue result v) (sym e) h

  module _ (names : NameMap) (slot : Slot) (result : Result (Value × ℕ) ArgFault) where
    abbrev pub Gives : Shape → Type 0
    Gives s = GivesValue result (meant_val names t slot s) (scan_val t left slot weight sum (meant_val names t slot s))

    pub decimal_arm : (s : Shape) (n : ℕ) → s ≡ shapes.decimal n → GivesValue result (decimal_at slot n) (sum_or (decimal_cause slot n) sum) → Gives s
    unfolding meant_val
    decimal_arm s n e h = subst Gives (sym e) (arm slot (decimal_at slot n) (decimal_cause slot n) result (decimal_scan slot n) h)

    pub hexadecimal_arm : (s : Shape) (n : ℕ) → s ≡ shapes.hexadecimal n → GivesValue result (hexadecimal_at slot n) (sum_or (hexadecimal_cause slot n) sum) → Gives s
    unfolding meant_val
    hexadecimal_arm s n e h = subst Gives (sym e) (arm slot (hexadecimal_at slot n) (hexadecimal_cause slot n) result (hexadecimal_scan slot n) h)

    pub empty_arm : (s : Shape) → s ≡ shapes.empty → GivesValue result (seq None no_elems) (sum_or (empty_cause slot) sum) → Gives s
    unfolding meant_val
    empty_arm s e h = subst Gives (sym e) (arm slot (seq None no_elems) (empty_cause slot) result (empty_scan slot) h)

    pub negative_arm : (s : Shape) (n : ℕ) → s ≡ shapes.negative n → GivesValue result (negative_at slot n) (sum_or (negative_cause slot n) sum) → Gives s
    unfolding meant_val
    negative_arm s n e h = subst Gives (sym e) (arm slot (negative_at slot n) (negative_cause slot n) result (negative_scan slot n) h)

    pub float_arm : (s : Shape) (x : List ℕ) → s ≡ shapes.float x → GivesValue result (float (bits_at slot x)) (sum_or (float_cause slot (bits_at slot x)) sum) → Gives s
    unfolding meant_val scan_val
    float_arm s x e h = subst Gives (sym e) h

    pub flag_arm : (s : Shape) (b : Bool) → s ≡ shapes.flag b → GivesValue result (flag b) (sum_or (flag_cause slot) sum) → Gives s
    unfolding meant_val scan_val
    flag_arm s b e h = subst Gives (sym e) h

    pub char_arm : (s : Shape) (c : ℕ) → s ≡ shapes.character c → GivesValue result (char c) (sum_or (char_cause slot) sum) → Gives s
    unfolding meant_val scan_val
    char_arm s c e h = subst Gives (sym e) h

    pub str_arm : (s : Shape) (x : List ℕ) → s ≡ shapes.quoted x → GivesValue result (str x) (sum_or (str_cause slot) sum) → Gives s
    unfolding meant_val scan_val
    str_arm s x e h = subst Gives (sym e) h

    pub istr_arm : (s : Shape) (name : List ℕ) → s ≡ shapes.interned name → GivesValue result (istr (index_of names name)) (sum_or (istr_cause t slot (index_of names name)) sum) → Gives s
    unfolding meant_val scan_val
    istr_arm s name e h = subst Gives (sym e) h

    pub bytes_arm : (s : Shape) (x : List ℕ) → s ≡ shapes.bytes x → GivesValue result (bytes x) (sum_or (bytes_cause slot (length x)) sum) → Gives s
    unfolding meant_val scan_val
    bytes_arm s x e h = subst Gives (sym e) h

  -- ---- Format values

  form_first : (b : Bool) (found : Result Parsed ℕ) (g : Parsed → Result ℕ ℕ) → (test b 6 >>= λ _. (found >>= g)) ≡ ((test b 6 >>= λ _. found) >>= g)
  form_first true found g = refl
  form_first false found g = refl

  -- behind the tests of a Format value's slot, depth and entry come its weight, its variant and its values
  pub node_is : (slot : Slot) (index : ℕ) (variant : Option ℕ) (vs : Vals) → node_cause slot ≡ Ok tt
      → scan_val t left slot weight sum (format index variant vs) ≡ (form_scan t left index >>= λ form. item_scan t (left - 1) form weight sum variant vs)
  unfolding scan_val
  node_is slot index variant vs h = rw h (form_first (nat_lt 0 left) (form_at t index) (λ form. item_scan t (left - 1) form weight sum variant vs))

  -- the same of an element of a sequence
  pub element_is : (index : ℕ) (variant : Option ℕ) (vs : Vals) → found_scan t left (element_form t index) weight sum variant vs ≡ (element_scan t left index >>= λ form. item_scan t (left - 1) form weight sum variant vs)
  unfolding scan_val
  element_is index variant vs = form_first (nat_lt 0 left) (element_form t index) (λ form. item_scan t (left - 1) form weight sum variant vs)

  pub node_wrong : (slot : Slot) (index : ℕ) (variant : Option ℕ) (vs : Vals) (c : ℕ) → node_cause slot ≡ Err c → scan_val t left slot weight sum (format index variant vs) ≡ Err c
  unfolding scan_val
  node_wrong slot index variant vs c h = rw h refl

  -- ---- lists

  pub list_is : (slot : Slot) (index : ℕ) (es : Elems) → list_cause slot ≡ Ok tt → elems_empty es ≡ false
      → scan_val t left slot weight sum (seq (Some index) es) ≡ (form_scan t left index >>= λ form. (scan_elems t (left - 1) form weight sum es >>= λ r. sum_or (count_cause slot (elems_len es)) r))
  unfolding scan_val
  list_is slot index es h n = rw (h, n) (form_first (nat_lt 0 left) (form_at t index) (λ form. (scan_elems t (left - 1) form weight sum es >>= λ r. sum_or (count_cause slot (elems_len es)) r)))

  pub list_wrong : (slot : Slot) (index : ℕ) (es : Elems) (c : ℕ) → list_cause slot ≡ Err c → scan_val t left slot weight sum (seq (Some index) es) ≡ Err c
  unfolding scan_val
  list_wrong slot index es c h = rw h refl

-- the form, where a level is left
there_by : (t : Map) (b : Bool) (index : ℕ) (form : Parsed) → (test b 6 >>= λ _. form_at t index) ≡ Ok form → form_at t index ≡ Ok form
there_by t true index form h = h
there_by t false index form h = absurd (cc)

pub form_there : (t : Map) (left index : ℕ) (form : Parsed) → form_scan t left index ≡ Ok form → form_at t index ≡ Ok form
form_there t left index form h = there_by t (nat_lt 0 left) index form h

pub places_there : (t : Map) (index : ℕ) (form : Parsed) (variant : Option ℕ) → form_at t index ≡ Ok form → node_places t index variant ≡ places_in (pick form variant)
places_there t index form variant h = rw h refl

module _ (names : NameMap) (t : Map) (left weight sum : ℕ) (slot : Slot) (name : List ℕ) where
  abbrev node_scan : Option ℕ → Shapes → Result ℕ ℕ
  node_scan variant ss = scan_val t left slot weight sum (meant_val names t slot (shapes.call name variant ss))

  pub node_kind : (variant : Option ℕ) (ss : Shapes) (c : ℕ) → node_cause slot ≡ Err c → node_scan variant ss ≡ Err c
  unfolding meant_val
  node_kind variant ss c h = node_wrong t left weight sum slot (index_of names name) variant _ c h

  pub node_entry : (variant : Option ℕ) (ss : Shapes) (c : ℕ) → node_cause slot ≡ Ok tt → form_scan t left (index_of names name) ≡ Err c → node_scan variant ss ≡ Err c
  unfolding meant_val
  node_entry variant ss c k h = node_is t left weight sum slot (index_of names name) variant (meant_vals names t (node_places t (index_of names name) variant) ss) k
      ∙ ap (λ (r : Result Parsed ℕ). r >>= λ form. item_scan t (left - 1) form weight sum variant (meant_vals names t (node_places t (index_of names name) variant) ss)) h

  -- the values behind the tests
  inside_is : (form : Parsed) (variant : Option ℕ) (ss : Shapes) → form_scan t left (index_of names name) ≡ Ok form → meant_vals names t (node_places t (index_of names name) variant) ss ≡ meant_inside names t form variant ss
  inside_is form variant ss h = ap (λ places. meant_vals names t places ss) (places_there t (index_of names name) form variant (form_there t left (index_of names name) form h))

  pub node_inside : (form : Parsed) (variant : Option ℕ) (ss : Shapes) (r : Result ℕ ℕ) → node_cause slot ≡ Ok tt → form_scan t left (index_of names name) ≡ Ok form
      → item_scan t (left - 1) form weight sum variant (meant_inside names t form variant ss) ≡ r → node_scan variant ss ≡ r
  unfolding meant_val
  node_inside form variant ss r k h e =
      node_is t left weight sum slot (index_of names name) variant (meant_vals names t (node_places t (index_of names name) variant) ss) k
      ∙ ap (λ (x : Result Parsed ℕ). x >>= λ f. item_scan t (left - 1) f weight sum variant (meant_vals names t (node_places t (index_of names name) variant) ss)) h
      ∙ ap (λ (vs : Vals). item_scan t (left - 1) form weight sum variant vs) (inside_is form variant ss h) ∙ e

  pub node_value : (index : ℕ) (form : Parsed) (variant given : Option ℕ) (ss : Shapes) (args : Vals) → index_of names name ≡ index → form_scan t left (index_of names name) ≡ Ok form → given ≡ variant → args ≡ meant_inside names t form variant ss
      → format index given args ≡ meant_val names t slot (shapes.call name variant ss)
  unfolding meant_val
  node_value index form variant given ss args i h v a = let inside = inside_is form variant ss h in cc

  abbrev list_scan : Items → Result ℕ ℕ
  list_scan items = scan_val t left slot weight sum (meant_val names t slot (shapes.sequence name items))

  pub list_kind : (items : Items) (c : ℕ) → list_cause slot ≡ Err c → list_scan items ≡ Err c
  unfolding meant_val
  list_kind items c h = list_wrong t left weight sum slot (index_of names name) _ c h

  some_elems : (index : ℕ) (inside : List ℕ) (items : Items) → StartsThere inside → SpellsItems t.language inside items → elems_empty (meant_elems names t index items) ≡ false
  unfolding meant_val
  some_elems index inside no_items n h = absurd (empty_starts inside h n)
  some_elems index inside (item variant ss more) n h = refl

  pub list_entry : (inside : List ℕ) (items : Items) (c : ℕ) → list_cause slot ≡ Ok tt → StartsThere inside → SpellsItems t.language inside items → form_scan t left (index_of names name) ≡ Err c → list_scan items ≡ Err c
  unfolding meant_val
  list_entry inside items c k n s h =
      list_is t left weight sum slot (index_of names name) (meant_elems names t (index_of names name) items) k (some_elems (index_of names name) inside items n s)
      ∙ ap (λ (x : Result Parsed ℕ). x >>= λ f. (scan_elems t (left - 1) f weight sum (meant_elems names t (index_of names name) items) >>= λ r. sum_or (count_cause slot (elems_len (meant_elems names t (index_of names name) items))) r)) h

  -- the elements, and then how many there are
  pub list_inside : (inside : List ℕ) (items : Items) (form : Parsed) (r q : Result ℕ ℕ) → list_cause slot ≡ Ok tt → StartsThere inside → SpellsItems t.language inside items → form_scan t left (index_of names name) ≡ Ok form
      → scan_elems t (left - 1) form weight sum (meant_elems names t (index_of names name) items) ≡ r
      → (r >>= λ s. sum_or (count_cause slot (elems_len (meant_elems names t (index_of names name) items))) s) ≡ q → list_scan items ≡ q
  unfolding meant_val
  list_inside inside items form r q k n s h e f =
      list_is t left weight sum slot (index_of names name) (meant_elems names t (index_of names name) items) k (some_elems (index_of names name) inside items n s)
      ∙ ap (λ (x : Result Parsed ℕ). x >>= λ f. (scan_elems t (left - 1) f weight sum (meant_elems names t (index_of names name) items) >>= λ r. sum_or (count_cause slot (elems_len (meant_elems names t (index_of names name) items))) r)) h
      ∙ ap (λ (x : Result ℕ ℕ). x >>= λ s. sum_or (count_cause slot (elems_len (meant_elems names t (index_of names name) items))) s) e ∙ f

  pub list_value : (index : ℕ) (items : Items) (es : Elems) → index_of names name ≡ index → es ≡ meant_elems names t (index_of names name) items → seq (Some index) es ≡ meant_val names t slot (shapes.sequence name items)
  unfolding meant_val
  list_value index items es i e = cc

-- ---- an element

module _ (names : NameMap) (t : Map) (left weight sum : ℕ) (form : Parsed) where
  pub item_values : (variant : Option ℕ) (ss : Shapes) (s : ℕ) (ps : List Piece) (r : Result ℕ ℕ) → add weight sum ≡ Ok s → pick form variant ≡ Ok ps → scan_vals t left (places_of ps) weight s (meant_vals names t (places_of ps) ss) ≡ r
      → item_scan t left form weight sum variant (meant_inside names t form variant ss) ≡ r
  item_values variant ss s ps r h k e = rw (h, k) e

  pub inside_there : (variant : Option ℕ) (ss : Shapes) (ps : List Piece) → pick form variant ≡ Ok ps → meant_inside names t form variant ss ≡ meant_vals names t (places_of ps) ss
  inside_there variant ss ps k = rw k refl

two : (x : Result ℕ ℕ) (y : Result (List Piece) ℕ) (f : ℕ → List Piece → Result ℕ ℕ) (g : ℕ → Result ℕ ℕ) → (x >>= λ s. (y >>= λ ps. (f s ps >>= g))) ≡ ((x >>= λ s. (y >>= λ ps. f s ps)) >>= g)
two (Err e) y f g = refl
two (Ok s) (Err e) f g = refl
two (Ok s) (Ok ps) f g = refl

pub elem_is : (t : Map) (left : ℕ) (form : Parsed) (weight sum : ℕ) (variant : Option ℕ) (vs : Vals) (es : Elems)
    → scan_elems t left form weight sum (elem variant vs es) ≡ (item_scan t left form weight sum variant vs >>= λ r. scan_elems t left form weight r es)
unfolding scan_val
elem_is t left form weight sum variant vs es = two (add weight sum) (pick form variant) (λ s ps. scan_vals t left (places_of ps) weight s vs) (λ r. scan_elems t left form weight r es)
