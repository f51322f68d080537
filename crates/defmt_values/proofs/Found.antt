-- What a scan passes fits, and what fits is passed, with the sum of the weights.
use Rattle.std.proofs.Common.{◌≡◌, ◌<◌, ◌≤◌, inl, inr, ◌+◌, ◌-◌, ◌*◌, ◌==◌, nat_lt, nat_le, ℕ, Bool, true, false, List, [], ◌∷◌, length, Option, Some, None, Result, Ok, Err, refl, sym, ap, ◌∙◌, subst, arith, add-zero, cond}
use Rattle.std.proofs.lemmas.Bool.{ltb-true, leb-true, eqb-false}
use Rattle.defmt_values.specs.Plain.{Val, uint, int, flag, char, str, istr, bytes, bits, format, seq, float, sequence, Vals, no_vals, val, Elems, no_elems, elem, Nodes, no_nodes, node, elems_len, elems_empty}
use Rattle.defmt_values.specs.Fits.{IsForm, HasPieces, FitsVal, FitsVals, FitsElems, FitsNodes, weigh_val, weigh_vals, weigh_elems, weigh_nodes}
use Rattle.defmt_values.specs.Scan.{◌>>=◌, test, uint_cause, int_cause, flag_cause, char_cause, str_cause, istr_cause, bytes_cause, bits_cause, float_cause, node_cause, list_cause, count_cause, sequence_cause, form_in, form_of, form_at, element_form, pick, there, add, list_form, no_index, node_places, index_or, end_of, scan_val, scan_vals, scan_elems, scan_one, scan_nodes}
use Rattle.defmt_values.specs.Entries.{look, is_format, variant_at, Place, places_of}
use Rattle.defmt_values.proofs.Forms.{places_are}
use Rattle.defmt_values.proofs.Suits.{tested, uint_found, int_found, flag_found, char_found, str_found, node_found, istr_found, bytes_found, bits_found, list_found, float_found, sequence_found}
use Rattle.defmt_grammar.specs.declared.piece.Piece.{Piece}
use Rattle.defmt_grammar.specs.declared.slot.Slot.{Slot}
use Rattle.defmt_intern.specs.Body.{body_of}
use Rattle.defmt_intern.specs.Table.{Map}
use Rattle.defmt_intern.specs.declared.entry.Entry.{Entry}
use Rattle.defmt_intern.specs.declared.parsed.Parsed.{Parsed}
use Rattle.defmt_intern.specs.declared.parsed.Parsed.TheVariants.{Unsupported, Raw, One, Variants}

-- ---- chains

pub bound : {A B : Type 0} (x : Result A ℕ) (f : A → Result B ℕ) (y : B) → (x >>= f) ≡ Ok y → (a : A) × (x ≡ Ok a) × (f a ≡ Ok y)
bound (Ok a) f y h = (a, refl, h)
bound (Err e) f y h = absurd (cc)

abbrev done : ℕ → Result ℕ ℕ
done n = Ok n

pub same_sum : (s r : ℕ) → done s ≡ done r → s ≡ r
same_sum s r h = cc

pub positive : (n : ℕ) (b : Bool) → nat_lt 0 n ≡ b → b ≡ true → 0 < n
positive n b e h = ltb-true 0 n (e ∙ h)

abbrev done_form : Parsed → Result Parsed ℕ
done_form f = Ok f

same_form : (f g : Parsed) → done_form f ≡ done_form g → f ≡ g
same_form f g h = cc

abbrev done_pieces : List Piece → Result (List Piece) ℕ
done_pieces ps = Ok ps

same_pieces : (ps qs : List Piece) → done_pieces ps ≡ done_pieces qs → ps ≡ qs
same_pieces ps qs h = cc

-- ---- entries and pieces

form_found_in : (t : Map) (index : ℕ) (form : Parsed) (e : Entry) → look t index ≡ Some e → (suits : Bool) → is_format e.tag ≡ suits → (body : Parsed) → body_of t.language e ≡ body → form_in suits body ≡ Ok form → IsForm t index form
form_found_in t index form e l false g body p h = absurd (cc)
form_found_in t index form e l true g Unsupported p h = absurd (cc)
form_found_in t index form e l true g Raw p h = record { entry = e; there = l; tag = g; body = p ∙ same_form Raw form h }
form_found_in t index form e l true g (One ps) p h = record { entry = e; there = l; tag = g; body = p ∙ same_form (One ps) form h }
form_found_in t index form e l true g (Variants fs) p h = record { entry = e; there = l; tag = g; body = p ∙ same_form (Variants fs) form h }

form_found_at : (t : Map) (index : ℕ) (form : Parsed) (o : Option Entry) → look t index ≡ o → form_of t.language o ≡ Ok form → IsForm t index form
form_found_at t index form None e h = absurd (cc)
form_found_at t index form (Some entry) e h = form_found_in t index form entry e (is_format entry.tag) refl (body_of t.language entry) refl h

pub form_found : (t : Map) (index : ℕ) (form : Parsed) → form_at t index ≡ Ok form → IsForm t index form
form_found t index form h = form_found_at t index form (look t index) refl h

element_found_by : (t : Map) (index : ℕ) (form : Parsed) (b : Bool) → (index == 0) ≡ b → cond {A = Result Parsed ℕ} b (Err 5) (form_at t index) ≡ Ok form → (0 < index) × (form_at t index ≡ Ok form)
element_found_by t index form true e h = absurd (cc)
element_found_by t index form false e h = let k = eqb-false index 0 e in (omega (arith, k), h)

pub element_found : (t : Map) (index : ℕ) (form : Parsed) → element_form t index ≡ Ok form → (0 < index) × IsForm t index form
element_found t index form h = let e = element_found_by t index form (index == 0) refl h in (e.0, form_found t index form e.1)

there_found : (o : Option (List Piece)) (ps : List Piece) → there o ≡ Ok ps → o ≡ Some ps
there_found None ps h = absurd (cc)
there_found (Some qs) ps h = ap (λ q. Some q) (same_pieces qs ps h)

pub pick_found : (form : Parsed) (variant : Option ℕ) (ps : List Piece) → pick form variant ≡ Ok ps → HasPieces form variant ps
pick_found Unsupported None ps h = absurd (cc)
pick_found Unsupported (Some v) ps h = absurd (cc)
pick_found Raw None ps h = absurd (cc)
pick_found Raw (Some v) ps h = absurd (cc)
pick_found (One qs) None ps h = ap (λ q. One q) (same_pieces qs ps h)
pick_found (One qs) (Some v) ps h = absurd (cc)
pick_found (Variants forms) None ps h = absurd (cc)
pick_found (Variants forms) (Some v) ps h = (forms, refl, there_found (variant_at forms v) ps h)

add_found_by : (w s r : ℕ) (b : Bool) → nat_le (s + w) 8192 ≡ b → cond {A = Result ℕ ℕ} b (Ok (s + w)) (Err 7) ≡ Ok r → (s + w ≤ 8192) × (s + w ≡ r)
add_found_by w s r true e h = (leb-true (s + w) 8192 e, same_sum (s + w) r h)
add_found_by w s r false e h = absurd (cc)

pub add_found : (w s r : ℕ) → add w s ≡ Ok r → (s + w ≤ 8192) × (s + w ≡ r)
add_found w s r h = add_found_by w s r (nat_le (s + w) 8192) refl h

-- ---- the chain of a Format value

abbrev node_4 : Map → ℕ → ℕ → Vals → ℕ → List Piece → Result ℕ ℕ
node_4 t left w vs s ps = scan_vals t (left - 1) (places_of ps) w s vs

abbrev node_3 : Map → ℕ → ℕ → Option ℕ → Vals → Parsed → ℕ → Result ℕ ℕ
node_3 t left w variant vs form s = pick form variant >>= node_4 t left w vs s

abbrev node_2 : Map → ℕ → ℕ → ℕ → Option ℕ → Vals → Parsed → Result ℕ ℕ
node_2 t left w s variant vs form = add w s >>= node_3 t left w variant vs form

abbrev node_1 : Map → ℕ → Result Parsed ℕ → ℕ → ℕ → Option ℕ → Vals → Unit {0} → Result ℕ ℕ
node_1 t left found w s variant vs _ = found >>= node_2 t left w s variant vs

abbrev node_0 : Map → ℕ → Result Parsed ℕ → ℕ → ℕ → Option ℕ → Vals → Unit {0} → Result ℕ ℕ
node_0 t left found w s variant vs _ = scan_one t left found w s variant vs

abbrev list_4 : Slot → Elems → ℕ → Result ℕ ℕ
list_4 slot es s = count_cause slot (elems_len es) >>= λ _. Ok s

abbrev list_3 : Map → ℕ → Slot → ℕ → ℕ → Elems → Parsed → Result ℕ ℕ
list_3 t left slot w s es form = scan_elems t (left - 1) form w s es >>= list_4 slot es

abbrev list_2 : Map → ℕ → Slot → ℕ → ℕ → Option ℕ → Elems → Unit {0} → Result ℕ ℕ
list_2 t left slot w s index es _ = list_form t index >>= list_3 t left slot w s es

abbrev list_1 : Map → ℕ → Slot → ℕ → ℕ → Option ℕ → Elems → Result ℕ ℕ
list_1 t left slot w s index es = test (nat_lt 0 left) 6 >>= list_2 t left slot w s index es

abbrev none_1 : Slot → ℕ → Unit {0} → Result ℕ ℕ
none_1 slot s _ = count_cause slot 0 >>= λ _. Ok s

abbrev list_0 : Map → ℕ → Slot → ℕ → ℕ → Option ℕ → Elems → Unit {0} → Result ℕ ℕ
list_0 t left slot w s index es _ = cond {A = Result ℕ ℕ} (elems_empty es) (no_index index >>= none_1 slot s) (list_1 t left slot w s index es)

abbrev elem_3 : Map → ℕ → Parsed → ℕ → Elems → ℕ → Result ℕ ℕ
elem_3 t left form w es r = scan_elems t left form w r es

abbrev elem_2 : Map → ℕ → Parsed → ℕ → Vals → Elems → ℕ → List Piece → Result ℕ ℕ
elem_2 t left form w vs es s ps = scan_vals t left (places_of ps) w s vs >>= elem_3 t left form w es

abbrev elem_1 : Map → ℕ → Parsed → ℕ → Option ℕ → Vals → Elems → ℕ → Result ℕ ℕ
elem_1 t left form w variant vs es s = pick form variant >>= elem_2 t left form w vs es s

-- what a scan from s to r found: the weight, and that the limit is kept
pub record Sums (s n r : ℕ) : Type 0 where
  pub sum : s + n ≡ r
  pub kept : s ≤ 8192 → r ≤ 8192

-- a Format value, or an element of a sequence, that a scan from s to r found
pub record NodeFits (t : Map) (left : ℕ) (found : Result Parsed ℕ) (w s : ℕ) (variant : Option ℕ) (vs : Vals) (r : ℕ) : Type 0 where
  pub form : Parsed
  pub pieces : List Piece
  pub up : 0 < left
  pub there : found ≡ Ok form
  pub has : HasPieces form variant pieces
  pub values : FitsVals t (left - 1) (places_of pieces) vs
  pub sums : Sums s (w + weigh_vals t (places_of pieces) w vs) r

-- its weight by its entry
pub node_sums : (t : Map) (index w s : ℕ) (variant : Option ℕ) (vs : Vals) (form : Parsed) (ps : List Piece) (r : ℕ) → IsForm t index form → HasPieces form variant ps
    → Sums s (w + weigh_vals t (places_of ps) w vs) r → Sums s (w + weigh_vals t (node_places t index variant) w vs) r
node_sums t index w s variant vs form ps r f h sums = subst (λ (sl : List Place). Sums s (w + weigh_vals t sl w vs) r) (sym (places_are t index form variant ps f h)) sums

leaf : (s r : ℕ) → done s ≡ done r → Sums s 0 r
leaf s r h = let e : s ≡ r = same_sum s r h in record { sum = add-zero s ∙ e; kept = λ k. omega arith }

pub none_index : (index : Option ℕ) → no_index index ≡ Ok tt → index ≡ None
none_index None h = refl
none_index (Some i) h = absurd (cc)

no_elems_at : (es : Elems) → elems_empty es ≡ true → es ≡ no_elems
no_elems_at no_elems h = refl
no_elems_at (elem o vs es) h = absurd (cc)

some_elems_at : (es : Elems) → elems_empty es ≡ false → 0 < elems_len es
some_elems_at no_elems h = absurd (cc)
some_elems_at (elem o vs es) h = omega arith

index_form : (t : Map) (index : Option ℕ) (form : Parsed) → list_form t index ≡ Ok form → (i : ℕ) × (index ≡ Some i) × IsForm t i form
index_form t None form h = absurd (cc)
index_form t (Some i) form h = (i, refl, form_found t i form h)

abbrev ListIs : Map → ℕ → Slot → ℕ → ℕ → ℕ → Option ℕ → Elems → Type 0
ListIs t left slot w s r index es = FitsVal t left slot (seq index es) × Sums s (weigh_val t w (seq index es)) r

list_empty : (t : Map) (left : ℕ) (slot : Slot) (w s r : ℕ) (index : Option ℕ) (es : Elems) → list_cause slot ≡ Ok tt → es ≡ no_elems → (no_index index >>= none_1 slot s) ≡ Ok r → ListIs t left slot w s r index es
list_empty t left slot w s r index es k e h =
    let b1 = bound (no_index index) (none_1 slot s) r h in
    let b2 = bound (count_cause slot 0) (λ _. done s) r b1.2 in
    let f : FitsVal t left slot (seq index no_elems) = (list_found slot 0 k b2.1, inl (refl, none_index index b1.1)) in
    subst (λ (xs : Elems). ListIs t left slot w s r index xs) (sym e) (f, leaf s r b2.2)

list_some : (t : Map) (left : ℕ) (slot : Slot) (w s r : ℕ) (index : Option ℕ) (es : Elems)
    → ((i : ℕ) (form : Parsed) (u : ℕ) → IsForm t i form → scan_elems t (left - 1) form w s es ≡ Ok u → FitsElems t (left - 1) form es × Sums s (weigh_elems t i w es) u)
    → list_cause slot ≡ Ok tt → 0 < elems_len es → list_1 t left slot w s index es ≡ Ok r → ListIs t left slot w s r index es
list_some t left slot w s r index es ih k some h =
    let b1 = bound (test (nat_lt 0 left) 6) (list_2 t left slot w s index es) r h in
    let b2 = bound (list_form t index) (list_3 t left slot w s es) r b1.2 in
    let b3 = bound (scan_elems t (left - 1) b2.0 w s es) (list_4 slot es) r b2.2 in
    let b4 = bound (count_cause slot (elems_len es)) (λ _. done b3.0) r b3.2 in
    let i = index_form t index b2.0 b2.1 in
    let all = ih i.0 b2.0 b3.0 i.2 b3.1 in
    let e : b3.0 ≡ r = same_sum b3.0 r b4.2 in
    let n_is : weigh_elems t (index_or index) w es ≡ weigh_elems t i.0 w es = ap (λ o. weigh_elems t (index_or o) w es) i.1 in
    let up : 0 < left = positive left (nat_lt 0 left) refl (tested (nat_lt 0 left) 6 b1.1) in
    let f : FitsVal t left slot (seq index es) = (list_found slot (elems_len es) k b4.1, inr (i.0, b2.0, i.1, some, up, i.2, all.0)) in
    (f, record { sum = omega (arith, all.1.sum, n_is, e); kept = λ m. let q = all.1.kept m in omega (arith, q, e) })

list_by : (t : Map) (left : ℕ) (slot : Slot) (w s r : ℕ) (index : Option ℕ) (es : Elems) (b : Bool) → elems_empty es ≡ b
    → ((i : ℕ) (form : Parsed) (u : ℕ) → IsForm t i form → scan_elems t (left - 1) form w s es ≡ Ok u → FitsElems t (left - 1) form es × Sums s (weigh_elems t i w es) u)
    → list_cause slot ≡ Ok tt → cond {A = Result ℕ ℕ} b (no_index index >>= none_1 slot s) (list_1 t left slot w s index es) ≡ Ok r → ListIs t left slot w s r index es
list_by t left slot w s r index es true e ih k h = list_empty t left slot w s r index es k (no_elems_at es e) h
list_by t left slot w s r index es false e ih k h = list_some t left slot w s r index es ih k (some_elems_at es e) h

end_found : (slots : List Place) (s r : ℕ) → end_of slots s ≡ Ok r → (slots ≡ []) × Sums s 0 r
end_found [] s r h = (refl, leaf s r h)
end_found (x ∷ xs) s r h = absurd (cc)

pub node_in : (t : Map) (left : ℕ) (found : Result Parsed ℕ) (w s r : ℕ) (variant : Option ℕ) (vs : Vals)
    → ((ps : List Piece) (u : ℕ) → scan_vals t (left - 1) (places_of ps) w u vs ≡ Ok r → FitsVals t (left - 1) (places_of ps) vs × Sums u (weigh_vals t (places_of ps) w vs) r)
    → scan_one t left found w s variant vs ≡ Ok r → NodeFits t left found w s variant vs r
node_in t left found w s r variant vs ih h =
    let b1 = bound (test (nat_lt 0 left) 6) (node_1 t left found w s variant vs) r h in
    let b2 = bound found (node_2 t left w s variant vs) r b1.2 in
    let b3 = bound (add w s) (node_3 t left w variant vs b2.0) r b2.2 in
    let b4 = bound (pick b2.0 variant) (node_4 t left w vs b3.0) r b3.2 in
    let ps = pick_found b2.0 variant b4.0 b4.1 in
    let a = add_found w s b3.0 b3.1 in
    let all = ih b4.0 b3.0 b4.2 in
    let up : 0 < left = positive left (nat_lt 0 left) refl (tested (nat_lt 0 left) 6 b1.1) in
    record { form = b2.0; pieces = b4.0; up = up; there = b2.1; has = ps; values = all.0; sums = record { sum = omega (arith, a.1, all.1.sum); kept = λ m. all.1.kept (omega (arith, a.0, a.1)) } }

mutual
  unfolding scan_val

  pub val_found : (t : Map) (left : ℕ) (slot : Slot) (w s r : ℕ) (v : Val) → scan_val t left slot w s v ≡ Ok r → FitsVal t left slot v × Sums s (weigh_val t w v) r
  val_found t left slot w s r (uint n) h = let b = bound (uint_cause slot n) (λ _. done s) r h in (uint_found slot n b.1, leaf s r b.2)
  val_found t left slot w s r (int n) h = let b = bound (int_cause slot n) (λ _. done s) r h in (int_found slot n b.1, leaf s r b.2)
  val_found t left slot w s r (flag x) h = let b = bound (flag_cause slot) (λ _. done s) r h in (flag_found slot b.1, leaf s r b.2)
  val_found t left slot w s r (char x) h = let b = bound (char_cause slot) (λ _. done s) r h in (char_found slot b.1, leaf s r b.2)
  val_found t left slot w s r (str x) h = let b = bound (str_cause slot) (λ _. done s) r h in (str_found slot b.1, leaf s r b.2)
  val_found t left slot w s r (istr i) h = let b = bound (istr_cause t slot i) (λ _. done s) r h in (istr_found t slot i b.1, leaf s r b.2)
  val_found t left slot w s r (bytes x) h = let b = bound (bytes_cause slot (length x)) (λ _. done s) r h in (bytes_found slot (length x) b.1, leaf s r b.2)
  val_found t left slot w s r (bits n) h = let b = bound (bits_cause slot n) (λ _. done s) r h in (bits_found slot n b.1, leaf s r b.2)
  val_found t left slot w s r (format index variant vs) h =
      let b = bound (node_cause slot) (node_0 t left (form_at t index) w s variant vs) r h in
      let n = node_in t left (form_at t index) w s r variant vs (λ ps u k. vals_found t (left - 1) (places_of ps) w u r vs k) b.2 in
      let form = form_found t index n.form n.there in
      ((n.form, n.pieces, node_found slot b.1, n.up, form, n.has, n.values), node_sums t index w s variant vs n.form n.pieces r form n.has n.sums)
  val_found t left slot w s r (seq index es) h =
      let b0 = bound (list_cause slot) (list_0 t left slot w s index es) r h in
      list_by t left slot w s r index es (elems_empty es) refl (λ i form u f k. elems_found t (left - 1) i form w s u es f k) b0.1 b0.2
  val_found t left slot w s r (float n) h = let b = bound (float_cause slot n) (λ _. done s) r h in (float_found slot n b.1, leaf s r b.2)
  val_found t left slot w s r (sequence ns) h =
      let b = bound (sequence_cause slot) (λ _. scan_nodes t left w s ns) r h in
      let all = nodes_found t left w s r ns b.2 in
      ((sequence_found slot b.1, all.0), all.1)

  pub vals_found : (t : Map) (left : ℕ) (slots : List Place) (w s r : ℕ) (vs : Vals) → scan_vals t left slots w s vs ≡ Ok r → FitsVals t left slots vs × Sums s (weigh_vals t slots w vs) r
  vals_found t left slots w s r no_vals h = end_found slots s r h
  vals_found t left [] w s r (val v vs) h = absurd (cc)
  vals_found t left (x ∷ xs) w s r (val v vs) h =
      let b = bound (scan_val t left x.slot (x.uses * w) s v) (λ u. scan_vals t left xs w u vs) r h in
      let one = val_found t left x.slot (x.uses * w) s b.0 v b.1 in
      let more = vals_found t left xs w b.0 r vs b.2 in
      ((x, xs, refl, one.0, more.0), record { sum = omega (arith, one.1.sum, more.1.sum); kept = λ m. more.1.kept (one.1.kept m) })

  pub elems_found : (t : Map) (left index : ℕ) (form : Parsed) (w s r : ℕ) (es : Elems) → IsForm t index form → scan_elems t left form w s es ≡ Ok r → FitsElems t left form es × Sums s (weigh_elems t index w es) r
  elems_found t left index form w s r no_elems f h = (tt, leaf s r h)
  elems_found t left index form w s r (elem variant vs es) f h =
      let b1 = bound (add w s) (elem_1 t left form w variant vs es) r h in
      let b2 = bound (pick form variant) (elem_2 t left form w vs es b1.0) r b1.2 in
      let b3 = bound (scan_vals t left (places_of b2.0) w b1.0 vs) (elem_3 t left form w es) r b2.2 in
      let ps = pick_found form variant b2.0 b2.1 in
      let a = add_found w s b1.0 b1.1 in
      let n_is : weigh_vals t (node_places t index variant) w vs ≡ weigh_vals t (places_of b2.0) w vs = ap (λ sl. weigh_vals t sl w vs) (places_are t index form variant b2.0 f ps) in
      let one = vals_found t left (places_of b2.0) w b1.0 b3.0 vs b3.1 in
      let more = elems_found t left index form w b3.0 r es f b3.2 in
      ((b2.0, ps, one.0, more.0), record { sum = omega (arith, a.1, one.1.sum, more.1.sum, n_is); kept = λ m. more.1.kept (one.1.kept (omega (arith, a.0, a.1))) })

  pub nodes_found : (t : Map) (left w s r : ℕ) (ns : Nodes) → scan_nodes t left w s ns ≡ Ok r → FitsNodes t left ns × Sums s (weigh_nodes t w ns) r
  nodes_found t left w s r no_nodes h = (tt, leaf s r h)
  nodes_found t left w s r (node index variant vs ns) h =
      let b = bound (scan_one t left (element_form t index) w s variant vs) (λ u. scan_nodes t left w u ns) r h in
      let n = node_in t left (element_form t index) w s b.0 variant vs (λ ps u k. vals_found t (left - 1) (places_of ps) w u b.0 vs k) b.1 in
      let e = element_found t index n.form n.there in
      let sums = node_sums t index w s variant vs n.form n.pieces b.0 e.1 n.has n.sums in
      let more = nodes_found t left w b.0 r ns b.2 in
      ((n.form, n.pieces, e.0, n.up, e.1, n.has, n.values, more.0), record { sum = omega (arith, sums.sum, more.1.sum); kept = λ m. more.1.kept (sums.kept m) })
