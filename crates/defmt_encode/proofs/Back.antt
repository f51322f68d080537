-- The bytes of fitting values read as these values, whatever follows.
use Rattle.std.proofs.Common.{◌≡◌, ◌<◌, ◌≤◌, inl, inr, ◌^◌, ◌+◌, ◌-◌, ◌*◌, ◌==◌, ℕ, zero, suc, false, List, [], ◌∷◌, ◌++◌, length, Option, Some, None, refl, sym, ap, ◌∙◌, subst, arith, append_assoc, length-append, add_assoc, add-zero, add-one, Ok}
use Rattle.std.proofs.lemmas.Bool.{ne_eqb}
use Rattle.byteorder.specs.Endian.{little_bytes}
use Rattle.defmt_grammar.specs.declared.kind.Kind.TheVariants as kinds
use Rattle.defmt_grammar.specs.declared.piece.Piece.{Piece}
use Rattle.defmt_grammar.specs.declared.slot.Slot.{Slot}
use Rattle.defmt_grammar.specs.declared.slot.Slot.TheVariants as slots
use Rattle.defmt_intern.specs.Table.{Map}
use Rattle.defmt_intern.specs.declared.parsed.Parsed.{Parsed}
use Rattle.defmt_values.specs.Entries.{look, Place, places_of}
use Rattle.defmt_values.specs.Fits.{IsForm, HasPieces, IsList, FitsVal, FitsVals, FitsElems, FitsNodes, weigh_val, weigh_vals, weigh_elems, weigh_nodes}
use Rattle.defmt_values.specs.Plain.{Val, uint, int, flag, char, str, istr, bytes, bits, format, seq, float, sequence, Vals, no_vals, val, Elems, no_elems, elem, Nodes, no_nodes, node, elems_len, nodes_len}
use Rattle.defmt_values.specs.Scan.{node_places, index_or}
use Rattle.defmt_values.proofs.Forms.{index_small, places_are}
use Rattle.defmt_encode.specs.Carry.{variant_byte, count_bytes, node_slots, slots_at, bytes_val, bytes_vals, bytes_elems, bytes_nodes}
use Rattle.defmt_encode.specs.Lengths.{TextFits, CountFits, LengthFits, LengthsFit, ElemsLengthsFit, NodesLengthsFit}
use Rattle.defmt_encode.specs.Read.{Read, ◌⇒◌, OneAt, number_at, form_of, each_at, elem_at, elems_at, indexed_at, node_at, some_at, member_at, nodes_at, slot_at, value_at, below}
use Rattle.defmt_values.specs.Sound.{IsSound, AreSound, ElemsSound, NodesSound}
use Rattle.defmt_encode.proofs.Chains.{done, passes}
use Rattle.defmt_encode.proofs.Entries.{form_back, node_slots_are}
use Rattle.defmt_encode.proofs.FindsAll.{nodes_tail, nodes_behind, nodes_rest}
use Rattle.defmt_encode.proofs.Joins.{value_is}
use Rattle.defmt_encode.proofs.Numbers.{number_back, length_little}
use Rattle.defmt_encode.proofs.ReadsBack.{keeps, uint_back, int_back, flag_back, char_back, str_back, shown_back, float_back, istr_back, slice_back, array_back, window_back, variant_back, adds, below_is, some_is}
use Rattle.defmt_encode.proofs.Uses.{AreUsed, form_used, weight_some, elems_weigh}

-- ---- one step each

-- an element, from its arguments
pub elem_from : (t : Map) (left : ℕ) (form : Parsed) (variant : Option ℕ) (ps : List Piece) (w s : ℕ) (vs : Vals) (body rest : List ℕ) (u : ℕ)
    → HasPieces form variant ps → s + w ≤ 8192
    → each_at (value_at t left) (places_of ps) w (s + w) (body ++ rest) ≡ done (vs, u, rest)
    → elem_at (value_at t left) form w s ((variant_byte variant ++ body) ++ rest) ≡ done ((variant, vs), u, rest)
elem_from t left form variant ps w s vs body rest u h light e =
    rw (append_assoc (variant_byte variant) body rest, adds w s light, variant_back form variant ps (body ++ rest) h, e) refl

-- what stands behind an index, from its arguments
pub indexed_from : (t : Map) (left index : ℕ) (form : Parsed) (variant : Option ℕ) (ps : List Piece) (w s : ℕ) (vs : Vals) (rest : List ℕ)
    → IsForm t index form → HasPieces form variant ps → s + (w + weigh_vals t (places_of ps) w vs) ≤ 8192
    → each_at (value_at t left) (places_of ps) w (s + w) (bytes_vals t (slots_at (places_of ps)) vs ++ rest) ≡ done (vs, (s + w) + weigh_vals t (places_of ps) w vs, rest)
    → indexed_at t (value_at t left) index w s ((variant_byte variant ++ bytes_vals t (node_slots t index variant) vs) ++ rest)
    ≡ done ((variant, vs), s + (w + weigh_vals t (node_places t index variant) w vs), rest)
indexed_from t left index form variant ps w s vs rest i h light e =
    let slots_is : node_slots t index variant ≡ slots_at (places_of ps) = node_slots_are t index form variant ps i h in
    let places_is : node_places t index variant ≡ places_of ps = places_are t index form variant ps i h in
    let body : List ℕ = bytes_vals t (slots_at (places_of ps)) vs in
    let n : ℕ = weigh_vals t (places_of ps) w vs in
    let f : form_of t.language (look t index) ≡ done form = form_back t index form variant ps i h in
    let a = elem_from t left form variant ps w s vs body rest ((s + w) + n) h (omega (arith, light)) e in
    rw (slots_is, places_is, f) (a ∙ ap (λ (m : ℕ). done ((variant, vs), m, rest)) (add_assoc s w n))

-- a Format value, from what stands behind its index
pub node_from : (t : Map) (left index : ℕ) (variant : Option ℕ) (w s : ℕ) (vs : Vals) (body rest : List ℕ) (u : ℕ)
    → index < 256 ^ 2
    → indexed_at t (value_at t left) index w s ((variant_byte variant ++ body) ++ rest) ≡ done ((variant, vs), u, rest)
    → node_at t (value_at t left) w s (((little_bytes 2 index ++ variant_byte variant) ++ body) ++ rest) ≡ done (format index variant vs, u, rest)
node_from t left index variant w s vs body rest u small e =
    let joins : ((little_bytes 2 index ++ variant_byte variant) ++ body) ++ rest ≡ little_bytes 2 index ++ ((variant_byte variant ++ body) ++ rest) =
    ap (λ (x : List ℕ). x ++ rest) (append_assoc (little_bytes 2 index) (variant_byte variant) body) ∙ append_assoc (little_bytes 2 index) (variant_byte variant ++ body) rest in
    rw (joins, number_back 2 index ((variant_byte variant ++ body) ++ rest) small, e) refl

-- one more value, from its own bytes and those of the others
pub step_back : (t : Map) (left : ℕ) (x : Place) (others : List Place) (w s a b : ℕ) (v : Val) (vs : Vals) (one more rest : List ℕ)
    → slot_at t (below t left) x.slot (x.uses * w) s (one ++ (more ++ rest)) ≡ done (v, s + a, more ++ rest)
    → each_at (value_at t left) others w (s + a) (more ++ rest) ≡ done (vs, (s + a) + b, rest)
    → each_at (value_at t left) (x ∷ others) w s ((one ++ more) ++ rest) ≡ done (val v vs, s + (a + b), rest)
unfolding each_at
step_back t left x others w s a b v vs one more rest h k =
    let h' : value_at t left x.slot (x.uses * w) s (one ++ (more ++ rest)) ≡ done (v, s + a, more ++ rest) = ap (λ f. f x.slot (x.uses * w) s (one ++ (more ++ rest))) (sym (value_is t left)) ∙ h in
    rw (append_assoc one more rest, h', k) (ap (λ n. done (val v vs, n, rest)) (add_assoc s a b))

-- one more element
pub elems_step : (t : Map) (left count : ℕ) (form : Parsed) (variant : Option ℕ) (w s a b : ℕ) (vs : Vals) (es : Elems) (one more rest : List ℕ)
    → elem_at (value_at t left) form w s (one ++ (more ++ rest)) ≡ done ((variant, vs), s + a, more ++ rest)
    → elems_at (value_at t left) form count w (s + a) (more ++ rest) ≡ done (es, (s + a) + b, rest)
    → elems_at (value_at t left) form (count + 1) w s ((one ++ more) ++ rest) ≡ done (elem variant vs es, s + (a + b), rest)
unfolding elems_at
elems_step t left count form variant w s a b vs es one more rest h k =
    rw (add-one, append_assoc one more rest, h, k) (ap (λ n. done (elem variant vs es, n, rest)) (add_assoc s a b))

-- a list with elements, from these
pub list_from : (t : Map) (left index : ℕ) (form : Parsed) (count w s u : ℕ) (es : Elems) (body rest : List ℕ)
    → 0 < left → 0 < count → index < 256 ^ 2 → form_of t.language (look t index) ≡ done form
    → elems_at (value_at t (left - 1)) form count w s (body ++ rest) ≡ done (es, u, rest)
    → some_at t (below t left) count w s (little_bytes 2 index ++ (body ++ rest)) ≡ done (seq (Some index) es, u, rest)
list_from t left index form count w s u es body rest h k small f e =
    some_is t left count w s (little_bytes 2 index ++ (body ++ rest)) h k
    ∙ (rw (number_back 2 index (body ++ rest) small, f, e) refl)

-- some elements: the form of the first one tells that of the entry
pub some_form : (t : Map) (left index : ℕ) (form : Parsed) (es : Elems) → IsForm t index form → 0 < elems_len es → FitsElems t left form es → form_of t.language (look t index) ≡ done form
some_form t left index form no_elems f h g = absurd (omega arith)
some_form t left index form (elem variant vs es) f h g = form_back t index form variant g.0 f g.1

-- the count in front
pub listed_back : (t : Map) (one : Option OneAt) (slot : Slot) (count w s : ℕ) (v : Val) (u : ℕ) (index body rest : List ℕ) → IsList slot count → count < 2 ^ 32
    → some_at t one count w s (index ++ (body ++ rest)) ≡ done (v, u, rest)
    → slot_at t one slot w s (((count_bytes slot count ++ index) ++ body) ++ rest) ≡ done (v, u, rest)
listed_back t one slot count w s v u index body rest (inl k) h e =
    let joins : ((little_bytes 4 count ++ index) ++ body) ++ rest ≡ little_bytes 4 count ++ (index ++ (body ++ rest)) =
    append_assoc (little_bytes 4 count ++ index) body rest ∙ append_assoc (little_bytes 4 count) index (body ++ rest) in
    rw k (ap (λ (x : List ℕ). slot_at t one (slots.One kinds.FormatSlice) w s x) joins
    ∙ ap (λ (q : Read (ℕ × List ℕ)). q ⇒ λ c. some_at t one c.0 w s c.1) (number_back 4 count (index ++ (body ++ rest)) h) ∙ e)
listed_back t one slot count w s v u index body rest (inr k) h e = rw (k, append_assoc index body rest) e

empty_back : (t : Map) (one : Option OneAt) (slot : Slot) (w s : ℕ) (rest : List ℕ) → IsList slot 0 → slot_at t one slot w s (((count_bytes slot 0 ++ []) ++ []) ++ rest) ≡ done (seq None no_elems, s, rest)
empty_back t one slot w s rest (inl k) =
    let e : number_at 4 (((little_bytes 4 0 ++ []) ++ []) ++ rest) ≡ done (0, rest) = number_back 4 0 rest (omega arith) in
    rw (k, e) refl
empty_back t one slot w s rest (inr k) = rw k refl

-- an element of a sequence that is read stands in front of those behind it
pub nodes_pass : (t : Map) (one : Option OneAt) (n index w s u : ℕ) (variant : Option ℕ) (vs : Vals) (from tail : List ℕ) → index < 256 ^ 2 → 0 < index
    → member_at t one index w s from ≡ done ((variant, vs), u, tail)
    → nodes_at t one (suc n) w s (little_bytes 2 index ++ from) ≡ nodes_tail t one n w index ((variant, vs), u, tail)
unfolding nodes_at
nodes_pass t one n index w s u variant vs from tail small some e =
    let ne : (index == 0) ≡ false = ne_eqb index 0 (λ z. omega (arith, some, z)) in
    passes (number_at 2 (little_bytes 2 index ++ from)) (nodes_rest t one n w s) (index, from) (nodes_tail t one n w index ((variant, vs), u, tail)) (number_back 2 index from small)
    (ap (λ d. nodes_behind t one n w s (index, from) d) ne ∙ passes (member_at t one index w s from) (nodes_tail t one n w index) ((variant, vs), u, tail) (nodes_tail t one n w index ((variant, vs), u, tail)) e refl)

-- the index 0 ends it
nodes_ended : (t : Map) (one : Option OneAt) (n w s : ℕ) (rest : List ℕ) → nodes_at t one (suc n) w s (little_bytes 2 0 ++ rest) ≡ done (no_nodes, s, rest)
unfolding nodes_at
nodes_ended t one n w s rest = passes (number_at 2 (little_bytes 2 0 ++ rest)) (nodes_rest t one n w s) (0, rest) (done (no_nodes, s, rest)) (number_back 2 0 rest (omega arith)) refl

-- each element has two bytes and more
pub nodes_few : (t : Map) (ns : Nodes) → nodes_len ns ≤ length (bytes_nodes t ns)
unfolding bytes_nodes
nodes_few t no_nodes = omega arith
nodes_few t (node index variant vs ns) =
    let body : List ℕ = bytes_vals t (node_slots t index variant) vs in
    let head : List ℕ = little_bytes 2 index ++ variant_byte variant in
    omega (arith, length-append (head ++ body) (bytes_nodes t ns), length-append head body, length-append (little_bytes 2 index) (variant_byte variant), length_little 2 index, nodes_few t ns)

-- the bytes of an element, in front of those behind it
pub node_parts : (head variant body more rest : List ℕ) → (((head ++ variant) ++ body) ++ more) ++ rest ≡ head ++ ((variant ++ body) ++ (more ++ rest))
node_parts head variant body more rest =
    append_assoc ((head ++ variant) ++ body) more rest ∙ append_assoc (head ++ variant) body (more ++ rest) ∙ append_assoc head variant (body ++ (more ++ rest))
    ∙ ap (λ (x : List ℕ). head ++ x) (sym (append_assoc variant body (more ++ rest)))

-- ---- values in one another

mutual
  unfolding bytes_val each_at elems_at

  pub val_back : (t : Map) (left : ℕ) (slot : Slot) (w s : ℕ) (rest : List ℕ) (v : Val)
      → FitsVal t left slot v → IsSound v → 0 < w → LengthFits t slot v → s + weigh_val t w v ≤ 8192
      → slot_at t (below t left) slot w s (bytes_val t slot v ++ rest) ≡ done (v, s + weigh_val t w v, rest)
  val_back t left slot w s rest (uint n) f g some short light = keeps (uint n) s rest _ (rw f.slot_is (uint_back s rest f.size n f.in_range))
  val_back t left slot w s rest (int n) f g some short light = keeps (int n) s rest _ (rw f.slot_is (int_back s rest f.size n f.in_range))
  val_back t left slot w s rest (flag b) f g some short light = keeps (flag b) s rest _ (rw f (flag_back s rest b))
  val_back t left slot w s rest (char c) f g some short light = keeps (char c) s rest _ (rw f (char_back s rest c g))
  val_back t left slot w s rest (str x) f g some short light = elim f [
    | inl e ↦
        let k : length x < 2 ^ 32 = subst (λ (q : Slot). TextFits q (length x)) e short in
        keeps (str x) s rest _ (rw e (str_back s rest x k g))
    | inr (inl e) ↦ keeps (str x) s rest _ (rw e (shown_back s rest x g))
    | inr (inr e) ↦ keeps (str x) s rest _ (rw e (shown_back s rest x g))
  ]
  val_back t left slot w s rest (istr index) f g some short light = keeps (istr index) s rest _ (rw f.0 (istr_back s rest t index f.1))
  val_back t left slot w s rest (bytes x) f g some short light = elim f [
    | inl e ↦
        let k : length x < 2 ^ 32 = subst (λ (q : Slot). CountFits q (length x)) e short in
        keeps (bytes x) s rest _ (rw e (slice_back s rest x k))
    | inr e ↦ keeps (bytes x) s rest _ (rw e (array_back s rest x))
  ]
  val_back t left slot w s rest (bits n) f g some short light = keeps (bits n) s rest _ (rw f.slot_is (window_back s rest f.first f.width n f.below f.above))
  val_back t left slot w s rest (format index variant vs) f g some short light =
      let form : Parsed = f.0 in
      let ps : List Piece = f.1 in
      let slots_is : node_slots t index variant ≡ slots_at (places_of ps) = node_slots_are t index form variant ps f.4 f.5 in
      let n : ℕ = weigh_vals t (places_of ps) w vs in
      let n_is : weigh_vals t (node_places t index variant) w vs ≡ n = ap (λ q. weigh_vals t q w vs) (places_are t index form variant ps f.4 f.5) in
      let k : LengthsFit t (slots_at (places_of ps)) vs = subst (λ (q : List Slot). LengthsFit t q vs) slots_is short in
      let e = vals_back t (left - 1) (places_of ps) w (s + w) rest vs f.6 g some (form_used t index form variant ps f.4 f.5) k (omega (arith, light, n_is)) in
      let a = indexed_from t (left - 1) index form variant ps w s vs rest f.4 f.5 (omega (arith, light, n_is)) e in
      rw (f.2, below_is t left f.3)
      (node_from t (left - 1) index variant w s vs (bytes_vals t (node_slots t index variant) vs) rest (s + (w + weigh_vals t (node_places t index variant) w vs)) (index_small t index f.4.entry f.4.there) a)
  val_back t left slot w s rest (seq index es) f g some short light = elim f.1 [
    | inl e ↦
        let k : IsList slot 0 = subst (λ (xs : Elems). IsList slot (elems_len xs)) e.0 f.0 in
        rw (e.0, e.1) (keeps (seq None no_elems) s rest _ (empty_back t (below t left) slot w s rest k))
    | inr e ↦
        let i : ℕ = e.0 in
        let form : Parsed = e.1 in
        let body : List ℕ = bytes_elems t i es in
        let n : ℕ = weigh_elems t i w es in
        let b_is : bytes_elems t (index_or index) es ≡ body = ap (λ o. bytes_elems t (index_or o) es) e.2 in
        let n_is : weigh_elems t (index_or index) w es ≡ n = ap (λ o. weigh_elems t (index_or o) w es) e.2 in
        let size : ElemsLengthsFit t i es = subst (λ (o : Option ℕ). ElemsLengthsFit t (index_or o) es) e.2 short in
        let l : s + n ≤ 8192 = omega (arith, light, n_is) in
        let few : elems_len es < 2 ^ 32 = omega (arith, l, elems_weigh t i w es some) in
        let h = elems_back t (left - 1) i form w s rest es e.5 e.6 g some size l in
        let k = list_from t left i form (elems_len es) w s (s + n) es body rest e.4 e.3 (index_small t i e.5.entry e.5.there) (some_form t (left - 1) i form es e.5 e.3 e.6) h in
        rw e.2 (listed_back t (below t left) slot (elems_len es) w s (seq (Some i) es) (s + n) (little_bytes 2 i) body rest f.0 few k)
  ]
  val_back t left slot w s rest (float n) f g some short light = keeps (float n) s rest _ (rw f.slot_is (float_back s rest f.size n f.in_range))
  val_back t left slot w s rest (sequence ns) f g some short light =
      let from : List ℕ = (bytes_nodes t ns ++ little_bytes 2 0) ++ rest in
      let few : nodes_len ns < length from = omega (arith, length-append (bytes_nodes t ns ++ little_bytes 2 0) rest, length-append (bytes_nodes t ns) (little_bytes 2 0), length_little 2 0, nodes_few t ns) in
      let e : nodes_at t (below t left) (length from) w s from ≡ done (ns, s + weigh_nodes t w ns, rest) =
      ap (λ (x : List ℕ). nodes_at t (below t left) (length from) w s x) (append_assoc (bytes_nodes t ns) (little_bytes 2 0) rest)
      ∙ nodes_back t left (length from) w s rest ns few f.1 g some short light in
      rw f.0 (passes (nodes_at t (below t left) (length from) w s from) (λ r. Ok (sequence r.0, r.1, r.2)) (ns, s + weigh_nodes t w ns, rest) (done (sequence ns, s + weigh_nodes t w ns, rest)) e refl)

  pub vals_back : (t : Map) (left : ℕ) (places : List Place) (w s : ℕ) (rest : List ℕ) (vs : Vals)
      → FitsVals t left places vs → AreSound vs → 0 < w → AreUsed places → LengthsFit t (slots_at places) vs → s + weigh_vals t places w vs ≤ 8192
      → each_at (value_at t left) places w s (bytes_vals t (slots_at places) vs ++ rest) ≡ done (vs, s + weigh_vals t places w vs, rest)
  vals_back t left places w s rest no_vals f g some used short light = rw f (ap (λ n. done (no_vals, n, rest)) (sym (add-zero s)))
  vals_back t left places w s rest (val v vs) f g some used short light =
      let x : Place = f.0 in
      let others : List Place = f.1 in
      let one : List ℕ = bytes_val t x.slot v in
      let more : List ℕ = bytes_vals t (slots_at others) vs in
      let a : ℕ = weigh_val t (x.uses * w) v in
      let b : ℕ = weigh_vals t others w vs in
      let sizes : LengthsFit t (slots_at (x ∷ others)) (val v vs) = subst (λ (q : List Place). LengthsFit t (slots_at q) (val v vs)) f.2 short in
      let sum : s + (a + b) ≤ 8192 = subst (λ (q : List Place). s + weigh_vals t q w (val v vs) ≤ 8192) f.2 light in
      let u : AreUsed (x ∷ others) = subst (λ (q : List Place). AreUsed q) f.2 used in
      let h = val_back t left x.slot (x.uses * w) s (more ++ rest) v f.3 g.0 (weight_some x.uses w u.0 some) sizes.0 (omega (arith, sum)) in
      let k = vals_back t left others w (s + a) rest vs f.4 g.1 some u.1 sizes.1 (omega (arith, sum)) in
      rw f.2 (step_back t left x others w s a b v vs one more rest h k)

  pub elems_back : (t : Map) (left index : ℕ) (form : Parsed) (w s : ℕ) (rest : List ℕ) (es : Elems)
      → IsForm t index form → FitsElems t left form es → ElemsSound es → 0 < w → ElemsLengthsFit t index es → s + weigh_elems t index w es ≤ 8192
      → elems_at (value_at t left) form (elems_len es) w s (bytes_elems t index es ++ rest) ≡ done (es, s + weigh_elems t index w es, rest)
  elems_back t left index form w s rest no_elems i f g some short light = ap (λ n. done (no_elems, n, rest)) (sym (add-zero s))
  elems_back t left index form w s rest (elem variant vs es) i f g some short light =
      let ps : List Piece = f.0 in
      let slots_is : node_slots t index variant ≡ slots_at (places_of ps) = node_slots_are t index form variant ps i f.1 in
      let places_is : node_places t index variant ≡ places_of ps = places_are t index form variant ps i f.1 in
      let body : List ℕ = bytes_vals t (slots_at (places_of ps)) vs in
      let more : List ℕ = bytes_elems t index es in
      let a : ℕ = weigh_vals t (places_of ps) w vs in
      let b : ℕ = weigh_elems t index w es in
      let size : LengthsFit t (slots_at (places_of ps)) vs = subst (λ (q : List Slot). LengthsFit t q vs) slots_is short.0 in
      let sum : s + ((w + a) + b) ≤ 8192 = subst (λ (q : List Place). s + ((w + weigh_vals t q w vs) + weigh_elems t index w es) ≤ 8192) places_is light in
      let h = vals_back t left (places_of ps) w (s + w) (more ++ rest) vs f.2 g.0 some (form_used t index form variant ps i f.1) size (omega (arith, sum)) in
      let one = elem_from t left form variant ps w s vs body (more ++ rest) ((s + w) + a) f.1 (omega (arith, sum)) h in
      let one_is : elem_at (value_at t left) form w s ((variant_byte variant ++ body) ++ (more ++ rest)) ≡ done ((variant, vs), s + (w + a), more ++ rest) = one ∙ ap (λ n. done ((variant, vs), n, more ++ rest)) (add_assoc s w a) in
      let k = elems_back t left index form w (s + (w + a)) rest es i f.3 g.1 some short.1 (omega (arith, sum)) in
      rw (slots_is, places_is) (elems_step t left (elems_len es) form variant w s (w + a) b vs es (variant_byte variant ++ body) more rest one_is k)

  pub nodes_back : (t : Map) (left n w s : ℕ) (rest : List ℕ) (ns : Nodes)
      → nodes_len ns < n → FitsNodes t left ns → NodesSound ns → 0 < w → NodesLengthsFit t ns → s + weigh_nodes t w ns ≤ 8192
      → nodes_at t (below t left) n w s (bytes_nodes t ns ++ (little_bytes 2 0 ++ rest)) ≡ done (ns, s + weigh_nodes t w ns, rest)
  nodes_back t left zero w s rest no_nodes few f g some short light = absurd (omega (arith, few))
  nodes_back t left (suc n) w s rest no_nodes few f g some short light = nodes_ended t (below t left) n w s rest ∙ ap (λ (m : ℕ). done (no_nodes, m, rest)) (sym (add-zero s))
  nodes_back t left zero w s rest (node index variant vs ns) few f g some short light = absurd (omega (arith, few))
  nodes_back t left (suc n) w s rest (node index variant vs ns) few f g some short light =
      let form : Parsed = f.0 in
      let ps : List Piece = f.1 in
      let a : ℕ = w + weigh_vals t (node_places t index variant) w vs in
      let b : ℕ = weigh_nodes t w ns in
      let body : List ℕ = bytes_vals t (node_slots t index variant) vs in
      let tail : List ℕ = bytes_nodes t ns ++ (little_bytes 2 0 ++ rest) in
      let sum : s + (a + b) ≤ 8192 = light in
      let n_is : weigh_vals t (node_places t index variant) w vs ≡ weigh_vals t (places_of ps) w vs = ap (λ q. weigh_vals t q w vs) (places_are t index form variant ps f.4 f.5) in
      let k : LengthsFit t (slots_at (places_of ps)) vs = subst (λ (q : List Slot). LengthsFit t q vs) (node_slots_are t index form variant ps f.4 f.5) short.0 in
      let e = vals_back t (left - 1) (places_of ps) w (s + w) tail vs f.6 g.0 some (form_used t index form variant ps f.4 f.5) k (omega (arith, sum, n_is)) in
      let i = indexed_from t (left - 1) index form variant ps w s vs tail f.4 f.5 (omega (arith, sum, n_is)) e in
      let m : member_at t (below t left) index w s ((variant_byte variant ++ body) ++ tail) ≡ done ((variant, vs), s + a, tail) = ap (λ (o : Option OneAt). member_at t o index w s ((variant_byte variant ++ body) ++ tail)) (below_is t left f.3) ∙ i in
      let h = nodes_back t left n w (s + a) rest ns (omega (arith, few)) f.7 g.1 some short.1 (omega (arith, sum)) in
      ap (λ (x : List ℕ). nodes_at t (below t left) (suc n) w s x) (node_parts (little_bytes 2 index) (variant_byte variant) body (bytes_nodes t ns) (little_bytes 2 0 ++ rest))
      ∙ nodes_pass t (below t left) n index w s (s + a) variant vs ((variant_byte variant ++ body) ++ tail) tail (index_small t index f.4.entry f.4.there) f.2 m
      ∙ passes (nodes_at t (below t left) n w (s + a) tail) (λ r. Ok (node index variant vs r.0, r.1, r.2)) (ns, (s + a) + b, rest) (done (node index variant vs ns, (s + a) + b, rest)) h refl
      ∙ ap (λ (x : ℕ). done (node index variant vs ns, x, rest)) (add_assoc s a b)
