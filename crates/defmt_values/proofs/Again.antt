-- What fits is passed.
use Rattle.std.proofs.Common.{◌≡◌, ◌<◌, ◌≤◌, inl, inr, ◌^◌, ◌+◌, ◌-◌, ◌*◌, ℕ, ℤ, pos, negsuc, true, false, List, length, Option, Some, None, Result, Ok, Err, OnOk, refl, sym, ap, ◌∙◌, subst, arith, add_assoc, add-zero}
use Rattle.std.proofs.lemmas.Bool.{lt-ltb, eq-eqb}
use Rattle.defmt_values.specs.Plain.{Val, uint, int, flag, char, str, istr, bytes, bits, format, seq, float, sequence, Vals, no_vals, val, Elems, no_elems, elem, Nodes, no_nodes, node, elems_len, elems_empty}
use Rattle.defmt_values.specs.Fits.{IsForm, HasPieces, IsList, IsText, FitsVal, FitsVals, FitsElems, FitsNodes, weigh_val, weigh_vals, weigh_elems, weigh_nodes, Fits}
use Rattle.defmt_values.specs.Scan.{str_cause, list_cause, count_cause, form_at, element_form, node_places, index_or, own_form, own_in, scan_val, scan_vals, scan_elems, scan_one, scan_nodes, scan_own, own_cause}
use Rattle.defmt_values.specs.Entries.{look, Place, places_of}
use Rattle.defmt_grammar.specs.Sizes.{size_bits, float_bits, is_signed, IsSigned}
use Rattle.defmt_values.proofs.Forms.{form_there, element_there, pieces_there, places_are, adds}
use Rattle.defmt_values.proofs.Found.{bound, vals_found}
use Rattle.defmt_grammar.specs.declared.piece.Piece.{Piece}
use Rattle.defmt_grammar.specs.declared.slot.Slot.{Slot}
use Rattle.defmt_intern.specs.Body.{body_of}
use Rattle.defmt_intern.specs.Table.{Map}
use Rattle.defmt_intern.specs.declared.entry.Entry.{Entry}
use Rattle.defmt_intern.specs.declared.parsed.Parsed.{Parsed}
use Rattle.defmt_intern.specs.declared.parsed.Parsed.TheVariants.{Unsupported, Raw, One, Variants}

signed_again : (width : ℕ) (n : ℤ) → IsSigned width n → is_signed width n ≡ true
signed_again width (pos n) h = lt-ltb n (2 ^ (width - 1)) h
signed_again width (negsuc n) h = lt-ltb n (2 ^ (width - 1)) h

abbrev summed : ℕ → Result ℕ ℕ
summed n = Ok n

leaf : (s : ℕ) → summed s ≡ summed (s + 0)
leaf s = ap summed (sym (add-zero s))

texted : (slot : Slot) → IsText slot → str_cause slot ≡ Ok tt
texted slot (inl e) = rw e refl
texted slot (inr (inl e)) = rw e refl
texted slot (inr (inr e)) = rw e refl

listed : (slot : Slot) (count : ℕ) → IsList slot count → list_cause slot ≡ Ok tt
listed slot count (inl e) = rw e refl
listed slot count (inr e) = rw e refl

counted : (slot : Slot) (count : ℕ) → IsList slot count → count_cause slot count ≡ Ok tt
counted slot count (inl e) = rw e refl
counted slot count (inr e) = rw (e, eq-eqb count count refl) refl

some_left : (es : Elems) → 0 < elems_len es → elems_empty es ≡ false
some_left no_elems h = absurd (omega arith)
some_left (elem o vs es) h = refl

-- the form of the elements of a list that has some
elems_form : (t : Map) (left index : ℕ) (form : Parsed) (es : Elems) → IsForm t index form → 0 < elems_len es → FitsElems t left form es → form_at t index ≡ Ok form
elems_form t left index form no_elems f h g = absurd (omega arith)
elems_form t left index form (elem variant vs es) f h g = form_there t index form variant g.0 f g.1

-- a Format value, or an element of a sequence, that fits
pub node_again : (t : Map) (left : ℕ) (found : Result Parsed ℕ) (w s index : ℕ) (variant : Option ℕ) (vs : Vals) (form : Parsed) (ps : List Piece) → 0 < left → found ≡ Ok form → IsForm t index form → HasPieces form variant ps
    → ((s + w) + weigh_vals t (places_of ps) w vs ≤ 8192 → scan_vals t (left - 1) (places_of ps) w (s + w) vs ≡ Ok ((s + w) + weigh_vals t (places_of ps) w vs))
    → s + (w + weigh_vals t (node_places t index variant) w vs) ≤ 8192 → scan_one t left found w s variant vs ≡ Ok (s + (w + weigh_vals t (node_places t index variant) w vs))
node_again t left found w s index variant vs form ps up there i has f light =
    let places_is : node_places t index variant ≡ places_of ps = places_are t index form variant ps i has in
    let sum : s + (w + weigh_vals t (places_of ps) w vs) ≤ 8192 = subst (λ (sl : List Place). s + (w + weigh_vals t sl w vs) ≤ 8192) places_is light in
    let e = f (omega (arith, sum)) in
    rw (places_is, lt-ltb 0 left up, there, adds w s (omega (arith, sum)), pieces_there form variant ps has, e) (ap (λ n. Ok n) (add_assoc s w (weigh_vals t (places_of ps) w vs)))

mutual
  unfolding scan_val

  pub val_again : (t : Map) (left : ℕ) (slot : Slot) (w s : ℕ) (v : Val) → FitsVal t left slot v → s + weigh_val t w v ≤ 8192 → scan_val t left slot w s v ≡ Ok (s + weigh_val t w v)
  val_again t left slot w s (uint n) f light = rw (f.slot_is, lt-ltb n (2 ^ size_bits f.size) f.in_range) (leaf s)
  val_again t left slot w s (int n) f light = rw (f.slot_is, signed_again (size_bits f.size) n f.in_range) (leaf s)
  val_again t left slot w s (flag x) f light = rw f (leaf s)
  val_again t left slot w s (char x) f light = rw f (leaf s)
  val_again t left slot w s (str x) f light = rw (texted slot f) (leaf s)
  val_again t left slot w s (istr i) f light = rw (f.0, f.1.there, f.1.tag) (leaf s)
  val_again t left slot w s (bytes x) f light = elim f [ inl e ↦ rw e (leaf s) | inr e ↦ rw (e, eq-eqb (length x) (length x) refl) (leaf s) ]
  val_again t left slot w s (bits n) f light = rw (f.slot_is, lt-ltb n (256 ^ (f.first + f.width)) f.below, f.above) (leaf s)
  val_again t left slot w s (format index variant vs) f light =
      let form : Parsed = f.0 in
      let ps : List Piece = f.1 in
      rw f.2 (node_again t left (form_at t index) w s index variant vs form ps f.3 (form_there t index form variant ps f.4 f.5) f.4 f.5 (λ m. vals_again t (left - 1) (places_of ps) w (s + w) vs f.6 m) light)
  val_again t left slot w s (seq index es) f light = elim f.1 [
    | inl e ↦
        let k : IsList slot 0 = subst (λ (xs : Elems). IsList slot (elems_len xs)) e.0 f.0 in
        rw (e.0, e.1, listed slot 0 k, counted slot 0 k) (leaf s)
    | inr e ↦
        let n_is : weigh_elems t (index_or index) w es ≡ weigh_elems t e.0 w es = ap (λ o. weigh_elems t (index_or o) w es) e.2 in
        let h = elems_again t (left - 1) e.0 e.1 w s es e.5 e.6 (omega (arith, light, n_is)) in
        rw (e.2, listed slot (elems_len es) f.0, some_left es e.3, lt-ltb 0 left e.4, elems_form t (left - 1) e.0 e.1 es e.5 e.3 e.6, h, counted slot (elems_len es) f.0) refl
  ]
  val_again t left slot w s (float n) f light = rw (f.slot_is, lt-ltb n (2 ^ float_bits f.size) f.in_range) (leaf s)
  val_again t left slot w s (sequence ns) f light = rw f.0 (nodes_again t left w s ns f.1 light)

  pub vals_again : (t : Map) (left : ℕ) (slots : List Place) (w s : ℕ) (vs : Vals) → FitsVals t left slots vs → s + weigh_vals t slots w vs ≤ 8192 → scan_vals t left slots w s vs ≡ Ok (s + weigh_vals t slots w vs)
  vals_again t left slots w s no_vals f light = rw f (leaf s)
  vals_again t left slots w s (val v vs) f light =
      let x : Place = f.0 in
      let xs : List Place = f.1 in
      let a : ℕ = weigh_val t (x.uses * w) v in
      let b : ℕ = weigh_vals t xs w vs in
      let sum : s + (a + b) ≤ 8192 = subst (λ (sl : List Place). s + weigh_vals t sl w (val v vs) ≤ 8192) f.2 light in
      let h = val_again t left x.slot (x.uses * w) s v f.3 (omega (arith, sum)) in
      let k = vals_again t left xs w (s + a) vs f.4 (omega (arith, sum)) in
      rw (f.2, h, k) (ap (λ n. Ok n) (add_assoc s a b))

  pub elems_again : (t : Map) (left index : ℕ) (form : Parsed) (w s : ℕ) (es : Elems) → IsForm t index form → FitsElems t left form es → s + weigh_elems t index w es ≤ 8192 → scan_elems t left form w s es ≡ Ok (s + weigh_elems t index w es)
  elems_again t left index form w s no_elems i f light = leaf s
  elems_again t left index form w s (elem variant vs es) i f light =
      let ps : List Piece = f.0 in
      let places_is : node_places t index variant ≡ places_of ps = places_are t index form variant ps i f.1 in
      let a : ℕ = weigh_vals t (places_of ps) w vs in
      let b : ℕ = weigh_elems t index w es in
      let sum : s + ((w + a) + b) ≤ 8192 = subst (λ (sl : List Place). s + ((w + weigh_vals t sl w vs) + weigh_elems t index w es) ≤ 8192) places_is light in
      let h = vals_again t left (places_of ps) w (s + w) vs f.2 (omega (arith, sum)) in
      let k = elems_again t left index form w ((s + w) + a) es i f.3 (omega (arith, sum)) in
      let e : ((s + w) + a) + b ≡ s + ((w + a) + b) = omega arith in
      rw (places_is, adds w s (omega (arith, sum)), pieces_there form variant ps f.1, h, k) (ap (λ n. Ok n) e)

  pub nodes_again : (t : Map) (left w s : ℕ) (ns : Nodes) → FitsNodes t left ns → s + weigh_nodes t w ns ≤ 8192 → scan_nodes t left w s ns ≡ Ok (s + weigh_nodes t w ns)
  nodes_again t left w s no_nodes f light = leaf s
  nodes_again t left w s (node index variant vs ns) f light =
      let form : Parsed = f.0 in
      let ps : List Piece = f.1 in
      let a : ℕ = w + weigh_vals t (node_places t index variant) w vs in
      let b : ℕ = weigh_nodes t w ns in
      let sum : s + (a + b) ≤ 8192 = light in
      let h = node_again t left (element_form t index) w s index variant vs form ps f.3 (element_there t index form variant ps f.2 f.4 f.5) f.4 f.5 (λ m. vals_again t (left - 1) (places_of ps) w (s + w) vs f.6 m) (omega (arith, sum)) in
      let k = nodes_again t left w (s + a) ns f.7 (omega (arith, sum)) in
      rw (h, k) (ap (λ n. Ok n) (add_assoc s a b))

-- ---- statements

abbrev done : List Piece → Result (List Piece) ℕ
done ps = Ok ps

same : (ps qs : List Piece) → done ps ≡ done qs → ps ≡ qs
same ps qs h = cc

own_body : (body : Parsed) (ps : List Piece) → own_in body ≡ Ok ps → body ≡ One ps
own_body Unsupported ps h = absurd (cc)
own_body Raw ps h = absurd (cc)
own_body (One qs) ps h = ap (λ q. One q) (same qs ps h)
own_body (Variants forms) ps h = absurd (cc)

own_found : (t : Map) (index : ℕ) (ps : List Piece) (o : Option Entry) → look t index ≡ o → own_form t.language o ≡ Ok ps → (e : Entry) × (look t index ≡ Some e) × (body_of t.language e ≡ One ps)
own_found t index ps None l h = absurd (cc)
own_found t index ps (Some e) l h = (e, l, own_body (body_of t.language e) ps h)

abbrev scan_rest : Map → Vals → List Piece → Result ℕ ℕ
scan_rest t vs ps = scan_vals t 16 (places_of ps) 1 0 vs

pub fits_found : (t : Map) (index : ℕ) (vs : Vals) (q : Result (Unit {0}) ℕ) → q ≡ own_cause t index vs → (u : Unit {0}) → q ≡ Ok u → Fits t index vs
fits_found t index vs q e u k =
    let b1 = bound (scan_own t index vs) (λ _. Ok tt) u (sym e ∙ k) in
    let b2 = bound (own_form t.language (look t index)) (scan_rest t vs) b1.0 b1.1 in
    let own = own_found t index b2.0 (look t index) refl b2.1 in
    let all = vals_found t 16 (places_of b2.0) 1 0 b1.0 vs b2.2 in
    let m : b1.0 ≤ 8192 = all.1.kept (omega arith) in
    record { entry = own.0; pieces = b2.0; there = own.1; body = own.2; values = all.0; light = omega (arith, m, all.1.sum) }

pub fits_again : (t : Map) (index : ℕ) (vs : Vals) → Fits t index vs → own_cause t index vs ≡ Ok tt
fits_again t index vs f =
    let e = vals_again t 16 (places_of f.pieces) 1 0 vs f.values (omega (arith, f.light)) in
    rw (f.there, f.body, e) refl

pub passed_fits : (t : Map) (index : ℕ) (vs : Vals) (q : Result (Unit {0}) ℕ) → q ≡ own_cause t index vs → OnOk q (Fits t index vs)
passed_fits t index vs (Ok u) e = fits_found t index vs (Ok u) e u refl
passed_fits t index vs (Err c) e = tt
