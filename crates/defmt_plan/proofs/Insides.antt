-- Format values and lists of them.
use Rattle.std.proofs.Common.{◌≡◌, ◌<◌, ◌≤◌, ◌+◌, ◌-◌, ℕ, zero, suc, true, List, ◌++◌, length, drop, codes, refl, sym, ap, subst, ◌∙◌, arith, Option, Some, None, Ok}
use Rattle.std.proofs.lemmas.Bool.{lt-ltb}
use Rattle.std.specs.List.{slice_get}
use Rattle.std.specs.Global.{Vec}
use Rattle.defmt_grammar.specs.declared.hint.Hint.{Hint}
use Rattle.defmt_grammar.specs.declared.kind.Kind.{Kind}
use Rattle.defmt_grammar.specs.declared.kind.Kind.TheVariants as kinds
use Rattle.defmt_grammar.specs.declared.piece.Piece.{Piece}
use Rattle.defmt_grammar.specs.declared.slot.Slot.TheVariants as slots
use Rattle.defmt_hints.specs.Printed.{list_text}
use Rattle.defmt_intern.specs.Body.{body_of}
use Rattle.defmt_intern.specs.Table.{Map}
use Rattle.defmt_intern.specs.declared.entry.Entry.{Entry}
use Rattle.defmt_intern.specs.declared.parsed.Parsed.{Parsed}
use Rattle.defmt_intern.specs.declared.parsed.Parsed.TheVariants as parsed
use Rattle.defmt_values.specs.Entries.{look, is_format, variant_at, places_of}
use Rattle.defmt_values.specs.Plain.{Val, format, seq, Vals, no_elems}
use Rattle.defmt_encode.specs.Read.{OneAt, ◌⇒◌, number_at, form_in, form_of, each_at, elem_at, elems_at, node_at, list_at, some_at, slot_at, below, value_at}
use Rattle.defmt_encode.proofs.Chains.{done, same, bound}
use Rattle.defmt_encode.proofs.ReadsBack.{adds, below_is, some_is}
use Rattle.defmt_eager.specs.Show.{show_val, show_elems, shows, pieces_text, node_pieces}
use Rattle.defmt_eager.proofs.Parts.{placed_none}
use Rattle.defmt_plan.proofs.Placing.{placed_two}
use Rattle.defmt_hints.specs.Written.{Kept}
use Rattle.defmt_eager.specs.Answers.{Placed}
use Rattle.defmt_plan.proofs.Forming.{IsSomeBody, VariantIs, one_body, some_body}
use Rattle.defmt_plan.specs.Forms.{AreVariants, IsBody, IsFormIn, StandsFor}
use Rattle.defmt_plan.specs.Inside.{elem_text, elems_text, inner_text}
use Rattle.defmt_plan.specs.Readers.{PassedBy, PassesBy, PassesPieces}
use Rattle.defmt_plan.specs.Steps.{AreSteps}
use Rattle.defmt_plan.specs.declared.forms.Body.{Body}
use Rattle.defmt_plan.specs.declared.forms.Body.TheVariants as bodies
use Rattle.defmt_plan.specs.declared.forms.Form.{Form}
use Rattle.defmt_plan.specs.declared.reach.Reach.{Reach}
use Rattle.defmt_plan.specs.declared.steps.Step.{Step}

-- ---- entries

form_in_is : (what : Parsed) (body : Body) → IsBody what body → form_in what ≡ done what
form_in_is (parsed.One pieces) body h = refl
form_in_is (parsed.Variants forms) body h = refl
form_in_is parsed.Unsupported body h = absurd h
form_in_is parsed.Raw body h = absurd h

pub form_read : (t : Map) (form : Form) (what : Parsed) → StandsFor t form what → form_of t.language (look t form.index) ≡ done what
form_read t form what s = rw (s.is.there, s.is.tag, form_in_is (body_of t.language s.is.entry) form.body s.is.body) (ap (λ (p : Parsed). done p) s.body)

-- the plan's string stands for what its entry does
pub stands : (t : Map) (form : Form) (is : IsFormIn t form) → StandsFor t form (body_of t.language is.entry)
stands t form is = record { is = is; body = refl }

one_pieces : (t : Map) (index : ℕ) (e : Entry) (ps : List Piece) → look t index ≡ Some e → is_format e.tag ≡ true → body_of t.language e ≡ parsed.One ps → node_pieces t index None ≡ ps
one_pieces t index e ps there tag body = rw (there, tag, body) refl

variant_pieces : (t : Map) (index : ℕ) (e : Entry) (forms : List (List Piece)) (v : ℕ) (ps : List Piece) → look t index ≡ Some e → is_format e.tag ≡ true → body_of t.language e ≡ parsed.Variants forms → variant_at forms v ≡ Some ps → node_pieces t index (Some v) ≡ ps
variant_pieces t index e forms v ps there tag body at = rw (there, tag, body, at) refl

variant_is : (forms : List (List Piece)) (v : ℕ) (ps : List Piece) → v < 256 → slice_get forms v ≡ Some ps → variant_at forms v ≡ Some ps
variant_is forms v ps lt e = rw (lt-ltb v 256 lt) e

-- ---- an element

elem_one : (one : OneAt) (ps : List Piece) (s sum : ℕ) (vs : Vals) (from to : List ℕ) → s + 1 ≤ 8192 → each_at one (places_of ps) 1 (s + 1) from ≡ done (vs, sum, to) → elem_at one (parsed.One ps) 1 s from ≡ done ((None, vs), sum, to)
elem_one one ps s sum vs from to light e = rw (adds 1 s light, e) refl

elem_variant : (one : OneAt) (forms : List (List Piece)) (v : ℕ) (ps : List Piece) (s sum : ℕ) (vs : Vals) (from mid to : List ℕ) → s + 1 ≤ 8192 → number_at 1 from ≡ done (v, mid) → variant_at forms v ≡ Some ps → each_at one (places_of ps) 1 (s + 1) mid ≡ done (vs, sum, to) → elem_at one (parsed.Variants forms) 1 s from ≡ done ((Some v, vs), sum, to)
elem_variant one forms v ps s sum vs from mid to light n at e = rw (adds 1 s light, n, at, e) refl

module _ (t : Map) (left : ℕ) (form : Form) (hint : Hint) (bytes : List ℕ) (before : Reach) (old new : List ℕ) (inside : Reach) where
  pub form_one : (r : Option Reach) (steps : Vec Step) → form.body ≡ bodies.One steps → before.opened + 1 ≤ 8192 → inside.read ≡ before.read → inside.written ≡ before.written → inside.opened ≡ before.opened + 1
      → ((all pieces : List Piece) → AreSteps all pieces steps.items → PassesPieces r t left hint all pieces bytes inside old new) → (what : Parsed) → StandsFor t form what → PassesBy r (elem_at (value_at t left) what 1) (elem_text t hint form.index) bytes before old new
  form_one None steps b light e f g k what s =
      let o = one_body (body_of t.language s.is.entry) form.body steps s.is.body b in
      subst (λ (n : ℕ). Kept old n new) f (k o.pieces o.pieces o.are)
  form_one (Some after) steps b light e f g k what s =
      let o = one_body (body_of t.language s.is.entry) form.body steps s.is.body b in
      let p = k o.pieces o.pieces o.are in
      let read : each_at (value_at t left) (places_of o.pieces) 1 (before.opened + 1) (drop before.read bytes) ≡ done (p.value, after.opened, drop after.read bytes) =
      subst (λ (n : ℕ). each_at (value_at t left) (places_of o.pieces) 1 (before.opened + 1) (drop n bytes) ≡ done (p.value, after.opened, drop after.read bytes)) e
      (subst (λ (n : ℕ). each_at (value_at t left) (places_of o.pieces) 1 n (drop inside.read bytes) ≡ done (p.value, after.opened, drop after.read bytes)) g p.reads) in
      let pieces : o.pieces ≡ node_pieces t form.index None = sym (one_pieces t form.index s.is.entry o.pieces s.is.there s.is.tag o.is) in
      record {
        value = (None, p.value);
        reads = subst (λ (w : Parsed). elem_at (value_at t left) w 1 before.opened (drop before.read bytes) ≡ done ((None, p.value), after.opened, drop after.read bytes)) (sym o.is ∙ s.body)
            (elem_one (value_at t left) o.pieces before.opened after.opened p.value (drop before.read bytes) (drop after.read bytes) light read);
        few = p.few;
        within = p.within;
        written = subst (λ (ps : List Piece). Placed old before.written new after.written (pieces_text hint ps (shows t p.value))) pieces
            (subst (λ (n : ℕ). Placed old n new after.written (pieces_text hint o.pieces (shows t p.value))) f p.written);
      }

  variant_by : (r : Option Reach) (all : Vec (Vec Step)) (v : ℕ) (steps : Vec Step) → before.opened + 1 ≤ 8192 → v < 256 → number_at 1 (drop before.read bytes) ≡ Ok (v, drop (before.read + 1) bytes) → inside.read ≡ before.read + 1 → inside.written ≡ before.written → inside.opened ≡ before.opened + 1
      → ((whole pieces : List Piece) → AreSteps whole pieces steps.items → PassesPieces r t left hint whole pieces bytes inside old new) → (what : Parsed) → (s : StandsFor t form what) → (o : IsSomeBody (body_of t.language s.is.entry) all) → VariantIs o.forms v steps → PassesBy r (elem_at (value_at t left) what 1) (elem_text t hint form.index) bytes before old new
  variant_by None all v steps light small n e f g k what s o i = subst (λ (m : ℕ). Kept old m new) f (k i.pieces i.pieces i.are)
  variant_by (Some after) all v steps light small n e f g k what s o i =
      let p = k i.pieces i.pieces i.are in
      let at : variant_at o.forms v ≡ Some i.pieces = variant_is o.forms v i.pieces small i.there in
      let read : each_at (value_at t left) (places_of i.pieces) 1 (before.opened + 1) (drop (before.read + 1) bytes) ≡ done (p.value, after.opened, drop after.read bytes) =
      subst (λ (m : ℕ). each_at (value_at t left) (places_of i.pieces) 1 (before.opened + 1) (drop m bytes) ≡ done (p.value, after.opened, drop after.read bytes)) e
      (subst (λ (m : ℕ). each_at (value_at t left) (places_of i.pieces) 1 m (drop inside.read bytes) ≡ done (p.value, after.opened, drop after.read bytes)) g p.reads) in
      let pieces : i.pieces ≡ node_pieces t form.index (Some v) = sym (variant_pieces t form.index s.is.entry o.forms v i.pieces s.is.there s.is.tag o.is at) in
      record {
        value = (Some v, p.value);
        reads = subst (λ (w : Parsed). elem_at (value_at t left) w 1 before.opened (drop before.read bytes) ≡ done ((Some v, p.value), after.opened, drop after.read bytes)) (sym o.is ∙ s.body)
            (elem_variant (value_at t left) o.forms v i.pieces before.opened after.opened p.value (drop before.read bytes) (drop (before.read + 1) bytes) (drop after.read bytes) light n at read);
        few = p.few;
        within = p.within;
        written = subst (λ (ps : List Piece). Placed old before.written new after.written (pieces_text hint ps (shows t p.value))) pieces
            (subst (λ (m : ℕ). Placed old m new after.written (pieces_text hint i.pieces (shows t p.value))) f p.written);
      }

  pub form_variant : (r : Option Reach) (all : Vec (Vec Step)) (v : ℕ) (steps : Vec Step) → form.body ≡ bodies.Variants all → before.opened + 1 ≤ 8192 → v < 256 → number_at 1 (drop before.read bytes) ≡ Ok (v, drop (before.read + 1) bytes)
      → ((forms : List (List Piece)) → AreVariants forms all.items → VariantIs forms v steps) → inside.read ≡ before.read + 1 → inside.written ≡ before.written → inside.opened ≡ before.opened + 1
      → ((whole pieces : List Piece) → AreSteps whole pieces steps.items → PassesPieces r t left hint whole pieces bytes inside old new) → (what : Parsed) → StandsFor t form what → PassesBy r (elem_at (value_at t left) what 1) (elem_text t hint form.index) bytes before old new
  form_variant r all v steps b light small n find e f g k what s =
      let o = some_body (body_of t.language s.is.entry) form.body all s.is.body b in
      let i = find o.forms o.are in
      variant_by r all v steps light small n e f g k what s o i

-- ---- a Format value

node_from : (t : Map) (one : OneAt) (index : ℕ) (what : Parsed) (s sum : ℕ) (variant : Option ℕ) (vs : Vals) (from mid to : List ℕ) → number_at 2 from ≡ done (index, mid) → form_of t.language (look t index) ≡ done what → elem_at one what 1 s mid ≡ done ((variant, vs), sum, to) → node_at t one 1 s from ≡ done (format index variant vs, sum, to)
node_from t one index what s sum variant vs from mid to n f e = rw (n, f, e) refl

module _ (t : Map) (left : ℕ) (form : Form) (hint : Hint) (bytes : List ℕ) (before : Reach) (old new : List ℕ) (inside : Reach) where
  -- behind its index
  pub format_passes : (r : Option Reach) → 0 < left → (is : IsFormIn t form) → number_at 2 (drop before.read bytes) ≡ Ok (form.index, drop (before.read + 2) bytes) → inside.read ≡ before.read + 2 → inside.written ≡ before.written → inside.opened ≡ before.opened
      → ((what : Parsed) → StandsFor t form what → PassesBy r (elem_at (value_at t (left - 1)) what 1) (elem_text t hint form.index) bytes inside old new)
      → PassesBy r (slot_at t (below t left) (slots.One kinds.Format) 1) (λ (v : Val). show_val t v kinds.Format hint) bytes before old new
  unfolding show_val
  format_passes None deep is n e f g k = subst (λ (m : ℕ). Kept old m new) f (k (body_of t.language is.entry) (stands t form is))
  format_passes (Some after) deep is n e f g k =
      let what : Parsed = body_of t.language is.entry in
      let s : StandsFor t form what = stands t form is in
      let p = k what s in
      let read : elem_at (value_at t (left - 1)) what 1 before.opened (drop (before.read + 2) bytes) ≡ done (p.value, after.opened, drop after.read bytes) =
      subst (λ (m : ℕ). elem_at (value_at t (left - 1)) what 1 before.opened (drop m bytes) ≡ done (p.value, after.opened, drop after.read bytes)) e
      (subst (λ (m : ℕ). elem_at (value_at t (left - 1)) what 1 m (drop inside.read bytes) ≡ done (p.value, after.opened, drop after.read bytes)) g p.reads) in
      record {
        value = format form.index p.value.0 p.value.1;
        reads = rw (below_is t left deep) (node_from t (value_at t (left - 1)) form.index what before.opened after.opened p.value.0 p.value.1 (drop before.read bytes) (drop (before.read + 2) bytes) (drop after.read bytes) n (form_read t form what s) read);
        few = p.few;
        within = p.within;
        written = subst (λ (m : ℕ). Placed old m new after.written (elem_text t hint form.index p.value)) f p.written;
      }

  -- the elements of a list behind their index
  pub some_passes : (r : Option Reach) (count : ℕ) → 0 < left → 0 < count → (is : IsFormIn t form) → number_at 2 (drop before.read bytes) ≡ Ok (form.index, drop (before.read + 2) bytes) → inside.read ≡ before.read + 2 → inside.written ≡ before.written → inside.opened ≡ before.opened
      → ((what : Parsed) → StandsFor t form what → PassesBy r (elems_at (value_at t (left - 1)) what count 1) (elems_text t hint form.index) bytes inside old new)
      → PassesBy r (some_at t (below t left) count 1) (inner_text t hint) bytes before old new
  some_passes None count deep some is n e f g k = subst (λ (m : ℕ). Kept old m new) f (k (body_of t.language is.entry) (stands t form is))
  some_passes (Some after) count deep some is n e f g k =
      let what : Parsed = body_of t.language is.entry in
      let s : StandsFor t form what = stands t form is in
      let p = k what s in
      let read : elems_at (value_at t (left - 1)) what count 1 before.opened (drop (before.read + 2) bytes) ≡ done (p.value, after.opened, drop after.read bytes) =
      subst (λ (m : ℕ). elems_at (value_at t (left - 1)) what count 1 before.opened (drop m bytes) ≡ done (p.value, after.opened, drop after.read bytes)) e
      (subst (λ (m : ℕ). elems_at (value_at t (left - 1)) what count 1 m (drop inside.read bytes) ≡ done (p.value, after.opened, drop after.read bytes)) g p.reads) in
      record {
        value = seq (Some form.index) p.value;
        reads = some_is t left count 1 before.opened (drop before.read bytes) deep some ∙ (rw (n, form_read t form what s, read) refl);
        few = p.few;
        within = p.within;
        written = subst (λ (m : ℕ). Placed old m new after.written (elems_text t hint form.index p.value)) f p.written;
      }

-- ---- a list between its brackets

value_of : (x y : Val × ℕ × List ℕ) → done x ≡ done y → y.0 ≡ x.0
value_of x y e = ap (λ (z : Val × ℕ × List ℕ). z.0) (sym (same x y e))

-- what is read of a list's elements is a list, whose text is that of the elements between brackets
list_is : (t : Map) (one : OneAt) (count s : ℕ) (from : List ℕ) (y : Val × ℕ × List ℕ) (kind : Kind) (hint : Hint) → list_at t one count 1 s from ≡ done y → show_val t y.0 kind hint ≡ codes "[" ++ (inner_text t hint y.0 ++ codes "]")
unfolding show_val list_text
list_is t one count s from y kind hint e =
    let a = bound (number_at 2 from) (λ i. form_of t.language (look t i.0) ⇒ λ form. elems_at one form count 1 s i.1 ⇒ λ r. Ok (seq (Some i.0) r.0, r.1, r.2)) y e in
    let b = bound (form_of t.language (look t a.0.0)) (λ form. elems_at one form count 1 s a.0.1 ⇒ λ r. Ok (seq (Some a.0.0) r.0, r.1, r.2)) y a.2 in
    let c = bound (elems_at one b.0 count 1 s a.0.1) (λ r. Ok (seq (Some a.0.0) r.0, r.1, r.2)) y b.2 in
    let is : y.0 ≡ seq (Some a.0.0) c.0.0 = value_of (seq (Some a.0.0) c.0.0, c.0.1, c.0.2) y c.2 in
    rw is refl

-- also where there are none
some_text : (t : Map) (below : Option OneAt) (count s : ℕ) (from : List ℕ) (y : Val × ℕ × List ℕ) (kind : Kind) (hint : Hint) → some_at t below count 1 s from ≡ done y → show_val t y.0 kind hint ≡ codes "[" ++ (inner_text t hint y.0 ++ codes "]")
unfolding show_val show_elems list_text
some_text t below zero s from y kind hint e =
    rw (value_of (seq None no_elems, s, from) y e) refl
some_text t None (suc n) s from y kind hint e = absurd (cc e)
some_text t (Some one) (suc n) s from y kind hint e = list_is t one (suc n) s from y kind hint e

-- no elements
pub some_none : (t : Map) (left count : ℕ) (hint : Hint) (bytes : List ℕ) (before : Reach) (old : List ℕ) → count ≡ 0 → before.opened ≤ 8192 → before.read ≤ length bytes → before.written ≤ length old
    → PassedBy (some_at t (below t left) count 1) (inner_text t hint) bytes before before old old
unfolding show_elems
some_none t left count hint bytes before old none few le most = record {
  value = seq None no_elems;
  reads = rw none refl;
  few = few;
  within = le;
  written = placed_none old before.written most;
}

module _ (t : Map) (left : ℕ) (kind : Kind) (hint : Hint) (bytes : List ℕ) (before inside all after : Reach) (old mid last new : List ℕ) where
  -- a list, with its elements between its brackets
  pub list_by : (count : ℕ) → inside.read ≡ before.read → inside.opened ≡ before.opened → Placed old before.written mid inside.written (codes "[") → PassedBy (some_at t (below t left) count 1) (inner_text t hint) bytes inside all mid last → Placed last all.written new after.written (codes "]") → after.read ≡ all.read → after.opened ≡ all.opened
      → PassedBy (some_at t (below t left) count 1) (λ (v : Val). show_val t v kind hint) bytes before after old new
  list_by count e f v p w g h =
      let read : some_at t (below t left) count 1 before.opened (drop before.read bytes) ≡ Ok (p.value, all.opened, drop all.read bytes) =
      subst (λ (n : ℕ). some_at t (below t left) count 1 before.opened (drop n bytes) ≡ Ok (p.value, all.opened, drop all.read bytes)) e
      (subst (λ (n : ℕ). some_at t (below t left) count 1 n (drop inside.read bytes) ≡ Ok (p.value, all.opened, drop all.read bytes)) f p.reads) in
      let text = some_text t (below t left) count before.opened (drop before.read bytes) (p.value, all.opened, drop all.read bytes) kind hint read in
      record {
        value = p.value;
        reads = subst (λ (n : ℕ). some_at t (below t left) count 1 before.opened (drop before.read bytes) ≡ Ok (p.value, after.opened, drop n bytes)) (sym g)
            (subst (λ (n : ℕ). some_at t (below t left) count 1 before.opened (drop before.read bytes) ≡ Ok (p.value, n, drop all.read bytes)) (sym h) read);
        few = omega (arith, h, p.few);
        within = omega (arith, g, p.within);
        written = subst (λ (x : List ℕ). Placed old before.written new after.written x) (sym text)
            (placed_two old mid new before.written inside.written after.written (codes "[") (inner_text t hint p.value ++ codes "]") v
            (placed_two mid last new inside.written all.written after.written (inner_text t hint p.value) (codes "]") p.written w));
      }

-- a list whose number of elements stands in front
pub counted_passes : (r : Option Reach) (t : Map) (left count : ℕ) (hint : Hint) (bytes : List ℕ) (before inside : Reach) (old new : List ℕ) → number_at 4 (drop before.read bytes) ≡ Ok (count, drop (before.read + 4) bytes) → inside.read ≡ before.read + 4 → inside.written ≡ before.written → inside.opened ≡ before.opened
    → PassesBy r (some_at t (below t left) count 1) (λ (v : Val). show_val t v kinds.FormatSlice hint) bytes inside old new → PassesBy r (slot_at t (below t left) (slots.One kinds.FormatSlice) 1) (λ (v : Val). show_val t v kinds.FormatSlice hint) bytes before old new
counted_passes None t left count hint bytes before inside old new n e f g p = subst (λ (m : ℕ). Kept old m new) f p
counted_passes (Some after) t left count hint bytes before inside old new n e f g p =
    let read : some_at t (below t left) count 1 before.opened (drop (before.read + 4) bytes) ≡ Ok (p.value, after.opened, drop after.read bytes) =
    subst (λ (m : ℕ). some_at t (below t left) count 1 before.opened (drop m bytes) ≡ Ok (p.value, after.opened, drop after.read bytes)) e
    (subst (λ (m : ℕ). some_at t (below t left) count 1 m (drop inside.read bytes) ≡ Ok (p.value, after.opened, drop after.read bytes)) g p.reads) in
    record {
      value = p.value;
      reads = rw n read;
      few = p.few;
      within = p.within;
      written = subst (λ (m : ℕ). Placed old m new after.written (show_val t p.value kinds.FormatSlice hint)) f p.written;
    }
