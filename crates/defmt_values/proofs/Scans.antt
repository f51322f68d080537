-- Scans of lists, one step at a time.
use Rattle.std.proofs.Common.{◌≡◌, ◌<◌, ◌≤◌, ℕ, ◌+◌, ◌-◌, ◌*◌, ◌^◌, nat_lt, nat_le, Bool, true, false, min, List, [], ◌∷◌, length, map, Option, Result, Ok, Err, refl, ap, subst, arith}
use Rattle.std.proofs.lemmas.Bool.{leb-true, leb-false, lt-leb}
use Rattle.defmt_grammar.specs.Slots.{uses_at}
use Rattle.defmt_grammar.specs.declared.piece.Piece.{Piece}
use Rattle.defmt_grammar.specs.declared.slot.Slot.{Slot}
use Rattle.defmt_intern.specs.Table.{Map}
use Rattle.defmt_intern.specs.declared.parsed.Parsed.{Parsed}
use Rattle.defmt_values.specs.Entries.{places_of, places_from}
use Rattle.defmt_values.specs.Plain.{Val, uint, int, flag, char, str, istr, bytes, bits, format, seq, float, sequence, Vals, no_elems, elem, Nodes, no_nodes, node}
use Rattle.defmt_values.specs.Scan.{◌>>=◌, test, scan_val, scan_vals, scan_elems, scan_one, scan_nodes, add, element_form, sequence_cause, leaf_cause, opened, pick}
use Rattle.defmt_values.specs.View.{plain, vals_of, elems_of, nodes_of}
use Rattle.defmt_values.specs.declared.value.Item.{Item}
use Rattle.defmt_values.specs.declared.value.Node.{Node}
use Rattle.defmt_values.specs.declared.value.Seq.{Seq}
use Rattle.defmt_values.specs.declared.value.Value.{Value}
use Rattle.defmt_values.specs.declared.value.Value.TheVariants as values

abbrev refuses : ℕ → Result ℕ ℕ
refuses c = Err c

-- a value inside which no values stand has the tests of a leaf alone
pub leaf_scan : (t : Map) (left : ℕ) (slot : Slot) (w s : ℕ) (v : Value) → ((n : Node) → v ≡ values.Format n → ⊥) → ((list : Seq) → v ≡ values.Seq list → ⊥) → ((nodes : Nodes) → v ≡ values.Sequence nodes → ⊥)
    → scan_val t left slot w s (plain v) ≡ (leaf_cause t slot (plain v) >>= λ _. Ok s)
unfolding scan_val
leaf_scan t left slot w s (values.Uint n) no_node no_list no_sequence = refl
leaf_scan t left slot w s (values.Int n) no_node no_list no_sequence = refl
leaf_scan t left slot w s (values.Bool b) no_node no_list no_sequence = refl
leaf_scan t left slot w s (values.Char c) no_node no_list no_sequence = refl
leaf_scan t left slot w s (values.Str text) no_node no_list no_sequence = refl
leaf_scan t left slot w s (values.Istr index) no_node no_list no_sequence = refl
leaf_scan t left slot w s (values.Bytes read) no_node no_list no_sequence = refl
leaf_scan t left slot w s (values.Bits n) no_node no_list no_sequence = refl
leaf_scan t left slot w s (values.Format n) no_node no_list no_sequence = absurd (no_node n refl)
leaf_scan t left slot w s (values.Seq list) no_node no_list no_sequence = absurd (no_list list refl)
leaf_scan t left slot w s (values.Float n) no_node no_list no_sequence = refl
leaf_scan t left slot w s (values.Sequence nodes) no_node no_list no_sequence = absurd (no_sequence nodes refl)

module _ (t : Map) (left : ℕ) (slot : Slot) (w s : ℕ) (v : Value) (no_node : (n : Node) → v ≡ values.Format n → ⊥) (no_list : (list : Seq) → v ≡ values.Seq list → ⊥) (no_sequence : (nodes : Nodes) → v ≡ values.Sequence nodes → ⊥) (r : Result (Unit {0}) ℕ) (is : r ≡ leaf_cause t slot (plain v)) where
  pub leaf_passed : (done : Unit {0}) → r ≡ Ok done → Ok s ≡ scan_val t left slot w s (plain v)
  leaf_passed done h = rw (leaf_scan t left slot w s v no_node no_list no_sequence, ← is, h) refl

  pub leaf_refused : (e : ℕ) → r ≡ Err e → Err e ≡ scan_val t left slot w s (plain v)
  leaf_refused e h = rw (leaf_scan t left slot w s v no_node no_list no_sequence, ← is, h) refl

-- behind a cause nothing is tested
stops : (up : Result (Unit {0}) ℕ) (found : Result Parsed ℕ) (c : ℕ) (f g : ℕ → Result ℕ ℕ) → ((up >>= λ _. (found >>= λ form. refuses c)) >>= f) ≡ ((up >>= λ _. (found >>= λ form. refuses c)) >>= g)
stops (Ok done) (Ok form) c f g = refl
stops (Ok done) (Err e) c f g = refl
stops (Err e) found c f g = refl

-- a weight past the limit is as good as another
heavy : (t : Map) (left : ℕ) (slot : Slot) (w u s : ℕ) (v : Val) → nat_le (s + w) 8192 ≡ false → nat_le (s + u) 8192 ≡ false → scan_val t left slot w s v ≡ scan_val t left slot u s v
unfolding scan_val
heavy t left slot w u s (uint n) h k = refl
heavy t left slot w u s (int n) h k = refl
heavy t left slot w u s (flag b) h k = refl
heavy t left slot w u s (char c) h k = refl
heavy t left slot w u s (str x) h k = refl
heavy t left slot w u s (istr index) h k = refl
heavy t left slot w u s (bytes x) h k = refl
heavy t left slot w u s (bits n) h k = refl
heavy t left slot w u s (format index variant vs) h k = rw (h, k) refl
heavy t left slot w u s (seq index no_elems) h k = refl
heavy t left slot w u s (seq index (elem variant vs es)) h k = rw (h, k) refl
heavy t left slot w u s (float n) h k = refl
heavy t left slot w u s (sequence no_nodes) h k = refl
heavy t left slot w u s (sequence (node index variant vs ns)) h k =
    rw (h, k) (ap (λ (q : Result ℕ ℕ). sequence_cause slot >>= λ _. q) (stops (test (nat_lt 0 left) 6) (element_form t index) 7 (λ r. scan_nodes t left w r ns) (λ r. scan_nodes t left u r ns)))

-- the number, or the greatest of 64 bits where it is larger
abbrev pub IsCapped : ℕ → ℕ → Type 0
IsCapped u n = u ≡ min n (2 ^ 64 - 1)

same_by : (t : Map) (left : ℕ) (slot : Slot) (n u s : ℕ) (v : Val) → (b : Bool) → nat_le n (2 ^ 64 - 1) ≡ b → IsCapped u n → scan_val t left slot u s v ≡ scan_val t left slot n s v
same_by t left slot n u s v true e c = let h : n ≤ 2 ^ 64 - 1 = leb-true n (2 ^ 64 - 1) e in let k : u ≡ n = omega (arith, h, c) in rw k refl
same_by t left slot n u s v false e c = let h : 2 ^ 64 - 1 < n = leb-false n (2 ^ 64 - 1) e in let k : u ≡ 2 ^ 64 - 1 = omega (arith, h, c) in
    heavy t left slot u n s v (lt-leb (s + u) 8192 (omega (arith, k))) (lt-leb (s + n) 8192 (omega (arith, h)))

pub same : (t : Map) (left : ℕ) (slot : Slot) (n u s : ℕ) (v : Val) → IsCapped u n → scan_val t left slot u s v ≡ scan_val t left slot n s v
same t left slot n u s v c = same_by t left slot n u s v (nat_le n (2 ^ 64 - 1)) refl c

abbrev both : List Piece → ℕ → Result (List Piece × ℕ) ℕ
both ps s = Ok (ps, s)

picks : (found : Result (List Piece) ℕ) (s : ℕ) (f : List Piece → ℕ → Result ℕ ℕ) → (found >>= λ ps. f ps s) ≡ ((found >>= λ ps. both ps s) >>= λ o. f o.0 o.1)
picks (Ok ps) s f = refl
picks (Err e) s f = refl

-- a chain of tests, taken apart behind the pieces
opens : (up : Result (Unit {0}) ℕ) (found : Result Parsed ℕ) (sum : Result ℕ ℕ) (variant : Option ℕ) (f : List Piece → ℕ → Result ℕ ℕ) → (up >>= λ _. (found >>= λ form. (sum >>= λ s. (pick form variant >>= λ ps. f ps s))))
    ≡ ((up >>= λ _. (found >>= λ form. (sum >>= λ s. (pick form variant >>= λ ps. both ps s)))) >>= λ o. f o.0 o.1)
opens (Err e) found sum variant f = refl
opens (Ok done) (Err e) sum variant f = refl
opens (Ok done) (Ok form) (Err e) variant f = refl
opens (Ok done) (Ok form) (Ok s) variant f = picks (pick form variant) s f

module _ (t : Map) (left w : ℕ) where
  module _ (ps : List Piece) (position : ℕ) (slots : List Slot) (s : ℕ) (values : List Value) where
    pub too_many : (v : Value) (more : List Value) → values ≡ v ∷ more → slots ≡ [] → Err 2 ≡ scan_vals t left (places_from ps position slots) w s (vals_of (map plain values))
    unfolding scan_vals
    too_many v more p q = rw (p, q) refl

    pub refused : (v : Value) (more : List Value) (x : Slot) (others : List Slot) (e u : ℕ) → values ≡ v ∷ more → slots ≡ x ∷ others → IsCapped u (uses_at position ps * w) → Err e ≡ scan_val t left x u s (plain v) → Err e ≡ scan_vals t left (places_from ps position slots) w s (vals_of (map plain values))
    unfolding scan_vals
    refused v more x others e u p q c h = rw (p, q, ← same t left x (uses_at position ps * w) u s (plain v) c, ← h) refl

    pub passed : (v : Value) (more : List Value) (x : Slot) (others : List Slot) (r u : ℕ) → values ≡ v ∷ more → slots ≡ x ∷ others → IsCapped u (uses_at position ps * w) → Ok r ≡ scan_val t left x u s (plain v)
        → scan_vals t left (places_from ps (position + 1) others) w r (vals_of (map plain more)) ≡ scan_vals t left (places_from ps position slots) w s (vals_of (map plain values))
    unfolding scan_vals
    passed v more x others r u p q c h = rw (p, q, ← same t left x (uses_at position ps * w) u s (plain v) c, ← h) refl

    pub ended : values ≡ [] → slots ≡ [] → Ok s ≡ scan_vals t left (places_from ps position slots) w s (vals_of (map plain values))
    unfolding scan_vals
    ended p q = rw (p, q) refl

    pub too_few : (x : Slot) (others : List Slot) → values ≡ [] → slots ≡ x ∷ others → Err 2 ≡ scan_vals t left (places_from ps position slots) w s (vals_of (map plain values))
    unfolding scan_vals
    too_few x others p q = rw (p, q) refl

  module _ (form : Parsed) (s : ℕ) (items : List Item) (i : Item) (more : List Item) (p : items ≡ i ∷ more) where
    pub too_heavy : (e : ℕ) → Err e ≡ add w s → Err e ≡ scan_elems t left form w s (elems_of items)
    unfolding scan_elems
    too_heavy e h = rw (p, ← h) refl

    pub not_there : (r e : ℕ) → Ok r ≡ add w s → Err e ≡ pick form i.variant → Err e ≡ scan_elems t left form w s (elems_of items)
    unfolding scan_elems
    not_there r e h k = rw (p, ← h, ← k) refl

    pub elem_refused : (r e : ℕ) (ps : List Piece) → Ok r ≡ add w s → Ok ps ≡ pick form i.variant → Err e ≡ scan_vals t left (places_of ps) w r i.args → Err e ≡ scan_elems t left form w s (elems_of items)
    unfolding scan_elems
    elem_refused r e ps h k m = rw (p, ← h, ← k, ← m) refl

    pub elem_passed : (r u : ℕ) (ps : List Piece) → Ok r ≡ add w s → Ok ps ≡ pick form i.variant → Ok u ≡ scan_vals t left (places_of ps) w r i.args → scan_elems t left form w u (elems_of more) ≡ scan_elems t left form w s (elems_of items)
    unfolding scan_elems
    elem_passed r u ps h k m = rw (p, ← h, ← k, ← m) refl

  pub elems_ended : (form : Parsed) (s : ℕ) (items : List Item) → items ≡ [] → Ok s ≡ scan_elems t left form w s (elems_of items)
  unfolding scan_elems
  elems_ended form s items p = rw p refl

  -- an element of a sequence is opened, then its values are tested
  node_is : (found : Result Parsed ℕ) (s : ℕ) (variant : Option ℕ) (vs : Vals) → scan_one t left found w s variant vs ≡ (opened left found w s variant >>= λ o. scan_vals t (left - 1) (places_of o.0) w o.1 vs)
  node_is found s variant vs = opens (test (nat_lt 0 left) 6) found (add w s) variant (λ ps r. scan_vals t (left - 1) (places_of ps) w r vs)

  module _ (s : ℕ) (nodes : List Node) (n : Node) (more : List Node) (p : nodes ≡ n ∷ more) (found : Result Parsed ℕ) (f : found ≡ element_form t n.index) where
    pub node_closed : (e : ℕ) → Err e ≡ opened left found w s n.variant → Err e ≡ scan_nodes t left w s (nodes_of nodes)
    unfolding scan_nodes
    node_closed e h = rw (p, ← f, node_is found s n.variant n.args, ← h) refl

    pub node_refused : (r e : ℕ) (ps : List Piece) → Ok (ps, r) ≡ opened left found w s n.variant → Err e ≡ scan_vals t (left - 1) (places_of ps) w r n.args → Err e ≡ scan_nodes t left w s (nodes_of nodes)
    unfolding scan_nodes
    node_refused r e ps h k = rw (p, ← f, node_is found s n.variant n.args, ← h, ← k) refl

    pub node_passed : (r u : ℕ) (ps : List Piece) → Ok (ps, r) ≡ opened left found w s n.variant → Ok u ≡ scan_vals t (left - 1) (places_of ps) w r n.args → scan_nodes t left w u (nodes_of more) ≡ scan_nodes t left w s (nodes_of nodes)
    unfolding scan_nodes
    node_passed r u ps h k = rw (p, ← f, node_is found s n.variant n.args, ← h, ← k) refl

  pub nodes_ended : (s : ℕ) (nodes : List Node) → nodes ≡ [] → Ok s ≡ scan_nodes t left w s (nodes_of nodes)
  unfolding scan_nodes
  nodes_ended s nodes p = rw p refl

pub few_left : (position : ℕ) (slots : List Slot) (x : Slot) (others : List Slot) → slots ≡ x ∷ others → position + length slots ≤ 16 → (position + 1) + length others ≤ 16
few_left position slots x others e h = let k = subst (λ (xs : List Slot). position + length xs ≤ 16) e h in omega (arith, k)
