-- What was read in front of what is still to come.
use Rattle.std.proofs.Common.{◌≡◌, ◌<◌, ◌-◌, ◌+◌, ◌*◌, ℕ, zero, suc, List, [], ◌∷◌, All, Option, Some, Result, Ok, Err, refl, sym, ap, subst, ◌∙◌, arith}
use Rattle.std.proofs.lemmas.Bool.{ne_eqb}
use Rattle.std.specs.Borrow.{Bor}
use Rattle.defmt_grammar.specs.Slots.{uses_at, IsSound}
use Rattle.defmt_grammar.specs.declared.piece.Piece.{Piece}
use Rattle.defmt_grammar.specs.declared.kind.Kind.TheVariants as kinds
use Rattle.defmt_grammar.specs.declared.slot.Slot.{Slot}
use Rattle.defmt_grammar.specs.declared.slot.Slot.TheVariants as slots
use Rattle.defmt_intern.specs.Table.{Map}
use Rattle.defmt_intern.specs.declared.parsed.Parsed.{Parsed}
use Rattle.defmt_values.specs.Entries.{look, places_from}
use Rattle.defmt_values.specs.Plain.{Val, Vals, val, Elems, no_elems, elem, Nodes, no_nodes, node, format, seq, snoc, snoc_elem, snoc_node, join_vals, join_elems, join_nodes}
use Rattle.defmt_values.specs.declared.value.Item.{Item}
use Rattle.defmt_values.specs.declared.value.Value.{Value}
use Rattle.defmt_values.proofs.Joins.{join_snoc, join_none, join_snoc_elem, join_no_elems, join_snoc_node, join_no_nodes}
use Rattle.defmt_encode.specs.Read.{Read, ◌⇒◌, OneAt, number_at, form_of, slot_at, value_at, below, each_at, elem_at, elems_at, indexed_at, node_at, list_at, some_at, member_at, nodes_at}
use Rattle.defmt_encode.specs.Reads.{ReadsVal, ReadsVals, ReadsElem, ReadsElems, ReadsNodes}
use Rattle.defmt_encode.specs.declared.cause.Cause.{Cause}
use Rattle.defmt_encode.specs.declared.cause.Cause.TheVariants as causes
use Rattle.defmt_encode.specs.declared.cause.Fault.{Fault}
use Rattle.defmt_encode.specs.declared.cause.Fault.TheVariants.{Bad, Memory}

abbrev pub before_vals : Vals → Read (Vals × ℕ × List ℕ) → Read (Vals × ℕ × List ℕ)
before_vals vs (Ok r) = Ok (join_vals vs r.0, r.1, r.2)
before_vals vs (Err e) = Err e

abbrev pub before_elems : Elems → Read (Elems × ℕ × List ℕ) → Read (Elems × ℕ × List ℕ)
before_elems es (Ok r) = Ok (join_elems es r.0, r.1, r.2)
before_elems es (Err e) = Err e

abbrev pub before_nodes : Nodes → Read (Nodes × ℕ × List ℕ) → Read (Nodes × ℕ × List ℕ)
before_nodes ns (Ok r) = Ok (join_nodes ns r.0, r.1, r.2)
before_nodes ns (Err e) = Err e

before_more : (vs : Vals) (v : Val) (q : Read (Vals × ℕ × List ℕ)) → before_vals (snoc vs v) q ≡ before_vals vs (q ⇒ λ r. Ok (val v r.0, r.1, r.2))
before_more vs v (Ok r) = ap (λ us. Ok (us, r.1, r.2)) (join_snoc vs v r.0)
before_more vs v (Err e) = refl

before_more_elems : (es : Elems) (o : Option ℕ) (vs : Vals) (q : Read (Elems × ℕ × List ℕ)) → before_elems (snoc_elem es o vs) q ≡ before_elems es (q ⇒ λ r. Ok (elem o vs r.0, r.1, r.2))
before_more_elems es o vs (Ok r) = ap (λ us. Ok (us, r.1, r.2)) (join_snoc_elem es o vs r.0)
before_more_elems es o vs (Err e) = refl

before_more_nodes : (ns : Nodes) (i : ℕ) (o : Option ℕ) (vs : Vals) (q : Read (Nodes × ℕ × List ℕ)) → before_nodes (snoc_node ns i o vs) q ≡ before_nodes ns (q ⇒ λ r. Ok (node i o vs r.0, r.1, r.2))
before_more_nodes ns i o vs (Ok r) = ap (λ ms. Ok (ms, r.1, r.2)) (join_snoc_node ns i o vs r.0)
before_more_nodes ns i o vs (Err e) = refl

no_node_before : (q : Read (Nodes × ℕ × List ℕ)) → before_nodes no_nodes q ≡ q
no_node_before (Ok r) = refl
no_node_before (Err e) = refl

none_before : (q : Read (Elems × ℕ × List ℕ)) → before_elems no_elems q ≡ q
none_before (Ok r) = refl
none_before (Err e) = refl

pub value_is : (t : Map) (left : ℕ) → slot_at t (below t left) ≡ value_at t left
unfolding value_at
value_is t zero = refl
value_is t (suc left) = refl

module _ (t : Map) (left w : ℕ) where
  module _ (ps : List Piece) (position : ℕ) (slots : List Slot) (args : Vals) (s : ℕ) (rest : List ℕ) where
    pub ended : slots ≡ [] → Ok (args, s, rest) ≡ before_vals args (each_at (value_at t left) (places_from ps position slots) w s rest)
    unfolding each_at
    ended p = rw p (ap (λ us. Ok (us, s, rest)) (sym (join_none args)))

    module _ (x : Slot) (others : List Slot) (u : ℕ) (p : slots ≡ x ∷ others) (q : u ≡ uses_at position ps * w) where
      pub passed : (v : Val) (r : ℕ) (after : List ℕ) → Ok (v, r, after) ≡ slot_at t (below t left) x u s rest → before_vals (snoc args v) (each_at (value_at t left) (places_from ps (position + 1) others) w r after) ≡ before_vals args (each_at (value_at t left) (places_from ps position slots) w s rest)
      unfolding each_at
      passed v r after h =
          let k : value_at t left x (uses_at position ps * w) s rest ≡ Ok (v, r, after) = ap (λ f. f x (uses_at position ps * w) s rest) (sym (value_is t left)) ∙ ap (λ n. slot_at t (below t left) x n s rest) (sym q) ∙ sym h in
          rw (p, k) (before_more args v (each_at (value_at t left) (places_from ps (position + 1) others) w r after))

      pub failed : (e : Fault) (all : Read (Vals × ℕ × List ℕ)) → before_vals args (each_at (value_at t left) (places_from ps position slots) w s rest) ≡ all → ReadsVal (Err e) (slot_at t (below t left) x u s rest) → ReadsVals (Err e) all
      unfolding each_at
      failed (Bad c) all same h =
          let k : value_at t left x (uses_at position ps * w) s rest ≡ Err c = ap (λ f. f x (uses_at position ps * w) s rest) (sym (value_is t left)) ∙ ap (λ n. slot_at t (below t left) x n s rest) (sym q) ∙ sym h in
          (rw (p, k) refl) ∙ same
      failed Memory all same h = tt

  pub elems_begin : (form : Parsed) (count s : ℕ) (rest : List ℕ) → before_elems no_elems (elems_at (value_at t left) form (count - 0) w s rest) ≡ elems_at (value_at t left) form count w s rest
  elems_begin form count s rest = let k : count - 0 ≡ count = omega arith in rw k (none_before (elems_at (value_at t left) form count w s rest))

  module _ (form : Parsed) (count i : ℕ) (items : Elems) (s : ℕ) (rest : List ℕ) where
    pub elems_ended : count - i ≡ 0 → Ok (items, s, rest) ≡ before_elems items (elems_at (value_at t left) form (count - i) w s rest)
    unfolding elems_at
    elems_ended p = rw p (ap (λ us. Ok (us, s, rest)) (sym (join_no_elems items)))

    module _ (lt : i < count) where
      pub elem_passed : (o : Option ℕ) (vs : Vals) (r : ℕ) (after : List ℕ) → Ok ((o, vs), r, after) ≡ elem_at (value_at t left) form w s rest → before_elems (snoc_elem items o vs) (elems_at (value_at t left) form (count - (i + 1)) w r after) ≡ before_elems items (elems_at (value_at t left) form (count - i) w s rest)
      unfolding elems_at
      elem_passed o vs r after h =
          let k : count - i ≡ suc (count - (i + 1)) = omega arith in
          rw (k, ← h) (before_more_elems items o vs (elems_at (value_at t left) form (count - (i + 1)) w r after))

      pub elem_failed : (e : Fault) (all : Read (Elems × ℕ × List ℕ)) → before_elems items (elems_at (value_at t left) form (count - i) w s rest) ≡ all → ReadsElem (Err e) (elem_at (value_at t left) form w s rest) → ReadsElems (Err e) all
      unfolding elems_at
      elem_failed (Bad c) all same h =
          let k : count - i ≡ suc (count - (i + 1)) = omega arith in
          (rw (k, ← h) refl) ∙ same
      elem_failed Memory all same h = tt

-- ---- a Format value, and a list that has elements

module _ (t : Map) (left w s : ℕ) (bytes : List ℕ) where
  pub node_read : (index : ℕ) (rest : List ℕ) (o : Option ℕ) (vs : Vals) (after : ℕ) (end : List ℕ) → Ok (index, rest) ≡ number_at 2 bytes → Ok ((o, vs), after, end) ≡ indexed_at t (value_at t left) index w s rest
      → Ok (format index o vs, after, end) ≡ node_at t (value_at t left) w s bytes
  node_read index rest o vs after end a c =
      ap (λ (q : Read ((Option ℕ × Vals) × ℕ × List ℕ)). q ⇒ λ e. Ok (format index e.0.0 e.0.1, e.1, e.2)) c
      ∙ ap (λ (q : Read (ℕ × List ℕ)). q ⇒ λ i. indexed_at t (value_at t left) i.0 w s i.1 ⇒ λ e. Ok (format i.0 e.0.0 e.0.1, e.1, e.2)) a

  pub indexed_read : (index : ℕ) (form : Parsed) (r : Result (Item × ℕ × Bor (List ℕ)) Fault) → Ok form ≡ form_of t.language (look t index) → ReadsElem r (elem_at (value_at t left) form w s bytes) → ReadsElem r (indexed_at t (value_at t left) index w s bytes)
  indexed_read index form r f h = subst (λ (q : Read Parsed). ReadsElem r (q ⇒ λ form. elem_at (value_at t left) form w s bytes)) f h

  module _ (index : ℕ) (rest : List ℕ) (form : Parsed) where
    pub list_read : (count : ℕ) (items : Elems) (after : ℕ) (end : List ℕ) → Ok (index, rest) ≡ number_at 2 bytes → Ok form ≡ form_of t.language (look t index) → Ok (items, after, end) ≡ elems_at (value_at t left) form count w s rest
        → Ok (seq (Some index) items, after, end) ≡ list_at t (value_at t left) count w s bytes
    list_read count items after end a b c =
        ap (λ (q : Read (Elems × ℕ × List ℕ)). q ⇒ λ r. Ok (seq (Some index) r.0, r.1, r.2)) c
        ∙ ap (λ (q : Read Parsed). q ⇒ λ f. elems_at (value_at t left) f count w s rest ⇒ λ r. Ok (seq (Some index) r.0, r.1, r.2)) b
        ∙ ap (λ (q : Read (ℕ × List ℕ)). q ⇒ λ i. form_of t.language (look t i.0) ⇒ λ f. elems_at (value_at t left) f count w s i.1 ⇒ λ r. Ok (seq (Some i.0) r.0, r.1, r.2)) a

-- what is one level below, where levels are left
pub node_below : (t : Map) (left lower w s : ℕ) (bytes : List ℕ) (slot : Slot) (r : Result (Value × ℕ × Bor (List ℕ)) Fault) → slot ≡ slots.One kinds.Format → left ≡ suc lower → ReadsVal r (node_at t (value_at t lower) w s bytes) → ReadsVal r (slot_at t (below t left) slot w s bytes)
node_below t left lower w s bytes slot r e p h = rw (e, p) h

pub list_below : (t : Map) (left lower w s : ℕ) (bytes : List ℕ) (count : ℕ) (r : Result (Value × ℕ × Bor (List ℕ)) Fault) → left ≡ suc lower → 0 < count → ReadsVal r (list_at t (value_at t lower) count w s bytes) → ReadsVal r (some_at t (below t left) count w s bytes)
list_below t left lower w s bytes zero r p some h = absurd (omega (arith, some))
list_below t left lower w s bytes (suc count) r p some h = rw p h

pub member_below : (t : Map) (left lower index w s : ℕ) (bytes : List ℕ) (r : Result (Item × ℕ × Bor (List ℕ)) Fault) → left ≡ suc lower → ReadsElem r (indexed_at t (value_at t lower) index w s bytes) → ReadsElem r (member_at t (below t left) index w s bytes)
member_below t left lower index w s bytes r p h = rw p h

-- ---- the elements of a sequence

module _ (t : Map) (one : Option OneAt) (w : ℕ) where
  pub nodes_begin : (count s : ℕ) (rest : List ℕ) → before_nodes no_nodes (nodes_at t one (count - 0) w s rest) ≡ nodes_at t one count w s rest
  nodes_begin count s rest = let k : count - 0 ≡ count = omega arith in rw k (no_node_before (nodes_at t one count w s rest))

  module _ (count i : ℕ) (nodes : Nodes) (s : ℕ) (rest : List ℕ) where
    pub nodes_over : count - i ≡ 0 → Err causes.Short ≡ before_nodes nodes (nodes_at t one (count - i) w s rest)
    unfolding nodes_at
    nodes_over p = rw p refl

    module _ (lt : i < count) where
      pub index_failed : (c : Cause) → Err c ≡ number_at 2 rest → Err c ≡ before_nodes nodes (nodes_at t one (count - i) w s rest)
      unfolding nodes_at
      index_failed c h = let k : count - i ≡ suc (count - (i + 1)) = omega arith in rw (k, ← h) refl

      module _ (index : ℕ) (after : List ℕ) (h : Ok (index, after) ≡ number_at 2 rest) where
        pub nodes_ended : index ≡ 0 → Ok (nodes, s, after) ≡ before_nodes nodes (nodes_at t one (count - i) w s rest)
        unfolding nodes_at
        nodes_ended z = let k : count - i ≡ suc (count - (i + 1)) = omega arith in rw (k, ← h, z) (ap (λ ns. Ok (ns, s, after)) (sym (join_no_nodes nodes)))

        module _ (some : 0 < index) where
          pub node_passed : (o : Option ℕ) (vs : Vals) (r : ℕ) (end : List ℕ) → Ok ((o, vs), r, end) ≡ member_at t one index w s after
              → before_nodes (snoc_node nodes index o vs) (nodes_at t one (count - (i + 1)) w r end) ≡ before_nodes nodes (nodes_at t one (count - i) w s rest)
          unfolding nodes_at
          node_passed o vs r end m =
              let k : count - i ≡ suc (count - (i + 1)) = omega arith in
              rw (k, ← h, ne_eqb index 0 (λ z. omega (arith, some, z)), ← m) (before_more_nodes nodes index o vs (nodes_at t one (count - (i + 1)) w r end))

          pub member_failed : (e : Fault) (all : Read (Nodes × ℕ × List ℕ)) → before_nodes nodes (nodes_at t one (count - i) w s rest) ≡ all → ReadsElem (Err e) (member_at t one index w s after) → ReadsNodes (Err e) all
          unfolding nodes_at
          member_failed (Bad c) all same m =
              let k : count - i ≡ suc (count - (i + 1)) = omega arith in
              (rw (k, ← h, ne_eqb index 0 (λ z. omega (arith, some, z)), ← m) refl) ∙ same
          member_failed Memory all same m = tt

pub sound_left : (slots others : List Slot) (x : Slot) → slots ≡ x ∷ others → All IsSound slots → All IsSound others
sound_left slots others x e h = let m = subst (λ (xs : List Slot). All IsSound xs) e h in λ k d lt. m (suc k) d (omega (arith, lt))
