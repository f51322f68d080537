-- A text of the base language has no kind and no slot of the full language alone.
use Rattle.std.proofs.Common.{◌≡◌, ℕ, Bool, true, false, cond, eqb, leb, ltb, List, [], ◌∷◌, length, Option, Some, None, refl, sym, subst}
use Rattle.std.specs.Prelude.{All}
use Rattle.std.specs.List.{AllByRecursion, range_with_len}
use Rattle.std.proofs.lemmas.List.Elements.{All-map, All-from_get_or}
use Rattle.defmt_grammar.specs.declared.language.Language.TheVariants.{Base}
use Rattle.defmt_grammar.specs.Language.{language_of}
use Rattle.defmt_grammar.specs.declared.fault.Mode.{Mode}
use Rattle.defmt_grammar.specs.declared.kind.Kind.{Kind}
use Rattle.defmt_grammar.specs.declared.kind.Kind.TheVariants as kinds
use Rattle.defmt_grammar.specs.declared.param.Param.{Param}
use Rattle.defmt_grammar.specs.declared.piece.Piece.{Piece}
use Rattle.defmt_grammar.specs.declared.piece.Piece.TheVariants as pieces
use Rattle.defmt_grammar.specs.declared.slot.Slot.{Slot}
use Rattle.defmt_grammar.specs.declared.slot.Slot.TheVariants as slots
use Rattle.defmt_grammar.specs.Kind.{KindShape, named, float, array, format_array, bits, kind_names, SpellsShape, kind_in_range}
use Rattle.defmt_grammar.specs.Param.{SpellsKindPart, SpellsParam}
use Rattle.defmt_grammar.specs.Grammar.{Spells}
use Rattle.defmt_grammar.specs.Slots.{params_of, positions, kinds_at, slot_of, slots_of}
use Rattle.defmt_grammar.proofs.KindLaws.{okay}
use Rattle.defmt_grammar.proofs.FitLaws.{words_hold, ranged, windowed, pieces_hold}

-- a kind of both languages
abbrev pub IsBaseKind : Kind → Type 0
IsBaseKind (kinds.Float size) = ⊥
IsBaseKind kinds.Debug = ⊥
IsBaseKind kinds.Display = ⊥
IsBaseKind kinds.Sequence = ⊥
IsBaseKind kind = Unit {0}

abbrev pub IsBaseSlot : Slot → Type 0
IsBaseSlot (slots.One kind) = IsBaseKind kind
IsBaseSlot (slots.Bits first width) = Unit {0}

base_shape : (text : List ℕ) (shape : KindShape) (kind : Kind) → SpellsShape Base text shape → kind_in_range shape ≡ okay kind → IsBaseKind kind
base_shape text (named k) kind s h = let e : k ≡ kind = cc in subst IsBaseKind e (words_hold IsBaseKind text (kind_names Base) k (tt, (tt, (tt, (tt, (tt, (tt, (tt, (tt, (tt, (tt, (tt, (tt, (tt, (tt, (tt, (tt, (tt, (tt, (tt, tt))))))))))))))))))) s)
base_shape text float kind s h = absurd cc
base_shape text (array n) kind s h = let k = ranged n (leb n 65535) kinds.ByteArray kind refl h in subst IsBaseKind k.1 tt
base_shape text (format_array n) kind s h = let k = ranged n (leb n 65535) kinds.FormatArray kind refl h in subst IsBaseKind k.1 tt
base_shape text (bits lo hi) kind s h = let k = windowed lo hi (ltb lo hi) (leb hi 128) kind refl refl h in subst IsBaseKind k.2 tt

base_part : (text : Option (List ℕ)) (kind : Kind) → SpellsKindPart Base text kind → IsBaseKind kind
base_part None kind h = subst IsBaseKind (sym h) tt
base_part (Some text) kind (shape, s, h) = base_shape text shape kind s h

abbrev PieceIsBase : Piece → Type 0
PieceIsBase (pieces.Literal cs) = Unit {0}
PieceIsBase (pieces.Param p) = IsBaseKind p.kind

abbrev ParamIsBase : Param → Type 0
ParamIsBase p = IsBaseKind p.kind

params_are_base : (ps : List Piece) → AllByRecursion PieceIsBase ps → AllByRecursion ParamIsBase (params_of ps)
params_are_base [] h = tt
params_are_base (pieces.Literal cs ∷ ps) h = params_are_base ps h.1
params_are_base (pieces.Param p ∷ ps) h = (h.0, params_are_base ps h.1)

kind_more : (b : Bool) (kind : Kind) (ks : List Kind) → IsBaseKind kind → AllByRecursion IsBaseKind ks → AllByRecursion IsBaseKind (cond b (kind ∷ ks) ks)
kind_more true kind ks h more = (h, more)
kind_more false kind ks h more = more

kinds_are_base : (position : ℕ) (ps : List Param) → AllByRecursion ParamIsBase ps → AllByRecursion IsBaseKind (kinds_at position ps)
unfolding kinds_at
kinds_are_base position [] h = tt
kinds_are_base position (p ∷ ps) h = kind_more (eqb p.position position) p.kind (kinds_at position ps) h.0 (kinds_are_base position ps h.1)

slot_is_base : (ks : List Kind) → AllByRecursion IsBaseKind ks → IsBaseSlot (slot_of ks)
unfolding slot_of
slot_is_base [] h = tt
slot_is_base (kinds.Bits lo hi ∷ ks) h = tt
slot_is_base (kind ∷ ks) h = h.0

-- each slot of a text of the base language is of a kind of both languages
pub base_slots : (mode : Mode) (text : List ℕ) (ps : List Piece) → language_of mode ≡ Base → Spells text mode ps → All IsBaseSlot (slots_of ps)
unfolding slots_of
base_slots mode text ps base s =
    let each : AllByRecursion PieceIsBase ps = subst (AllByRecursion PieceIsBase) s.joins (pieces_hold PieceIsBase mode (λ cs. tt) param_is_base (length text) 0 text s.tokens s.after [] s.spelled) in
    let params = params_are_base ps each in
    let xs = range_with_len 0 (positions (params_of ps)) in
    All-map IsBaseSlot (λ position. slot_of (kinds_at position (params_of ps))) xs
    (All-from_get_or (λ position. IsBaseSlot (slot_of (kinds_at position (params_of ps)))) xs 0 (λ i lt. slot_is_base _ (kinds_are_base _ (params_of ps) params)))
  where
    param_is_base : (next : ℕ) (inside : List ℕ) (p : Param) (after : ℕ) → SpellsParam mode next inside p after → IsBaseKind p.kind
    param_is_base next inside p after s = base_part s.parts.kind p.kind (subst (λ language. SpellsKindPart language s.parts.kind p.kind) base s.kind)
