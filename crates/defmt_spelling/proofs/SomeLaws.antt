-- Each text spells the arguments of a statement, or has a first cause for which it spells none.
use Rattle.std.proofs.Common.{◌≡◌, ◌⊎◌, inl, inr, ◌*◌, ℕ, List, [], ◌∷◌, Result, Ok, Err, refl, ap, arith}
use Rattle.defmt_grammar.specs.Cut.{skip_spaces}
use Rattle.defmt_grammar.specs.declared.piece.Piece.{Piece}
use Rattle.defmt_intern.specs.Table.{Map}
use Rattle.defmt_shapes.proofs.ShapeLaws.{join_shape}
use Rattle.defmt_shapes.proofs.SomeLaws.{some_head}
use Rattle.defmt_shapes.specs.Shape.{Shape, HeadShape, shape}
use Rattle.defmt_spelling.proofs.Fronts.{first_found}
use Rattle.defmt_spelling.proofs.Heads.{skipped}
use Rattle.defmt_spelling.proofs.Loops.{no_more}
use Rattle.defmt_spelling.proofs.Wholes.{spelled_of}
use Rattle.defmt_spelling.specs.Meaning.{meant_val}
use Rattle.defmt_spelling.specs.Names.{NameMap}
use Rattle.defmt_spelling.specs.Reading.{Means, ScannedFault, judged}
use Rattle.defmt_spelling.specs.Spelling.{ReadsArguments}
use Rattle.defmt_values.specs.Entries.{Place, look, places_of}
use Rattle.defmt_values.specs.Plain.{Vals, no_vals, val}
use Rattle.defmt_values.specs.Scan.{scan_val, own_form}

module _ (names : NameMap) (t : Map) (left weight : ℕ) where
  abbrev pub HasReading : List Place → ℕ → List ℕ → Type 0
  HasReading places sum text = ((vs : Vals) × (next : ℕ) × Means names t left weight places sum text vs next) ⊎ ((c : ℕ) × ScannedFault names t left weight places sum text c)

  -- one more value in front, which fits
  in_front : (p : Place) (ps : List Place) (sum : ℕ) (text rest : List ℕ) (s : Shape) (next : ℕ) (vs : Vals) (last : ℕ) → HeadShape t.language (skip_spaces text) s rest → judged names t left weight p sum s ≡ Ok next → Means names t left weight ps next rest vs last → Means names t left weight (p ∷ ps) sum text (val (meant_val names t p.slot s) vs) last
  unfolding scan_val meant_val
  in_front p ps sum text rest s next vs last head e m = record {
    shapes = shape s m.shapes;
    spelled = join_shape t.language text rest s m.shapes head m.spelled;
    meant = ap (val (meant_val names t p.slot s)) m.meant;
    fits = rw e m.fits;
  }

  behind_value : (p : Place) (ps : List Place) (sum : ℕ) (text rest : List ℕ) (s : Shape) (x : Result ℕ ℕ) → HeadShape t.language (skip_spaces text) s rest → judged names t left weight p sum s ≡ x → ((next : ℕ) → HasReading ps next rest) → HasReading (p ∷ ps) sum text
  behind_value p ps sum text rest s (Err c) head e go = inr (c, inr (inr (s, rest, head, inl e)))
  behind_value p ps sum text rest s (Ok next) head e go = elim (go next) [
    | inl m ↦ inl (val (meant_val names t p.slot s) m.0, m.1, in_front p ps sum text rest s next m.0 m.1 head e m.2)
    | inr f ↦ inr (f.0, inr (inr (s, rest, head, inr (next, e, f.1))))
  ]

  pub some_values : (places : List Place) (sum : ℕ) (text : List ℕ) → HasReading places sum text
  some_values [] sum text = elim (skipped text) [
    | inl none ↦ inl (no_vals, sum, no_more names t left weight sum text none)
    | inr starts ↦ inr (2, (starts, refl))
  ]
  some_values (p ∷ ps) sum text = elim (skipped text) [
    | inl none ↦ inr (2, inl (none, refl))
    | inr starts ↦ elim (some_head t.language (skip_spaces text)) [
      | inl h ↦ behind_value p ps sum text h.1 h.0 (judged names t left weight p sum h.0) h.2 refl (λ next. some_values ps next h.1)
      | inr none ↦ inr (1, inr (inl (starts, none, refl)))
    ]
  ]

module _ (names : NameMap) (t : Map) (index : ℕ) (text : List ℕ) where
  of_form : (x : Result (List Piece) ℕ) → own_form t.language (look t index) ≡ x → (read : Result Vals ℕ) × ReadsArguments names t index text read
  of_form (Err c) own = (Err c, inl own)
  of_form (Ok ps) own = elim (some_values names t 16 1 (places_of ps) 0 text) [
    | inl m ↦ (Ok m.0, spelled_of names t index text ps m.0 m.1 own m.2)
    | inr f ↦ (Err f.0, inr (ps, own, first_found names t 16 1 (places_of ps) 0 text f.0 (omega arith) f.1))
  ]

  -- it spells arguments or has a cause
  pub some_reading : (read : Result Vals ℕ) × ReadsArguments names t index text read
  some_reading = of_form (own_form t.language (look t index)) refl
