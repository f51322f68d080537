-- The pieces that the five format strings of a generated text spell.
use Rattle.std.proofs.Common.{◌≡◌, ◌-◌, ℕ, zero, suc, List, [], ◌∷◌, ◌++◌, map, Result, Ok, refl, sym, ap, subst, ◌∙◌, arith, length, false, true}
use Rattle.std.specs.Prelude.{codes}
use Rattle.std.proofs.lemmas.Option.{same_Some}
use Rattle.defmt_grammar.proofs.ReadingLaws.{flushed_some, joined_chars}
use Rattle.defmt_grammar.proofs.StepLaws.{step_spells, then_tokens}
use Rattle.defmt_grammar.specs.Cut.{before, behind, cut, lead, number_of, strip}
use Rattle.defmt_grammar.specs.Grammar.{NoClash, NoGap, Spells, SpellsTokens, Token, char, hole, joined, uses_of}
use Rattle.defmt_grammar.specs.Hint.{base_of, fill_of, hint_of, radix_of, width_of}
use Rattle.defmt_grammar.specs.Kind.{bits_of, count_of, kind_of, shape_of}
use Rattle.defmt_grammar.specs.Param.{param_of, parts_after, position_of, written_of}
use Rattle.defmt_grammar.specs.Step.{Read, hole as hole_step, plain, run, step_of}
use Rattle.defmt_grammar.specs.declared.fault.Fault.{Fault}
use Rattle.defmt_grammar.specs.declared.fault.Mode.{Mode}
use Rattle.defmt_grammar.specs.declared.hint.Base.TheVariants.{Hex}
use Rattle.defmt_grammar.specs.declared.hint.Hint.{Hint}
use Rattle.defmt_grammar.specs.declared.hint.Hint.TheVariants as hints
use Rattle.defmt_grammar.specs.declared.kind.IntSize.TheVariants.{W8, W16, W32, W64}
use Rattle.defmt_grammar.specs.declared.kind.Kind.{Kind}
use Rattle.defmt_grammar.specs.declared.kind.Kind.TheVariants as kinds
use Rattle.defmt_grammar.specs.declared.param.Param.{Param}
use Rattle.defmt_grammar.specs.declared.piece.Piece.{Piece}
use Rattle.defmt_grammar.specs.declared.piece.Piece.TheVariants as pieces
use Rattle.defmt_grammar.specs.declared.piece.Use.{Use}

abbrev pub param : ℕ → Kind → Hint → Param
param position kind hint = record { position = position; kind = kind; hint = hint }

abbrev pub boot_pieces : List Piece
boot_pieces = pieces.Literal (codes "boot ") ∷ pieces.Param (param 0 (kinds.Uint W8) hints.Plain) ∷ []

abbrev pub temp_pieces : List Piece
temp_pieces = pieces.Literal (codes "temp ") ∷ pieces.Param (param 0 (kinds.Int W16) hints.Plain)
    ∷ pieces.Literal (codes " of ") ∷ pieces.Param (param 1 kinds.Bytes (hints.Radix Hex false 2)) ∷ []

abbrev pub link_pieces : List Piece
link_pieces = pieces.Literal (codes "link ") ∷ pieces.Param (param 0 kinds.Bool hints.Plain)
    ∷ pieces.Literal (codes " ") ∷ pieces.Param (param 1 kinds.Str hints.Debug) ∷ []

abbrev pub fail_pieces : List Piece
fail_pieces = pieces.Literal (codes "fail ") ∷ pieces.Param (param 0 (kinds.Uint W32) (hints.Radix Hex true 10)) ∷ []

abbrev pub tick_pieces : List Piece
tick_pieces = pieces.Literal (codes "tick ") ∷ pieces.Param (param 0 (kinds.Uint W64) hints.Plain) ∷ []

-- ---- uses of positions

uses_chars : (cs : List ℕ) (us : List Token) → uses_of (map char cs ++ us) ≡ uses_of us
uses_chars [] us = refl
uses_chars (c ∷ cs) us = uses_chars cs us

one_no_clash : (u : Use) → NoClash (u ∷ [])
one_no_clash u zero j v w lt e f c = absurd (omega (arith, lt))
one_no_clash u (suc i) j v w lt e f c = absurd (cc e)

one_no_gap : (u : Use) → u.param.position ≡ 0 → NoGap (u ∷ [])
one_no_gap u first zero v e position lt =
    let same : u.param.position ≡ v.param.position = ap (λ (x : Use). x.param.position) (same_Some u v e) in
    absurd (omega (arith, lt, same, first))
one_no_gap u first (suc i) v e position lt = absurd (cc e)

two_no_clash : (u v : Use) → u.param.position ≡ 0 → v.param.position ≡ 1 → NoClash (u ∷ v ∷ [])
two_no_clash u v first second zero j a b lt e f c = absurd (omega (arith, lt))
two_no_clash u v first second (suc zero) zero a b lt e f c =
    let left : u.param.position ≡ b.param.position = ap (λ (x : Use). x.param.position) (same_Some u b f) in
    let right : v.param.position ≡ a.param.position = ap (λ (x : Use). x.param.position) (same_Some v a e) in
    absurd (omega (arith, left, right, first, second, c.position))
two_no_clash u v first second (suc zero) (suc j) a b lt e f c = absurd (omega (arith, lt))
two_no_clash u v first second (suc (suc i)) j a b lt e f c = absurd (cc e)

two_no_gap : (u v : Use) → u.param.position ≡ 0 → v.param.position ≡ 1 → NoGap (u ∷ v ∷ [])
two_no_gap u v first second zero a e position lt =
    let same : u.param.position ≡ a.param.position = ap (λ (x : Use). x.param.position) (same_Some u a e) in
    absurd (omega (arith, lt, same, first))
two_no_gap u v first second (suc zero) a e position lt =
    let same : v.param.position ≡ a.param.position = ap (λ (x : Use). x.param.position) (same_Some v a e) in
    let zeroth : u.param.position ≡ position = omega (arith, lt, same, first, second) in
    (0, u, refl, zeroth)
two_no_gap u v first second (suc (suc i)) a e position lt = absurd (cc e)

-- ---- steps

abbrev okay : Read × List ℕ → Result (Read × List ℕ) Fault
okay p = Ok p

run_spells : (mode : Mode) (size next : ℕ) (text cs rest : List ℕ) → step_of mode next text ≡ okay (run cs, rest) → SpellsTokens mode size next text (map char cs) next rest
run_spells mode size next text cs rest h = (step_spells mode size next text (run cs, rest) h).1

hole_spells : (mode : Mode) (size next after : ℕ) (text rest : List ℕ) (p : Param) → step_of mode next text ≡ okay (hole_step p after, rest)
    → SpellsTokens mode size next text (hole (size - length text) p ∷ []) after rest
hole_spells mode size next after text rest p h = (after, rest, step_spells mode size next text (hole_step p after, rest) h, (refl, refl))

-- a literal and a parameter
record OneHole (mode : Mode) (text : List ℕ) (c : ℕ) (cs : List ℕ) (p : Param) : Type 0 where
  rest : List ℕ
  first : step_of mode 0 text ≡ okay (run (c ∷ cs), rest)
  second : step_of mode 0 rest ≡ okay (hole_step p 1, [])
  position : p.position ≡ 0

one_hole : (mode : Mode) (text : List ℕ) (c : ℕ) (cs : List ℕ) (p : Param) → OneHole mode text c cs p → Spells text mode (pieces.Literal (c ∷ cs) ∷ pieces.Param p ∷ [])
one_hole mode text c cs p h =
    let size : ℕ = length text in
    let end : List Token = hole (size - length h.rest) p ∷ [] in
    let u : Use = record { at = size - length h.rest; param = p } in
    let uses : uses_of (map char (c ∷ cs) ++ end) ≡ u ∷ [] = uses_chars (c ∷ cs) end in
    record {
      tokens = map char (c ∷ cs) ++ end;
      after = 1;
      spelled = then_tokens mode size 0 0 1 text h.rest [] (map char (c ∷ cs)) end
          (run_spells mode size 0 text (c ∷ cs) h.rest h.first) (hole_spells mode size 0 1 h.rest [] p h.second);
      joins = joined_chars (c ∷ cs) end tt ∙ ap (λ (ps : List Piece). ps ++ (pieces.Param p ∷ [])) (flushed_some c cs);
      no_clash = subst NoClash (sym uses) (one_no_clash u);
      no_gap = subst NoGap (sym uses) (one_no_gap u h.position);
    }

-- the same twice
record TwoHoles (mode : Mode) (text : List ℕ) (c : ℕ) (cs : List ℕ) (p : Param) (d : ℕ) (ds : List ℕ) (q : Param) : Type 0 where
  one : List ℕ
  two : List ℕ
  three : List ℕ
  first : step_of mode 0 text ≡ okay (run (c ∷ cs), one)
  second : step_of mode 0 one ≡ okay (hole_step p 1, two)
  third : step_of mode 1 two ≡ okay (run (d ∷ ds), three)
  fourth : step_of mode 1 three ≡ okay (hole_step q 2, [])
  zeroth : p.position ≡ 0
  next : q.position ≡ 1

two_holes : (mode : Mode) (text : List ℕ) (c : ℕ) (cs : List ℕ) (p : Param) (d : ℕ) (ds : List ℕ) (q : Param) → TwoHoles mode text c cs p d ds q
    → Spells text mode (pieces.Literal (c ∷ cs) ∷ pieces.Param p ∷ pieces.Literal (d ∷ ds) ∷ pieces.Param q ∷ [])
two_holes mode text c cs p d ds q h =
    let size : ℕ = length text in
    let v : Use = record { at = size - length h.three; param = q } in
    let end : List Token = hole (size - length h.three) q ∷ [] in
    let behind_second : List Token = map char (d ∷ ds) ++ end in
    let u : Use = record { at = size - length h.one; param = p } in
    let behind_first : List Token = hole (size - length h.one) p ∷ behind_second in
    let last : SpellsTokens mode size 1 h.two behind_second 2 [] =
    then_tokens mode size 1 1 2 h.two h.three [] (map char (d ∷ ds)) end (run_spells mode size 1 h.two (d ∷ ds) h.three h.third) (hole_spells mode size 1 2 h.three [] q h.fourth) in
    let middle : SpellsTokens mode size 0 h.one behind_first 2 [] =
    then_tokens mode size 0 1 2 h.one h.two [] (hole (size - length h.one) p ∷ []) behind_second (hole_spells mode size 0 1 h.one h.two p h.second) last in
    let uses : uses_of (map char (c ∷ cs) ++ behind_first) ≡ u ∷ v ∷ [] = uses_chars (c ∷ cs) behind_first ∙ ap (λ (us : List Use). u ∷ us) (uses_chars (d ∷ ds) end) in
    let joins_second : joined behind_second ≡ pieces.Literal (d ∷ ds) ∷ pieces.Param q ∷ [] =
    joined_chars (d ∷ ds) end tt ∙ ap (λ (ps : List Piece). ps ++ (pieces.Param q ∷ [])) (flushed_some d ds) in
    record {
      tokens = map char (c ∷ cs) ++ behind_first;
      after = 2;
      spelled = then_tokens mode size 0 0 2 text h.one [] (map char (c ∷ cs)) behind_first (run_spells mode size 0 text (c ∷ cs) h.one h.first) middle;
      joins = joined_chars (c ∷ cs) behind_first tt ∙ ap (λ (ps : List Piece). ps ++ joined behind_first) (flushed_some c cs)
          ∙ ap (λ (ps : List Piece). pieces.Literal (c ∷ cs) ∷ pieces.Param p ∷ ps) joins_second;
      no_clash = subst NoClash (sym uses) (two_no_clash u v h.zeroth h.next);
      no_gap = subst NoGap (sym uses) (two_no_gap u v h.zeroth h.next);
    }

-- ---- the five texts

boot_first : (mode : Mode) → step_of mode 0 (codes "boot {=u8}") ≡ okay (run (codes "boot "), codes "{=u8}")
unfolding step_of plain strip behind before cut lead param_of written_of parts_after position_of number_of kind_of shape_of count_of bits_of hint_of radix_of base_of width_of fill_of
boot_first mode = refl

boot_second : (mode : Mode) → step_of mode 0 (codes "{=u8}") ≡ okay (hole_step (param 0 (kinds.Uint W8) hints.Plain) 1, [])
unfolding step_of plain strip behind before cut lead param_of written_of parts_after position_of number_of kind_of shape_of count_of bits_of hint_of radix_of base_of width_of fill_of
boot_second mode = refl

pub boot_spells : (mode : Mode) → Spells (codes "boot {=u8}") mode boot_pieces
boot_spells mode = one_hole mode (codes "boot {=u8}") _ _ (param 0 (kinds.Uint W8) hints.Plain) (record { rest = codes "{=u8}"; first = boot_first mode; second = boot_second mode; position = refl })

temp_first : (mode : Mode) → step_of mode 0 (codes "temp {=i16} of {=[u8]:02x}") ≡ okay (run (codes "temp "), codes "{=i16} of {=[u8]:02x}")
unfolding step_of plain strip behind before cut lead param_of written_of parts_after position_of number_of kind_of shape_of count_of bits_of hint_of radix_of base_of width_of fill_of
temp_first mode = refl

temp_second : (mode : Mode) → step_of mode 0 (codes "{=i16} of {=[u8]:02x}") ≡ okay (hole_step (param 0 (kinds.Int W16) hints.Plain) 1, codes " of {=[u8]:02x}")
unfolding step_of plain strip behind before cut lead param_of written_of parts_after position_of number_of kind_of shape_of count_of bits_of hint_of radix_of base_of width_of fill_of
temp_second mode = refl

temp_third : (mode : Mode) → step_of mode 1 (codes " of {=[u8]:02x}") ≡ okay (run (codes " of "), codes "{=[u8]:02x}")
unfolding step_of plain strip behind before cut lead param_of written_of parts_after position_of number_of kind_of shape_of count_of bits_of hint_of radix_of base_of width_of fill_of
temp_third mode = refl

temp_fourth : (mode : Mode) → step_of mode 1 (codes "{=[u8]:02x}") ≡ okay (hole_step (param 1 kinds.Bytes (hints.Radix Hex false 2)) 2, [])
unfolding step_of plain strip behind before cut lead param_of written_of parts_after position_of number_of kind_of shape_of count_of bits_of hint_of radix_of base_of width_of fill_of
temp_fourth mode = refl

pub temp_spells : (mode : Mode) → Spells (codes "temp {=i16} of {=[u8]:02x}") mode temp_pieces
temp_spells mode = two_holes mode (codes "temp {=i16} of {=[u8]:02x}") _ _ (param 0 (kinds.Int W16) hints.Plain) _ _ (param 1 kinds.Bytes (hints.Radix Hex false 2)) (record {
  one = codes "{=i16} of {=[u8]:02x}";
  two = codes " of {=[u8]:02x}";
  three = codes "{=[u8]:02x}";
  first = temp_first mode;
  second = temp_second mode;
  third = temp_third mode;
  fourth = temp_fourth mode;
  zeroth = refl;
  next = refl;
})

link_first : (mode : Mode) → step_of mode 0 (codes "link {=bool} {=str:?}") ≡ okay (run (codes "link "), codes "{=bool} {=str:?}")
unfolding step_of plain strip behind before cut lead param_of written_of parts_after position_of number_of kind_of shape_of count_of bits_of hint_of radix_of base_of width_of fill_of
link_first mode = refl

link_second : (mode : Mode) → step_of mode 0 (codes "{=bool} {=str:?}") ≡ okay (hole_step (param 0 kinds.Bool hints.Plain) 1, codes " {=str:?}")
unfolding step_of plain strip behind before cut lead param_of written_of parts_after position_of number_of kind_of shape_of count_of bits_of hint_of radix_of base_of width_of fill_of
link_second mode = refl

link_third : (mode : Mode) → step_of mode 1 (codes " {=str:?}") ≡ okay (run (codes " "), codes "{=str:?}")
unfolding step_of plain strip behind before cut lead param_of written_of parts_after position_of number_of kind_of shape_of count_of bits_of hint_of radix_of base_of width_of fill_of
link_third mode = refl

link_fourth : (mode : Mode) → step_of mode 1 (codes "{=str:?}") ≡ okay (hole_step (param 1 kinds.Str hints.Debug) 2, [])
unfolding step_of plain strip behind before cut lead param_of written_of parts_after position_of number_of kind_of shape_of count_of bits_of hint_of radix_of base_of width_of fill_of
link_fourth mode = refl

pub link_spells : (mode : Mode) → Spells (codes "link {=bool} {=str:?}") mode link_pieces
link_spells mode = two_holes mode (codes "link {=bool} {=str:?}") _ _ (param 0 kinds.Bool hints.Plain) _ _ (param 1 kinds.Str hints.Debug) (record {
  one = codes "{=bool} {=str:?}";
  two = codes " {=str:?}";
  three = codes "{=str:?}";
  first = link_first mode;
  second = link_second mode;
  third = link_third mode;
  fourth = link_fourth mode;
  zeroth = refl;
  next = refl;
})

fail_first : (mode : Mode) → step_of mode 0 (codes "fail {=u32:#010x}") ≡ okay (run (codes "fail "), codes "{=u32:#010x}")
unfolding step_of plain strip behind before cut lead param_of written_of parts_after position_of number_of kind_of shape_of count_of bits_of hint_of radix_of base_of width_of fill_of
fail_first mode = refl

fail_second : (mode : Mode) → step_of mode 0 (codes "{=u32:#010x}") ≡ okay (hole_step (param 0 (kinds.Uint W32) (hints.Radix Hex true 10)) 1, [])
unfolding step_of plain strip behind before cut lead param_of written_of parts_after position_of number_of kind_of shape_of count_of bits_of hint_of radix_of base_of width_of fill_of
fail_second mode = refl

pub fail_spells : (mode : Mode) → Spells (codes "fail {=u32:#010x}") mode fail_pieces
fail_spells mode = one_hole mode (codes "fail {=u32:#010x}") _ _ (param 0 (kinds.Uint W32) (hints.Radix Hex true 10)) (record { rest = codes "{=u32:#010x}"; first = fail_first mode; second = fail_second mode; position = refl })

tick_first : (mode : Mode) → step_of mode 0 (codes "tick {=u64}") ≡ okay (run (codes "tick "), codes "{=u64}")
unfolding step_of plain strip behind before cut lead param_of written_of parts_after position_of number_of kind_of shape_of count_of bits_of hint_of radix_of base_of width_of fill_of
tick_first mode = refl

tick_second : (mode : Mode) → step_of mode 0 (codes "{=u64}") ≡ okay (hole_step (param 0 (kinds.Uint W64) hints.Plain) 1, [])
unfolding step_of plain strip behind before cut lead param_of written_of parts_after position_of number_of kind_of shape_of count_of bits_of hint_of radix_of base_of width_of fill_of
tick_second mode = refl

pub tick_spells : (mode : Mode) → Spells (codes "tick {=u64}") mode tick_pieces
tick_spells mode = one_hole mode (codes "tick {=u64}") _ _ (param 0 (kinds.Uint W64) hints.Plain) (record { rest = codes "{=u64}"; first = tick_first mode; second = tick_second mode; position = refl })
