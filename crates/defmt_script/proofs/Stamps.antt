-- The stamps of a script: each fits the timestamp's entry, and its text is short.
use Rattle.std.proofs.Common.{◌≡◌, inl, inr, ◌≤◌, ◌<◌, ◌-◌, ◌/◌, ◌%◌, ◌^◌, ℕ, zero, suc, List, [], ◌∷◌, ◌++◌, length, refl, sym, ◌∙◌, ap, subst, arith, length-append, false}
use Rattle.std.specs.Prelude.{Option, Some, None, codes, replicate, nat_lt}
use Rattle.std.specs.List.{slice_get}
use Rattle.std.proofs.lemmas.Bool.{cond-true, lt-ltb}
use Rattle.std.proofs.lemmas.List.{append-nil}
use Rattle.defmt_encode.specs.Out.{message_limit}
use Rattle.defmt_grammar.specs.Grammar.{IsHole, Spells, hole}
use Rattle.defmt_grammar.specs.Param.{SpellsParam}
use Rattle.defmt_grammar.specs.Kind.{named}
use Rattle.defmt_grammar.specs.Slots.{kinds_at, positions, slot_of, slots_of}
use Rattle.defmt_grammar.specs.Language.{lenient_of}
use Rattle.defmt_grammar.specs.declared.language.Language.{Language}
use Rattle.defmt_grammar.specs.declared.kind.IntSize.TheVariants.{W64}
use Rattle.defmt_grammar.specs.declared.kind.Kind.TheVariants.{Uint}
use Rattle.defmt_grammar.specs.declared.hint.Hint.TheVariants.{Micros, Plain}
use Rattle.defmt_grammar.specs.declared.param.Param.{Param}
use Rattle.defmt_grammar.specs.declared.piece.Piece.{Piece}
use Rattle.defmt_grammar.specs.declared.piece.Piece.TheVariants as pieces
use Rattle.defmt_grammar.specs.declared.slot.Slot.TheVariants.{One as OneKind}
use Rattle.defmt_grammar.specs.Cut.{behind}
use Rattle.defmt_hints.specs.Digits.{zero_filled, number_text}
use Rattle.defmt_hints.specs.Printed.{fraction_text, printed_uint}
use Rattle.defmt_hints.proofs.DigitsLaws.{length_zero_filled}
use Rattle.defmt_intern.specs.Entries as map
use Rattle.defmt_intern.specs.Body.{body_of, one_body}
use Rattle.defmt_intern.specs.Pieces.{pieces_of}
use Rattle.defmt_intern.specs.Table.{Map, StampIs, IsLawful as IsLawfulTable}
use Rattle.defmt_intern.specs.declared.entry.Entry.{Entry}
use Rattle.defmt_intern.specs.declared.entry.Tag.{Tag}
use Rattle.defmt_intern.specs.declared.entry.Tag.TheVariants.{Timestamp}
use Rattle.defmt_intern.specs.declared.parsed.Parsed.{Parsed}
use Rattle.defmt_intern.specs.declared.parsed.Parsed.TheVariants.{One}
use Rattle.defmt_intern.proofs.PieceLaws.{pieces_again}
use Rattle.defmt_intern.proofs.Stamps.{stamp_is}
use Rattle.defmt_values.specs.Entries.{look, places_of}
use Rattle.defmt_values.specs.Fits.{Fits, FitsStamp, FitsVals}
use Rattle.defmt_values.specs.Plain.{no_vals, uint, val}
use Rattle.defmt_values.specs.Scan.{own_form, own_in}
use Rattle.defmt_values.specs.declared.value.Statement.{Statement}
use Rattle.defmt_eager.specs.Line.{IsWide, stamp_text, printed_limit}
use Rattle.defmt_eager.specs.Show.{eager_text, own_pieces, pieces_in, pieces_text, show_val, shows}
use Rattle.defmt_encode.proofs.Laws.{place_length, stamp_length}
use Rattle.defmt_encode.specs.Carry.{message_of, stamp_args}
use Rattle.defmt_encode.specs.Placed.{place_in}
use Rattle.defmt_intern.specs.Stamp.{stamp_of}
use Rattle.defmt_script.specs.Lawful.{HasStamp, IsLawful, IsSound, first_message, message_with, stamp_in}
use Rattle.defmt_lines.specs.declared.settings.Settings.{Settings}
use Rattle.defmt_script.specs.Script.{Script, base_of}

-- with each stamp a message has as many bytes as with the first
stamped_alike : (table : Map) (place : Option ℕ) (stamp : Option (ℕ × ℕ)) (n : ℕ) (stm : Statement) → length (message_of table place (stamp_args (stamp_in stamp n)) stm.index stm.args) ≡ length (message_of table place (stamp_args (base_of stamp)) stm.index stm.args)
stamped_alike table place None n stm = refl
stamped_alike table place (Some p) n stm = stamp_length table place n p.0 stm.index stm.args

-- a message that is short as that of the first mark is short as that of each
pub short_with : (table : Map) (s : Settings) (stm : Statement) → length (first_message table s stm) ≤ message_limit
    → (number n : ℕ) → length (message_with table s number n stm) ≤ message_limit
short_with table s stm short number n =
    let places = place_length table s.profile number 0 (stamp_args (stamp_in s.stamp n)) stm.index stm.args in
    omega (arith, short, places, stamped_alike table (place_in s.profile 0) s.stamp n stm)

-- ---- the timestamp's text

abbrev pub stamp_spelling : List ℕ
stamp_spelling = codes "{=u64:us}"

abbrev pub stamp_param : Param
stamp_param = record { position = 0; kind = Uint W64; hint = Micros }

abbrev pub stamp_pieces : List Piece
stamp_pieces = pieces.Param stamp_param ∷ []

spells_param : (language : Language) → SpellsParam (lenient_of language) 0 (codes "=u64:us") stamp_param 1
spells_param language = record {
  parts = record { digits = []; kind = Some (codes "u64"); hint = Some (codes "us") };
  writes = record { digits = refl; no_leading_zero = λ z. absurd (cc z.2); kind = (refl, (refl, (refl, tt))); text = refl };
  position = refl;
  few = omega arith;
  kind = (named (Uint W64), refl, refl);
  hint = inl refl;
  after_is = refl;
}

is_hole : IsHole stamp_spelling (codes "=u64:us") []
unfolding behind
is_hole = record { text_is = refl; no_open = refl; no_close = (refl, (refl, (refl, (refl, (refl, (refl, (refl, tt))))))) }

alone : {A : Type 0} (x y : A) (i : ℕ) → slice_get (x ∷ []) i ≡ Some y → (i ≡ 0) × (x ≡ y)
alone x y zero is = (refl, cc is)
alone x y (suc i) is = absurd (cc is)

spells_stamp : (language : Language) → Spells stamp_spelling (lenient_of language) stamp_pieces
spells_stamp language = record {
  tokens = hole 0 stamp_param ∷ [];
  after = 1;
  spelled = (1, [], (codes "=u64:us", is_hole, spells_param language, refl), (refl, refl));
  joins = refl;
  no_clash = λ i j u v before there earlier clash. absurd (omega (arith, before, (alone _ u i there).0));
  no_gap = λ i u there position below. absurd (omega (arith, below, ap (λ w. w.param.position) (sym (alone _ u i there).1)));
}

pub stamp_body : (language : Language) (entry : Entry) → entry.tag ≡ Timestamp → entry.text ≡ stamp_spelling → body_of language entry ≡ One stamp_pieces
stamp_body language entry tag text =
    let here : one_body (pieces_of (lenient_of language) entry.text) ≡ One stamp_pieces =
    ap (λ (l : List ℕ). one_body (pieces_of (lenient_of language) l)) text ∙ ap one_body (pieces_again (lenient_of language) stamp_spelling stamp_pieces (spells_stamp language)) in
    subst (λ (g : Tag). body_of language (record { tag = g; «package» = entry.«package»; text = entry.text; disambiguator = entry.disambiguator }) ≡ One stamp_pieces) (sym tag) here

-- ---- a stamp fits it

fits_places : (t : Map) (n : ℕ) → n < 2 ^ 64 → FitsVals t 16 (places_of stamp_pieces) (val (uint n) no_vals)
unfolding slots_of slot_of kinds_at positions
fits_places t n small = (record { slot = OneKind (Uint W64); uses = 1 }, [], refl, record { size = W64; slot_is = refl; in_range = small }, refl)

pub stamp_looks : (t : Map) → IsLawfulTable t → (index : ℕ) (entry : Entry) → map.get t index ≡ Some entry → look t index ≡ Some entry
stamp_looks t lawful index entry there = cond-true (nat_lt index 65536) _ _ (lt-ltb index 65536 (lawful.small index entry there)) ∙ there

stamp_fits : (t : Map) → IsLawfulTable t → (index n : ℕ) (entry : Entry) → map.get t index ≡ Some entry → entry.tag ≡ Timestamp → entry.text ≡ stamp_spelling → n < 2 ^ 64
    → Fits t index (val (uint n) no_vals)
unfolding slots_of slot_of kinds_at positions
stamp_fits t lawful index n entry there tag text small = record {
  entry = entry;
  pieces = stamp_pieces;
  there = stamp_looks t lawful index entry there;
  body = stamp_body t.language entry tag text;
  values = fits_places t n small;
  light = omega arith;
}

-- ---- its text is short

decimal_short : (n : ℕ) → n < 10 ^ 20 → length (number_text 10 false n) ≤ 20
unfolding zero_filled
decimal_short n small =
    omega (arith, length_zero_filled 10 20 n false (omega arith) (omega arith) small, length-append (replicate (20 - length (number_text 10 false n)) 48) (number_text 10 false n))

micros_short : (n : ℕ) → n < 2 ^ 64 → length (printed_uint n Micros) ≤ 65536
unfolding printed_uint fraction_text
micros_short n small =
    let whole : List ℕ = number_text 10 false (n / 1000000) in
    let part : List ℕ = zero_filled 6 (number_text 10 false (n % 1000000)) in
    omega (
      arith,
      decimal_short (n / 1000000) (omega arith),
      length_zero_filled 10 6 (n % 1000000) false (omega arith) (omega arith) (omega arith),
      length-append whole (codes "." ++ part),
    )

stamp_pieces_at : (t : Map) (index : ℕ) (entry : Entry) → look t index ≡ Some entry → body_of t.language entry ≡ One stamp_pieces → own_pieces t index ≡ stamp_pieces
stamp_pieces_at t index entry there body = ap (λ (o : Option Entry). pieces_in (own_form t.language o)) there ∙ ap (λ (b : Parsed). pieces_in (own_in b)) body

stamp_text_is : (t : Map) (n : ℕ) → pieces_text Plain stamp_pieces (shows t (val (uint n) no_vals)) ≡ printed_uint n Micros ++ []
unfolding pieces_text shows show_val
stamp_text_is t n = refl

stamp_narrow : (t : Map) → IsLawfulTable t → (index n : ℕ) (entry : Entry) → map.get t index ≡ Some entry → entry.tag ≡ Timestamp → entry.text ≡ stamp_spelling → n < 2 ^ 64
    → length (eager_text t index (val (uint n) no_vals)) ≤ 65536
stamp_narrow t lawful index n entry there tag text small =
    let own = stamp_pieces_at t index entry (stamp_looks t lawful index entry there) (stamp_body t.language entry tag text) in
    let is : eager_text t index (val (uint n) no_vals) ≡ printed_uint n Micros =
    ap (λ (ps : List Piece). pieces_text Plain ps (shows t (val (uint n) no_vals))) own ∙ stamp_text_is t n ∙ append-nil (printed_uint n Micros) in
    omega (arith, ap length is, micros_short n small)

-- ---- of a script

-- the timestamp's index
abbrev at_in : (stamp : Option (ℕ × ℕ)) (t : Map) → HasStamp stamp t → Option ℕ
at_in None t has = None
at_in (Some p) t has = Some has.0

at_is : (stamp : Option (ℕ × ℕ)) (t : Map) (has : HasStamp stamp t) → StampIs t (at_in stamp t has)
at_is None t has = has
at_is (Some p) t has = record { entry = has.1; there = has.2; is_stamp = has.3 }

at_fits : (stamp : Option (ℕ × ℕ)) (t : Map) (n : ℕ) (has : HasStamp stamp t) → IsLawfulTable t → n < 2 ^ 64 → FitsStamp t (at_in stamp t has) (stamp_args (stamp_in stamp n))
at_fits None t n has lawful small = refl
at_fits (Some p) t n has lawful small = stamp_fits t lawful has.0 n has.1 has.2 has.3 has.4 small

at_narrow : (stamp : Option (ℕ × ℕ)) (t : Map) (n : ℕ) (has : HasStamp stamp t) → IsLawfulTable t → n < 2 ^ 64 → length (stamp_text t (at_in stamp t has) (stamp_args (stamp_in stamp n))) ≤ 65536
at_narrow None t n has lawful small = omega arith
at_narrow (Some p) t n has lawful small = stamp_narrow t lawful has.0 n has.1 has.2 has.3 has.4 small

same_index : (s : Script) (h : IsLawful s) → stamp_of s.table ≡ at_in s.settings.stamp s.table h.stamp
same_index s h = stamp_is s.table (at_in s.settings.stamp s.table h.stamp) h.table (at_is s.settings.stamp s.table h.stamp)

pub fits_stamp : (s : Script) (n : ℕ) → IsLawful s → n < 2 ^ 64 → FitsStamp s.table (stamp_of s.table) (stamp_args (stamp_in s.settings.stamp n))
fits_stamp s n h small =
    subst (λ (o : Option ℕ). FitsStamp s.table o (stamp_args (stamp_in s.settings.stamp n))) (sym (same_index s h)) (at_fits s.settings.stamp s.table n h.stamp h.table small)

pub never_wide : (s : Script) (n : ℕ) (stm : Statement) → IsLawful s → n < 2 ^ 64 → IsSound s.table s.settings stm
    → IsWide s.table (stamp_args (stamp_in s.settings.stamp n)) stm.index stm.args → ⊥
never_wide s n stm h small sound (inl long) =
    let own : printed_limit < length (stamp_text s.table (at_in s.settings.stamp s.table h.stamp) (stamp_args (stamp_in s.settings.stamp n))) =
    subst (λ (o : Option ℕ). printed_limit < length (stamp_text s.table o (stamp_args (stamp_in s.settings.stamp n)))) (same_index s h) long in
    absurd (omega (arith, own, at_narrow s.settings.stamp s.table n h.stamp h.table small))
never_wide s n stm h small sound (inr long) = absurd (omega (arith, long, sound.narrow))
