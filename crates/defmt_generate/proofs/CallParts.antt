-- A call, what is known of its entry in the table, and how its values are spelled.
use Rattle.std.proofs.Common.{◌≡◌, ◌≤◌, ◌<◌, ◌+◌, ◌^◌, ℕ, true, List, [], ◌∷◌, ◌++◌, Option, Some, Ok, refl, sym, ap, subst, ◌∙◌, arith, length, append-nil, length-append}
use Rattle.std.specs.Fmt.{decimal}
use Rattle.std.specs.FinMap as name_map
use Rattle.std.proofs.lemmas.Fmt.{decimal_is_IsNumeral}
use Rattle.defmt_eager.specs.Line.{printed_limit}
use Rattle.defmt_eager.specs.Show.{eager_text, own_pieces, pieces_in, pieces_text, shows}
use Rattle.defmt_encode.proofs.Most.{none_most}
use Rattle.defmt_encode.specs.Carry.{bytes_val, bytes_vals}
use Rattle.defmt_encode.specs.Out.{HasAtMost, HaveAtMost, message_limit}
use Rattle.defmt_generate.specs.Generated.{call}
use Rattle.defmt_generate.proofs.States.{all_names, all_settings, full_table}
use Rattle.defmt_grammar.specs.declared.hint.Hint.TheVariants as hints
use Rattle.defmt_grammar.specs.declared.kind.Kind.{Kind}
use Rattle.defmt_grammar.specs.declared.language.Language.TheVariants.{Base}
use Rattle.defmt_grammar.specs.declared.piece.Piece.{Piece}
use Rattle.defmt_grammar.specs.declared.slot.Slot.TheVariants as slots
use Rattle.defmt_intern.specs.Body.{body_of}
use Rattle.defmt_intern.specs.declared.entry.Entry.{Entry}
use Rattle.defmt_intern.specs.declared.parsed.Parsed.{Parsed}
use Rattle.defmt_intern.specs.declared.parsed.Parsed.TheVariants.{One}
use Rattle.defmt_lines.specs.Line.{field_and_rest}
use Rattle.defmt_script.specs.Lawful.{first_message}
use Rattle.defmt_script.specs.Reads.{is_message, is_message_of}
use Rattle.defmt_shapes.specs.Shape.{IsNumber, Shape, Shapes, SpellsShape, SpellsShapes, no_shapes, shape}
use Rattle.defmt_spelling.specs.Meaning.{meant_vals}
use Rattle.defmt_spelling.specs.Spelling.{ReadsArguments}
use Rattle.defmt_values.specs.Entries.{Place, is_logged, look, places_of}
use Rattle.defmt_values.specs.Fits.{FitsVals, weigh_vals}
use Rattle.defmt_values.specs.Plain.{Val, Vals, no_vals, val}
use Rattle.defmt_values.specs.Scan.{own_form, own_in}

-- The fields of a call, and what is known of them.
pub record Call (turn x : ℕ) : Type 0 where
  pub name : List ℕ
  pub args : List ℕ
  pub index : ℕ
  pub vs : Vals
  pub fields : field_and_rest (call turn x) ≡ (name, args)
  pub named : name_map.get all_names name ≡ Some index
  pub logged : is_message full_table index ≡ true
  pub reads : ReadsArguments all_names full_table index args (Ok vs)
  pub short : length (first_message full_table all_settings (record { index = index; args = vs })) ≤ message_limit
  pub narrow : length (eager_text full_table index vs) ≤ printed_limit

-- ---- an entry of the table

pub record Known (index : ℕ) (ps : List Piece) : Type 0 where
  pub entry : Entry
  pub there : look full_table index ≡ Some entry
  pub body : body_of full_table.language entry ≡ One ps
  pub logged : is_logged entry.tag ≡ true

pub is_known : (index : ℕ) (ps : List Piece) → Known index ps → is_message full_table index ≡ true
is_known index ps k = ap is_message_of k.there ∙ k.logged

own_known : (index : ℕ) (ps : List Piece) → Known index ps → own_pieces full_table index ≡ ps
own_known index ps k = ap (λ (o : Option Entry). pieces_in (own_form full_table.language o)) k.there ∙ ap (λ (b : Parsed). pieces_in (own_in b)) k.body

-- values of these places, which fit
pub record Given (ps : List Piece) (text : List ℕ) (vs : Vals) : Type 0 where
  pub places : List Place
  pub are : places_of ps ≡ places
  pub fits : FitsVals full_table 16 places vs
  pub light : weigh_vals full_table places 1 vs ≤ 8192
  pub shapes : Shapes
  pub spelled : SpellsShapes Base text shapes
  pub meant : meant_vals all_names full_table places shapes ≡ vs

pub reads_known : (index : ℕ) (ps : List Piece) (text : List ℕ) (vs : Vals) → Known index ps → Given ps text vs → ReadsArguments all_names full_table index text (Ok vs)
reads_known index ps text vs k g = record {
  fits = record {
    entry = k.entry;
    pieces = ps;
    there = k.there;
    body = k.body;
    values = subst (λ (q : List Place). FitsVals full_table 16 q vs) (sym g.are) g.fits;
    light = subst (λ (q : List Place). weigh_vals full_table q 1 vs ≤ 8192) (sym g.are) g.light;
  };
  shapes = g.shapes;
  spelled = g.spelled;
  meant = ap (λ (q : List Place). meant_vals all_names full_table q g.shapes) g.are ∙ g.meant;
}

pub narrow_known : (index : ℕ) (ps : List Piece) (vs : Vals) → Known index ps → length (pieces_text hints.Plain ps (shows full_table vs)) ≤ printed_limit → length (eager_text full_table index vs) ≤ printed_limit
narrow_known index ps vs k h = subst (λ (q : List Piece). length (pieces_text hints.Plain q (shows full_table vs)) ≤ printed_limit) (sym (own_known index ps k)) h

abbrev pub place : Kind → Place
place kind = record { slot = slots.One kind; uses = 1 }

pub more_most : (v : Val) (vs : Vals) (m n : ℕ) → HasAtMost v m → HaveAtMost vs n → HaveAtMost (val v vs) (m + n)
unfolding bytes_vals
more_most v vs m n one others t [] = omega arith
more_most v vs m n one others t (s ∷ ss) = omega (arith, length-append (bytes_val t s v) (bytes_vals t ss vs), one t s, others t ss)

pub one_most : (v : Val) (m : ℕ) → HasAtMost v m → HaveAtMost (val v no_vals) (m + 0)
one_most v m h = more_most v no_vals m 0 h none_most

-- ---- spelled values

pub last_spelled : (text : List ℕ) (s : Shape) → SpellsShape Base text s → SpellsShapes Base text (shape s no_shapes)
last_spelled text s h = ([], text, [], tt, h, tt, tt, sym (append-nil text))

pub two_spelled : (front text : List ℕ) (s u : Shape) → SpellsShape Base front s → SpellsShape Base text u → SpellsShapes Base (front ++ 32 ∷ text) (shape s (shape u no_shapes))
two_spelled front text s u h k =
    ([], front, 32 ∷ text, tt, h, refl, (32 ∷ [], text, [], (refl, tt), k, tt, tt, ap (λ (xs : List ℕ). 32 ∷ xs) (sym (append-nil text))), refl)

pub number : (n : ℕ) → n < 2 ^ 64 → IsNumber 10 (decimal n) n
number n small = let d = decimal_is_IsNumeral n small in record { some = d.0.0; all = d.0.1; value = d.1 }
