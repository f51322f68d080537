-- Values and elements with spaces in front, and what a value's text begins with.
use Rattle.std.proofs.Common.{◌≡◌, ◌≢◌, ◌⊎◌, ◌<◌, ℕ, Bool, true, false, List, [], ◌∷◌, ◌++◌, refl, sym, ap, subst, ◌∙◌, arith, Option, Some, None, inl, inr, append_assoc, codes}
use Rattle.std.proofs.lemmas.Bool.{ne_eqb, cases_eq}
use Rattle.std.proofs.lemmas.Str.Parse.{digit_from_value}
use Rattle.defmt_grammar.specs.Cut.{AreSpaces, skip_spaces}
use Rattle.defmt_grammar.proofs.Cuts.{skip_again, skip_found}
use Rattle.defmt_grammar.specs.declared.language.Language.{Language}
use Rattle.defmt_shapes.specs.Shape.{Shape, Shapes, Items, no_shapes, shape, no_items, item, decimal, hexadecimal, negative, flag, character, quoted, interned, bytes, call, empty, sequence, float, nodes, IsUnsigned, IsFloat, IsNumber, IsName, SpellsShape, SpellsShapes, SpellsItems, StartsThere, IsItemMark, HeadShape}
use Rattle.defmt_shapes.proofs.LeadForms.{letter_range}
use Rattle.defmt_shapes.proofs.NameLaws.{name_parts}

-- ---- spaces

pub spaces_join : (xs ys : List ℕ) → AreSpaces xs → AreSpaces ys → AreSpaces (xs ++ ys)
spaces_join [] ys p q = q
spaces_join (x ∷ xs) ys p q = (p.0, spaces_join xs ys p.1 q)

pub skip_none : (c : ℕ) (cs : List ℕ) → c ≢ 32 → skip_spaces (c ∷ cs) ≡ c ∷ cs
unfolding skip_spaces
skip_none c cs n = rw (ne_eqb c 32 n) refl

pub skip_one : (cs : List ℕ) → skip_spaces (32 ∷ cs) ≡ skip_spaces cs
unfolding skip_spaces
skip_one cs = refl

pub skip_all : (xs : List ℕ) → AreSpaces xs → skip_spaces xs ≡ []
unfolding skip_spaces
skip_all [] h = refl
skip_all (x ∷ xs) h = rw h.0 (skip_all xs h.1)

-- what follows the spaces is the same with more behind it
pub skip_more : (xs ys : List ℕ) (c : ℕ) → c ≢ 32 → skip_spaces (xs ++ c ∷ ys) ≡ skip_spaces xs ++ c ∷ ys
unfolding skip_spaces
skip_more [] ys c n = skip_none c ys n
skip_more (x ∷ xs) ys c n =
    elim (cases_eq x 32) [
      | inl e ↦ ap (λ (d : ℕ). skip_spaces (d ∷ (xs ++ c ∷ ys))) e ∙ skip_one (xs ++ c ∷ ys) ∙ skip_more xs ys c n ∙ ap (λ (t : List ℕ). t ++ c ∷ ys) (sym (skip_one xs) ∙ ap (λ (d : ℕ). skip_spaces (d ∷ xs)) (sym e))
      | inr m ↦ skip_none x (xs ++ c ∷ ys) m ∙ ap (λ (t : List ℕ). t ++ c ∷ ys) (sym (skip_none x xs m))
    ]

pub shapes_spaced : (lang : Language) (sp text : List ℕ) (ss : Shapes) → AreSpaces sp → SpellsShapes lang text ss → SpellsShapes lang (sp ++ text) ss
shapes_spaced lang sp text no_shapes a h = spaces_join sp text a h
shapes_spaced lang sp text (shape s ss) a (spaces, front, rest, b, spelled, ends, more, e) =
    (sp ++ spaces, front, rest, spaces_join sp spaces a b, spelled, ends, more, ap (λ (t : List ℕ). sp ++ t) e ∙ sym (append_assoc sp spaces (front ++ rest)))

pub items_spaced : (lang : Language) (sp text : List ℕ) (items : Items) → AreSpaces sp → StartsThere text → SpellsItems lang text items → SpellsItems lang (sp ++ text) items
items_spaced lang sp text no_items a starts h = absurd (subst StartsThere h starts)
items_spaced lang sp text (item v ss more) a starts (spaces, mark, inside, rest, b, im, spelled, ends, others, e) =
    (sp ++ spaces, mark, inside, rest, spaces_join sp spaces a b, im, spelled, ends, others, ap (λ (t : List ℕ). sp ++ t) e ∙ sym (append_assoc sp spaces (mark ++ 40 ∷ (inside ++ 41 ∷ rest))))

-- ---- the first character

-- neither a space nor a closing bracket
pub record StartsValue (text : List ℕ) : Type 0 where
  pub first : ℕ
  pub more : List ℕ
  pub text_is : text ≡ first ∷ more
  pub no_space : first ≢ 32
  pub no_close : first ≢ 41
  pub no_angle : first ≢ 62

-- what may close values
abbrev pub IsClosing : ℕ → Type 0
IsClosing c = (c ≡ 41) ⊎ (c ≡ 62)

pub closing_no_space : (c : ℕ) → IsClosing c → c ≢ 32
closing_no_space c (inl e) k = omega (arith, e, k)
closing_no_space c (inr e) k = omega (arith, e, k)

pub not_closing : (text : List ℕ) (s : StartsValue text) (c : ℕ) → IsClosing c → s.first ≢ c
not_closing text s c (inl e) k = s.no_close (k ∙ e)
not_closing text s c (inr e) k = s.no_angle (k ∙ e)

starts_with : (text more : List ℕ) (c : ℕ) → text ≡ c ∷ more → c ≢ 32 → c ≢ 41 → c ≢ 62 → StartsValue text
starts_with text more c e n m a = record { first = c; more = more; text_is = e; no_space = n; no_close = m; no_angle = a }

name_starts : (text name more : List ℕ) → IsName name → text ≡ name ++ more → StartsValue text
name_starts text name more h e =
    let n = name_parts name h in
    let r = letter_range n.first n.letter in
    starts_with text (n.more ++ more) n.first (e ∙ ap (λ (t : List ℕ). t ++ more) n.name_is) (λ k. omega (arith, r.0)) (λ k. omega (arith, r.0)) (λ k. omega (arith, r.0))

digits_start : (text : List ℕ) (n : ℕ) → IsNumber 10 text n → StartsValue text
digits_start [] n h = absurd (omega (arith, h.some))
digits_start (d ∷ ds) n h = let r = digit_from_value d h.all.0 in starts_with (d ∷ ds) ds d refl (λ k. omega (arith, r.0)) (λ k. omega (arith, r.0)) (λ k. omega (arith, r.1))

flag_starts : (lang : Language) (b : Bool) (text : List ℕ) → SpellsShape lang text (flag b) → StartsValue text
flag_starts lang true text e = starts_with text (codes "rue") 116 e (λ k. omega arith) (λ k. omega arith) (λ k. omega arith)
flag_starts lang false text e = starts_with text (codes "alse") 102 e (λ k. omega arith) (λ k. omega arith) (λ k. omega arith)

unsigned_starts : (text : List ℕ) → IsUnsigned text → (c : ℕ) × (others : List ℕ) × (text ≡ c ∷ others) × (c ≢ 32) × (c ≢ 41) × (c ≢ 62)
unsigned_starts text (inl ([], scale, d, s, e)) = absurd (let some : 0 < 0 = d.0 in omega arith)
unsigned_starts text (inl (d ∷ ds, scale, all, s, e)) =
    let r = digit_from_value d all.1.0 in
    (d, ds ++ scale, e, (λ k. omega (arith, r.0)), (λ k. omega (arith, r.0)), (λ k. omega (arith, r.1)))
unsigned_starts text (inr e) = (105, codes "nf", e, (λ k. omega arith), (λ k. omega arith), (λ k. omega arith))

float_starts : (text : List ℕ) → IsFloat text → StartsValue text
float_starts text (inl e) = starts_with text (codes "aN") 78 e (λ k. omega arith) (λ k. omega arith) (λ k. omega arith)
float_starts text (inr (inl u)) = let k = unsigned_starts text u in starts_with text k.1 k.0 k.2 k.3 k.4 k.5
float_starts text (inr (inr (u, h, e))) = starts_with text u 45 e (λ k. omega arith) (λ k. omega arith) (λ k. omega arith)

pub value_starts : (lang : Language) (s : Shape) (text : List ℕ) → SpellsShape lang text s → StartsValue text
value_starts lang (decimal n) text h = digits_start text n h
value_starts lang (hexadecimal n) text (digits, h, e) = starts_with text (120 ∷ digits) 48 e (λ k. omega arith) (λ k. omega arith) (λ k. omega arith)
value_starts lang (negative n) text (digits, h, e) = starts_with text digits 45 e (λ k. omega arith) (λ k. omega arith) (λ k. omega arith)
value_starts lang (flag b) text h = flag_starts lang b text h
value_starts lang (character c) text (inside, h, e) = starts_with text (inside ++ 39 ∷ []) 39 e (λ k. omega arith) (λ k. omega arith) (λ k. omega arith)
value_starts lang (quoted s) text (inside, h, e) = starts_with text (inside ++ 34 ∷ []) 34 e (λ k. omega arith) (λ k. omega arith) (λ k. omega arith)
value_starts lang (interned name) text (h, e) = starts_with text name 64 e (λ k. omega arith) (λ k. omega arith) (λ k. omega arith)
value_starts lang (bytes bs) text (digits, h, e) = starts_with text digits 35 e (λ k. omega arith) (λ k. omega arith) (λ k. omega arith)
value_starts lang (call name v ss) text (mark, inside, h, k, spelled, e) = name_starts text name (mark ++ 40 ∷ (inside ++ 41 ∷ [])) h e
value_starts lang empty text e = starts_with text (93 ∷ []) 91 e (λ k. omega arith) (λ k. omega arith) (λ k. omega arith)
value_starts lang (sequence name items) text (inside, h, starts, spelled, e) = name_starts text name (91 ∷ (inside ++ 93 ∷ [])) h e
value_starts lang (float t) text (full, h, e) = subst StartsValue (sym e) (float_starts t h)
value_starts lang (nodes ss) text (inside, full, calls, spelled, e) = starts_with text (inside ++ 62 ∷ []) 60 e (λ k. omega arith) (λ k. omega arith) (λ k. omega arith)

skip_value : (lang : Language) (s : Shape) (front rest : List ℕ) → SpellsShape lang front s → skip_spaces (front ++ rest) ≡ front ++ rest
skip_value lang s front rest h =
    let f = value_starts lang s front h in
    let e : front ++ rest ≡ f.first ∷ (f.more ++ rest) = ap (λ (t : List ℕ). t ++ rest) f.text_is in
    ap skip_spaces e ∙ skip_none f.first (f.more ++ rest) f.no_space ∙ sym e

-- the first of the values, behind the spaces
pub first_shape : (lang : Language) (text : List ℕ) (s : Shape) (ss : Shapes) → SpellsShapes lang text (shape s ss) → (rest : List ℕ) × HeadShape lang (skip_spaces text) s rest × SpellsShapes lang rest ss
first_shape lang text s ss (spaces, front, rest, a, spelled, ends, more, e) = (
  rest,
  record { front = front; spelled = spelled; ends = ends; text_is = ap skip_spaces e ∙ skip_again spaces (front ++ rest) a (skip_value lang s front rest spelled) },
  more,
)

-- and back
pub join_shape : (lang : Language) (text rest : List ℕ) (s : Shape) (ss : Shapes) → HeadShape lang (skip_spaces text) s rest → SpellsShapes lang rest ss → SpellsShapes lang text (shape s ss)
join_shape lang text rest s ss h more =
    let k = skip_found text in
    (k.0, h.front, rest, k.1, h.spelled, h.ends, more, k.2 ∙ ap (λ (t : List ℕ). k.0 ++ t) h.text_is)

pub shapes_skip : (lang : Language) (text : List ℕ) (ss : Shapes) → SpellsShapes lang text ss → SpellsShapes lang (skip_spaces text) ss
shapes_skip lang text no_shapes h = subst (λ (t : List ℕ). SpellsShapes lang t no_shapes) (sym (skip_all text h)) tt
shapes_skip lang text (shape s ss) h =
    let k = first_shape lang text s ss h in
    ([], k.1.front, k.0, tt, k.1.spelled, k.1.ends, k.2, k.1.text_is)

-- ---- elements

pub mark_starts : (mark rest : List ℕ) (v : Option ℕ) → IsItemMark mark v → StartsThere (mark ++ 40 ∷ rest)
mark_starts mark rest None h = rw h (λ k. omega arith)
mark_starts [] rest (Some v) h = λ k. omega arith
mark_starts (d ∷ ds) rest (Some v) h = let r = digit_from_value d h.number.all.0 in λ k. omega (arith, r.0)

pub starts_skip : (text : List ℕ) → StartsThere text → skip_spaces text ≡ text
starts_skip [] h = absurd h
starts_skip (c ∷ cs) h = skip_none c cs h
