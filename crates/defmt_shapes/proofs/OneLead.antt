-- A lead and what stands behind it spell at most one shape without others inside, and a call's lead is a call's.
use Rattle.std.proofs.Common.{◌≡◌, ◌+◌, ◌*◌, ℕ, List, [], ◌∷◌, ◌++◌, refl, sym, ap, subst, ◌∙◌, Option, Some, None, encode_utf8_all}
use Rattle.std.specs.Char.{digit_value}
use Rattle.defmt_grammar.specs.declared.language.Language.{Language}
use Rattle.defmt_shapes.specs.Shape.{Shape, Shapes, Items, SpellsBytes, SpellsQuoted, SpellsShapes, SpellsItems}
use Rattle.defmt_shapes.specs.Shape as shapes
use Rattle.defmt_shapes.specs.Leads.{Lead, IsMark, Leads, IsWhole}
use Rattle.defmt_shapes.specs.Leads as leads
use Rattle.defmt_shapes.proofs.QuoteLaws.{quoted_same}

-- ---- leads

-- the shape has no others inside
abbrev pub IsPlain : Shape → Type 0
IsPlain (shapes.decimal n) = Unit {0}
IsPlain (shapes.hexadecimal n) = Unit {0}
IsPlain (shapes.negative n) = Unit {0}
IsPlain (shapes.flag b) = Unit {0}
IsPlain (shapes.character c) = Unit {0}
IsPlain (shapes.quoted s) = Unit {0}
IsPlain (shapes.interned name) = Unit {0}
IsPlain (shapes.bytes bs) = Unit {0}
IsPlain (shapes.call name v ss) = ⊥
IsPlain shapes.empty = Unit {0}
IsPlain (shapes.float t) = Unit {0}
IsPlain (shapes.sequence name items) = ⊥
IsPlain (shapes.nodes ss) = ⊥

pub plain_lead : (lang : Language) (lead : Lead) (after rest : List ℕ) (s : Shape) → IsPlain s → Leads lang lead after rest s → IsWhole lead
plain_lead lang (leads.call name m) after rest s p h = subst IsPlain h.3 p
plain_lead lang (leads.sequence name) after rest s p h = subst IsPlain h.2 p
plain_lead lang leads.nodes after rest s p h = subst IsPlain h.2 p
plain_lead lang lead after rest s p h = tt

quoted_one : (inside s t : List ℕ) → SpellsQuoted inside s → SpellsQuoted inside t → s ≡ t
quoted_one inside s t h k = sym h.2 ∙ ap encode_utf8_all (quoted_same h.0 k.0 inside [] inside [] h.1 k.1 refl).0 ∙ k.2

bytes_one : (digits bs cs : List ℕ) → SpellsBytes digits bs → SpellsBytes digits cs → bs ≡ cs
bytes_one digits [] [] h k = refl
bytes_one digits [] (c ∷ cs) h (hi, lo, rest, a, b, e, more, f) = let g : [] ≡ hi ∷ lo ∷ rest = sym h ∙ f in absurd cc
bytes_one digits (b ∷ bs) [] (hi, lo, rest, a, x, e, more, f) k = let g : [] ≡ hi ∷ lo ∷ rest = sym k ∙ f in absurd cc
bytes_one digits (b ∷ bs) (c ∷ cs) (hi, lo, rest, a, x, e, more, f) (hj, lp, tail, d, y, g, others, k) =
    let same : hi ∷ lo ∷ rest ≡ hj ∷ lp ∷ tail = sym f ∙ k in
    let high : hi ≡ hj = cc in
    let low : lo ≡ lp = cc in
    let rests : rest ≡ tail = cc in
    let first : b ≡ c = e ∙ ap (λ (n : ℕ). 16 * digit_value n + digit_value lo) high ∙ ap (λ (n : ℕ). 16 * digit_value hj + digit_value n) low ∙ sym g in
    ap (λ (n : ℕ). n ∷ bs) first ∙ ap (λ (l : List ℕ). c ∷ l) (bytes_one tail bs cs (subst (λ (t : List ℕ). SpellsBytes t bs) rests more) others)

-- a value without others inside is the same for one lead
pub whole_same : (lang : Language) (lead : Lead) (after rest tail : List ℕ) (s t : Shape) → IsWhole lead → Leads lang lead after rest s → Leads lang lead after tail t → (s ≡ t) × (rest ≡ tail)
whole_same lang (leads.decimal digits) after rest tail s t w (n, e, k, f) (m, g, l, h) = (e ∙ ap (λ (x : ℕ). shapes.decimal x) (sym k.value ∙ l.value) ∙ sym g, sym f ∙ h)
whole_same lang (leads.hexadecimal digits) after rest tail s t w (n, e, k, f) (m, g, l, h) = (e ∙ ap (λ (x : ℕ). shapes.hexadecimal x) (sym k.value ∙ l.value) ∙ sym g, sym f ∙ h)
whole_same lang (leads.negative digits) after rest tail s t w (n, e, k, f) (m, g, l, h) = (e ∙ ap (λ (x : ℕ). shapes.negative x) (sym k.value ∙ l.value) ∙ sym g, sym f ∙ h)
whole_same lang (leads.flag b) after rest tail s t w (e, f) (g, h) = (e ∙ sym g, sym f ∙ h)
whole_same lang (leads.character c) after rest tail s t w (e, f) (g, h) = (e ∙ sym g, sym f ∙ h)
whole_same lang (leads.quoted inside) after rest tail s t w (n, e, k, f) (m, g, l, h) = (e ∙ ap (λ (x : List ℕ). shapes.quoted x) (quoted_one inside n m k l) ∙ sym g, sym f ∙ h)
whole_same lang (leads.interned name) after rest tail s t w (e, f) (g, h) = (e ∙ sym g, sym f ∙ h)
whole_same lang (leads.bytes digits) after rest tail s t w (n, e, k, f) (m, g, l, h) = (e ∙ ap (λ (x : List ℕ). shapes.bytes x) (bytes_one digits n m k l) ∙ sym g, sym f ∙ h)
whole_same lang leads.empty after rest tail s t w (e, f) (g, h) = (e ∙ sym g, sym f ∙ h)
whole_same lang (leads.float x) after rest tail s t w (e, full, is, f) (g, also, same, h) = (e ∙ sym g, sym f ∙ h)
whole_same lang (leads.call name m) after rest tail s t w h k = absurd w
whole_same lang (leads.sequence name) after rest tail s t w h k = absurd w
whole_same lang leads.nodes after rest tail s t w h k = absurd w

-- the lead of a call is a call
pub record CallLead (lang : Language) (lead : Lead) (after rest name : List ℕ) (v : Option ℕ) (ss : Shapes) : Type 0 where
  pub mark : Option (List ℕ)
  pub inside : List ℕ
  pub lead_is : lead ≡ leads.call name mark
  pub means : IsMark mark v
  pub spelled : SpellsShapes lang inside ss
  pub after_is : after ≡ inside ++ 41 ∷ rest

not_plain : {A : Type 0} (s t : Shape) → s ≡ t → IsPlain t → (IsPlain s → ⊥) → A
not_plain s t e p n = absurd (n (subst IsPlain (sym e) p))

pub call_lead : (lang : Language) (lead : Lead) (after rest name : List ℕ) (v : Option ℕ) (ss : Shapes) → Leads lang lead after rest (shapes.call name v ss) → CallLead lang lead after rest name v ss
call_lead lang (leads.decimal digits) after rest name v ss h = not_plain (shapes.call name v ss) (shapes.decimal h.0) h.1 tt (λ x. x)
call_lead lang (leads.hexadecimal digits) after rest name v ss h = not_plain (shapes.call name v ss) (shapes.hexadecimal h.0) h.1 tt (λ x. x)
call_lead lang (leads.negative digits) after rest name v ss h = not_plain (shapes.call name v ss) (shapes.negative h.0) h.1 tt (λ x. x)
call_lead lang (leads.flag b) after rest name v ss h = not_plain (shapes.call name v ss) (shapes.flag b) h.0 tt (λ x. x)
call_lead lang (leads.character c) after rest name v ss h = not_plain (shapes.call name v ss) (shapes.character c) h.0 tt (λ x. x)
call_lead lang (leads.quoted inside) after rest name v ss h = not_plain (shapes.call name v ss) (shapes.quoted h.0) h.1 tt (λ x. x)
call_lead lang (leads.interned word) after rest name v ss h = not_plain (shapes.call name v ss) (shapes.interned word) h.0 tt (λ x. x)
call_lead lang (leads.bytes digits) after rest name v ss h = not_plain (shapes.call name v ss) (shapes.bytes h.0) h.1 tt (λ x. x)
call_lead lang leads.empty after rest name v ss h = not_plain (shapes.call name v ss) shapes.empty h.0 tt (λ x. x)
call_lead lang (leads.call word m) after rest name v ss (w, tt', inside, e, means, spelled, f) =
    let n : name ≡ word = cc in
    let x : v ≡ w = cc in
    let y : ss ≡ tt' = cc in
    record { mark = m; inside = inside; lead_is = ap (λ (t : List ℕ). leads.call t m) (sym n); means = subst (IsMark m) (sym x) means; spelled = subst (SpellsShapes lang inside) (sym y) spelled; after_is = f }
call_lead lang (leads.sequence word) after rest name v ss h = let e : shapes.call name v ss ≡ shapes.sequence word h.0 = h.2 in absurd cc
call_lead lang (leads.float t) after rest name v ss h = not_plain (shapes.call name v ss) (shapes.float t) h.0 tt (λ x. x)
call_lead lang leads.nodes after rest name v ss h = let e : shapes.call name v ss ≡ shapes.nodes h.0 = h.2 in absurd cc

-- and that of a list one of a list
pub record SequenceLead (lang : Language) (lead : Lead) (after rest name : List ℕ) (items : Items) : Type 0 where
  pub inside : List ℕ
  pub lead_is : lead ≡ leads.sequence name
  pub spelled : SpellsItems lang inside items
  pub after_is : after ≡ inside ++ 93 ∷ rest

pub sequence_lead : (lang : Language) (lead : Lead) (after rest name : List ℕ) (items : Items) → Leads lang lead after rest (shapes.sequence name items) → SequenceLead lang lead after rest name items
sequence_lead lang (leads.decimal digits) after rest name items h = not_plain (shapes.sequence name items) (shapes.decimal h.0) h.1 tt (λ x. x)
sequence_lead lang (leads.hexadecimal digits) after rest name items h = not_plain (shapes.sequence name items) (shapes.hexadecimal h.0) h.1 tt (λ x. x)
sequence_lead lang (leads.negative digits) after rest name items h = not_plain (shapes.sequence name items) (shapes.negative h.0) h.1 tt (λ x. x)
sequence_lead lang (leads.flag b) after rest name items h = not_plain (shapes.sequence name items) (shapes.flag b) h.0 tt (λ x. x)
sequence_lead lang (leads.character c) after rest name items h = not_plain (shapes.sequence name items) (shapes.character c) h.0 tt (λ x. x)
sequence_lead lang (leads.quoted inside) after rest name items h = not_plain (shapes.sequence name items) (shapes.quoted h.0) h.1 tt (λ x. x)
sequence_lead lang (leads.interned word) after rest name items h = not_plain (shapes.sequence name items) (shapes.interned word) h.0 tt (λ x. x)
sequence_lead lang (leads.bytes digits) after rest name items h = not_plain (shapes.sequence name items) (shapes.bytes h.0) h.1 tt (λ x. x)
sequence_lead lang leads.empty after rest name items h = not_plain (shapes.sequence name items) shapes.empty h.0 tt (λ x. x)
sequence_lead lang (leads.float t) after rest name items h = not_plain (shapes.sequence name items) (shapes.float t) h.0 tt (λ x. x)
sequence_lead lang leads.nodes after rest name items h = let e : shapes.sequence name items ≡ shapes.nodes h.0 = h.2 in absurd cc
sequence_lead lang (leads.call word m) after rest name items h = let e : shapes.sequence name items ≡ shapes.call word h.0 h.1 = h.3 in absurd cc
sequence_lead lang (leads.sequence word) after rest name items (jtems, inside, e, starts, spelled, f) =
    let n : name ≡ word = cc in
    let y : items ≡ jtems = cc in
    record { inside = inside; lead_is = ap (λ (t : List ℕ). leads.sequence t) (sym n); spelled = subst (SpellsItems lang inside) (sym y) spelled; after_is = f }

-- and that of Format values between angles
pub record NodesLead (lang : Language) (lead : Lead) (after rest : List ℕ) (ss : Shapes) : Type 0 where
  pub inside : List ℕ
  pub lead_is : lead ≡ leads.nodes
  pub spelled : SpellsShapes lang inside ss
  pub after_is : after ≡ inside ++ 62 ∷ rest

pub nodes_lead : (lang : Language) (lead : Lead) (after rest : List ℕ) (ss : Shapes) → Leads lang lead after rest (shapes.nodes ss) → NodesLead lang lead after rest ss
nodes_lead lang (leads.decimal digits) after rest ss h = not_plain (shapes.nodes ss) (shapes.decimal h.0) h.1 tt (λ x. x)
nodes_lead lang (leads.hexadecimal digits) after rest ss h = not_plain (shapes.nodes ss) (shapes.hexadecimal h.0) h.1 tt (λ x. x)
nodes_lead lang (leads.negative digits) after rest ss h = not_plain (shapes.nodes ss) (shapes.negative h.0) h.1 tt (λ x. x)
nodes_lead lang (leads.flag b) after rest ss h = not_plain (shapes.nodes ss) (shapes.flag b) h.0 tt (λ x. x)
nodes_lead lang (leads.character c) after rest ss h = not_plain (shapes.nodes ss) (shapes.character c) h.0 tt (λ x. x)
nodes_lead lang (leads.quoted inside) after rest ss h = not_plain (shapes.nodes ss) (shapes.quoted h.0) h.1 tt (λ x. x)
nodes_lead lang (leads.interned word) after rest ss h = not_plain (shapes.nodes ss) (shapes.interned word) h.0 tt (λ x. x)
nodes_lead lang (leads.bytes digits) after rest ss h = not_plain (shapes.nodes ss) (shapes.bytes h.0) h.1 tt (λ x. x)
nodes_lead lang leads.empty after rest ss h = not_plain (shapes.nodes ss) shapes.empty h.0 tt (λ x. x)
nodes_lead lang (leads.float t) after rest ss h = not_plain (shapes.nodes ss) (shapes.float t) h.0 tt (λ x. x)
nodes_lead lang (leads.call word m) after rest ss h = let e : shapes.nodes ss ≡ shapes.call word h.0 h.1 = h.3 in absurd cc
nodes_lead lang (leads.sequence word) after rest ss h = let e : shapes.nodes ss ≡ shapes.sequence word h.0 = h.2 in absurd cc
nodes_lead lang leads.nodes after rest ss (others, inside, e, full, calls, spelled, f) =
    let y : ss ≡ others = cc in
    record { inside = inside; lead_is = refl; spelled = subst (SpellsShapes lang inside) (sym y) spelled; after_is = f }

pub mark_one : (m : Option (List ℕ)) (v w : Option ℕ) → IsMark m v → IsMark m w → v ≡ w
mark_one None None None h k = refl
mark_one None None (Some w) h k = absurd k
mark_one None (Some v) w h k = absurd h
mark_one (Some digits) None w h k = absurd h
mark_one (Some digits) (Some v) None h k = absurd k
mark_one (Some digits) (Some v) (Some w) h k = ap (λ (x : ℕ). Some x) (sym h.number.value ∙ k.number.value)
