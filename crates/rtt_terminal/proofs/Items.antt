-- A stream is cut into items in one way.
use Rattle.std.proofs.Common.{◌≡◌, ◌≢◌, ◌<◌, ◌+◌, ℕ, Bool, true, false, cond, ltb, List, [], ◌∷◌, ◌++◌, length, refl, sym, ap, subst, ◌∙◌, arith, append_assoc}
use Rattle.std.proofs.lemmas.Bool.{ltb-true, ltb-false}
use Rattle.std.specs.List.{AllByRecursion}
use Rattle.std.specs.Str.{IsUtf8}
use Rattle.rtt_terminal.specs.declared.fault.Cause.{Cause}
use Rattle.rtt_terminal.specs.declared.fault.Cause.TheVariants.{Switch, Text, Cut}
use Rattle.rtt_terminal.specs.Stream.{digit, line_bytes, LacksNewline, Item, switch_item, line_item, item_bytes, IsItem, stream, lines_from, screens, Shows, LacksMark, StartsBadly, HasFault}
use Rattle.rtt_terminal.proofs.Heads.{no_mark}

-- ---- lines

pub line_then : (text rest : List ℕ) → line_bytes text ++ rest ≡ text ++ 10 ∷ rest
line_then text rest = append_assoc text (10 ∷ []) rest

pub line_once : (xs ys r s : List ℕ) → LacksNewline xs → LacksNewline ys → xs ++ 10 ∷ r ≡ ys ++ 10 ∷ s → (xs ≡ ys) × (r ≡ s)
line_once [] [] r s p q e = (refl, let same : r ≡ s = cc in same)
line_once [] (y ∷ ys) r s p q e = absurd (q.0 (let same : y ≡ 10 = cc in same))
line_once (x ∷ xs) [] r s p q e = absurd (p.0 (let same : x ≡ 10 = cc in same))
line_once (x ∷ xs) (y ∷ ys) r s p q e =
    let first : x ≡ y = cc in
    let tails : xs ++ 10 ∷ r ≡ ys ++ 10 ∷ s = cc in
    let more = line_once xs ys r s p.1 q.1 tails in
    (let more_is : xs ≡ ys = more.0 in cc, more.1)

pub newline_in : (xs r : List ℕ) → LacksNewline (xs ++ 10 ∷ r) → ⊥
newline_in [] r h = h.0 refl
newline_in (x ∷ xs) r h = newline_in xs r h.1

other_first : (x : ℕ) (xs ys : List ℕ) → x ≡ 10 → x ∷ xs ≢ 255 ∷ ys
other_first x xs ys is e = let same : x ≡ 255 = cc in omega arith

line_no_mark : (text rest : List ℕ) → IsUtf8 text → LacksMark (text ++ 10 ∷ rest)
line_no_mark [] rest u more e = other_first 10 rest more refl e
line_no_mark (x ∷ xs) rest u more e = let same : x ≡ 255 = cc in no_mark (x ∷ xs) xs u (ap (λ (y : ℕ). y ∷ xs) same)

-- ---- digits

digits_by : (t u : ℕ) (a b : Bool) → ltb t 10 ≡ a → ltb u 10 ≡ b → t < 16 → u < 16 → cond a (48 + t) (55 + t) ≡ cond b (48 + u) (55 + u) → t ≡ u
digits_by t u true true p q l m e = omega arith
digits_by t u true false p q l m e = let low = ltb-true t 10 p in let high = ltb-false u 10 q in omega arith
digits_by t u false true p q l m e = let high = ltb-false t 10 p in let low = ltb-true u 10 q in omega arith
digits_by t u false false p q l m e = omega arith

pub digit_once : (t u : ℕ) → t < 16 → u < 16 → digit t ≡ digit u → t ≡ u
digit_once t u l m e = digits_by t u (ltb t 10) (ltb u 10) refl refl l m e

-- ---- items

line_not_empty : (text rest : List ℕ) → text ++ 10 ∷ rest ≢ []
line_not_empty [] rest e = absurd cc
line_not_empty (x ∷ xs) rest e = absurd cc

item_not_empty : (item : Item) (more : List ℕ) → [] ≢ item_bytes item ++ more
item_not_empty (switch_item t) more e = absurd cc
item_not_empty (line_item text) more e = line_not_empty text more (sym (line_then text more) ∙ sym e)

item_once : (i j : Item) (r s : List ℕ) → IsItem i → IsItem j → item_bytes i ++ r ≡ item_bytes j ++ s → (i ≡ j) × (r ≡ s)
item_once (switch_item t) (switch_item u) r s p q e =
    let digits : digit t ≡ digit u = cc in
    (ap switch_item (digit_once t u p q digits), let same : r ≡ s = cc in same)
item_once (switch_item t) (line_item text) r s p q e = absurd (line_no_mark text s q.0 (digit t ∷ r) (sym (line_then text s) ∙ sym e))
item_once (line_item text) (switch_item u) r s p q e = absurd (line_no_mark text r p.0 (digit u ∷ s) (sym (line_then text r) ∙ e))
item_once (line_item text) (line_item line) r s p q e =
    let one = line_once text line r s p.1 q.1 (sym (line_then text r) ∙ e ∙ line_then line s) in
    (ap line_item one.0, one.1)

-- no item stands at the front
abbrev pub Stuck : List ℕ → Type 0
Stuck rest = (item : Item) (more : List ℕ) → IsItem item → rest ≢ item_bytes item ++ more

pub stuck_none : Stuck []
stuck_none item more is e = item_not_empty item more e

pub stuck_bad : (cause : Cause) (rest : List ℕ) → StartsBadly cause rest → Stuck rest
stuck_bad Switch rest h (switch_item t) more is e =
    let begins = h.begins in
    let tails : h.after ≡ digit t ∷ more = cc in
    h.no_digit t more is tails
stuck_bad Switch rest h (line_item text) more is e = line_no_mark text more is.0 h.after (sym (line_then text more) ∙ sym e ∙ h.begins)
stuck_bad Text rest h (switch_item t) more is e = h.no_switch (digit t ∷ more) e
stuck_bad Text rest h (line_item text) more is e = h.no_text (subst IsUtf8 (sym (line_once h.line text h.after more h.whole is.1 (sym h.begins ∙ e ∙ line_then text more)).0) is.0)
stuck_bad Cut rest h (switch_item t) more is e = h.no_switch (digit t ∷ more) e
stuck_bad Cut rest h (line_item text) more is e = newline_in text more (subst LacksNewline (e ∙ line_then text more) h.no_end)

bad_some : (cause : Cause) (rest : List ℕ) → StartsBadly cause rest → rest ≢ []
bad_some Switch rest h e = let begins = h.begins in absurd cc
bad_some Text rest h e = line_not_empty h.line h.after (sym h.begins ∙ e)
bad_some Cut rest h e = h.some e

cause_once : (c d : Cause) (rest : List ℕ) → StartsBadly c rest → StartsBadly d rest → c ≡ d
cause_once Switch Switch rest g h = refl
cause_once Switch Text rest g h = absurd (h.no_switch g.after g.begins)
cause_once Switch Cut rest g h = absurd (h.no_switch g.after g.begins)
cause_once Text Switch rest g h = absurd (g.no_switch h.after h.begins)
cause_once Text Text rest g h = refl
cause_once Text Cut rest g h = absurd (newline_in g.line g.after (subst LacksNewline g.begins h.no_end))
cause_once Cut Switch rest g h = absurd (g.no_switch h.after h.begins)
cause_once Cut Text rest g h = absurd (newline_in h.line h.after (subst LacksNewline h.begins g.no_end))
cause_once Cut Cut rest g h = refl

stream_once : (is js : List Item) (r s : List ℕ) → AllByRecursion IsItem is → AllByRecursion IsItem js → Stuck r → Stuck s → stream is r ≡ stream js s → (is ≡ js) × (r ≡ s)
stream_once [] [] r s p q g h e = (refl, e)
stream_once [] (j ∷ js) r s p q g h e = absurd (g j (stream js s) q.0 e)
stream_once (i ∷ is) [] r s p q g h e = absurd (h i (stream is r) p.0 (sym e))
stream_once (i ∷ is) (j ∷ js) r s p q g h e =
    let one = item_once i j (stream is r) (stream js s) p.0 q.0 e in
    let more = stream_once is js r s p.1 q.1 g h one.1 in
    (let first : i ≡ j = one.0 in let rest : is ≡ js = more.0 in cc, more.1)

-- ---- what bytes show

pub shows_one : (bytes : List ℕ) (a b : List (List (List ℕ))) → Shows bytes a → Shows bytes b → a ≡ b
shows_one bytes a b g h =
    let same = stream_once g.items h.items [] [] g.are h.are stuck_none stuck_none (sym g.whole ∙ h.whole) in
    g.shown ∙ ap (λ (items : List Item). screens (lines_from 0 items)) same.0 ∙ sym h.shown

pub shows_no_fault : (bytes : List ℕ) (a : List (List (List ℕ))) (cause : Cause) (place : ℕ) → Shows bytes a → HasFault bytes cause place → ⊥
shows_no_fault bytes a cause place g h =
    let same = stream_once g.items h.items [] h.rest g.are h.are stuck_none (stuck_bad cause h.rest h.bad) (sym g.whole ∙ h.whole) in
    bad_some cause h.rest h.bad (sym same.1)

pub fault_one : (bytes : List ℕ) (c d : Cause) (i j : ℕ) → HasFault bytes c i → HasFault bytes d j → (c ≡ d) × (i ≡ j)
fault_one bytes c d i j g h =
    let same = stream_once g.items h.items g.rest h.rest g.are h.are (stuck_bad c g.rest g.bad) (stuck_bad d h.rest h.bad) (sym g.whole ∙ h.whole) in
    let lengths : length g.rest ≡ length h.rest = ap length same.1 in
    let before = g.at in
    let after = h.at in
    (cause_once c d g.rest g.bad (subst (StartsBadly d) (sym same.1) h.bad), omega arith)
