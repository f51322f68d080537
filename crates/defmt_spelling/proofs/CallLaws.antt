-- The first of some Format values in a text.
use Rattle.std.proofs.Common.{◌≡◌, ℕ, List, Option, refl, sym, ap, subst, Bor}
use Rattle.defmt_grammar.specs.Cut.{skip_spaces}
use Rattle.defmt_grammar.specs.declared.language.Language.{Language}
use Rattle.defmt_shapes.proofs.ShapeLaws.{skip_all}
use Rattle.defmt_shapes.specs.Shape as shapes
use Rattle.defmt_shapes.specs.Shape.{Shape, Shapes, AreCalls, IsCall, no_shapes, shape, call, HeadShape, SpellsShapes}
use Rattle.defmt_shapes.specs.Spelling.{Tells}
use Rattle.defmt_shapes.specs.declared.number.Number.{Number}
use Rattle.defmt_shapes.specs.declared.spelling.Spelling.{Spelling}
use Rattle.defmt_shapes.specs.declared.spelling.Spelling.TheVariants as told
use Rattle.defmt_spelling.proofs.Firsts.{one_head}
use Rattle.defmt_spelling.proofs.Heads.{empty_starts, head_starts, split}
use Rattle.defmt_spelling.specs.Reading.{IsFirstCall}

pub no_call : (lang : Language) (text behind : List ℕ) (ss : Shapes) → behind ≡ skip_spaces text → ((s : Shape) (rest : List ℕ) → HeadShape lang behind s rest → ⊥) → AreCalls ss → SpellsShapes lang text ss → ss ≡ no_shapes
no_call lang text behind no_shapes e none calls s = refl
no_call lang text behind (shape r rs) e none calls s =
    let k = split lang text r rs s in
    absurd (none r k.rest (subst (λ (x : List ℕ). HeadShape lang x r k.rest) (sym e) k.head))

abbrev Told : Language → List ℕ → Spelling → List ℕ → Type 0
Told lang behind spelling rest = (s : Shape) × HeadShape lang behind s rest × Tells lang spelling s

-- the value that is told is the first of those that are spelled
first_is : (lang : Language) (text behind : List ℕ) (spelling : Spelling) (rest : List ℕ) (r : Shape) (rs : Shapes) → behind ≡ skip_spaces text → Told lang behind spelling rest → SpellsShapes lang text (shape r rs)
    → Tells lang spelling r × SpellsShapes lang rest rs
first_is lang text behind spelling rest r rs e v s =
    let k = split lang text r rs s in
    let same = one_head lang (skip_spaces text) v.0 r rest k.rest (subst (λ (x : List ℕ). HeadShape lang x v.0 rest) e v.1) k.head in
    (subst (Tells lang spelling) same.0 v.2, subst (λ (x : List ℕ). SpellsShapes lang x rs) (sym same.1) k.others)

not_empty : (lang : Language) (text behind : List ℕ) (spelling : Spelling) (rest : List ℕ) → behind ≡ skip_spaces text → Told lang behind spelling rest → SpellsShapes lang text no_shapes → ⊥
not_empty lang text behind spelling rest e v s = empty_starts (skip_spaces text) (skip_all text s) (head_starts lang (skip_spaces text) rest v.0 (subst (λ (x : List ℕ). HeadShape lang x v.0 rest) e v.1))

pub call_is : (lang : Language) (text behind : List ℕ) (spelling : Spelling) (rest : List ℕ) (name : Bor (List ℕ)) (variant : Option Number) (inside : Bor (List ℕ)) (ss : Shapes) → behind ≡ skip_spaces text → spelling ≡ told.Call name variant inside → Told lang behind spelling rest
    → AreCalls ss → SpellsShapes lang text ss → IsFirstCall lang name.now variant inside.now rest ss
call_is lang text behind spelling rest name variant inside no_shapes e is v calls s = absurd (not_empty lang text behind spelling rest e v s)
call_is lang text behind spelling rest name variant inside (shape r rs) e is v calls s =
    let k = first_is lang text behind spelling rest r rs e v s in
    let x = subst (λ (y : Spelling). Tells lang y r) is k.0 in
    record {
      mark = x.0;
      values = x.1;
      others = rs;
      shapes_are = ap (λ (y : Shape). shape y rs) x.2;
      holds = x.3;
      spelled = x.4;
      spelled_others = k.1;
      calls = calls.1;
    }

-- what is told is a Format value
tells_call : (lang : Language) (spelling : Spelling) (name : List ℕ) (v : Option ℕ) (vs : Shapes) → Tells lang spelling (call name v vs) → (a : Bor (List ℕ)) × (b : Option Number) × (c : Bor (List ℕ)) × (spelling ≡ told.Call a b c)
tells_call lang (told.Decimal n digits) name v vs h = let e : call name v vs ≡ shapes.decimal h.0 = h.1 in absurd cc
tells_call lang (told.Hexadecimal n) name v vs h = let e : call name v vs ≡ shapes.hexadecimal h.0 = h.1 in absurd cc
tells_call lang (told.Negative n digits) name v vs h = let e : call name v vs ≡ shapes.negative h.0 = h.1 in absurd cc
tells_call lang (told.Flag b) name v vs h = let e : call name v vs ≡ shapes.flag b = h in absurd cc
tells_call lang (told.Character c) name v vs h = let e : call name v vs ≡ shapes.character c = h in absurd cc
tells_call lang (told.Quoted inside) name v vs h = let e : call name v vs ≡ shapes.quoted h.0 = h.1 in absurd cc
tells_call lang (told.Interned word) name v vs h = let e : call name v vs ≡ shapes.interned word.now = h in absurd cc
tells_call lang (told.Bytes digits) name v vs h = let e : call name v vs ≡ shapes.bytes h.0 = h.1 in absurd cc
tells_call lang (told.Call a b c) name v vs h = (a, b, c, refl)
tells_call lang told.Empty name v vs h = let e : call name v vs ≡ shapes.empty = h in absurd cc
tells_call lang (told.Sequence word inside) name v vs h = let e : call name v vs ≡ shapes.sequence word.now h.0 = h.1 in absurd cc
tells_call lang (told.Float text) name v vs h = let e : call name v vs ≡ shapes.float text.now = h.0 in absurd cc
tells_call lang (told.Nodes inside) name v vs h = let e : call name v vs ≡ shapes.nodes h.0 = h.1 in absurd cc

call_told : (lang : Language) (spelling : Spelling) (r : Shape) → IsCall r → Tells lang spelling r → (a : Bor (List ℕ)) × (b : Option Number) × (c : Bor (List ℕ)) × (spelling ≡ told.Call a b c)
call_told lang spelling (call name v vs) is h = tells_call lang spelling name v vs h
call_told lang spelling r is h = absurd is

-- so what is told as something else is none of these
pub other_is : (lang : Language) (text behind : List ℕ) (spelling : Spelling) (rest : List ℕ) (ss : Shapes) → behind ≡ skip_spaces text → ((a : Bor (List ℕ)) (b : Option Number) (c : Bor (List ℕ)) → spelling ≡ told.Call a b c → ⊥) → Told lang behind spelling rest
    → AreCalls ss → SpellsShapes lang text ss → ss ≡ no_shapes
other_is lang text behind spelling rest no_shapes e other v calls s = refl
other_is lang text behind spelling rest (shape r rs) e other v calls s =
    let k = first_is lang text behind spelling rest r rs e v s in
    let x = call_told lang spelling r calls.0 k.0 in
    absurd (other x.0 x.1 x.2 x.3)
