-- Texts that are put into a buffer, one behind another.
use Rattle.std.proofs.Common.{◌≡◌, ◌≤◌, ◌+◌, ◌-◌, ◌*◌, ℕ, List, [], ◌∷◌, ◌++◌, length, take, drop, length-append, length-drop, length-take-le, append_assoc, refl, sym, ap, ap₂, subst, ◌∙◌, arith}
use Rattle.std.proofs.Math.Seq.{take-add, take-append-add, take-take}
use Rattle.std.proofs.lemmas.List.{append-nil, drop-drop, drop-take, take-append-le}
use Rattle.std.specs.Prelude.{true}
use Rattle.std.specs.Fmt.{decimal}
use Rattle.std.specs.List.{list_all}
use borrow.Rule.Slice.PartMut.{put_mid, mid_len, same_len_mid}
use Rattle.defmt_forms.proofs.Blocks.{bare_front, bare_rest, quiet_front, quiet_rest}
use Rattle.json.specs.Print.{escape, escape_byte}
use Rattle.defmt_forms.specs.Placed.{Holds, Placed}
use Rattle.defmt_forms.specs.Tamed.{is_bare, is_quiet}
use Rattle.defmt_forms.specs.Template.{color_by, json_by, plain_by}
use Rattle.defmt_forms.specs.declared.template.Template.{Template}

-- ---- one text

-- a piece is the front of each front of its block that is as long
pub piece_is : (block piece : List ℕ) (n : ℕ) → Holds block piece → length piece ≤ n → take (length piece) (take n block) ≡ piece
piece_is block piece n held le = take-take (length piece) n block le ∙ held.front

-- so it is put from there
pub piece_placed : (old new : List ℕ) (at end n count : ℕ) (block front piece : List ℕ) → Holds block piece → count ≡ length piece → count ≤ n → front ≡ take n block
    → Placed old at new end (take count front) → Placed old at new end piece
piece_placed old new at end n count block front piece held is le front_is put =
    subst (λ (l : List ℕ). Placed old at new end l)
    (ap₂ (λ (k : ℕ) (l : List ℕ). take k l) is front_is ∙ piece_is block piece n held (omega (arith, is, le))) put

-- the front of bytes that were written over a part of a buffer
pub put_is : (old bytes part : List ℕ) (at count : ℕ) → count ≤ length bytes → at + length bytes ≤ length old → part ≡ bytes
    → Placed old at (put_mid at (at + length bytes - at) old part) (at + count) (take count bytes)
put_is old bytes part at count few fits e =
    let long = same_len_mid at (at + length bytes - at) old part (ap length e ∙ omega arith ∙ sym (mid_len at (at + length bytes) old fits)) in
    record {
      long = long;
      ends = omega (arith, length-take-le count bytes few);
      within = omega (arith, long);
      placed = ap (λ (n : ℕ). take (n + count) (put_mid at (at + length bytes - at) old part)) (sym (length-take-le at old (omega arith)))
          ∙ take-append-add (take at old) _ count
          ∙ ap (λ (l : List ℕ). take at old ++ l) (take-append-le count part _ (omega (arith, ap length e)) ∙ ap (take count) e);
    }

-- one text behind another
pub placed_then : (a b c : List ℕ) (at end last : ℕ) (text more : List ℕ) → Placed a at b end text → Placed b end c last more
    → Placed a at c last (text ++ more)
placed_then a b c at end last text more first second = record {
  long = second.long ∙ first.long;
  ends = omega (arith, first.ends, second.ends, length-append text more);
  within = second.within;
  placed = second.placed ∙ ap (λ (l : List ℕ). l ++ more) first.placed ∙ append_assoc (take at a) text more;
}

-- what stands in a buffer is there
pub placed_already : (old : List ℕ) (at count : ℕ) → at + count ≤ length old → Placed old at old (at + count) (take count (drop at old))
placed_already old at count fits = record {
  long = omega arith;
  ends = omega (arith, length-take-le count (drop at old) (omega (arith, length-drop at old)));
  within = fits;
  placed = take-add at count old;
}

-- ---- lines

module _ (t : Template) (old : List ℕ) (at size : ℕ) (within : at + size ≤ length old) where
  abbrev line : List ℕ
  line = take size (drop at old)

  pub plain_placed : (new : List ℕ) (end : ℕ) → Placed old (at + size) new end t.behind.items → Placed old at new end (plain_by t line)
  plain_placed new end last = placed_then old old new at (at + size) end line t.behind.items (placed_already old at size within) last

  -- the own text is moved whole
  own_is : (front : ℕ) → front ≤ size → size ≤ front + 32 → take (size - front) (take 32 (drop (at + front) old)) ≡ drop front line
  own_is front le short =
      let sum : front + (size - front) ≡ size = omega arith in
      take-take (size - front) 32 (drop (at + front) old) (omega arith) ∙ ap (take (size - front)) (sym (drop-drop front at old))
      ∙ sym (drop-take front (size - front) (drop at old)) ∙ ap (λ (n : ℕ). drop front (take n (drop at old))) sum

  stamp_is : (stamp : ℕ) → stamp ≤ size → take stamp line ≡ take stamp (drop at old)
  stamp_is stamp le = take-take stamp size (drop at old) le

  module _ (stamp front : ℕ) (stamped : stamp ≤ size) (fronted : front ≤ size) (short : size ≤ front + 32) where
    abbrev own : List ℕ
    own = take (size - front) (take 32 (drop (at + front) old))

    pub color_placed : (a b new : List ℕ) (i j end : ℕ) → list_all is_quiet line ≡ true → Placed old (at + stamp) a i t.before.items
        → Placed a i b j own → Placed b j new end t.behind.items → Placed old at new end (color_by t (take stamp line) (drop front line))
    color_placed a b new i j end quiet first second third =
        let shown : List ℕ = take stamp (drop at old) in
        let whole : Placed old at new end (shown ++ (t.before.items ++ (own ++ t.behind.items))) =
        placed_then old old new at (at + stamp) end shown _ (placed_already old at stamp (omega arith))
        (placed_then old a new (at + stamp) i end t.before.items _ first (placed_then a b new i j end own t.behind.items second third)) in
        subst (λ (l : List ℕ). Placed old at new end l)
        (ap₂ (λ (s o : List ℕ). s ++ (t.before.items ++ (o ++ t.behind.items))) (sym (quiet_front line stamp quiet ∙ stamp_is stamp stamped))
        (own_is front fronted short ∙ sym (quiet_rest line front quiet))) whole

    pub json_placed : (bytes : ℕ) (a b c d e f new : List ℕ) (i j k l m n end : ℕ) → stamp ≤ 32 → list_all is_bare line ≡ true
        → Placed old at a i t.head.items → Placed a i b j (decimal bytes) → Placed b j c k t.between.items → Placed c k d l (take stamp (take 32 (drop at old)))
        → Placed d l e m t.before.items → Placed e m f n own → Placed f n new end t.behind.items
        → Placed old at new end (json_by t bytes (take stamp line) (drop front line))
    json_placed bytes a b c d e f new i j k l m n end few bare first second third fourth fifth sixth last =
        let shown : List ℕ = take stamp (take 32 (drop at old)) in
        let whole : Placed old at new end (t.head.items ++ (decimal bytes ++ (t.between.items ++ (shown ++ (t.before.items ++ (own ++ t.behind.items)))))) =
        placed_then old a new at i end t.head.items _ first (placed_then a b new i j end (decimal bytes) _ second
        (placed_then b c new j k end t.between.items _ third (placed_then c d new k l end shown _ fourth
        (placed_then d e new l m end t.before.items _ fifth (placed_then e f new m n end own t.behind.items sixth last))))) in
        subst (λ (l : List ℕ). Placed old at new end l)
        (ap₂ (λ (s o : List ℕ). t.head.items ++ (decimal bytes ++ (t.between.items ++ (s ++ (t.before.items ++ (o ++ t.behind.items))))))
        (take-take stamp 32 (drop at old) few ∙ sym (bare_front line stamp bare ∙ stamp_is stamp stamped))
        (own_is front fronted short ∙ sym (bare_rest line front bare))) whole

    -- the same with escapes
    pub escaped_placed : (bytes : ℕ) (a b c d e f new : List ℕ) (i j k l m n end : ℕ) → stamp ≤ 32
        → Placed old at a i t.head.items → Placed a i b j (decimal bytes) → Placed b j c k t.between.items → Placed c k d l (escape (take stamp (take 32 (drop at old))))
        → Placed d l e m t.before.items → Placed e m f n (escape own) → Placed f n new end t.behind.items
        → Placed old at new end (json_by t bytes (take stamp line) (drop front line))
    escaped_placed bytes a b c d e f new i j k l m n end few first second third fourth fifth sixth last =
        let shown : List ℕ = take stamp (take 32 (drop at old)) in
        let whole : Placed old at new end (t.head.items ++ (decimal bytes ++ (t.between.items ++ (escape shown ++ (t.before.items ++ (escape own ++ t.behind.items)))))) =
        placed_then old a new at i end t.head.items _ first (placed_then a b new i j end (decimal bytes) _ second
        (placed_then b c new j k end t.between.items _ third (placed_then c d new k l end (escape shown) _ fourth
        (placed_then d e new l m end t.before.items _ fifth (placed_then e f new m n end (escape own) t.behind.items sixth last))))) in
        subst (λ (l : List ℕ). Placed old at new end l)
        (ap₂ (λ (s o : List ℕ). t.head.items ++ (decimal bytes ++ (t.between.items ++ (escape s ++ (t.before.items ++ (escape o ++ t.behind.items))))))
        (take-take stamp 32 (drop at old) few ∙ sym (stamp_is stamp stamped)) (own_is front fronted short)) whole

-- ---- escapes

-- of a text what stands for its front is put, and this much is left
pub record Escaped (old : List ℕ) (at : ℕ) (new : List ℕ) (end : ℕ) (from rest : List ℕ) : Type 0 where
  pub shown : List ℕ
  pub put : Placed old at new end shown
  pub goes : shown ++ escape rest ≡ escape from
  pub few : end + 6 * length rest ≤ at + 6 * length from

pub escaped_none : (old : List ℕ) (at : ℕ) (from : List ℕ) → at ≤ length old → Escaped old at old at from from
escaped_none old at from within = record {
  shown = [];
  put = record { long = refl; ends = omega arith; within = within; placed = sym (append-nil (take at old)) };
  goes = refl;
  few = omega arith;
}

pub escaped_more : (old now new : List ℕ) (at end last : ℕ) (from rest behind : List ℕ) (byte : ℕ) → Escaped old at now end from rest → rest ≡ byte ∷ behind
    → Placed now end new last (escape_byte byte) → last ≤ end + 6 → Escaped old at new last from behind
escaped_more old now new at end last from rest behind byte it is put le = record {
  shown = it.shown ++ escape_byte byte;
  put = placed_then old now new at end last it.shown (escape_byte byte) it.put put;
  goes = append_assoc it.shown (escape_byte byte) (escape behind) ∙ ap (λ (l : List ℕ). it.shown ++ escape l) (sym is) ∙ it.goes;
  few = omega (arith, it.few, le, ap length is);
}

pub escaped_all : (old new : List ℕ) (at end : ℕ) (from rest : List ℕ) → Escaped old at new end from rest → rest ≡ [] → Placed old at new end (escape from)
escaped_all old new at end from rest it is =
    subst (λ (l : List ℕ). Placed old at new end l) (sym (append-nil it.shown) ∙ ap (λ (l : List ℕ). it.shown ++ escape l) (sym is) ∙ it.goes) it.put
