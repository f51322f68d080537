use Rattle.std.proofs.Common.{◌≡◌, ℕ, suc, List, [], ◌∷◌, ◌+◌, ◌-◌, ◌<◌, ◌++◌, length, get_or, set, take, drop, arith, sym, ap, ◌∙◌, append_assoc, take-suc, take-suc-set, get_or-drop, length-drop, add-one, take_all}
use Rattle.std.proofs.lemmas.List.{drop-set-lt}
use Rattle.std.proofs.lemmas.Slice.{take-put_mid, drop-put_mid}
use Rattle.rtt_words.specs.WordRule.{lanes}
use Rattle.rtt_words.proofs.LaneWords.{lanes_to}
use Rattle.rtt_words.proofs.Fronts.{lanes_long}
use Rattle.rtt_ring.proofs.word.lanes.copy_lanes.Goals as goal

-- one more item is copied
copied : (before now F : List ℕ) (from i l : ℕ) → from + i < length now → l + i < length F → take (from + i) now ≡ take from before ++ take i (drop l F)
    → take (from + (i + 1)) (set now (from + i) (get_or F (l + i) 0)) ≡ take from before ++ take (i + 1) (drop l F)
copied before now F from i l inside found was =
    let x : ℕ = get_or F (l + i) 0 in
    let one : from + (i + 1) ≡ suc (from + i) = omega arith in
    ap (λ (n : ℕ). take n (set now (from + i) x)) one ∙ take-suc-set now (from + i) x inside ∙ ap (λ (k : List ℕ). k ++ x ∷ []) was ∙ append_assoc (take from before) (take i (drop l F)) (x ∷ [])
    ∙ ap (λ (y : ℕ). take from before ++ (take i (drop l F) ++ y ∷ [])) (sym (get_or-drop l F i 0))
    ∙ ap (λ (k : List ℕ). take from before ++ k) (sym (ap (λ (n : ℕ). take n (drop l F)) (add-one i) ∙ take-suc (drop l F) i 0 (omega (arith, length-drop l F))))

-- an item that is copied stands in front of what lies behind
left : (before now : List ℕ) (n i x : ℕ) → i < n → drop n now ≡ drop n before → drop n (set now i x) ≡ drop n before
left before now n i x front was = drop-set-lt n now i x front ∙ was

pub loop-i-preserved : goal.loop-i-preserved
loop-i-preserved c =
    let r = c.requires in
    let v = c.loop-i.invariant in
    let eight : length c.to_le_bytes-found.result ≡ 8 = ap length (sym (lanes_to _ _ c.to_le_bytes-found.ensures)) ∙ lanes_long c.args.word in (
      copied _ _ _ _ _ _ (omega arith) (omega arith) v.0,
      left c.args.buf.now c.loop-i.buf (c.args.from + c.args.count) (c.args.from + c.loop-i.i) _ (omega arith) v.1,
    )

pub returns : goal.returns
returns c =
    let i : c.loop-i.i ≡ c.args.count = omega arith in
    let v = c.loop-i.invariant in record {
      bytes = ap (λ (n : ℕ). take (c.args.from + n) c.loop-i.buf) (sym i) ∙ v.0 ∙ ap (λ (n : ℕ). take c.args.from c.args.buf.now ++ take n (drop c.args.lane c.to_le_bytes-found.result)) i
          ∙ ap (λ (l : List ℕ). take c.args.from c.args.buf.now ++ take c.args.count (drop c.args.lane l)) (sym (lanes_to _ _ c.to_le_bytes-found.ensures));
      behind = v.1;
    }

-- a whole word
pub returns-then-count-eq8 : goal.returns-then-count-eq8
returns-then-count-eq8 c =
    let r = c.requires in
    let zero : c.args.lane ≡ 0 = omega arith in
    let is : c.copy_from_slice.new.self ≡ c.to_le_bytes-found.result = c.copy_from_slice.ensures.after in
    let found : lanes c.args.word ≡ c.to_le_bytes-found.result = lanes_to _ _ c.to_le_bytes-found.ensures in
    let eight : length c.copy_from_slice.new.self ≡ 8 = ap length (is ∙ sym found) ∙ lanes_long c.args.word in
    let all : take c.args.count (drop c.args.lane (lanes c.args.word)) ≡ lanes c.args.word = ap (λ (l : ℕ). take c.args.count (drop l (lanes c.args.word))) zero ∙ take_all c.args.count (lanes c.args.word) (omega (arith, lanes_long c.args.word)) in record {
      bytes = take-put_mid c.args.from _ c.args.buf.now c.copy_from_slice.new.self (c.args.from + c.args.count) (omega arith) (omega arith)
          ∙ ap (λ (l : List ℕ). take c.args.from c.args.buf.now ++ l) (is ∙ sym found ∙ sym all);
      behind = drop-put_mid c.args.from (c.args.from + 8 - c.args.from) c.args.buf.now c.copy_from_slice.new.self (c.args.from + c.args.count) (omega arith) (omega arith) (omega arith);
    }
