-- Descriptors that stand one behind another in an image, and the checks of their block.
use Rattle.std.proofs.Common.{◌≡◌, ◌∙◌, ℕ, zero, suc, ◌+◌, ◌-◌, ◌*◌, ◌<◌, ◌≤◌, true, List, [], ◌∷◌, ◌++◌, length, drop, refl, sym, ap, subst, arith, add-one, append_assoc, append-nil, length-append}
use Rattle.std.specs.Prelude.{Option, Some, None, Result, Ok, Err, IfErr, slice_get}
use Rattle.std.proofs.lemmas.Bool.{le-ltb}
use Rattle.std.proofs.lemmas.Option.{slice_get_past}
use Rattle.rtt_control.specs.declared.block.Block.{Block}
use Rattle.rtt_control.specs.declared.block.Descriptor.{Descriptor}
use Rattle.rtt_control.specs.declared.fault.Cause.{Cause}
use Rattle.rtt_control.specs.declared.fault.ControlFault.{ControlFault}
use Rattle.rtt_control.specs.declared.fault.ControlFault.TheVariants.{Refused, Memory}
use Rattle.rtt_control.specs.Checks.{refused}
use Rattle.rtt_control.specs.Control.{IsAnswer, block_at, cause_of, checked, first_refusal, refused_or, unless}
use Rattle.rtt_control.specs.Layout.{block_len, block_of, descriptor_at, descriptors_at, downs_at, starts_with_id, ups_at}
use Rattle.rtt_control.proofs.CheckLemmas.{first_refusal_joined, or_later}

length_descriptors : (image : List ℕ) (at n : ℕ) → length (descriptors_at image at n) ≡ n
length_descriptors image at zero = refl
length_descriptors image at (suc n) = length-append (descriptors_at image at n) (descriptor_at image (at + 24 * n) ∷ []) ∙ omega (arith, length_descriptors image at n)

descriptors_joined : (image : List ℕ) (at n m : ℕ) → descriptors_at image at (n + m) ≡ descriptors_at image at n ++ descriptors_at image (at + 24 * n) m
descriptors_joined image at n zero = let same : n + 0 ≡ n = omega arith in ap (λ (k : ℕ). descriptors_at image at k) same ∙ sym (append-nil (descriptors_at image at n))
descriptors_joined image at n (suc m) =
    let next : n + suc m ≡ suc (n + m) = omega arith in
    let there : at + 24 * (n + m) ≡ at + 24 * n + 24 * m = omega arith in
    ap (λ (k : ℕ). descriptors_at image at k) next
    ∙ ap (λ (l : List Descriptor). l ++ descriptor_at image (at + 24 * (n + m)) ∷ []) (descriptors_joined image at n m)
    ∙ append_assoc (descriptors_at image at n) (descriptors_at image (at + 24 * n) m) (descriptor_at image (at + 24 * (n + m)) ∷ [])
    ∙ ap (λ (k : ℕ). descriptors_at image at n ++ (descriptors_at image (at + 24 * n) m ++ descriptor_at image k ∷ [])) there

-- those before the number i, it, and those behind it
descriptors_around : (image : List ℕ) (at i n : ℕ) → i < n
    → descriptors_at image at n ≡ descriptors_at image at i ++ descriptor_at image (at + 24 * i) ∷ descriptors_at image (at + 24 * suc i) (n - suc i)
descriptors_around image at i n below =
    let whole : n ≡ suc i + (n - suc i) = omega arith in
    ap (λ (k : ℕ). descriptors_at image at k) whole ∙ descriptors_joined image at (suc i) (n - suc i)
    ∙ append_assoc (descriptors_at image at i) (descriptor_at image (at + 24 * i) ∷ []) (descriptors_at image (at + 24 * suc i) (n - suc i))

-- ---- one of them

get_there : (xs ys : List Descriptor) (d : Descriptor) (k : ℕ) → length xs ≡ k → slice_get (xs ++ d ∷ ys) k ≡ Some d
get_there [] ys d zero is = refl
get_there [] ys d (suc k) is = absurd (omega arith)
get_there (x ∷ xs) ys d zero is = absurd (omega arith)
get_there (x ∷ xs) ys d (suc k) is = get_there xs ys d k (omega arith)

pub stored_there : (image : List ℕ) (at k n : ℕ) → k < n → slice_get (descriptors_at image at n) k ≡ Some (descriptor_at image (at + 24 * k))
stored_there image at k n below =
    ap (λ (l : List Descriptor). slice_get l k) (descriptors_around image at k n below)
    ∙ get_there (descriptors_at image at k) (descriptors_at image (at + 24 * suc k) (n - suc k)) (descriptor_at image (at + 24 * k)) k (length_descriptors image at k)

pub stored_past : (image : List ℕ) (at k n : ℕ) → n ≤ k → slice_get (descriptors_at image at n) k ≡ None
stored_past image at k n past = slice_get_past (descriptors_at image at n) k (omega (arith, length_descriptors image at n))

-- ---- their checks

module _ (image : List ℕ) (base at i : ℕ) (was : first_refusal (length image) base 0 (descriptors_at image at i) ≡ None) where
  abbrev size : ℕ
  size = length image

  abbrev before : List Descriptor
  before = descriptors_at image at i

  abbrev here : Descriptor
  here = descriptor_at image (at + 24 * i)

  behind : (rest : List Descriptor) → first_refusal size base 0 (before ++ here ∷ rest) ≡ refused_or (cause_of size base here) (0 + length before) (first_refusal size base (0 + length before + 1) rest)
  behind rest =
      first_refusal_joined size base 0 before (here ∷ rest)
      ∙ ap (λ (o : Option ControlFault). or_later o (first_refusal size base (0 + length before) (here ∷ rest))) was

  pub next_passes : cause_of size base here ≡ None → first_refusal size base 0 (descriptors_at image at (i + 1)) ≡ None
  next_passes none =
      ap (λ (k : ℕ). first_refusal size base 0 (descriptors_at image at k)) (add-one i) ∙ behind []
      ∙ ap (λ (o : Option Cause). refused_or o (0 + length before) None) none

  pub bad_there : (n : ℕ) (c : Cause) → i < n → cause_of size base here ≡ Some c → first_refusal size base 0 (descriptors_at image at n) ≡ Some (refused c i)
  bad_there n c below some =
      let rest = descriptors_at image (at + 24 * suc i) (n - suc i) in
      let number : 0 + length before ≡ i = omega (arith, length_descriptors image at i) in
      ap (first_refusal size base 0) (descriptors_around image at i n below) ∙ behind rest
      ∙ ap (λ (o : Option Cause). refused_or o (0 + length before) (first_refusal size base (0 + length before + 1) rest)) some
      ∙ ap (λ (k : ℕ). Some (refused c k)) number

-- ---- their block

module _ (image : List ℕ) (base at ups downs : ℕ) (has : starts_with_id (drop at image) ≡ true) (ups_are : ups ≡ ups_at image at) (downs_are : downs ≡ downs_at image at)
    (fits : at + block_len ups downs ≤ length image) where
  abbrev block : Block
  block = block_of image at

  in_image : block_at image base at ≡ checked (length image) base block
  in_image =
      let inside : at + block_len (ups_at image at) (downs_at image at) ≤ length image = omega arith in
      rw (has, le-ltb (length image) (at + block_len (ups_at image at) (downs_at image at)) inside) refl

  one_list : descriptors_at image (at + 24) (ups + downs) ≡ block.up ++ block.down
  one_list =
      let sum : ups + downs ≡ ups_at image at + downs_at image at = omega arith in
      ap (λ (k : ℕ). descriptors_at image (at + 24) k) sum ∙ descriptors_joined image (at + 24) (ups_at image at) (downs_at image at)

  answer_is : (o : Option ControlFault) → o ≡ first_refusal (length image) base 0 (descriptors_at image (at + 24) (ups + downs)) → block_at image base at ≡ unless o block
  answer_is o is = in_image ∙ ap (λ (p : Option ControlFault). unless p block) (sym (is ∙ ap (first_refusal (length image) base 0) one_list))

  pub block_refused : (fault : ControlFault) → Some fault ≡ first_refusal (length image) base 0 (descriptors_at image (at + 24) (ups + downs)) → block_at image base at ≡ Err fault
  block_refused fault is = answer_is (Some fault) is

  pub block_passes : None ≡ first_refusal (length image) base 0 (descriptors_at image (at + 24) (ups + downs)) → block_at image base at ≡ Ok block
  block_passes is = answer_is None is

-- ---- what was read of it

pub block_made : (image : List ℕ) (at ups downs : ℕ) (up down : List Descriptor) → ups ≡ ups_at image at → downs ≡ downs_at image at
    → up ≡ descriptors_at image (at + 24) ups → down ≡ descriptors_at image (at + 24 + 24 * ups) downs → block_of image at ≡ record { up = up; down = down }
block_made image at ups downs up down ups_are downs_are up_is down_is =
    let u : descriptors_at image (at + 24) (ups_at image at) ≡ up = ap (λ (n : ℕ). descriptors_at image (at + 24) n) (sym ups_are) ∙ sym up_is in
    let d : descriptors_at image (at + 24 + 24 * ups_at image at) (downs_at image at) ≡ down =
    ap (λ (n : ℕ). descriptors_at image (at + 24 + 24 * n) (downs_at image at)) (sym ups_are)
    ∙ ap (λ (n : ℕ). descriptors_at image (at + 24 + 24 * ups) n) (sym downs_are) ∙ sym down_is in
    λ i. record { up = u i; down = d i }

pub is_answer : {A : Type 0} (answer : Result A ControlFault) (fault : ControlFault) → answer ≡ Err fault → IsAnswer answer fault
is_answer answer (Refused cause place) is = is
is_answer answer Memory is = tt

-- the refusal that a `?` hands on
pub answer_of : {A T : Type 0} (r : Result T ControlFault) (answer : Result A ControlFault) (e f : ControlFault) → r ≡ Err e → e ≡ f → answer ≡ Err f → IfErr r (IsAnswer answer)
answer_of {A} {T} r answer e f is same refuses =
    subst (λ (x : Result T ControlFault). IfErr x (IsAnswer answer)) (sym is) (is_answer answer e (refuses ∙ ap (λ (x : ControlFault). Err x) (sym same)))
