-- Which orders are due.
use Rattle.std.proofs.Common.{◌≡◌, ℕ, zero, suc, ◌+◌, ◌*◌, ◌<◌, ◌≤◌, List, [], ◌∷◌, ◌++◌, Bool, true, false, length, length-append, append_assoc, refl, sym, ap, ◌∙◌, subst, arith, take}
use Rattle.std.specs.Prelude.{Some, if◌then◌else◌, nat_le, slice_get}
use Rattle.std.proofs.lemmas.Bool.Decides.{nat_tests}
use Rattle.std.proofs.lemmas.List.{take_at}
use Rattle.std.proofs.lemmas.Option.{same_Some}
use Rattle.defmt_hooks.specs.declared.level.Level.{Level}
use Rattle.defmt_steer.specs.Steers.{Plan, due}
use Rattle.rtt_down.specs.Orders.{order_of, orders_joined}

-- ---- orders as bytes

pub joined-snoc : (levels : List Level) (level : Level) → orders_joined (levels ++ level ∷ []) ≡ orders_joined levels ++ order_of level
joined-snoc [] level = refl
joined-snoc (l ∷ levels) level = ap (λ (x : List ℕ). order_of l ++ x) (joined-snoc levels level) ∙ sym (append_assoc (order_of l) (orders_joined levels) (order_of level))

pub joined_size : (levels : List Level) → length (orders_joined levels) ≡ 3 * length levels
joined_size [] = refl
joined_size (l ∷ levels) = omega (arith, joined_size levels)

-- ---- the front that is due

is_due : (order : ℕ × Level) (frames : ℕ) → order.0 ≤ frames → nat_le order.0 frames ≡ true
is_due order frames le = grind (arith, nat_tests)

isnt_due : (order : ℕ × Level) (frames : ℕ) → frames < order.0 → nat_le order.0 frames ≡ false
isnt_due order frames lt = grind (arith, nat_tests)

pub due_few : (plan : Plan) (frames : ℕ) → length (due plan frames) ≤ length plan
due_few [] frames = omega arith
due_few (order ∷ plan) frames =
    let others : length (due plan frames) ≤ length plan = due_few plan frames in
    elim (nat_le order.0 frames) as (λ (b : Bool). length (if b then order.1 ∷ due plan frames else []) ≤ length (order ∷ plan)) [
      | true ↦ omega (arith, others)
      | false ↦ omega arith
    ]

-- one order more stands in the front
pub record Next (levels : List Level) (n : ℕ) (level : Level) : Type 0 where
  pub below : n < length levels
  pub more : take (n + 1) levels ≡ take n levels ++ level ∷ []

next_here : (levels : List Level) (level : Level) → Next (level ∷ levels) 0 level
next_here levels level = record { below = omega arith; more = refl }

next_there : (first : Level) (levels : List Level) (n : ℕ) (level : Level) → Next levels n level → Next (first ∷ levels) (suc n) level
next_there first levels n level h =
    let e : suc n + 1 ≡ suc (n + 1) = omega arith in
    record {
      below = omega (arith, h.below);
      more = ap (λ (k : ℕ). take k (first ∷ levels)) e ∙ ap (λ (l : List Level). first ∷ l) h.more;
    }

first_due : (first order : ℕ × Level) (plan : Plan) (frames : ℕ) → first ≡ order → order.0 ≤ frames → due (first ∷ plan) frames ≡ order.1 ∷ due plan frames
first_due first order plan frames same early =
    ap (λ (x : ℕ × Level). if nat_le x.0 frames then x.1 ∷ due plan frames else []) same
    ∙ ap (λ (b : Bool). if b then order.1 ∷ due plan frames else []) (is_due order frames early)

first_late : (first order : ℕ × Level) (plan : Plan) (frames : ℕ) → first ≡ order → frames < order.0 → due (first ∷ plan) frames ≡ []
first_late first order plan frames same late =
    ap (λ (x : ℕ × Level). if nat_le x.0 frames then x.1 ∷ due plan frames else []) same
    ∙ ap (λ (b : Bool). if b then order.1 ∷ due plan frames else []) (isnt_due order frames late)

pub due_next : (plan : Plan) (frames n : ℕ) (order : ℕ × Level) → n ≤ length (due plan frames) → slice_get plan n ≡ Some order → order.0 ≤ frames → Next (due plan frames) n order.1
due_next [] frames n order le at early = absurd (cc at)
due_next (first ∷ plan) frames zero order le at early =
    subst (λ (l : List Level). Next l 0 order.1) (sym (first_due first order plan frames (same_Some first order at) early)) (next_here (due plan frames) order.1)
due_next (first ∷ plan) frames (suc n) order le at early =
    let K : List Level → Type 0 = λ l. suc n ≤ length l → Next l (suc n) order.1 in
    let goes : K (due (first ∷ plan) frames) = elim (nat_le first.0 frames) as (λ (b : Bool). K (if b then first.1 ∷ due plan frames else [])) [
      | true ↦ λ h. next_there first.1 (due plan frames) n order.1 (due_next plan frames n order (omega (arith, h)) at early)
      | false ↦ λ h. absurd (omega (arith, h))
    ] in
    goes le

-- an order that isn't due ends the front
pub due_late : (plan : Plan) (frames n : ℕ) (order : ℕ × Level) → n ≤ length (due plan frames) → slice_get plan n ≡ Some order → frames < order.0 → n ≡ length (due plan frames)
due_late [] frames n order le at late = absurd (cc at)
due_late (first ∷ plan) frames zero order le at late =
    let none : length (due (first ∷ plan) frames) ≡ 0 = ap length (first_late first order plan frames (same_Some first order at) late) in
    sym none
due_late (first ∷ plan) frames (suc n) order le at late =
    let K : List Level → Type 0 = λ l. suc n ≤ length l → suc n ≡ length l in
    let goes : K (due (first ∷ plan) frames) = elim (nat_le first.0 frames) as (λ (b : Bool). K (if b then first.1 ∷ due plan frames else [])) [
      | true ↦ λ h. let others : n ≡ length (due plan frames) = due_late plan frames n order (omega (arith, h)) at late in omega (arith, others)
      | false ↦ λ h. absurd (omega (arith, h))
    ] in
    goes le

pub due_all : (plan : Plan) (frames n : ℕ) → n ≤ length (due plan frames) → length plan ≤ n → n ≡ length (due plan frames)
due_all plan frames n le past = omega (arith, due_few plan frames)

-- ---- more frames

still_due : (order : ℕ × Level) (f g : ℕ) → f ≤ g → nat_le order.0 f ≡ true → nat_le order.0 g ≡ true
still_due order f g le h = grind (arith, nat_tests)

more_by : (order : ℕ × Level) (plan : Plan) (f g : ℕ) (b : Bool) → f ≤ g → nat_le order.0 f ≡ b → (rest : List Level) × (due plan g ≡ due plan f ++ rest)
    → (rest : List Level) × (due (order ∷ plan) g ≡ (if b then order.1 ∷ due plan f else []) ++ rest)
more_by order plan f g true le e others = (
  others.0,
  ap (λ (c : Bool). if c then order.1 ∷ due plan g else []) (still_due order f g le e) ∙ ap (λ (l : List Level). order.1 ∷ l) others.1,
)
more_by order plan f g false le e others = (due (order ∷ plan) g, refl)

due_more : (plan : Plan) (f g : ℕ) → f ≤ g → (rest : List Level) × (due plan g ≡ due plan f ++ rest)
due_more [] f g le = ([], refl)
due_more (order ∷ plan) f g le =
    let others : (rest : List Level) × (due plan g ≡ due plan f ++ rest) = due_more plan f g le in
    let goes : (b : Bool) → nat_le order.0 f ≡ b → (rest : List Level) × (due (order ∷ plan) g ≡ (if b then order.1 ∷ due plan f else []) ++ rest) = λ b e. more_by order plan f g b le e others in
    goes (nat_le order.0 f) refl

-- what was sent of the orders that were due is a front of those that are due now
pub record Front (plan : Plan) (frames next : ℕ) (sent : List ℕ) : Type 0 where
  pub within : next ≤ length (due plan frames)
  pub sent_is : sent ≡ orders_joined (take next (due plan frames))

pub still_front : (plan : Plan) (f g next : ℕ) (sent : List ℕ) → f ≤ g → next ≡ length (due plan f) → sent ≡ orders_joined (due plan f) → Front plan g next sent
still_front plan f g next sent le count is =
    let m : (rest : List Level) × (due plan g ≡ due plan f ++ rest) = due_more plan f g le in
    let long : length (due plan g) ≡ length (due plan f) + length m.0 = ap length m.1 ∙ length-append (due plan f) m.0 in
    let front : take next (due plan g) ≡ due plan f = ap (take next) m.1 ∙ take_at (due plan f) m.0 next (sym count) in
    record {
      within = omega (arith, long, count);
      sent_is = is ∙ ap orders_joined (sym front);
    }
