-- What turns have heard, with one turn more.
use Rattle.std.proofs.Common.{◌≡◌, ℕ, ◌+◌, ◌≤◌, List, [], ◌∷◌, ◌++◌, length, refl, sym, ap, ◌∙◌, arith, take}
use Rattle.std.specs.Prelude.{min}
use Rattle.std.proofs.lemmas.List.{take-append-le, take_all}
use Rattle.rtt_down.specs.Orders.{orders}
use Rattle.rtt_down.specs.Steered.{AreHeard, last_found, taken_by}
use Rattle.rtt_down.specs.declared.turn.Turn.{Turn}

-- no more was taken than was got
within : (got : List ℕ) (n : ℕ) (ts : List Turn) (fs : List ℕ) → AreHeard got n ts fs → n ≤ length got
within got n [] [] h = omega (arith, h)
within got n [] (f ∷ fs) h = absurd h
within got n (t ∷ ts) [] h = absurd h
within got n (t ∷ ts) (f ∷ fs) h =
    let more : min f (n + 192) ≤ length got = within got (taken_by n f) ts fs h.1 in
    omega (arith, h.0.reached, more)

pub heard-snoc : (got more : List ℕ) (n : ℕ) (ts : List Turn) (fs : List ℕ) (t : Turn) (f : ℕ) → AreHeard got n ts fs → length got ≤ f → length (got ++ more) ≡ taken_by (length got) f
    → t.seen ≡ length (orders (got ++ more)) → AreHeard (got ++ more) n (ts ++ t ∷ []) (fs ++ f ∷ [])
heard-snoc got more n [] [] t f h reached count seen =
    let all : taken_by n f ≡ length (got ++ more) = ap (λ (m : ℕ). taken_by m f) h ∙ sym count in
    let whole : take (taken_by n f) (got ++ more) ≡ got ++ more = take_all (taken_by n f) (got ++ more) (omega (arith, all)) in
    (record { reached = omega (arith, h, reached); seen_is = seen ∙ sym (ap (λ (l : List ℕ). length (orders l)) whole) }, all)
heard-snoc got more n [] (y ∷ fs) t f h reached count seen = absurd h
heard-snoc got more n (x ∷ ts) [] t f h reached count seen = absurd h
heard-snoc got more n (x ∷ ts) (y ∷ fs) t f h reached count seen =
    let front : take (taken_by n y) (got ++ more) ≡ take (taken_by n y) got = take-append-le (taken_by n y) got more (within got (taken_by n y) ts fs h.1) in (
      record { reached = h.0.reached; seen_is = h.0.seen_is ∙ sym (ap (λ (l : List ℕ). length (orders l)) front) },
      heard-snoc got more (taken_by n y) ts fs t f h.1 reached count seen,
    )

pub last_found-snoc : (n : ℕ) (fs : List ℕ) (f : ℕ) → last_found n (fs ++ f ∷ []) ≡ f
last_found-snoc n [] f = refl
last_found-snoc n (x ∷ fs) f = last_found-snoc x fs f
