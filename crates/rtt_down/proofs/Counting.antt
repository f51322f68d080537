-- How many orders were heard, and the last of them.
use Rattle.std.proofs.Common.{◌≡◌, ℕ, ◌+◌, List, [], ◌∷◌, ◌++◌, length, length-append, refl, sym, ap, ◌∙◌, subst, add-one, arith}
use Rattle.std.specs.Prelude.{Option, Some, slice_get}
use Rattle.rtt_down.specs.Listening.{FloorIs, Heard}
use Rattle.rtt_down.specs.Orders.{kept_of, open_line, orders}
use Rattle.defmt_hooks.specs.declared.level.Level.{Level}

last_there : (levels : List Level) (level : Level) → slice_get (levels ++ level ∷ []) (length levels) ≡ Some level
last_there [] level = refl
last_there (l ∷ ls) level = last_there ls level

floor_next : (levels : List Level) (level : Level) → FloorIs (levels ++ level ∷ []) (length levels + 1) level
floor_next levels level = subst (λ (n : ℕ). FloorIs (levels ++ level ∷ []) n level) (sym (add-one (length levels))) (last_there levels level)

pub heard_order : (heard more : List ℕ) (line : Option (List ℕ)) (seen : ℕ) (level : Level) → seen ≡ length (orders heard) → line ≡ kept_of (open_line (heard ++ more))
    → orders (heard ++ more) ≡ orders heard ++ level ∷ [] → Heard (heard ++ more) line (seen + 1) level
heard_order heard more line seen level e k os =
    let len : length (orders (heard ++ more)) ≡ length (orders heard) + 1 = ap length os ∙ length-append (orders heard) (level ∷ []) in
    let P : List Level → Type 0 = λ l. FloorIs l (length (orders heard) + 1) level in
    record {
      line_is = k;
      seen_is = omega (arith, e, len);
      floor_is = subst (λ (n : ℕ). FloorIs (orders (heard ++ more)) (n + 1) level) (sym e) (subst P (sym os) (floor_next (orders heard) level));
    }
