-- What a framer stands for whose last byte is a zero.
use Rattle.std.proofs.Common.{◌≡◌, ℕ, ◌+◌, ◌==◌, List, [], ◌∷◌, ◌++◌, length, take, Bool, true, cond, refl, sym, ◌∙◌, ap, subst, arith, append_assoc, length-append}
use Rattle.std.proofs.lemmas.Bool.{and_parts, eqb-true}
use Rattle.std.proofs.lemmas.List.{nil_from_length}
use Rattle.defmt_framing.specs.Cut.{has_zero, tail, since_zero}
use Rattle.defmt_framing.specs.Told.{Tells, told_size, begun}
use Rattle.defmt_framing.specs.Framing.{Framing, Stands, is_between}
use Rattle.defmt_framing.specs.Calls.{HeardAs}
use Rattle.defmt_framing.proofs.Cutting.{has_zero-mid, tail-mid, last_zero}
use Rattle.defmt_framing.proofs.Telling.{begun-mid}

since-some : (h : List ℕ) → has_zero h ≡ true → since_zero h ≡ tail h
since-some h some = ap (λ (b : Bool). cond b (tail h) h) some

pub stands_begun : (framer : Framing) → framer ≡ record { heard = 1; zeros = true; since = 0; kept = [] } → Stands framer (0 ∷ [])
unfolding has_zero tail
stands_begun framer is = subst (λ (f : Framing). Stands f (0 ∷ [])) (sym is) (record { heard = refl; zeros = refl; since = refl; kept = refl })

-- a zero stands in the stream
pub some_zero : (framer : Framing) (stream : List ℕ) → Stands framer stream → is_between framer ≡ true → has_zero stream ≡ true
some_zero framer stream st between = sym st.zeros ∙ (and_parts framer.zeros (framer.since == 0) between).0

-- and nothing behind the last
pub none_behind : (framer : Framing) (stream : List ℕ) → Stands framer stream → is_between framer ≡ true → tail stream ≡ []
none_behind framer stream st between =
    let parts = and_parts framer.zeros (framer.since == 0) between in
    let none : framer.since ≡ 0 = eqb-true framer.since 0 parts.1 in
    let open_ = since-some stream (some_zero framer stream st between) in
    nil_from_length (tail stream) (omega (arith, st.since, none, ap length open_))

-- bytes that end with a zero are passed over
module _ {E : Type 0} (t : Tells E) (framer after : Framing) (stream bytes : List ℕ) where
  pub passed : Stands framer stream → is_between framer ≡ true → tail (0 ∷ bytes) ≡ [] → after ≡ record framer { heard = told_size (framer.heard + length bytes) }
      → HeardAs t after stream bytes (begun t (0 ∷ bytes))
  passed st between ended is =
      let parts = and_parts framer.zeros (framer.since == 0) between in
      let none : framer.since ≡ 0 = eqb-true framer.since 0 parts.1 in
      let some = some_zero framer stream st between in
      let closed = none_behind framer stream st between in
      let l = last_zero stream some in
      let stream_is : stream ≡ l.before ++ 0 ∷ [] = l.is ∙ ap (λ (x : List ℕ). l.before ++ 0 ∷ x) closed in
      let all_is : stream ++ bytes ≡ l.before ++ 0 ∷ bytes = ap (λ (x : List ℕ). x ++ bytes) stream_is ∙ append_assoc l.before (0 ∷ []) bytes in
      let some_now : has_zero (stream ++ bytes) ≡ true = ap has_zero all_is ∙ has_zero-mid l.before bytes in
      let closed_now : tail (stream ++ bytes) ≡ [] = ap tail all_is ∙ tail-mid l.before bytes ∙ ended in
      let kept_none : framer.kept ≡ [] = st.kept ∙ ap (λ (b : Bool). cond b (take 65537 (tail stream)) []) some ∙ ap (take 65537) closed in
      record {
        stands = subst (λ (f : Framing). Stands f (stream ++ bytes)) (sym is) (record {
          heard = omega (arith, st.heard, length-append stream bytes);
          zeros = parts.0 ∙ sym some_now;
          since = none ∙ sym (ap (λ (x : List ℕ). told_size (length x)) (since-some (stream ++ bytes) some_now ∙ closed_now));
          kept = kept_none ∙ sym (ap (λ (b : Bool). cond b (take 65537 (tail (stream ++ bytes))) []) some_now ∙ ap (take 65537) closed_now);
        });
        tells_all = ap (begun t) all_is ∙ begun-mid t l.before bytes ∙ ap (λ (x : List ℕ). begun t x ++ begun t (0 ∷ bytes)) (sym stream_is);
      }
