-- Fronts of what is told, and of what is written.
use Rattle.std.proofs.Common.{◌≡◌, ◌≤◌, ◌+◌, ℕ, zero, suc, List, [], ◌∷◌, ◌++◌, length, take, filter, refl, sym, ◌∙◌, ap, append_assoc, arith, length-append, subst}
use Rattle.std.specs.Prelude.{Option, Some, None, Result, Ok, Err, OnErr, IfErr}
use Rattle.std.specs.Result.{IsErrAnd}
use Rattle.std.specs.Io.KnownBytes.{Appends, IsAtEnd}
use Rattle.std.proofs.Math.Seq.{take-append-add}
use Rattle.std.proofs.lemmas.List.{append-nil, take-append-le}
use Rattle.std.proofs.lemmas.List.Elements.{filter-append}
use Rattle.dl_io.proofs.Streams.{appends_then}
use Rattle.defmt_framing.specs.Cut.{has_zero}
use Rattle.defmt_framing.specs.Told.{Tells, events, begun}
use Rattle.defmt_framing.proofs.Telling.{begun-zero, begun-run, begun-none, closing, ending, events-is}
use Rattle.defmt_listen.specs.Streams.{IsRest}
use Rattle.defmt_listen.specs.Heard.{Reporting, lines_from, state_behind, faults_among}

-- some lists are this list and something behind it
pub record Goes {A : Type 0} (whole front : List A) : Type 0 where
  pub more : List A
  pub is : whole ≡ front ++ more

module _ {E : Type 0} (t : Tells E) where
  -- one byte more tells something, or nothing
  one_more : (h : List ℕ) (b : ℕ) → Goes (begun t (h ++ b ∷ [])) (begun t h)
  unfolding has_zero
  one_more h zero = record { more = closing t h; is = begun-zero t h }
  one_more h (suc b) = record { more = []; is = begun-run t h (suc b ∷ []) refl ∙ sym (append-nil (begun t h)) }

  -- what is begun in a front is begun in the whole
  pub begun_goes : (h bytes : List ℕ) → Goes (begun t (h ++ bytes)) (begun t h)
  begun_goes h [] = record { more = []; is = ap (begun t) (append-nil h) ∙ sym (append-nil (begun t h)) }
  begun_goes h (b ∷ bytes) =
      let one = one_more h b in
      let all = begun_goes (h ++ b ∷ []) bytes in
      record {
        more = one.more ++ all.more;
        is = ap (begun t) (sym (append_assoc h (b ∷ []) bytes)) ∙ all.is ∙ ap (λ (l : List E). l ++ all.more) one.is ∙ append_assoc (begun t h) one.more all.more;
      }

  -- and its events go on with what is told at the end
  pub events_go : (h bytes : List ℕ) → Goes (events t (h ++ bytes)) (begun t h)
  events_go h bytes =
      let b = begun_goes h bytes in
      record {
        more = b.more ++ ending t (h ++ bytes);
        is = events-is t (h ++ bytes) ∙ ap (λ (l : List E). l ++ ending t (h ++ bytes)) b.is ∙ append_assoc (begun t h) b.more (ending t (h ++ bytes));
      }

  pub begun_nothing : begun t [] ≡ []
  unfolding has_zero
  begun_nothing = begun-none t [] refl

module _ {S E : Type 0} (r : Reporting S E) where
  pub lines-append : (s : S) (xs ys : List E) → lines_from r s (xs ++ ys) ≡ lines_from r s xs ++ lines_from r (state_behind r s xs) ys
  lines-append s [] ys = refl
  lines-append s (x ∷ xs) ys =
      ap (λ (l : List ℕ). r.line s x ++ l) (lines-append (r.after s x) xs ys)
      ∙ sym (append_assoc (r.line s x) (lines_from r (r.after s x) xs) (lines_from r (state_behind r (r.after s x) xs) ys))

  pub behind-append : (s : S) (xs ys : List E) → state_behind r s (xs ++ ys) ≡ state_behind r (state_behind r s xs) ys
  behind-append s [] ys = refl
  behind-append s (x ∷ xs) ys = behind-append (r.after s x) xs ys

  pub faults-append : (xs ys : List E) → faults_among r (xs ++ ys) ≡ faults_among r xs + faults_among r ys
  faults-append xs ys = ap length (filter-append r.is_fault xs ys) ∙ length-append (filter r.is_fault xs) (filter r.is_fault ys)

-- a front of a text was written
abbrev pub Front : Option (List ℕ) → Option (List ℕ) → List ℕ → Type 0
Front held held_after text = (count : ℕ) × (count ≤ length text) × Appends held held_after (take count text)

-- a text was written and then a front of another
pub then_front : (a b c : Option (List ℕ)) (written text : List ℕ) → Appends a b written → Front b c text → Front a c (written ++ text)
then_front a b c written text first f = (
  length written + f.0,
  omega (arith, length-append written text, f.1),
  subst (Appends a c) (sym (take-append-add written text f.0)) (appends_then a b c written (take f.0 text) first f.2),
)

-- a front of a front
pub longer_front : (a b : Option (List ℕ)) (text more whole : List ℕ) → whole ≡ text ++ more → Front a b text → Front a b whole
longer_front a b text more whole is f = (
  f.0,
  omega (arith, f.1, ap length is, length-append text more),
  subst (Appends a b) (sym (ap (take f.0) is ∙ take-append-le f.0 text more f.1)) f.2,
)

-- what is left, or nothing where that isn't told
pub rest_of : (left : Option (List ℕ)) → (rest : List ℕ) × IsRest left rest
rest_of None = ([], tt)
rest_of (Some bytes) = (bytes, refl)

pub no_rest : (left : Option (List ℕ)) → IsAtEnd left → IsRest left []
no_rest None end = tt
no_rest (Some bytes) end = sym end

pub on_err : {T E P : Type 0} (r : Result T E) → P → OnErr r P
on_err (Ok x) p = tt
on_err (Err e) p = p

-- the fault that a `?` hands on
pub if_err : {T E : Type 0} (P : E → Type 0) (r : Result T E) (e : E) → IsErrAnd r (λ x. x ≡ e) → P e → IfErr r P
if_err P (Ok x) e is p = tt
if_err P (Err x) e is p = subst P (sym is) p
