-- What writers have to say, and one text more.
use Rattle.std.proofs.Common.{◌≡◌, ℕ, zero, suc, ◌+◌, ◌<◌, ◌≤◌, List, [], ◌∷◌, ◌++◌, length, get_or, length-append, take, refl, sym, ap, ◌∙◌, subst, inl, inr, arith}
use Rattle.std.specs.Prelude.{All, OnErr, OnOk, Ok, Err, Result, Some, slice_get, slice_set}
use Rattle.std.proofs.lemmas.Bool.{cases_eq}
use Rattle.std.proofs.lemmas.List.{get_or-set_other, get_or-set_same, length-set, set-get_or, take_all}
use Rattle.std.proofs.lemmas.List.Elements.{All-head, All-nil, All-push, All-tail}
use Rattle.std.proofs.lemmas.Option.{same_Some}
use Rattle.rtt_terminal.specs.Speech.{CanBeSaid, IsSpeech, Saying, Speech, count_said, count_texts, said_by, silence, with_saying}

pub one_more : (n : ℕ) → silence (n + 1) ≡ silence n ++ [] ∷ []
one_more zero = refl
one_more (suc n) = let e : suc n + 1 ≡ suc (n + 1) = omega arith in ap silence e ∙ ap (λ (l : Speech). [] ∷ l) (one_more n)

pub none_by : (n w : ℕ) → said_by (silence n) w ≡ []
none_by zero w = refl
none_by (suc n) zero = refl
none_by (suc n) (suc w) = none_by n w

pub is_silence : IsSpeech (silence 8)
is_silence = record {
  eight = refl;
  each = λ w. subst (λ (l : List Saying). All CanBeSaid l) (sym (none_by 8 w)) (All-nil CanBeSaid);
  few = omega arith;
}

pub count_more : (speech : Speech) (w : ℕ) (s : Saying) → w < length speech → count_texts (with_saying speech w s) ≡ count_texts speech + 1
count_more [] w s below = absurd (omega arith)
count_more (list ∷ speech) zero s below = omega (arith, length-append list (s ∷ []))
count_more (list ∷ speech) (suc w) s below = omega (arith, count_more speech w s (omega arith))

pub more_said : (speech : Speech) (w : ℕ) (s : Saying) → IsSpeech speech → w < 8 → CanBeSaid s → count_texts speech < 4096 → IsSpeech (with_saying speech w s)
more_said speech w s is below can few = record {
  eight = length-set speech w (said_by speech w ++ s ∷ []) ∙ is.eight;
  each = λ v. elim (cases_eq v w) [
    | inl same ↦
        let within : w < length speech = omega (arith, is.eight) in
        let here : said_by (with_saying speech w s) w ≡ said_by speech w ++ s ∷ [] = get_or-set_same speech w (said_by speech w ++ s ∷ []) [] within in
        subst (λ (n : ℕ). All CanBeSaid (said_by (with_saying speech w s) n)) (sym same)
        (subst (λ (x : List Saying). All CanBeSaid x) (sym here) (All-push CanBeSaid (said_by speech w) s (is.each w) can))
    | inr not ↦
        let there : said_by (with_saying speech w s) v ≡ said_by speech v = get_or-set_other speech w v (said_by speech w ++ s ∷ []) [] not in
        subst (λ (x : List Saying). All CanBeSaid x) (sym there) (is.each v)
  ];
  few = let within : w < length speech = omega (arith, is.eight) in omega (arith, count_more speech w s within);
}

-- the same as at another default
read_at : (speech : Speech) (i : ℕ) (d e : List Saying) → i < length speech → get_or speech i d ≡ get_or speech i e
read_at [] i d e below = absurd (omega arith)
read_at (x ∷ speech) zero d e below = refl
read_at (x ∷ speech) (suc i) d e below = read_at speech i d e (omega arith)

pub put_saying : {E : Type 0} (speech : Speech) (w : ℕ) (s : Saying) (lent kept : List Saying) (r : Result (Unit {0}) E) → w < length speech → lent ≡ get_or speech w lent
    → OnOk r (kept ≡ lent ++ s ∷ []) → OnErr r (kept ≡ lent) → OnOk r (slice_set speech w kept ≡ with_saying speech w s)
put_saying speech w s lent kept (Ok u) below is ok err = ap (slice_set speech w) (ok ∙ ap (λ (x : List Saying). x ++ s ∷ []) (is ∙ read_at speech w lent [] below))
put_saying speech w s lent kept (Err e) below is ok err = tt

pub left_saying : {E : Type 0} (speech : Speech) (w : ℕ) (lent kept : List Saying) (r : Result (Unit {0}) E) → lent ≡ get_or speech w lent
    → OnErr r (kept ≡ lent) → OnErr r (slice_set speech w kept ≡ speech)
left_saying speech w lent kept (Ok u) is err = tt
left_saying speech w lent kept (Err e) is err = ap (slice_set speech w) (err ∙ is) ∙ set-get_or speech w lent

pub still_speech : {E : Type 0} (speech after : Speech) (w : ℕ) (s : Saying) (r : Result (Unit {0}) E) → IsSpeech speech → w < 8 → CanBeSaid s → count_texts speech < 4096
    → OnOk r (after ≡ with_saying speech w s) → OnErr r (after ≡ speech) → IsSpeech after
still_speech speech after w s (Ok u) is below can few ok err = subst (λ (x : Speech). IsSpeech x) (sym ok) (more_said speech w s is below can few)
still_speech speech after w s (Err e) is below can few ok err = subst (λ (x : Speech). IsSpeech x) (sym err) is

pub said_within : (speech : Speech) (w : ℕ) → count_said speech w ≤ count_texts speech
said_within [] w = omega arith
said_within (list ∷ speech) zero = omega arith
said_within (list ∷ speech) (suc w) = omega (arith, said_within speech w)

-- what holds of each holds of the one at a place
pub at_place : (P : Saying → Type 0) (list : List Saying) (place : ℕ) (s : Saying) → slice_get list place ≡ Some s → All P list → P s
at_place P [] place s is all = absurd (cc is)
at_place P (x ∷ list) zero s is all = subst P (same_Some x s is) (All-head P x list all)
at_place P (x ∷ list) (suc place) s is all = at_place P list place s is (All-tail P x list all)

-- ---- the counts of the first writers

none_counted : (i : ℕ) → count_texts (take i []) ≡ 0
none_counted zero = refl
none_counted (suc i) = refl

counted : (speech : Speech) (i : ℕ) → count_texts (take (suc i) speech) ≡ count_texts (take i speech) + count_said speech i
counted [] i = omega (arith, none_counted i)
counted (list ∷ speech) zero = omega arith
counted (list ∷ speech) (suc i) = omega (arith, counted speech i)

pub count_next : (speech : Speech) (i : ℕ) → count_texts (take (i + 1) speech) ≡ count_texts (take i speech) + count_said speech i
count_next speech i =
    let next : suc i ≡ i + 1 = omega arith in
    subst (λ (n : ℕ). count_texts (take n speech) ≡ count_texts (take i speech) + count_said speech i) next (counted speech i)

pub count_part : (speech : Speech) (i : ℕ) → count_texts (take i speech) ≤ count_texts speech
count_part [] zero = omega arith
count_part [] (suc i) = omega arith
count_part (list ∷ speech) zero = omega arith
count_part (list ∷ speech) (suc i) = omega (arith, count_part speech i)

pub count_whole : (speech : Speech) (n i : ℕ) → n ≡ count_texts (take i speech) → length speech ≤ i → n ≡ count_texts speech
count_whole speech n i e le = subst (λ (l : Speech). n ≡ count_texts l) (take_all i speech le) e
