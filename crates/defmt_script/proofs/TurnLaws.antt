-- How the texts of a script stand among its statements, with one more of either.
use Rattle.std.proofs.Common.{◌≡◌, ◌≤◌, ◌<◌, ℕ, zero, suc, List, [], ◌∷◌, ◌++◌, length, length-append, refl, sym, ap, ◌∙◌, subst, inl, inr, arith}
use Rattle.std.specs.Prelude.{OnErr, OnOk, Ok, Err, Result, slice_index_or}
use Rattle.std.proofs.lemmas.Bool.{cases_eq}
use Rattle.std.proofs.lemmas.List.{get_or-set_other, get_or-set_same}
use Rattle.defmt_script.specs.Reads.{with_statement, with_text}
use Rattle.defmt_script.specs.Script.{Script, add_statement, statements_by}
use Rattle.defmt_script.specs.State.{State}
use Rattle.defmt_script.specs.Turns.{AreInTurn, IsTold}
use Rattle.defmt_values.specs.declared.value.Statement.{Statement}
use Rattle.rtt_terminal.proofs.SpeechLaws.{is_silence, more_said, none_by}
use Rattle.rtt_terminal.specs.Speech.{CanBeSaid, IsSpeech, Saying, Speech, count_texts, said_by, saying, silence, with_saying}

-- ---- at the start

none_in_turn : (n : ℕ) (list : List Saying) → list ≡ [] → AreInTurn 0 n list
none_in_turn n list none = subst (λ (l : List Saying). AreInTurn 0 n l) (sym none) (let le : 0 ≤ n = omega arith in le)

silent : (s : Script) (said : Speech) → said ≡ silence 8 → (w : ℕ) → said_by said w ≡ []
silent s said is w = ap (λ (x : Speech). said_by x w) is ∙ none_by 8 w

pub told_first : (s : Script) → s.said ≡ silence 8 → IsTold s
told_first s is = (subst IsSpeech (sym is) is_silence, λ w. none_in_turn (length (statements_by s w)) (said_by s.said w) (silent s s.said is w))

-- ---- a statement more

later : (from n m : ℕ) (list : List Saying) → n ≤ m → AreInTurn from n list → AreInTurn from m list
later from n m [] le h = let last : from ≤ m = omega (arith, le, h) in last
later from n m (s ∷ list) le h = (h.0, later s.behind n m list le h.1)

no_fewer : (w v : ℕ) (stm : Statement) (ws : List (List Statement)) → length (slice_index_or ws w []) ≤ length (slice_index_or (add_statement v stm ws) w [])
no_fewer w v stm [] = omega arith
no_fewer zero zero stm (list ∷ ws) = omega (arith, length-append list (stm ∷ []))
no_fewer (suc w) zero stm (list ∷ ws) = omega arith
no_fewer zero (suc v) stm (list ∷ ws) = omega arith
no_fewer (suc w) (suc v) stm (list ∷ ws) = no_fewer w v stm ws

pub told_behind : (s : Script) (ws : List (List Statement)) (writer : ℕ) (stm : Statement) → ws ≡ add_statement writer stm s.writers → IsTold s → IsTold (record s { writers = ws })
told_behind s ws writer stm is h = (
  h.0,
  λ w.
      let more : length (statements_by s w) ≤ length (slice_index_or ws w []) =
      subst (λ (l : List (List Statement)). length (statements_by s w) ≤ length (slice_index_or l w [])) (sym is) (no_fewer w writer stm s.writers) in
      later 0 (length (statements_by s w)) (length (slice_index_or ws w [])) (said_by s.said w) more (h.1 w),
)

pub told_statement : (s : State) (writer : ℕ) (stm : Statement) → IsTold s.script → IsTold (with_statement s writer stm).script
told_statement s writer stm h = told_behind s.script (add_statement writer stm s.script.writers) writer stm refl h

-- ---- a text more

behind : (from n : ℕ) (list : List Saying) (s : Saying) → s.behind ≡ n → AreInTurn from n list → AreInTurn from n (list ++ s ∷ [])
behind from n [] s is h = (let first : from ≤ s.behind = omega (arith, is, h) in first, let last : s.behind ≤ n = omega (arith, is) in last)
behind from n (x ∷ list) s is h = (h.0, behind x.behind n list s is h.1)

turns_with : (said : Speech) (v : ℕ) (s : Saying) (counts : ℕ → ℕ) → v < length said → s.behind ≡ counts v → ((w : ℕ) → AreInTurn 0 (counts w) (said_by said w))
    → (w : ℕ) → AreInTurn 0 (counts w) (said_by (with_saying said v s) w)
turns_with said v s counts within is h w = elim (cases_eq w v) [
  | inl same ↦
      let here : said_by (with_saying said v s) v ≡ said_by said v ++ s ∷ [] = get_or-set_same said v (said_by said v ++ s ∷ []) [] within in
      subst (λ (n : ℕ). AreInTurn 0 (counts n) (said_by (with_saying said v s) n)) (sym same)
      (subst (λ (l : List Saying). AreInTurn 0 (counts v) l) (sym here) (behind 0 (counts v) (said_by said v) s is (h v)))
  | inr not ↦
      let there : said_by (with_saying said v s) w ≡ said_by said w = get_or-set_other said v w (said_by said v ++ s ∷ []) [] not in
      subst (λ (l : List Saying). AreInTurn 0 (counts w) l) (sym there) (h w)
]

abbrev with_said : Script → Speech → Script
with_said s said = record s { said = said }

more_told : (s : Script) (writer : ℕ) (x : Saying) → IsTold s → writer < 8 → CanBeSaid x → count_texts s.said < 4096 → x.behind ≡ length (statements_by s writer)
    → IsTold (with_said s (with_saying s.said writer x))
more_told s writer x h below can few is =
    let within : writer < length s.said = omega (arith, below, h.0.eight) in
    (more_said s.said writer x h.0 below can few, turns_with s.said writer x (λ w. length (statements_by s w)) within is h.1)

pub told_text : (s : State) (writer terminal : ℕ) (text : List ℕ) → IsTold s.script → writer < 8 → CanBeSaid (saying (length (statements_by s.script writer)) terminal text) → count_texts s.script.said < 4096
    → IsTold (with_text s writer terminal text).script
told_text s writer terminal text h below can few =
    more_told s.script writer (saying (length (statements_by s.script writer)) terminal text) h below can few refl

-- what a reading has of its texts behind a push
pub told_pushed : {E : Type 0} (s : State) (writer : ℕ) (x : Saying) (after : Speech) (r : Result (Unit {0}) E) → IsTold s.script → writer < 8 → CanBeSaid x → count_texts s.script.said < 4096
    → x.behind ≡ length (statements_by s.script writer) → OnOk r (after ≡ with_saying s.script.said writer x) → OnErr r (after ≡ s.script.said) → IsTold (with_said s.script after)
told_pushed s writer x after (Ok u) h below can few is ok err = subst (λ (said : Speech). IsTold (with_said s.script said)) (sym ok) (more_told s.script writer x h below can few is)
told_pushed s writer x after (Err e) h below can few is ok err = subst (λ (said : Speech). IsTold (with_said s.script said)) (sym err) h

abbrev with_speech : State → Speech → State
with_speech s said = record s { script = record s.script { said = said } }

pub put_text : {E : Type 0} (old inside : State) (writer terminal n : ℕ) (text : List ℕ) (after : Speech) (r : Result (Unit {0}) E) → inside ≡ old → n ≡ length (statements_by inside.script writer)
    → OnOk r (after ≡ with_saying inside.script.said writer (saying n terminal text)) → OnOk r (with_speech inside after ≡ with_text old writer terminal text)
put_text old inside writer terminal n text after (Ok u) same is ok =
    ap (with_speech inside) (ok ∙ ap (λ (k : ℕ). with_saying inside.script.said writer (saying k terminal text)) is)
    ∙ ap (λ (s : State). with_text s writer terminal text) same
put_text old inside writer terminal n text after (Err e) same is ok = tt
