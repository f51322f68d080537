-- Steps on their way.
use Rattle.std.proofs.Common.{◌≡◌, ◌<◌, ◌≤◌, ◌+◌, ℕ, suc, List, [], ◌∷◌, length, drop, drop-cons, get_or, refl, sym, ap, subst, ◌∙◌, arith, Option, Some, None}
use Rattle.defmt_grammar.specs.declared.hint.Hint.{Hint}
use Rattle.defmt_grammar.specs.declared.piece.Piece.{Piece}
use Rattle.defmt_intern.specs.Table.{Map}
use Rattle.defmt_eager.specs.Show.{show_val, shows, acting, pieces_text}
use Rattle.defmt_plan.proofs.Remaining.{Rest, rest_none, rest_more}
use Rattle.defmt_hints.proofs.Chains.{written_end, kept_written, kept_two}
use Rattle.defmt_plan.specs.Readers.{PassedStepBy, PassesPieces, PassesStepBy}
use Rattle.defmt_plan.specs.Steps.{AreSteps, PassAll, behind}
use Rattle.defmt_hints.specs.Written.{Kept}
use Rattle.defmt_eager.specs.Answers.{Placed}
use Rattle.defmt_plan.specs.declared.reach.Reach.{Reach}
use Rattle.defmt_plan.specs.declared.steps.Step.{Step}
use Rattle.defmt_plan.specs.declared.steps.Step.TheVariants as steps

-- whatever finishes the rest of the steps, of which the first has the next position, finishes all of them
pub record Going (t : Map) (left : ℕ) (outer : Hint) (whole rest : List Step) (bytes : List ℕ) (start now : Reach) (old out : List ℕ) : Type 0 where
  pub next : ℕ
  pub few : now.opened ≤ 8192
  pub read : now.read ≤ length bytes
  pub written : now.written ≤ length out
  pub behind : start.written ≤ now.written
  pub kept : Kept old start.written out
  pub passes : (all : List Piece) → PassAll all 0 whole → PassAll all next rest
  pub finishes : (all : List Piece) → PassAll all 0 whole → (to : Reach) (new : List ℕ) → Rest t left outer all rest next bytes now to out new → Rest t left outer all whole 0 bytes start to old new

-- where a step ends, and what it writes
record Ends (bytes : List ℕ) (before after : Reach) (old new : List ℕ) : Type 0 where
  pub few : after.opened ≤ 8192
  pub read : after.read ≤ length bytes
  pub text : List ℕ
  pub written : Placed old before.written new after.written text

step_ends : (t : Map) (left : ℕ) (outer : Hint) (step : Step) (bytes : List ℕ) (before after : Reach) (old new : List ℕ) → before.opened ≤ 8192 → before.read ≤ length bytes → PassedStepBy t left outer step bytes before after old new → Ends bytes before after old new
step_ends t left outer (steps.Text text) bytes before after old new few le p = record { few = omega (arith, p.0.opened, few); read = omega (arith, p.0.read, le); text = text; written = p.1 }
step_ends t left outer (steps.Value kind hint) bytes before after old new few le p = record { few = p.few; read = p.within; text = show_val t p.value kind (acting outer hint); written = p.written }
step_ends t left outer (steps.Peek f hint) bytes before after old new few le p = record { few = omega (arith, p.0.opened, few); read = omega (arith, p.0.read, le); text = _; written = p.1.written }
step_ends t left outer (steps.Bits f hint) bytes before after old new few le p = record { few = omega (arith, p.0.opened, few); read = omega (arith, p.0.read, p.1.carried.within); text = _; written = p.1.written }

pub next_step : (ss : List Step) (i : ℕ) (step : Step) → i < length ss → step ≡ get_or ss i step → drop i ss ≡ step ∷ drop (i + 1) ss
next_step ss i step lt e = let one : suc i ≡ i + 1 = omega arith in drop-cons ss i step lt ∙ ap (λ (q : Step). q ∷ drop (suc i) ss) (sym e) ∙ ap (λ (n : ℕ). step ∷ drop n ss) one

module _ (t : Map) (left : ℕ) (outer : Hint) (whole : List Step) (bytes : List ℕ) (start : Reach) (old : List ℕ) where
  pub going_none : start.opened ≤ 8192 → start.read ≤ length bytes → start.written ≤ length old → Going t left outer whole whole bytes start start old old
  going_none few le most = record {
    next = 0;
    few = few;
    read = le;
    written = most;
    behind = omega arith;
    kept = record { long = refl; front = refl };
    passes = λ all a. a;
    finishes = λ all a to new r. r;
  }

  pub going_more : (step : Step) (rest more : List Step) (now after : Reach) (out new : List ℕ) → Going t left outer whole rest bytes start now old out → rest ≡ step ∷ more → PassedStepBy t left outer step bytes now after out new → Going t left outer whole more bytes start after old new
  going_more step rest more now after out new h e p =
      let ends = step_ends t left outer step bytes now after out new h.few h.read p in
      let far : after.written ≡ now.written + length ends.text = written_end out new now.written after.written ends.text h.written ends.written.written in
      let there : (all : List Piece) → PassAll all 0 whole → PassAll all h.next (step ∷ more) = λ all a. subst (λ (ss : List Step). PassAll all h.next ss) e (h.passes all a) in
      record {
        next = behind h.next step;
        few = ends.few;
        read = ends.read;
        written = omega (arith, ends.written.written.within, ends.written.written.long);
        behind = omega (arith, far, h.behind);
        kept = kept_two old out new start.written now.written h.behind h.kept (kept_written out new now.written after.written ends.text h.written ends.written.written);
        passes = λ all a. (there all a).1;
        finishes = λ all a to last r.
            h.finishes all a to last (subst (λ (ss : List Step). Rest t left outer all ss h.next bytes now to out last) (sym e)
            (rest_more t left outer all step more h.next bytes now after to out new last (there all a) p r));
      }

  pub going_all : (rest : List Step) (now : Reach) (out : List ℕ) → Going t left outer whole rest bytes start now old out → rest ≡ [] → (all pieces : List Piece) → AreSteps all pieces whole → PassesPieces (Some now) t left outer all pieces bytes start old out
  going_all rest now out h e all pieces a =
      let ends : PassAll all h.next [] = subst (λ (ss : List Step). PassAll all h.next ss) e (h.passes all a.pass) in
      let none : Rest t left outer all rest h.next bytes now now out out = subst (λ (ss : List Step). Rest t left outer all ss h.next bytes now now out out) (sym e) (rest_none t left outer all h.next bytes now out ends h.written) in
      let r = h.finishes all a.pass now out none in
      record {
        value = r.args;
        reads = r.reads;
        few = h.few;
        within = h.read;
        written = subst (λ (ps : List Piece). Placed old start.written out now.written (pieces_text outer ps (shows t r.args))) a.are (r.written [] refl);
      }

  pub going_fails : (rest : List Step) (now : Reach) (out new : List ℕ) (step : Step) (q r : Option Reach) → Going t left outer whole rest bytes start now old out → q ≡ None → r ≡ None → PassesStepBy q t left outer step bytes now out new → (all pieces : List Piece) → PassesPieces r t left outer all pieces bytes start old new
  going_fails rest now out new step q r h e f k all pieces =
      let kept : Kept out now.written new = subst (λ (o : Option Reach). PassesStepBy o t left outer step bytes now out new) e k in
      rw f (kept_two old out new start.written now.written h.behind h.kept kept)
