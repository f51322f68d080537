-- What stands between angles: where the text is enclosed, each step goes on to its end.
use Rattle.std.proofs.Common.{◌≡◌, ◌≢◌, ℕ, List, [], ◌∷◌, ◌++◌, refl, sym, ap, subst, ◌∙◌, Option, Some, None, inr, append_assoc}
use Rattle.std.proofs.lemmas.Option.{none-some}
use Rattle.defmt_grammar.specs.Cut.{skip_spaces}
use Rattle.defmt_grammar.specs.declared.language.Language.{Language}
use Rattle.defmt_shapes.specs.declared.scan.Bracket.{Bracket}
use Rattle.defmt_shapes.specs.declared.scan.Bracket.TheVariants.{Round, Angle}
use Rattle.defmt_shapes.specs.declared.scan.Step.{Step}
use Rattle.defmt_shapes.specs.declared.scan.Step.TheVariants.{Open}
use Rattle.defmt_shapes.specs.Shape.{Shapes, AreCalls, no_shapes, shape, call, SpellsShape, SpellsShapes, EndsThere}
use Rattle.defmt_shapes.specs.Leads.{Lead, IsLeadIn}
use Rattle.defmt_shapes.specs.Scan.{call_step, after_step, IsCallStep, Leaves}
use Rattle.defmt_shapes.proofs.BeginLaws.{begins_with}
use Rattle.defmt_shapes.proofs.EscapeLaws.{behind_other}
use Rattle.defmt_shapes.proofs.FullLeads.{one_in}
use Rattle.defmt_shapes.proofs.LeadAgain.{begins}
use Rattle.defmt_shapes.proofs.LeaveLaws.{HasStep, has_close, has_space}
use Rattle.defmt_shapes.proofs.OneLaws.{stops_inside}
use Rattle.defmt_shapes.proofs.OneLead.{call_lead}
use Rattle.defmt_shapes.proofs.ShapeLaws.{value_starts, shapes_skip, skip_one}

module _ (lang : Language) (bs : List Bracket) where
  -- spaces or nothing, where no value follows
  none_left : (inside after rest end : List ℕ) (o : Option (Step × List ℕ)) → SpellsShapes lang inside no_shapes → rest ≡ inside ++ 62 ∷ after → Leaves lang bs after end → o ≡ after_step Angle rest → HasStep lang Angle bs o end
  none_left [] after rest end o h e l s = has_close lang Angle bs [] after rest end o refl e l s
  none_left (c ∷ t) after rest end o h e l s =
      has_space lang Angle bs (c ∷ t) t after rest end o (ap (λ (x : ℕ). x ∷ t) h.0) e (no_shapes, tt, shapes_skip lang t no_shapes h.1) l s

  -- spaces in front of a value
  spaced : (inside t after rest end : List ℕ) (ss : Shapes) (o : Option (Step × List ℕ)) → AreCalls ss → SpellsShapes lang inside ss → inside ≡ 32 ∷ t → rest ≡ inside ++ 62 ∷ after → Leaves lang bs after end → o ≡ after_step Angle rest → HasStep lang Angle bs o end
  spaced inside t after rest end ss o calls h i e l s =
      let k : SpellsShapes lang (skip_spaces t) ss = subst (λ (x : List ℕ). SpellsShapes lang x ss) (ap skip_spaces i ∙ skip_one t) (shapes_skip lang inside ss h) in
      has_space lang Angle bs inside t after rest end o i e (ss, calls, k) l s

  none_there : (text more : List ℕ) (c : ℕ) → text ≡ c ∷ more → c ≢ 32 → c ≢ 62 → after_step Angle text ≡ None
  none_there text more c e n m = ap (after_step Angle) e ∙ rw (behind_other 62 c more m, behind_other 32 c more n) refl

  -- a Format value
  first_call : (name : List ℕ) (v : Option ℕ) (vs ss : Shapes) (front more after rest end : List ℕ) (o : Option (Step × List ℕ)) → AreCalls ss → SpellsShape lang front (call name v vs) → EndsThere more → SpellsShapes lang more ss → rest ≡ front ++ (more ++ 62 ∷ after) → Leaves lang bs after end → IsCallStep lang rest (after_step Angle rest) o → HasStep lang Angle bs o end
  first_call name v vs ss front more after rest end o calls spelled ends others e l w =
      let f = value_starts lang (call name v vs) front spelled in
      let none : after_step Angle rest ≡ None = none_there rest (f.more ++ (more ++ 62 ∷ after)) f.first (e ∙ ap (λ (t : List ℕ). t ++ (more ++ 62 ∷ after)) f.text_is) f.no_space f.no_angle in
      let k : IsCallStep lang rest None o = subst (λ (x : Option (Step × List ℕ)). IsCallStep lang rest x o) none w in
      let b = begins_with lang (call name v vs) front (more ++ 62 ∷ after) spelled (stops_inside 62 more after (inr refl) ends) in
      let same : k.0 ≡ begins b.lead b.after = one_in lang rest k.0 (begins b.lead b.after) k.1 (subst (λ (t : List ℕ). IsLeadIn lang t (begins b.lead b.after)) (sym e) b.is_lead) in
      let c = call_lead lang b.lead b.after (more ++ 62 ∷ after) name v vs b.leads in
      record {
        step = Open Round;
        after = b.after;
        goes = k.2 ∙ ap call_step (same ∙ ap (λ (x : Lead). begins x b.after) c.lead_is);
        leaves = record {
          inside = c.inside;
          after = more ++ 62 ∷ after;
          rest_is = c.after_is;
          stands = (vs, c.spelled);
          outer = (more, after, refl, (ss, calls, ends, others), l);
        };
      }

  -- the step behind spaces or a bracket is the same where a value may begin
  as_behind : (text : List ℕ) (o x : Option (Step × List ℕ)) (p : Step × List ℕ) → x ≡ Some p → IsCallStep lang text x o → o ≡ x
  as_behind text o None p h v = absurd (none-some p h)
  as_behind text o (Some q) p h v = v

  behind_before : (text end : List ℕ) (o : Option (Step × List ℕ)) → HasStep lang Angle bs (after_step Angle text) end → IsCallStep lang text (after_step Angle text) o → HasStep lang Angle bs o end
  behind_before text end o h v = record {
    step = h.step;
    after = h.after;
    goes = as_behind text o (after_step Angle text) (h.step, h.after) h.goes v ∙ h.goes;
    leaves = h.leaves;
  }

  pub angle_before : (ss : Shapes) (inside after rest end : List ℕ) (o : Option (Step × List ℕ)) → AreCalls ss → SpellsShapes lang inside ss → rest ≡ inside ++ 62 ∷ after → Leaves lang bs after end → IsCallStep lang rest (after_step Angle rest) o → HasStep lang Angle bs o end
  angle_before no_shapes inside after rest end o calls h e l v = behind_before rest end o (none_left inside after rest end (after_step Angle rest) h e l refl) v
  angle_before (shape (call name w vs) ss) inside after rest end o calls ([], front, more, a, spelled, ends, others, i) e l v =
      first_call name w vs ss front more after rest end o calls.1 spelled ends others (e ∙ ap (λ (t : List ℕ). t ++ 62 ∷ after) i ∙ append_assoc front more (62 ∷ after)) l v
  angle_before (shape s ss) inside after rest end o calls (c ∷ sp, front, more, a, spelled, ends, others, i) e l v =
      let j : inside ≡ 32 ∷ (sp ++ (front ++ more)) = i ∙ ap (λ (x : ℕ). x ∷ (sp ++ (front ++ more))) a.0 in
      behind_before rest end o
      (spaced inside (sp ++ (front ++ more)) after rest end (shape s ss) (after_step Angle rest) calls (c ∷ sp, front, more, a, spelled, ends, others, i) j e l refl) v
  angle_before (shape s ss) inside after rest end o calls ([], front, more, a, spelled, ends, others, i) e l v = absurd calls.0

  pub angle_after : (ss : Shapes) (inside after rest end : List ℕ) (o : Option (Step × List ℕ)) → AreCalls ss → EndsThere inside → SpellsShapes lang inside ss → rest ≡ inside ++ 62 ∷ after → Leaves lang bs after end → o ≡ after_step Angle rest → HasStep lang Angle bs o end
  angle_after ss [] after rest end o calls ends h e l s = has_close lang Angle bs [] after rest end o refl e l s
  angle_after ss (c ∷ t) after rest end o calls ends h e l s = spaced (c ∷ t) t after rest end ss o calls h (ap (λ (x : ℕ). x ∷ t) ends) e l s
