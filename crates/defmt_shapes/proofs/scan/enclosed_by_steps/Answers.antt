use Rattle.std.proofs.Common.{◌≡◌, List, [], reverse, sym, subst, arith, rules}
use Rattle.std.proofs.lemmas.List.{nil_from_length}
use Rattle.defmt_shapes.specs.declared.scan.Bracket.{Bracket}
use Rattle.defmt_shapes.specs.declared.scan.Place.TheVariants.{Before}
use Rattle.defmt_shapes.specs.declared.scan.Step.{Step}
use Rattle.defmt_shapes.specs.Scan.{IsStep, InBrackets}
use Rattle.defmt_shapes.proofs.ScanLaws.{goes_on, step_shorter}
use Rattle.defmt_shapes.proofs.FlatLaws.{go_over, over_shorter}
use Rattle.defmt_shapes.proofs.ReaderLaws.{is_stuck, go_begin, go_end, go_open, go_close, at_end, end_size, end_inside, end_boundary}
use Rattle.defmt_shapes.proofs.scan.enclosed_by_steps.Goals as goal

pub returns-in_default-clause-parts : goal.returns-in_default-clause-parts
returns-in_default-clause-parts c = is_stuck c.args.language c.args.first c.steps.bracket c.args.text.now (reverse c.steps.outer.items) c.steps.place c.steps.rest.now c.steps.invariant.brackets c.in_default.ensures.parts

pub steps-smaller-in-Begin : goal.steps-smaller-in-Begin
steps-smaller-in-Begin c = step_shorter c.args.language c.steps.bracket c.steps.place c.steps.rest.now (c.in-Some.step, c.in-Some.after.now) c.in-Some.ensures.parts

pub steps-preserved-in-Begin : goal.steps-preserved-in-Begin
steps-preserved-in-Begin c =
    let k = subst (λ (s : Step). IsStep c.args.language c.steps.bracket c.steps.place c.steps.rest.now (goes_on s c.in-Some.after.now)) c.in-Begin.is c.in-Some.ensures.parts in
    record {
      brackets = go_begin c.args.language c.args.first c.steps.bracket c.args.text.now (reverse c.steps.outer.items) c.steps.place c.steps.rest.now c.in-Some.after.now c.steps.invariant.brackets k;
      utf8 = c.in-Some.ensures.utf8;
    }

pub steps-smaller-in-End : goal.steps-smaller-in-End
steps-smaller-in-End c = step_shorter c.args.language c.steps.bracket c.steps.place c.steps.rest.now (c.in-Some.step, c.in-Some.after.now) c.in-Some.ensures.parts

pub steps-preserved-in-End : goal.steps-preserved-in-End
steps-preserved-in-End c =
    let k = subst (λ (s : Step). IsStep c.args.language c.steps.bracket c.steps.place c.steps.rest.now (goes_on s c.in-Some.after.now)) c.in-End.is c.in-Some.ensures.parts in
    record {
      brackets = go_end c.args.language c.args.first c.steps.bracket c.args.text.now (reverse c.steps.outer.items) c.steps.place c.steps.rest.now c.in-Some.after.now c.steps.invariant.brackets k;
      utf8 = c.in-Some.ensures.utf8;
    }

pub steps-smaller-in-Some-numbers_behind : goal.steps-smaller-in-Some-numbers_behind
steps-smaller-in-Some-numbers_behind c =
    let k = subst (λ (s : Step). IsStep c.args.language c.steps.bracket c.steps.place c.steps.rest.now (goes_on s c.in-Some.after.now)) c.in-Open.is c.in-Some.ensures.parts in
    let f = c.in-Some-numbers_behind.ensures.parts c.args.language in
    over_shorter c.args.language c.steps.bracket c.in-Open.inner c.steps.place c.steps.rest.now c.in-Some.after.now f.1.0 c.in-Some-numbers_behind.behind.now k f.1.1

pub steps-preserved-in-Some-numbers_behind : goal.steps-preserved-in-Some-numbers_behind
steps-preserved-in-Some-numbers_behind c =
    let k = subst (λ (s : Step). IsStep c.args.language c.steps.bracket c.steps.place c.steps.rest.now (goes_on s c.in-Some.after.now)) c.in-Open.is c.in-Some.ensures.parts in
    let f = c.in-Some-numbers_behind.ensures.parts c.args.language in
    record {
      brackets = go_over c.args.language c.args.first c.steps.bracket c.in-Open.inner c.args.text.now (reverse c.steps.outer.items) c.steps.place c.steps.rest.now c.in-Some.after.now c.in-Some-numbers_behind.behind.now f.0 c.steps.invariant.brackets k f.1;
      utf8 = c.in-Some-numbers_behind.ensures.utf8;
    }

pub steps-smaller-in-Open : goal.steps-smaller-in-Open
steps-smaller-in-Open c = step_shorter c.args.language c.steps.bracket c.steps.place c.steps.rest.now (c.in-Some.step, c.in-Some.after.now) c.in-Some.ensures.parts

pub steps-preserved-in-Open : goal.steps-preserved-in-Open
steps-preserved-in-Open c =
    let k = subst (λ (s : Step). IsStep c.args.language c.steps.bracket c.steps.place c.steps.rest.now (goes_on s c.in-Some.after.now)) c.in-Open.is c.in-Some.ensures.parts in
    record {
      brackets = subst (λ (bs : List Bracket). InBrackets c.args.language c.args.first c.args.text.now c.in-Open.inner (reverse bs) Before c.in-Some.after.now) (sym c.in_ok-push-in-Open.ensures.items)
          (go_open c.args.language c.args.first c.steps.bracket c.in-Open.inner c.args.text.now c.steps.outer.items c.steps.place c.steps.rest.now c.in-Some.after.now c.steps.invariant.brackets k);
      utf8 = c.in-Some.ensures.utf8;
    }

pub overflow_sub-text : goal.overflow_sub-text
overflow_sub-text c =
    let none : c.steps.outer.items ≡ [] = nil_from_length c.steps.outer.items (search rules) in
    let k = subst (λ (s : Step). IsStep c.args.language c.steps.bracket c.steps.place c.steps.rest.now (goes_on s c.in-Some.after.now)) c.in-Close.is c.in-Some.ensures.parts in
    let e = at_end c.args.language c.args.first c.steps.bracket c.args.text.now c.steps.place c.steps.rest.now c.in-Some.after.now c.steps.outer.items c.steps.invariant.brackets none k in
    omega (arith, end_size c.args.language c.args.first c.args.text.now e.0 c.in-Some.after.now e.1)

pub overflow_sub-text-in_default-pop : goal.overflow_sub-text-in_default-pop
overflow_sub-text-in_default-pop c =
    let none : c.steps.outer.items ≡ [] = nil_from_length c.steps.outer.items (search rules) in
    let k = subst (λ (s : Step). IsStep c.args.language c.steps.bracket c.steps.place c.steps.rest.now (goes_on s c.in-Some.after.now)) c.in-Close.is c.in-Some.ensures.parts in
    let e = at_end c.args.language c.args.first c.steps.bracket c.args.text.now c.steps.place c.steps.rest.now c.in-Some.after.now c.steps.outer.items c.steps.invariant.brackets none k in
    omega (arith, end_size c.args.language c.args.first c.args.text.now e.0 c.in-Some.after.now e.1)

pub split_at-requires : goal.split_at-requires
split_at-requires c =
    let none : c.steps.outer.items ≡ [] = nil_from_length c.steps.outer.items (search rules) in
    let k = subst (λ (s : Step). IsStep c.args.language c.steps.bracket c.steps.place c.steps.rest.now (goes_on s c.in-Some.after.now)) c.in-Close.is c.in-Some.ensures.parts in
    let e = at_end c.args.language c.args.first c.steps.bracket c.args.text.now c.steps.place c.steps.rest.now c.in-Some.after.now c.steps.outer.items c.steps.invariant.brackets none k in
    end_boundary c.args.language c.args.first c.args.text.now c.in-Some.after.now e.0 e.1

pub returns-in_default-pop-clause-parts : goal.returns-in_default-pop-clause-parts
returns-in_default-pop-clause-parts c =
    let none : c.steps.outer.items ≡ [] = nil_from_length c.steps.outer.items (search rules) in
    let k = subst (λ (s : Step). IsStep c.args.language c.steps.bracket c.steps.place c.steps.rest.now (goes_on s c.in-Some.after.now)) c.in-Close.is c.in-Some.ensures.parts in
    let e = at_end c.args.language c.args.first c.steps.bracket c.args.text.now c.steps.place c.steps.rest.now c.in-Some.after.now c.steps.outer.items c.steps.invariant.brackets none k in
    end_inside c.args.language c.args.first c.args.text.now c.split_at.result.0.now c.in-Some.after.now e.0 e.1 c.split_at.ensures.front

pub steps-smaller : goal.steps-smaller
steps-smaller c = step_shorter c.args.language c.steps.bracket c.steps.place c.steps.rest.now (c.in-Some.step, c.in-Some.after.now) c.in-Some.ensures.parts

pub steps-preserved : goal.steps-preserved
steps-preserved c =
    let k = subst (λ (s : Step). IsStep c.args.language c.steps.bracket c.steps.place c.steps.rest.now (goes_on s c.in-Some.after.now)) c.in-Close.is c.in-Some.ensures.parts in
    record {
      brackets = go_close c.args.language c.args.first c.steps.bracket c.in-Some-pop.around c.args.text.now c.steps.outer.items c.pop.new.self.items c.steps.place c.steps.rest.now c.in-Some.after.now c.steps.invariant.brackets k c.in-Some-pop.ensures.items;
      utf8 = c.in-Some.ensures.utf8;
    }
