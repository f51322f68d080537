use Rattle.std.proofs.Common.{◌≡◌, ◌≤◌, ◌<◌, ◌-◌, ◌∙◌, List, [], ◌∷◌, get_or, length, map, take, drop, refl, ap, arith}
use Rattle.std.proofs.lemmas.List.{take_all}
use Rattle.clap.specs.Words.{App, app_of, with_rule}
use Rattle.defmt_words.specs.declared.parameters.Parameter.{Parameter}
use Rattle.defmt_words.specs.View.{parameter_view}
use Rattle.defmt_words.specs.Words.{rule_by, with_rules}
use Rattle.defmt_words.proofs.command_line.with_rules.Goals as goal

-- the first parameter gives a rule, and the others stand behind it
one_more : (app after : App) (rest : List Parameter) (d : Parameter) → 1 ≤ length rest
    → after ≡ with_rule app (rule_by (get_or rest 0 d).kind (get_or rest 0 d).name.now)
    → with_rules after (map parameter_view (take (length rest - 1) (drop 1 rest))) ≡ with_rules app (map parameter_view rest)
one_more app after [] d some e = absurd (omega arith)
one_more app after (parameter ∷ rest) d some e =
    let all : take (length (parameter ∷ rest) - 1) rest ≡ rest = take_all (length (parameter ∷ rest) - 1) rest (omega arith) in
    rw all (ap (λ (a : App). with_rules a (map parameter_view rest)) e)

-- no parameter gives no rule
none_left : (app : App) (rest : List Parameter) → length rest < 1 → app ≡ with_rules app (map parameter_view rest)
none_left app [] none = refl
none_left app (parameter ∷ rest) none = absurd (omega arith)

pub parameters-preserved : goal.parameters-preserved
parameters-preserved c = record {
  same = one_more (app_of c.parameters.line) (app_of c.in_ok-line.line) c.parameters.rest.now _ c.in-len1-up.len_at_least
      (c.in_ok-line.ensures.shape c.rule_of.ensures.local ∙ ap (with_rule (app_of c.parameters.line)) c.rule_of.ensures.rule)
      ∙ c.parameters.invariant.same;
}

pub returns : goal.returns
returns c = none_left (app_of c.parameters.line) c.parameters.rest.now c.in_default.len_below ∙ c.parameters.invariant.same
