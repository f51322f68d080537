use Rattle.std.proofs.Common.{◌≡◌, ℕ, false, List, refl, sym, ap, subst, ◌∙◌}
use Rattle.std.specs.Prelude.{IfSome, None, Option, Some}
use Rattle.std.specs.Str.Lines.{lines}
use Rattle.defmt_lines.specs.Settings.{is_block}
use Rattle.defmt_lines.specs.declared.settings.RingMode.{RingMode}
use Rattle.defmt_lines.specs.declared.settings.RingMode.TheVariants.{Block, Skip, Trim}
use Rattle.rtt_down.specs.Modes.{FirstMode}
use Rattle.defmt_run.proofs.running.other_mode.Goals as goal

not_block : (mode : RingMode) → (mode ≡ Block → ⊥) → is_block mode ≡ false
not_block Block not = absurd (not refl)
not_block Skip not = refl
not_block Trim not = refl

some_line : (P : Type 0) (ls : List (List ℕ)) (found : Option ℕ) → P → FirstMode 1 ls found → IfSome found (λ line. P × FirstMode 1 ls (Some line))
some_line P ls None p h = tt
some_line P ls (Some line) p h = (p, h)

pub returns-in-Block-clause-none : goal.returns-in-Block-clause-none
returns-in-Block-clause-none c = λ none. ap is_block (sym c.mode.ensures ∙ c.in-Block.is)

pub returns-in_default-clause-none : goal.returns-in_default-clause-none
returns-in_default-clause-none c = λ none.
    let other : is_block c.args.script.now.settings.mode ≡ false = ap is_block (sym c.mode.ensures) ∙ not_block c.mode.result c.in_default.not-Block in
    absurd (c.modes_are_set.ensures c.args.text.now c.args.script.now c.requires.reads other
    (subst (λ (found : Option ℕ). FirstMode 1 (lines c.args.text.now) found) none c.mode_line.ensures))

pub returns-in_default-clause-some : goal.returns-in_default-clause-some
returns-in_default-clause-some c =
    let other : is_block c.args.script.now.settings.mode ≡ false = ap is_block (sym c.mode.ensures) ∙ not_block c.mode.result c.in_default.not-Block in
    some_line (is_block c.args.script.now.settings.mode ≡ false) (lines c.args.text.now) c.mode_line.result other c.mode_line.ensures
