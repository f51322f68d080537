use Rattle.std.proofs.Common.{◌≡◌, ◌++◌, ◌∙◌, List, ap, sym, ℕ}
use Rattle.std.proofs.lemmas.Result.{on_ok_weaker}
use Rattle.defmt_forms.proofs.Runs.{all_plain}
use Rattle.defmt_forms.proofs.tame.add_tame.Goals as goal

pub returns-then-is_all_plain : goal.returns-then-is_all_plain
returns-then-is_all_plain c =
    let same = all_plain c.args.text.now (sym c.is_all_plain.ensures ∙ c.if-is_all_plain.true) in
    on_ok_weaker c.extend_from_slice.result
    (λ (e : c.extend_from_slice.new.self.items ≡ c.args.out.now.items ++ c.args.text.now). e ∙ ap (λ (l : List ℕ). c.args.out.now.items ++ l) (sym same))
    c.extend_from_slice.ensures.ok
