use Rattle.std.proofs.Common.{◌≡◌, ◌++◌, ◌∙◌, List, ap, sym, ℕ}
use Rattle.std.proofs.lemmas.Result.{on_ok_weaker}
use Rattle.defmt_forms.proofs.Runs.{all_bare}
use Rattle.defmt_forms.proofs.quoted.add_escaped.Goals as goal

pub returns-then-are_bare : goal.returns-then-are_bare
returns-then-are_bare c =
    let same = all_bare c.args.text.now (c.are_bare.ensures c.if-are_bare.true) in
    on_ok_weaker c.extend_from_slice.result
    (λ (e : c.extend_from_slice.new.self.items ≡ c.args.out.now.items ++ c.args.text.now). e ∙ ap (λ (l : List ℕ). c.args.out.now.items ++ l) (sym same))
    c.extend_from_slice.ensures.ok
