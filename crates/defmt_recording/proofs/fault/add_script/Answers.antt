use Rattle.std.proofs.Common.{◌≡◌, ◌++◌, ◌∙◌, ℕ, List, ap, append_assoc, codes}
use Rattle.std.proofs.lemmas.Result.{on_ok_weaker}
use Rattle.std.specs.Fmt.{decimal}
use Rattle.defmt_recording.proofs.fault.add_script.Goals as goal

-- three numbers, each behind its text
joined : (old one two new a b c d e f : List ℕ) → one ≡ old ++ (a ++ b) → two ≡ one ++ (c ++ d) → new ≡ two ++ (e ++ f)
    → new ≡ old ++ (a ++ b ++ c ++ d ++ e ++ f)
joined old one two new a b c d e f p q r =
    r ∙ ap (λ (l : List ℕ). l ++ (e ++ f)) (q ∙ ap (λ (l : List ℕ). l ++ (c ++ d)) p) ∙ simp append_assoc

pub returns : goal.returns
returns c = on_ok_weaker c.add_number-3.result
    (λ (e : c.add_number-3.new.text ≡ c.add_number-2.new.text ++ (codes " inner " ++ decimal c.from-3.result)).
    joined c.args.text.now c.add_number.new.text c.add_number-2.new.text c.add_number-3.new.text
    (codes "script line ") (decimal c.args.line) (codes " cause ") (decimal c.args.cause) (codes " inner ") (decimal c.args.inner)
    (cc c.in_ok-add_number.ensures) (cc c.in_ok-add_number-2.ensures) (cc e))
    c.add_number-3.ensures
