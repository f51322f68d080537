use Rattle.std.proofs.Common.{◌≡◌, ℕ, List, subst}
use Rattle.std.specs.Prelude.{OnOk}
use Rattle.rtt_terminal.specs.Stream.{screen_at}
use Rattle.defmt_print.proofs.Texts.{a_terminal}
use Rattle.defmt_print.proofs.terminals.add_terminal.Goals as goal

pub returns : goal.returns
returns c =
    let texts : List (List ℕ) = screen_at c.args.screens.now c.args.terminal in
    subst (λ (l : List ℕ). OnOk c.add_texts.result (c.add_texts.new.out.items ≡ l))
    (a_terminal c.args.out.now.items c.extend_from_slice.new.self.items c.add_ended.new.out.items c.digit_of.result c.args.terminal texts
    (subst (λ (n : ℕ). n ≡ 0 → ⊥) c.count.ensures c.if-count-eq0.false) c.digit_of.ensures c.in_ok-extend_from_slice.ensures.ok c.in_ok-add_ended.ensures.appended)
    c.add_texts.ensures
