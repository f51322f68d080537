use Rattle.std.proofs.Common.{List, length, ◌≤◌, ◌∙◌, sym, subst}
use Rattle.std.specs.Prelude.{All}
use Rattle.defmt_grammar.specs.declared.slot.Slot.{Slot}
use Rattle.defmt_grammar.specs.Slots.{IsSound, AllUsed}
use Rattle.defmt_grammar.proofs.Wholes.{slots_sound}
use Rattle.defmt_grammar.proofs.pieces.Pieces.slots.Goals as goal

pub returns-clause-few : goal.returns-clause-few
returns-clause-few c = subst (λ (ss : List Slot). length ss ≤ 16) (sym (c.as_slice.ensures.value ∙ c.self.invariant.slots)) (slots_sound c.self.inside.pieces.items c.self.invariant.spelled).few

pub returns-clause-sound : goal.returns-clause-sound
returns-clause-sound c = subst (All IsSound) (sym (c.as_slice.ensures.value ∙ c.self.invariant.slots)) (slots_sound c.self.inside.pieces.items c.self.invariant.spelled).sound

pub returns-clause-used : goal.returns-clause-used
returns-clause-used c = rw (← c.self.view_is) (subst (λ (ss : List Slot). AllUsed c.self.inside.pieces.items (length ss)) (sym (c.as_slice.ensures.value ∙ c.self.invariant.slots)) (slots_sound c.self.inside.pieces.items c.self.invariant.spelled).used)
