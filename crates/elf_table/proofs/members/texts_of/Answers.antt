use Rattle.std.proofs.Common.{List, ℕ, ◌∷◌, Option, Some, option_map, ap, ◌∙◌}
use Rattle.std.specs.Borrow.{Bor}
use Rattle.json.specs.Reads.{token_of}
use Rattle.json.specs.declared.token.Token.{Token}
use Rattle.elf_table.proofs.MembersLaws.{begun, one_more, closed}
use Rattle.elf_table.proofs.members.texts_of.Goals as goal

pub members-init : goal.members-init
members-init c = begun c.args.reader.now

pub returns-in_default-next : goal.returns-in_default-next
returns-in_default-next c =
    closed c.args.reader.now c.members.reader c.next_key.new.self _ _ _ _ c.members.invariant
    (c.in-Ok.ensures.value ∙ ap (λ (k : Option (Bor (List ℕ))). Some (option_map (λ s. s.now) k, c.next_key.new.self)) c.in_default-next.is)

pub members-preserved : goal.members-preserved
members-preserved c =
    one_more c.args.reader.now c.members.reader c.next_key.new.self c.next.new.self c.in-Some.key.now c.in-Some-String.value.now _ _ _ _ _ _ _ _ c.members.invariant
    (c.in-Ok.ensures.value ∙ ap (λ (k : Option (Bor (List ℕ))). Some (option_map (λ s. s.now) k, c.next_key.new.self)) c.in-Some.is)
    (c.in-Some-String.ensures.value ∙ ap (λ (t : Token). token_of t ∷ c.next.new.self) c.in-Some-String.field-0-is)
    c.later-package.ensures c.later-tag.ensures c.later-text.ensures c.later-disambiguator.ensures
