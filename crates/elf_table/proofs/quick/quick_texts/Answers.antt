use Rattle.std.proofs.Common.{◌∙◌, sym, true, false}
use Rattle.elf_table.specs.declared.members.Texts.{Texts}
use Rattle.elf_table.proofs.QuickLaws.{begins, added, goes_on, ends}
use Rattle.elf_table.proofs.quick.quick_texts.Goals as goal

pub members-init : goal.members-init
members-init c = record { utf8 = c.in_ok-rest.ensures.utf8; comma = false; read = begins c.args.name.now c.in_ok-rest.rest.now c.in_ok-rest.ensures.rest }

pub returns-then-eq : goal.returns-then-eq
returns-then-eq c =
    let texts : Texts = record { «package» = c.later-package.result; tag = c.later-tag.result; text = c.later-text.result; disambiguator = c.later-disambiguator.result } in
    ends c.args.name.now texts c.in_ok-key.after.now
    (added c.args.name.now _ _ _ _ _ _ _ _ c.members.invariant.comma c.members.rest.now c.in_ok-key.key.now c.in_ok-key.value.now c.in_ok-key.after.now c.members.invariant.read c.in_ok-key.ensures.spelled c.later-package.ensures c.later-tag.ensures c.later-text.ensures c.later-disambiguator.ensures)
    (sym c.eq.ensures ∙ c.if-eq.true)

pub members-preserved : goal.members-preserved
members-preserved c = record {
  utf8 = c.in_ok-rest-2.ensures.utf8;
  comma = true;
  read = goes_on c.args.name.now _ _ _ _ c.in_ok-key.after.now c.in_ok-rest-2.rest.now
      (added c.args.name.now _ _ _ _ _ _ _ _ c.members.invariant.comma c.members.rest.now c.in_ok-key.key.now c.in_ok-key.value.now c.in_ok-key.after.now c.members.invariant.read c.in_ok-key.ensures.spelled c.later-package.ensures c.later-tag.ensures c.later-text.ensures c.later-disambiguator.ensures)
      c.in_ok-rest-2.ensures.rest;
}
