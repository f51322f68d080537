use Rattle.std.proofs.Common.{◌≡◌, ap, subst, ◌∙◌}
use Rattle.std.proofs.lemmas.Result.{IfOk-weaker}
use Rattle.defmt_intern.specs.declared.table.Profile.{Profile}
use Rattle.elf_section.specs.Listed.{Carries}
use Rattle.elf_section.specs.Symbol.{plain_all}
use Rattle.elf_section.specs.Written.{written}
use Rattle.elf_table.specs.Listed.{symbols_in}
use Rattle.elf_table.proofs.ListedLaws.{writable, are_braced, names_table}
use Rattle.elf_table.proofs.writing.write_table.Goals as goal

pub write_symbols-requires : goal.write_symbols-requires
write_symbols-requires c = writable c.args.table.now.entries (plain_all c.deref.result.now) (ap plain_all c.deref.ensures.value ∙ c.in_ok-symbols.ensures.value) c.lawful.ensures c.in_ok-symbols.ensures.few c.requires

pub returns-clause-bytes : goal.returns-clause-bytes
returns-clause-bytes c =
    let same : plain_all c.deref.result.now ≡ symbols_in c.args.table.now.entries = ap plain_all c.deref.ensures.value ∙ c.in_ok-symbols.ensures.value in
    IfOk-weaker c.write_symbols.result _ _ (λ file is. is ∙ ap (λ (p : Profile). written p (plain_all c.deref.result.now)) c.profile.ensures ∙ ap (written c.args.table.now.profile) same) c.write_symbols.ensures.bytes

pub returns-clause-read_back : goal.returns-clause-read_back
returns-clause-read_back c =
    let same : plain_all c.deref.result.now ≡ symbols_in c.args.table.now.entries = ap plain_all c.deref.ensures.value ∙ c.in_ok-symbols.ensures.value in
    IfOk-weaker c.write_symbols.result _ _
    (λ file back spelled. names_table c.args.table.now.entries c.args.table.now.profile c.lawful.ensures spelled c.in_ok-symbols.ensures.named file.items (plain_all c.deref.result.now) same
    (subst (Carries file.items (plain_all c.deref.result.now)) c.profile.ensures (back (are_braced c.args.table.now.entries (plain_all c.deref.result.now) same))))
    c.write_symbols.ensures.read_back_whole
