use Rattle.std.proofs.Common.{◌≡◌, ap, ◌∙◌, arith, length, subst, ℕ}
use Rattle.elf_section.specs.Symbol.{plain_refs}
use Rattle.elf_table.specs.Names.{Made, cause_number}
use Rattle.elf_section.proofs.ListedLaws.{refs}
use Rattle.elf_table.proofs.TableLaws.{made_none, made_more, refuse_step, symbol_at}
use Rattle.elf_table.proofs.reading.table_of.Goals as goal

pub loop-p-init : goal.loop-p-init
loop-p-init c = (rw (c.set_profile.ensures.entries, c.of_language-table.ensures.entries) (made_none c.args.language (plain_refs c.args.symbols.now)), c.set_profile.ensures.profile)

pub loop-p-preserved : goal.loop-p-preserved
loop-p-preserved c = (
  made_more c.args.language (plain_refs c.args.symbols.now) c.loop-p.p c.loop-p.table.entries c.loop-p.invariant.0 _ (symbol_at c.args.symbols.now c.loop-p.p _ (omega arith)) c.put_symbol.new.table.entries c.in-Ok.ensures.steps,
  c.put_symbol.ensures.profile ∙ c.loop-p.invariant.1,
)

pub returns-in-Err-Refused : goal.returns-in-Err-Refused
returns-in-Err-Refused c =
    let told : c.number.result ≡ cause_number c.in-Err-Refused.cause = c.number.ensures ∙ ap cause_number c.in-Err-Refused.cause-is in
    rw told (refuse_step c.args.language (plain_refs c.args.symbols.now) c.loop-p.p c.loop-p.table.entries c.loop-p.invariant.0 _ (symbol_at c.args.symbols.now c.loop-p.p _ (omega arith)) (cause_number c.in-Err-Refused.cause) (rw c.in-Err-Refused.field-0-is at c.in-Err-Refused.ensures.steps))

pub returns : goal.returns
returns c =
    let all : c.loop-p.p ≡ length (plain_refs c.args.symbols.now) = omega (arith, refs c.args.symbols.now) in
    (subst (λ (n : ℕ). Made c.args.language (plain_refs c.args.symbols.now) n c.loop-p.table.entries) all c.loop-p.invariant.0, c.loop-p.invariant.1)
