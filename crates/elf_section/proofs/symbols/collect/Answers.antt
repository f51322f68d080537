use Rattle.std.proofs.Common.{◌∙◌, ap, sym, refl, arith, ◌∷◌, []}
use Rattle.std.proofs.Common.{inl, inr}
use Rattle.std.proofs.lemmas.Bool.{cases_eq}
use Rattle.std.proofs.lemmas.List.{length_push, map-append}
use Rattle.elf_section.specs.Symbol.{plain_ref, plain_refs}
use Rattle.elf_section.proofs.ListedLaws.{below_none, below_listed, below_other, below_end}
use Rattle.elf_section.proofs.symbols.collect.Goals as goal
use Rattle.elf_section.proofs.symbols.collect.Goals.{in-Some+in_ok-push, in_default}

pub loop-k-init : goal.loop-k-init
loop-k-init c = (ap plain_refs c.new-symbols.ensures.items ∙ below_none c.args.file.now c.args.defmt c.args.table.now.number, λ _. refl, rw c.new-symbols.ensures.items (omega arith))

pub loop-k-preserved : goal.loop-k-preserved
loop-k-preserved c = (
  elim c.match-listed.branch [
    | in-Some+in_ok-push w ↦
        rw (w.symbols-is, w.in_ok-push.ensures.items)
        (map-append plain_ref c.loop-k.symbols.items (w.in-Some.symbol ∷ [])
        ∙ rw (w.in-Some.ensures.1, c.loop-k.invariant.0)
        (sym (below_listed c.args.file.now c.args.defmt c.args.table.now.number c.loop-k.k (omega arith) w.in-Some.ensures.0)))
    | in_default w ↦ rw w.symbols-is (c.loop-k.invariant.0 ∙ sym (below_other c.args.file.now c.args.defmt c.args.table.now.number c.loop-k.k (omega arith) w.in_default.ensures))
  ],
  λ z. absurd (omega (arith, z)),
  let l = c.loop-k.invariant.2 in
      elim c.match-listed.branch [
        | in-Some+in_ok-push w ↦ rw (w.symbols-is, w.in_ok-push.ensures.items, length_push) (omega arith)
        | in_default w ↦ rw w.symbols-is (omega arith)
      ],
)

pub returns-clause-few : goal.returns-clause-few
returns-clause-few c =
    let l = c.loop-k.invariant.2 in
    let z = c.loop-k.invariant.1 in
    let k = c.loop-k.auto.k-end in
    elim (cases_eq c.args.table.now.count 0) [ inl none ↦ (let one = z none in omega (arith, l, one)) | inr some ↦ (let last = k (omega arith) in omega (arith, l, last)) ]

pub returns-clause-symbols : goal.returns-clause-symbols
returns-clause-symbols c =
    c.loop-k.invariant.0 ∙ below_end c.args.file.now c.args.defmt c.args.table.now.number c.loop-k.k c.args.table.now.count (omega arith) (λ l. let k = c.loop-k.auto.k-end in omega (arith, k)) c.loop-k.invariant.1
