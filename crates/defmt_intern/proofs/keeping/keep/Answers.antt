use Rattle.std.proofs.Common.{◌≡◌, Some, arith, ap, subst, sym}
use Rattle.std.proofs.lemmas.List.Elements.{All-set}
use Rattle.defmt_intern.specs.declared.kept.Kept.{Kept}
use Rattle.defmt_intern.specs.Body.{body_of}
use Rattle.defmt_intern.specs.Table.{IsReadIn}
use Rattle.defmt_intern.proofs.Slots.{inserted}
use Rattle.defmt_intern.proofs.keeping.keep.Goals as goal

pub returns-clause-ok : goal.returns-clause-ok
returns-clause-ok c =
    inserted c.args.slots.now.items c.grow.new.slots.items c.args.index c.in_ok-boxed.boxed c.args.kept.entry c.grow.ensures.kept (omega (arith, c.in_ok-grow.ensures.room)) (ap (λ (k : Kept). k.entry) c.in_ok-boxed.ensures.ok)

pub returns-in_err-grow-clause-read : goal.returns-in_err-grow-clause-read
returns-in_err-grow-clause-read c = λ language old is. c.grow.ensures.read language old

pub returns-clause-read : goal.returns-clause-read
returns-clause-read c = λ language old is.
    let new : c.in_ok-boxed.boxed.value.parsed ≡ body_of language c.in_ok-boxed.boxed.value.entry =
    subst (λ (k : Kept). k.parsed ≡ body_of language k.entry) (sym c.in_ok-boxed.ensures.ok) is in
    All-set (IsReadIn language) c.grow.new.slots.items c.args.index (Some c.in_ok-boxed.boxed) new (c.grow.ensures.read language old)
