use Rattle.std.proofs.Common.{◌∙◌, ap, sym, subst}
use Rattle.defmt_intern.specs.Table.{Map, IsLawful, IsGreatest, IsGreatestIn, kept_in}
use Rattle.defmt_intern.proofs.Slots.{Held, spoken}
use Rattle.defmt_intern.proofs.TableLaws.{next_none, next_some}
use Rattle.defmt_intern.proofs.map.EntryMap.next_index.Goals as goal

pub last_kept-requires : goal.last_kept-requires
last_kept-requires c = rw c.as_slice.ensures.value c.self.invariant.few

pub returns-in-None : goal.returns-in-None
returns-in-None c = next_none c.self.inside.language c.args.self.now (sym c.self.view_is ∙ ap (spoken c.self.inside.language) (sym (ap kept_in c.as_slice.ensures.value) ∙ c.in-None.ensures))

pub returns-in-Some : goal.returns-in-Some
returns-in-Some c =
    let same = ap kept_in c.as_slice.ensures.value ∙ ap (λ (t : Map). t.entries) c.self.view_is in
    let lawful : IsLawful c.args.self.now = subst IsLawful c.self.view_is c.self.invariant.kept.lawful in
    let top : IsGreatest c.args.self.now c.in-Some.greatest = subst (λ (kept : Held). IsGreatestIn kept c.in-Some.greatest) same c.in-Some.ensures in
    next_some c.args.self.now c.in-Some.greatest c.checked_add.result top lawful c.checked_add.ensures
