use Rattle.std.proofs.Common.{◌<◌, ◌++◌, List, length, get_or, [], sym, ◌∙◌, ap, subst, arith}
use Rattle.std.specs.List.{AllByRecursion}
use Rattle.std.proofs.lemmas.List.{append-nil, take_all}
use Rattle.defmt_values.specs.declared.value.Statement.{Statement}
use Rattle.defmt_script.specs.Lawful.{IsSound}
use Rattle.defmt_print.specs.Printed.{numbered, numbered_line}
use Rattle.defmt_print.proofs.Numbered.{all_at, at_place, not_none, one_more}
use Rattle.defmt_print.proofs.statements.add_writer.Goals as goal

pub loop-place-init : goal.loop-place-init
loop-place-init c = sym (append-nil c.args.out.now.items)

pub unreachable-requires : goal.unreachable-requires
unreachable-requires c =
    let list : List Statement = get_or c.args.script.now.writers c.args.writer [] in
    not_none list c.loop-place.place (omega (arith, c.count-count.ensures)) c.in_default.ensures

pub add_statement-requires : goal.add_statement-requires
add_statement-requires c =
    let list : List Statement = get_or c.args.script.now.writers c.args.writer [] in
    let within : c.loop-place.place < length list = omega (arith, c.count-count.ensures) in
    let stm : Statement = c.in-Some.statement.now in
    record {
      sound = subst (IsSound c.args.script.now.table c.args.script.now.settings) (at_place list c.loop-place.place stm within c.in-Some.ensures)
          (all_at (IsSound c.args.script.now.table c.args.script.now.settings) list c.loop-place.place stm
          (all_at (λ (l : List Statement). AllByRecursion (IsSound c.args.script.now.table c.args.script.now.settings) l) c.args.script.now.writers c.args.writer [] c.lawful.ensures.sound c.requires.writer) within);
      few = omega (arith, within, c.requires.few);
    }

pub loop-place-preserved : goal.loop-place-preserved
loop-place-preserved c =
    let list : List Statement = get_or c.args.script.now.writers c.args.writer [] in
    let within : c.loop-place.place < length list = omega (arith, c.count-count.ensures) in
    one_more (numbered_line c.args.script.now) c.args.out.now.items c.loop-place.out.items c.add_statement.new.out.items c.args.number c.loop-place.place list c.in-Some.statement.now within
    (at_place list c.loop-place.place c.in-Some.statement.now within c.in-Some.ensures) c.loop-place.invariant c.in_ok-add_statement.ensures

pub returns-clause-bytes : goal.returns-clause-bytes
returns-clause-bytes c =
    let list : List Statement = get_or c.args.script.now.writers c.args.writer [] in
    c.loop-place.invariant ∙ ap (λ (l : List Statement). c.args.out.now.items ++ numbered (numbered_line c.args.script.now) c.args.number l)
    (take_all c.loop-place.place list (omega (arith, c.count-count.ensures)))
