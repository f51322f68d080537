use Rattle.std.proofs.Common.{◌≡◌, ◌<◌, ◌+◌, ◌++◌, ℕ, List, length, take, get_or, [], sym, ◌∙◌, ap, arith, length-append}
use Rattle.std.proofs.lemmas.List.{take_all}
use Rattle.defmt_values.specs.declared.value.Statement.{Statement}
use Rattle.defmt_print.specs.Printed.{all_statements, numbered, numbered_line}
use Rattle.defmt_print.proofs.Numbered.{all_more, front_count, numbered-append}
use Rattle.defmt_print.proofs.statements.statement_lines.Goals as goal

pub add_writer-requires : goal.add_writer-requires
add_writer-requires c =
    let within : c.loop-writer.writer < length c.args.script.now.writers = omega (arith, c.lawful.ensures.eight) in
    record {
      writer = within;
      few = omega (arith, front_count c.args.script.now.writers c.loop-writer.writer within, c.lawful.ensures.few, c.loop-writer.invariant.number);
    }

pub loop-writer-preserved : goal.loop-writer-preserved
loop-writer-preserved c =
    let within : c.loop-writer.writer < length c.args.script.now.writers = omega (arith, c.lawful.ensures.eight) in
    let front : List Statement = all_statements (take c.loop-writer.writer c.args.script.now.writers) in
    let list : List Statement = get_or c.args.script.now.writers c.loop-writer.writer [] in
    let more : all_statements (take (c.loop-writer.writer + 1) c.args.script.now.writers) ≡ front ++ list = all_more c.args.script.now.writers c.loop-writer.writer within in
    record {
      number = c.in_ok-after.ensures.count ∙ (let e : c.loop-writer.number + length list ≡ length (front ++ list) = omega (arith, length-append front list, c.loop-writer.invariant.number) in e) ∙ ap length (sym more);
      out = c.in_ok-after.ensures.bytes
          ∙ ap (λ (l : List ℕ). l ++ numbered (numbered_line c.args.script.now) c.loop-writer.number list) c.loop-writer.invariant.out
          ∙ ap (λ (n : ℕ). numbered (numbered_line c.args.script.now) 0 front ++ numbered (numbered_line c.args.script.now) n list)
          (let e : c.loop-writer.number ≡ 0 + length front = omega (arith, c.loop-writer.invariant.number) in e)
          ∙ sym (numbered-append (numbered_line c.args.script.now) 0 front list)
          ∙ ap (numbered (numbered_line c.args.script.now) 0) (sym more);
    }

pub returns : goal.returns
returns c =
    c.loop-writer.invariant.out
    ∙ ap (λ l. numbered (numbered_line c.args.script.now) 0 (all_statements l)) (take_all c.loop-writer.writer c.args.script.now.writers (omega (arith, c.lawful.ensures.eight)))
