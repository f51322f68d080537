use Rattle.std.proofs.Common.{refl, arith}
use Rattle.memchr.specs.Find.{is_byte2}
use Rattle.elf_table.proofs.QuickLaws.{escape_self, misses, quoted_parts}
use Rattle.elf_table.proofs.quick.plain_string.Goals as goal

pub returns-clause-spelled : goal.returns-clause-spelled
returns-clause-spelled c =
    let inside = c.in_ok-inside.inside.now in
    let text = c.split_at.result.0.now in
    let quote = misses 34 c.as_bytes.result.now inside text c.in_ok-end.end (is_byte2 34 92) refl c.as_bytes.ensures.value c.split_at.ensures.front c.split_at.ensures.front_len c.in_ok-end.ensures.0.before in
    let backslash = misses 92 c.as_bytes.result.now inside text c.in_ok-end.end (is_byte2 34 92) refl c.as_bytes.ensures.value c.split_at.ensures.front c.split_at.ensures.front_len c.in_ok-end.ensures.0.before in
    quoted_parts c.args.text.now inside text c.split_at.result.1.now c.in_ok-rest.rest.now c.in_ok-end.end c.in_ok-inside.ensures.rest c.split_at.ensures.front c.split_at.ensures.back c.in_ok-rest.ensures.rest
    (escape_self text quote backslash (λ k l. let least = c.least_byte.ensures k l in let plain = c.if-least_byte-lt32.false in omega (arith, least, plain)))
