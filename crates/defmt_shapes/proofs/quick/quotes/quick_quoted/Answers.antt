use Rattle.std.proofs.Common.{rules, refl, sym, ◌∙◌}
use Rattle.defmt_grammar.proofs.Cuts.{behind_found}
use Rattle.defmt_shapes.proofs.ValueLaws.{ends_found}
use Rattle.std.specs.Str.{IsUtf8}
use Rattle.memchr.specs.Find.{is_byte2}
use Rattle.defmt_shapes.proofs.QuickHeads.{two_parts, quoted_there}
use Rattle.defmt_shapes.proofs.QuickQuotes.{misses_front, spells_itself}
use Rattle.defmt_shapes.proofs.quick.quotes.quick_quoted.Goals as goal

pub returns-then-ends_there-clause-value : goal.returns-then-ends_there-clause-value
returns-then-ends_there-clause-value c = λ language.
    let utf8 : IsUtf8 c.split_at.result.0.now = search rules in
    quoted_there language c.args.text.now c.in_ok-quoted.quoted.now c.split_at.result.0.now c.split_at.result.1.now c.in_ok-rest.rest.now (behind_found 34 c.args.text.now c.in_ok-quoted.quoted.now (sym c.in_ok-quoted.ensures.rest))
    (two_parts c.in_ok-quoted.quoted.now c.split_at.result.0.now c.split_at.result.1.now c.in_ok-end.end c.split_at.ensures.front c.split_at.ensures.back)
    (behind_found 34 c.split_at.result.1.now c.in_ok-rest.rest.now (sym c.in_ok-rest.ensures.rest)) (ends_found c.in_ok-rest.rest.now (sym c.ends_there.ensures ∙ c.if-ends_there.true))
    (spells_itself c.split_at.result.0.now utf8
    (misses_front 34 c.as_bytes.result.now c.in_ok-quoted.quoted.now c.split_at.result.0.now c.in_ok-end.end (is_byte2 34 92) refl c.as_bytes.ensures.value c.split_at.ensures.front c.split_at.ensures.front_len c.in_ok-end.ensures.0.before)
    (misses_front 92 c.as_bytes.result.now c.in_ok-quoted.quoted.now c.split_at.result.0.now c.in_ok-end.end (is_byte2 34 92) refl c.as_bytes.ensures.value c.split_at.ensures.front c.split_at.ensures.front_len c.in_ok-end.ensures.0.before))
