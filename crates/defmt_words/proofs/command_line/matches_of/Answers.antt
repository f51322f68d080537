use Rattle.std.proofs.Common.{◌∙◌, map, string_bytes}
use Rattle.defmt_words.proofs.WordLemmas.{found_some, found_none}
use Rattle.defmt_words.proofs.command_line.matches_of.Goals as goal

pub returns-in-Ok-try_get_matches_from : goal.returns-in-Ok-try_get_matches_from
returns-in-Ok-try_get_matches_from c =
    let words = map (λ s. string_bytes s) c.args.words.now in
    found_some _ words c.in-Ok-try_get_matches_from.matches c.in-Ok.ensures c.in-Ok-try_get_matches_from.ensures.kinds c.in-Ok-try_get_matches_from.ensures.matches

pub returns : goal.returns
returns c =
    let words = map (λ s. string_bytes s) c.args.words.now in
    found_none _ words c.in-Err.error c.in-Ok.ensures (λ e. c.in_default-kind.not-OutOfMemory (c.kind.ensures ∙ e)) c.in-Err.ensures.kinds
