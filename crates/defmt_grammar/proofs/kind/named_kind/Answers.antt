use Rattle.std.proofs.Common.{◌≡◌, ℕ, List, None, sym, ◌∙◌, take, drop}
use Rattle.defmt_grammar.specs.declared.language.Language.{Language}
use Rattle.defmt_grammar.specs.Kind.{base_kind_names, full_kind_names, kind_names, at_word, named_kind}
use Rattle.defmt_grammar.proofs.Words.{at_front, at_back}
use Rattle.defmt_grammar.proofs.kind.named_kind.Goals as goal

-- no name of an unsigned integer
past_unsigned : (language : Language) (text : List ℕ) → at_word text (take 6 base_kind_names) ≡ None → named_kind language text ≡ at_word text (drop 6 (kind_names language))
past_unsigned language text none = at_back text (take 6 base_kind_names) (drop 6 (kind_names language)) none

-- no name of an integer
past_signed : (language : Language) (text : List ℕ) → at_word text (take 6 base_kind_names) ≡ None → at_word text (take 6 (drop 6 base_kind_names)) ≡ None → named_kind language text ≡ at_word text (drop 12 (kind_names language))
past_signed language text a b = past_unsigned language text a ∙ at_back text (take 6 (drop 6 base_kind_names)) (drop 12 (kind_names language)) b

pub returns-in-Some : goal.returns-in-Some
returns-in-Some c = sym (at_front c.args.text.now (take 6 base_kind_names) (drop 6 (kind_names c.args.language)) c.in-Some.kind (sym c.unsigned_kind.ensures ∙ c.in-Some.is))

pub returns-in-Some-signed_kind : goal.returns-in-Some-signed_kind
returns-in-Some-signed_kind c =
    sym (past_unsigned c.args.language c.args.text.now (sym c.unsigned_kind.ensures ∙ c.in_default.is)
    ∙ at_front c.args.text.now (take 6 (drop 6 base_kind_names)) (drop 12 (kind_names c.args.language)) c.in-Some-signed_kind.kind (sym c.signed_kind.ensures ∙ c.in-Some-signed_kind.is))

pub returns-in-Some-other_kind : goal.returns-in-Some-other_kind
returns-in-Some-other_kind c =
    sym (past_signed c.args.language c.args.text.now (sym c.unsigned_kind.ensures ∙ c.in_default.is) (sym c.signed_kind.ensures ∙ c.in_default-signed_kind.is)
    ∙ at_front c.args.text.now (drop 12 base_kind_names) (full_kind_names c.args.language) c.in-Some-other_kind.kind (sym c.other_kind.ensures ∙ c.in-Some-other_kind.is))

pub returns-in_default-other_kind : goal.returns-in_default-other_kind
returns-in_default-other_kind c =
    c.full_kind.ensures
    ∙ sym (past_signed c.args.language c.args.text.now (sym c.unsigned_kind.ensures ∙ c.in_default.is) (sym c.signed_kind.ensures ∙ c.in_default-signed_kind.is)
    ∙ at_back c.args.text.now (drop 12 base_kind_names) (full_kind_names c.args.language) (sym c.other_kind.ensures ∙ c.in_default-other_kind.is))
