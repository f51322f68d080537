-- The members of an object that are strings, read a token at a time.
use Rattle.std.proofs.Common.{◌≡◌, ℕ, ◌-◌, Bool, true, false, cond, List, [], ◌∷◌, length, codes, bytes_eq, Option, Some, None, option_map, option_and_then, refl, sym, ap, subst, ◌∙◌, arith}
use Rattle.std.specs.Option.{option_copied}
use Rattle.std.specs.Str.{IsUtf8}
use Rattle.std.proofs.lemmas.Slice.Eq.{bytes_eq-Decides}
use Rattle.json.specs.Token.{Token}
use Rattle.json.specs.Lex.{tokens}
use Rattle.json.specs.Json as json
use Rattle.json.proofs.Grammar.{value-begin_object, value_is, read_key-shorter, members_more, members_end}
use Rattle.serde_json.specs.Data.{string, object, Members, no_members, put}
use Rattle.serde_json.specs.Read.{of_json, of_members, max_depth}
use Rattle.serde_json.specs.Find.{as_str}
use Rattle.serde_json.proofs.Views.{get_member-put, get_member-put_other}
use Rattle.defmt_intern.specs.declared.entry.Entry.{Entry}
use Rattle.defmt_intern.specs.Name.{text_at, tag_of, Names}
use Rattle.defmt_intern.proofs.NameLaws.{names_entry}
use Rattle.elf_table.specs.declared.members.Texts.{Texts}
use Rattle.elf_table.specs.Members.{later, AreTexts, Reads, HasTexts, IsObjectOf}

-- ---- one more member

later_by : (name key text : List ℕ) (ms : Members) (b : Bool) → bytes_eq key name ≡ b
    → cond {A = Option (List ℕ)} b (Some text) (text_at name ms) ≡ text_at name (put key (string text) ms)
later_by name key text ms true e =
    subst (λ (n : List ℕ). Some text ≡ text_at n (put key (string text) ms)) ((bytes_eq-Decides key name).0 e)
    (sym (ap (option_and_then as_str) (get_member-put key (string text) ms)))
later_by name key text ms false e =
    let differs : name ≡ key → ⊥ = λ same. (let both : true ≡ false = sym ((bytes_eq-Decides key name).1 (sym same)) ∙ e in let never : ⊥ = cc in never) in
    sym (ap (option_and_then as_str) (get_member-put_other name key (string text) ms differs))

-- what stood at the name before, and then
pub later_is : (name key text : List ℕ) (ms : Members) (before after : Option (List ℕ)) → after ≡ later name key text before → before ≡ text_at name ms
    → after ≡ text_at name (put key (string text) ms)
later_is name key text ms before after e there =
    e ∙ ap (later name key text) there ∙ later_by name key text ms (bytes_eq key name) refl

-- ---- the loop

-- the members that were read have these texts, and all of them are known where those to come are
pub record Progress (start : List Token) (owner tag text disambiguator : Option (List ℕ)) (now : List Token) : Type 0 where
  pub found : Members
  pub are : AreTexts owner tag text disambiguator found
  pub goes_on : (ms : Members) (rest : List Token) → Reads found now ms rest → Reads no_members start ms rest

pub begun : (start : List Token) → Progress start None None None None start
begun start = record {
  found = no_members;
  are = record { owner_is = refl; tag_is = refl; text_is = refl; disambiguator_is = refl };
  goes_on = λ ms rest h. h;
}

read_string : (text : List ℕ) (ts rest : List Token) → ts ≡ Token.string text ∷ rest → json.value 126 ts ≡ Some (json.string text, rest)
read_string text ts rest e = ap (json.value 126) e ∙ value_is 126 (Token.string text ∷ rest)

-- a member whose value is a string, in front of members that are read
in_front : (before ms : Members) (now inner rest last : List Token) (key text : List ℕ) → json.read_key now ≡ Some (Some key, inner) → inner ≡ Token.string text ∷ rest
    → Reads (put key (string text) before) rest ms last → Reads before now ms last
in_front before ms now inner rest last key text named e reads turns enough =
    let shorter = read_key-shorter now (Some key) inner named in
    let one : length inner ≡ length (Token.string text ∷ rest) = ap length e in
    let more = reads (turns - 1) (omega (arith, shorter, one, enough)) in (
      json.member key (json.string text) more.0,
      members_more (json.value 126) turns key now inner rest (json.string text) (omega (arith, shorter, enough)) named (read_string text inner rest e)
          ∙ ap (json.parse_map (json.member key (json.string text))) more.1,
      more.2,
    )

pub one_more : (start now inner rest : List Token) (key value : List ℕ) (p t x d owner tag text disambiguator : Option (List ℕ)) → Progress start p t x d now
    → json.read_key now ≡ Some (Some key, inner) → inner ≡ Token.string value ∷ rest
    → owner ≡ later (codes "package") key value p → tag ≡ later (codes "tag") key value t → text ≡ later (codes "data") key value x → disambiguator ≡ later (codes "disambiguator") key value d
    → Progress start owner tag text disambiguator rest
one_more start now inner rest key value p t x d owner tag text disambiguator old named e ep et ex ed = record {
  found = put key (string value) old.found;
  are = record {
    owner_is = later_is (codes "package") key value old.found p owner ep old.are.owner_is;
    tag_is = later_is (codes "tag") key value old.found t tag et old.are.tag_is;
    text_is = later_is (codes "data") key value old.found x text ex old.are.text_is;
    disambiguator_is = later_is (codes "disambiguator") key value old.found d disambiguator ed old.are.disambiguator_is;
  };
  goes_on = λ ms last h. old.goes_on ms last (in_front old.found ms now inner rest last key value named e h);
}

pub closed : (start now rest : List Token) (owner tag text disambiguator : Option (List ℕ)) → Progress start owner tag text disambiguator now → json.read_key now ≡ Some (None, rest)
    → (ms : Members) × AreTexts owner tag text disambiguator ms × Reads no_members start ms rest
closed start now rest owner tag text disambiguator old e =
    (old.found, old.are, old.goes_on old.found rest (λ turns enough. (json.no_members, members_end (json.value 126) turns now rest enough e, refl)))

-- ---- the object

opened : (start : List Token) (texts : Texts) → HasTexts start [] texts → IsObjectOf (Token.begin_object ∷ start) texts
opened start texts h =
    let whole = h.2 (length start) (omega arith) in (
      h.0,
      h.1,
      ap (λ o. option_and_then of_json (option_and_then (λ p. json.if_last p.0 p.1) o))
          (value-begin_object max_depth start (omega arith) ∙ ap (json.parse_map json.object) whole.1)
          ∙ ap (option_map object) whole.2,
    )

pub is_object : (ts start rest : List Token) (texts : Texts) → ts ≡ Token.begin_object ∷ start → rest ≡ [] → HasTexts start rest texts → IsObjectOf ts texts
is_object ts start rest texts e none h =
    subst (λ (l : List Token). IsObjectOf l texts) (sym e) (opened start texts (subst (λ (r : List Token). HasTexts start r texts) none h))

pub says : (name : List ℕ) (texts : Texts) (entry : Entry) (owner tag text disambiguator : List ℕ) → IsUtf8 name → IsObjectOf (tokens name) texts
    → option_copied texts.«package» ≡ Some owner → option_copied texts.tag ≡ Some tag → option_copied texts.text ≡ Some text → option_copied texts.disambiguator ≡ Some disambiguator
    → entry.tag ≡ tag_of tag → entry.«package» ≡ owner → entry.text ≡ text → entry.disambiguator ≡ disambiguator → Names name entry
says name texts entry owner tag text disambiguator utf8 o eo et ex ed =
    names_entry name (object o.0) o.0 owner tag text disambiguator entry (utf8, o.2) refl
    (sym eo ∙ o.1.owner_is) (sym et ∙ o.1.tag_is) (sym ex ∙ o.1.text_is) (sym ed ∙ o.1.disambiguator_is)
