-- What a name reads as.
use Rattle.std.proofs.Common.{◌≡◌, ℕ, Bool, true, false, cond, List, [], ◌∷◌, Option, Some, None, Result, Ok, Err, option_and_then, ◌≤◌, refl, sym, ap, subst, ◌∙◌, codes, bytes_eq, arith}
use Rattle.std.specs.Str.{IsUtf8}
use Rattle.std.proofs.lemmas.Slice.Eq.{bytes_eq-Decides}
use Rattle.serde_json.specs.Data.{Data, depth, string, object, Members, member, no_members}
use Rattle.serde_json.specs.Read.{read, max_depth}
use Rattle.serde_json.specs.Find.{get, as_str}
use Rattle.defmt_intern.specs.declared.entry.Tag.{Tag}
use Rattle.defmt_intern.specs.declared.entry.Entry.{Entry}
use Rattle.defmt_intern.specs.declared.name.NameFault.{NameFault}
use Rattle.defmt_intern.specs.declared.name.NameFault.TheVariants as faults
use Rattle.defmt_intern.specs.declared.name.NameKey.{NameKey}
use Rattle.defmt_intern.specs.declared.name.NameKey.TheVariants as keys
use Rattle.defmt_intern.specs.Name.{tag_name, known, tag_among, tag_of, IsSpelled, IsObject, text_at, Names, HasText, LacksFirst, LacksKey, IsNoObject, ReadsName, GivesOnly, GivesJson, GivesKey, object_with}

-- what is found in the value is found in its members
pub found : (key : List ℕ) (d : Data) (ms : Members) (o : Option (List ℕ)) → d ≡ object ms → o ≡ option_and_then as_str (get key d) → text_at key ms ≡ o
found key d ms o e h = sym (h ∙ ap (λ (x : Data). option_and_then as_str (get key x)) e)

abbrev At : List ℕ → Data → Option (List ℕ) → Type 0
At key d o = o ≡ option_and_then as_str (get key d)

pub lacks_tag : (bytes : List ℕ) (d : Data) (ms : Members) (p : List ℕ) → IsObject bytes ms → d ≡ object ms → At (codes "package") d (Some p) → At (codes "tag") d None → LacksKey bytes keys.Tag
lacks_tag bytes d ms p o e hp ht = (ms, o, ((p, found (codes "package") d ms (Some p) e hp), found (codes "tag") d ms None e ht))

pub lacks_data : (bytes : List ℕ) (d : Data) (ms : Members) (p t : List ℕ) → IsObject bytes ms → d ≡ object ms → At (codes "package") d (Some p) → At (codes "tag") d (Some t) → At (codes "data") d None → LacksKey bytes keys.Data
lacks_data bytes d ms p t o e hp ht hd = (ms, o, ((p, found (codes "package") d ms (Some p) e hp), (t, found (codes "tag") d ms (Some t) e ht), found (codes "data") d ms None e hd))

pub lacks_disambiguator : (bytes : List ℕ) (d : Data) (ms : Members) (p t x : List ℕ) → IsObject bytes ms → d ≡ object ms → At (codes "package") d (Some p) → At (codes "tag") d (Some t) → At (codes "data") d (Some x) → At (codes "disambiguator") d None → LacksKey bytes keys.Disambiguator
lacks_disambiguator bytes d ms p t x o e hp ht hd hn = (ms, o, ((p, found (codes "package") d ms (Some p) e hp), (t, found (codes "tag") d ms (Some t) e ht), (x, found (codes "data") d ms (Some x) e hd), found (codes "disambiguator") d ms None e hn))

named_if : (name : List ℕ) (b : Bool) (tag other : Tag) → bytes_eq name (tag_name tag) ≡ b → tag_name other ≡ name → tag_name (cond {A = Tag} b tag other) ≡ name
named_if name true tag other e h = sym ((bytes_eq-Decides name (tag_name tag)).0 e)
named_if name false tag other e h = h

named_among : (name : List ℕ) (tags : List Tag) → tag_name (tag_among name tags) ≡ name
named_among name [] = refl
named_among name (tag ∷ more) = named_if name (bytes_eq name (tag_name tag)) tag (tag_among name more) refl (named_among name more)

-- the tag of a name has this name
pub tag_named : (name : List ℕ) → tag_name (tag_of name) ≡ name
unfolding tag_of
tag_named name = named_among name known

pub tag_spelled : (name : List ℕ) → IsSpelled (tag_of name)
tag_spelled name = ap tag_of (tag_named name)

pub names_entry : (bytes : List ℕ) (d : Data) (ms : Members) (p t x y : List ℕ) (entry : Entry) → IsObject bytes ms → d ≡ object ms
    → At (codes "package") d (Some p) → At (codes "tag") d (Some t) → At (codes "data") d (Some x) → At (codes "disambiguator") d (Some y)
    → entry.tag ≡ tag_of t → entry.package ≡ p → entry.text ≡ x → entry.disambiguator ≡ y → Names bytes entry
names_entry bytes d ms p t x y entry o e hp ht hx hy et ep ex ey = record {
  members = ms;
  is_object = o;
  package_is = found (codes "package") d ms (Some p) e hp ∙ ap Some (sym ep);
  tag_is = found (codes "tag") d ms (Some t) e ht ∙ ap Some (sym (ap tag_name et ∙ tag_named t));
  text_is = found (codes "data") d ms (Some x) e hx ∙ ap Some (sym ex);
  disambiguator_is = found (codes "disambiguator") d ms (Some y) e hy ∙ ap Some (sym ey);
  spelled = ap (λ (g : Tag). tag_of (tag_name g)) et ∙ tag_spelled t ∙ sym et;
}

-- what was written is read back
pub names_written : (bytes : List ℕ) (d : Data) (p t x y : List ℕ) (entry : Entry) → IsUtf8 bytes → d ≡ object_with p t x y → p ≡ entry.package → t ≡ tag_name entry.tag → x ≡ entry.text → y ≡ entry.disambiguator → (depth d ≤ max_depth → read bytes ≡ Some d) → IsSpelled entry.tag → Names bytes entry
names_written bytes d p t x y entry utf8 e ep et ex ey reads spelled =
    let written : Data = object_with entry.package (tag_name entry.tag) entry.text entry.disambiguator in
    let same : d ≡ written = cc in
    let shallow : depth written ≤ max_depth = omega arith in
    let back : read bytes ≡ Some written = subst (λ (v : Data). depth v ≤ max_depth → read bytes ≡ Some v) same reads shallow in
    record {
      members = member (codes "data") (string entry.text) (member (codes "disambiguator") (string entry.disambiguator) (member (codes "package") (string entry.package) (member (codes "tag") (string (tag_name entry.tag)) no_members)));
      is_object = (utf8, back);
      package_is = refl;
      tag_is = refl;
      text_is = refl;
      disambiguator_is = refl;
      spelled = spelled;
    }

-- a name says one entry
pub one_name : (bytes : List ℕ) (a b : Entry) → Names bytes a → Names bytes b → a ≡ b
one_name bytes a b x y =
    let whole : Some (object x.members) ≡ Some (object y.members) = sym x.is_object.1 ∙ y.is_object.1 in
    let same : x.members ≡ y.members = cc in
    let owner : Some a.«package» ≡ Some b.«package» = sym x.package_is ∙ ap (text_at (codes "package")) same ∙ y.package_is in
    let text : Some a.text ≡ Some b.text = sym x.text_is ∙ ap (text_at (codes "data")) same ∙ y.text_is in
    let last : Some a.disambiguator ≡ Some b.disambiguator = sym x.disambiguator_is ∙ ap (text_at (codes "disambiguator")) same ∙ y.disambiguator_is in
    let name : Some (tag_name a.tag) ≡ Some (tag_name b.tag) = sym x.tag_is ∙ ap (text_at (codes "tag")) same ∙ y.tag_is in
    let owner' : a.«package» ≡ b.«package» = cc in
    let text' : a.text ≡ b.text = cc in
    let last' : a.disambiguator ≡ b.disambiguator = cc in
    let name' : tag_name a.tag ≡ tag_name b.tag = cc in
    let tag : a.tag ≡ b.tag = sym x.spelled ∙ ap tag_of name' ∙ y.spelled in
    λ i. record { tag = tag i; «package» = owner' i; text = text' i; disambiguator = last' i }

-- ---- one answer

-- bytes are one object
one_object : (bytes : List ℕ) (a b : Members) → IsObject bytes a → IsObject bytes b → a ≡ b
one_object bytes a b x y =
    let whole : Some (object a) ≡ Some (object b) = sym x.1 ∙ y.1 in
    cc

has_none : (key : List ℕ) (ms : Members) → HasText key ms → text_at key ms ≡ None → ⊥
has_none key ms h n = let both : Some h.0 ≡ None = sym h.1 ∙ n in cc

-- an object in which none is missing lacks no key
lacks_none : (ms : Members) (key : NameKey) → HasText (codes "package") ms → HasText (codes "tag") ms → HasText (codes "data") ms → HasText (codes "disambiguator") ms → LacksFirst ms key → ⊥
lacks_none ms keys.Package p t d n l = has_none (codes "package") ms p l
lacks_none ms keys.Tag p t d n l = has_none (codes "tag") ms t l.1
lacks_none ms keys.Data p t d n l = has_none (codes "data") ms d l.2
lacks_none ms keys.Disambiguator p t d n l = has_none (codes "disambiguator") ms n l.3

names_lacks : (bytes : List ℕ) (entry : Entry) (key : NameKey) → Names bytes entry → LacksKey bytes key → ⊥
names_lacks bytes entry key x l =
    lacks_none x.members key (entry.«package», x.package_is) (tag_name entry.tag, x.tag_is) (entry.text, x.text_is) (entry.disambiguator, x.disambiguator_is)
    (subst (λ (ms : Members). LacksFirst ms key) (one_object bytes l.0 x.members l.1 x.is_object) l.2)

-- the first key that is missing is one
one_first : (ms : Members) (k key : NameKey) → LacksFirst ms k → LacksFirst ms key → k ≡ key
one_first ms keys.Package keys.Package x y = refl
one_first ms keys.Package keys.Tag x y = absurd (has_none (codes "package") ms y.0 x)
one_first ms keys.Package keys.Data x y = absurd (has_none (codes "package") ms y.0 x)
one_first ms keys.Package keys.Disambiguator x y = absurd (has_none (codes "package") ms y.0 x)
one_first ms keys.Tag keys.Package x y = absurd (has_none (codes "package") ms x.0 y)
one_first ms keys.Tag keys.Tag x y = refl
one_first ms keys.Tag keys.Data x y = absurd (has_none (codes "tag") ms y.1 x.1)
one_first ms keys.Tag keys.Disambiguator x y = absurd (has_none (codes "tag") ms y.1 x.1)
one_first ms keys.Data keys.Package x y = absurd (has_none (codes "package") ms x.0 y)
one_first ms keys.Data keys.Tag x y = absurd (has_none (codes "tag") ms x.1 y.1)
one_first ms keys.Data keys.Data x y = refl
one_first ms keys.Data keys.Disambiguator x y = absurd (has_none (codes "data") ms y.2 x.2)
one_first ms keys.Disambiguator keys.Package x y = absurd (has_none (codes "package") ms x.0 y)
one_first ms keys.Disambiguator keys.Tag x y = absurd (has_none (codes "tag") ms x.1 y.1)
one_first ms keys.Disambiguator keys.Data x y = absurd (has_none (codes "data") ms x.2 y.2)
one_first ms keys.Disambiguator keys.Disambiguator x y = refl

pub gives_only : (bytes : List ℕ) (r : Result Entry NameFault) (entry : Entry) → ReadsName bytes r → Names bytes entry → GivesOnly r entry
gives_only bytes (Ok one) entry a x = one_name bytes one entry a x
gives_only bytes (Err faults.Json) entry a x = a x.members x.is_object
gives_only bytes (Err (faults.Key key)) entry a x = names_lacks bytes entry key x a
gives_only bytes (Err faults.Memory) entry a x = tt

pub gives_json : (bytes : List ℕ) (r : Result Entry NameFault) → ReadsName bytes r → IsNoObject bytes → GivesJson r
gives_json bytes (Ok one) a none = none a.members a.is_object
gives_json bytes (Err faults.Json) a none = tt
gives_json bytes (Err (faults.Key key)) a none = none a.0 a.1
gives_json bytes (Err faults.Memory) a none = tt

pub gives_key : (bytes : List ℕ) (r : Result Entry NameFault) (key : NameKey) → ReadsName bytes r → LacksKey bytes key → GivesKey r key
gives_key bytes (Ok one) key a l = names_lacks bytes one key a l
gives_key bytes (Err faults.Json) key a l = a l.0 l.1
gives_key bytes (Err (faults.Key k)) key a l = one_first l.0 k key (subst (λ (ms : Members). LacksFirst ms k) (one_object bytes a.0 l.0 a.1 l.1) a.2) l.2
gives_key bytes (Err faults.Memory) key a l = tt
