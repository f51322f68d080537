-- An object that is written without spaces and escapes.
use Rattle.std.proofs.Common.{◌≡◌, ◌≢◌, ◌≤◌, ◌<◌, ◌+◌, ℕ, zero, suc, Bool, true, false, cond, List, [], ◌∷◌, ◌++◌, length, get_or, take, drop, codes, bytes_eq, Option, Some, None, refl, sym, ap, subst, ◌∙◌, arith, append_assoc, append-nil}
use Rattle.std.specs.Prelude.{IfOk, IfSome, Result, Ok, Err}
use Rattle.std.specs.Option.{option_copied}
use Rattle.std.specs.Str.{IsUtf8, IsCharBoundary}
use Rattle.std.proofs.lemmas.Str.{IsCharBoundary-after_ascii}
use Rattle.std.proofs.lemmas.List.{get_or-take, take-append-drop}
use Rattle.std.proofs.lemmas.Slice.Eq.{bytes_eq-Decides}
use Rattle.json.specs.Token.{Token, begin_object, end_object, key, string}
use Rattle.json.specs.Lex.{tokens}
use Rattle.json.specs.Print.{escape, quoted, token_text, separator, print_from, print, ends_value, IsPrintable, ArePrintable}
use Rattle.json.proofs.Printed.Strings.{escape_byte_plain}
use Rattle.json.proofs.Printed.Tokens.{tokens-print, print_from_push, ends_push, ArePrintable-push}
use Rattle.dl_io.specs.declared.fault.Memory.{Memory}
use Rattle.defmt_intern.specs.declared.entry.Entry.{Entry}
use Rattle.defmt_intern.specs.Name.{Names}
use Rattle.elf_table.specs.declared.members.Texts.{Texts}
use Rattle.elf_table.specs.Members.{later, IsObjectOf}
use Rattle.elf_table.proofs.MembersLaws.{Progress, begun, one_more, closed, is_object}

-- ---- strings

pub one_boundary : (text : List ℕ) (first : ℕ) → IsUtf8 text → 0 < length text → first ≡ get_or text 0 0 → first < 128 → IsCharBoundary text 1
one_boundary text first u some e small = IsCharBoundary-after_ascii text 0 u some (omega arith)

pub first_is : (c : ℕ) (text rest : List ℕ) → 0 < length text → get_or text 0 0 ≡ c → rest ≡ drop 1 text → text ≡ c ∷ rest
first_is c [] rest some e d = absurd (omega arith)
first_is c (x ∷ xs) rest some e d = ap (λ (y : ℕ). y ∷ xs) e ∙ ap (λ (t : List ℕ). c ∷ t) (sym d)

-- a text with no quote, no backslash and no control character has no escape
pub escape_self : (s : List ℕ) → ((k : ℕ) → k < length s → get_or s k 0 ≢ 34) → ((k : ℕ) → k < length s → get_or s k 0 ≢ 92) → ((k : ℕ) → k < length s → 32 ≤ get_or s k 0) → escape s ≡ s
escape_self [] quote backslash control = refl
escape_self (x ∷ s) quote backslash control =
    ap (λ (t : List ℕ). t ++ escape s) (escape_byte_plain x (quote 0 (omega arith)) (backslash 0 (omega arith)) (control 0 (omega arith)))
    ∙ ap (λ (t : List ℕ). x ∷ t) (escape_self s (λ k l. quote (suc k) (omega (arith, l))) (λ k l. backslash (suc k) (omega (arith, l))) (λ k l. control (suc k) (omega (arith, l))))

-- what a search passed over
pub misses : (c : ℕ) (hay inside front : List ℕ) (end : ℕ) (test : ℕ → Bool) → test c ≡ true → hay ≡ inside → front ≡ take end inside → length front ≡ end → ((k : ℕ) → 0 ≤ k → k < end → test (get_or hay k 0) ≡ true → ⊥) → (k : ℕ) → k < length front → get_or front k 0 ≢ c
misses c hay inside front end test passes same part size before k l e =
    let low : k < end = omega (arith, size, l) in
    let at : get_or front k 0 ≡ get_or hay k 0 = ap (λ (t : List ℕ). get_or t k 0) part ∙ get_or-take end inside k 0 low ∙ ap (λ (t : List ℕ). get_or t k 0) (sym same) in
    before k (omega arith) low (ap test (sym at ∙ e) ∙ passes)

-- the parts of a string in quotes
pub quoted_parts : (text inside front more rest : List ℕ) (end : ℕ) → text ≡ 34 ∷ inside → front ≡ take end inside → more ≡ drop end inside → more ≡ 34 ∷ rest → escape front ≡ front → text ≡ quoted front ++ rest
quoted_parts text inside front more rest end e f g h p =
    let split : inside ≡ front ++ 34 ∷ rest = sym (take-append-drop end inside) ∙ ap (λ (t : List ℕ). t ++ drop end inside) (sym f) ∙ ap (λ (t : List ℕ). front ++ t) (sym g ∙ h) in
    e ∙ ap (λ (t : List ℕ). 34 ∷ t) (split ∙ ap (λ (t : List ℕ). t ++ 34 ∷ rest) (sym p) ∙ sym (append_assoc (escape front) (34 ∷ []) rest))

pub member_parts : (text more after value rest : List ℕ) (name : List ℕ) → text ≡ quoted name ++ more → more ≡ 58 ∷ after → after ≡ quoted value ++ rest → text ≡ quoted name ++ 58 ∷ (quoted value ++ rest)
member_parts text more after value rest name e f g = e ∙ ap (λ (t : List ℕ). quoted name ++ t) (f ∙ ap (λ (t : List ℕ). 58 ∷ t) g)

-- ---- the tokens so far

-- the text is these tokens, and the rest
pub record Front (name : List ℕ) (ts : List Token) (rest : List ℕ) : Type 0 where
  pub printable : ArePrintable ts
  pub whole : name ≡ print ts ++ rest

opened : (name rest : List ℕ) → name ≡ 123 ∷ rest → Front name (begin_object ∷ []) rest
unfolding ArePrintable print_from
opened name rest e = record { printable = (tt, tt); whole = e }

next_token : (name : List ℕ) (ts : List Token) (t : Token) (rest after : List ℕ) → Front name ts rest → IsPrintable t → rest ≡ separator (ends_value ts) t ++ (token_text t ++ after) → Front name (ts ++ t ∷ []) after
next_token name ts t rest after f p e = record {
  printable = ArePrintable-push ts t f.printable p;
  whole = f.whole ∙ ap (λ (r : List ℕ). print ts ++ r) (e ∙ sym (append_assoc (separator (ends_value ts) t) (token_text t) after))
      ∙ sym (append_assoc (print ts) (separator (ends_value ts) t ++ token_text t) after)
      ∙ ap (λ (l : List ℕ). l ++ after) (sym (print_from_push false ts t));
}

-- what was read behind the opening brace: these texts, whatever the tokens to come
pub record Quick (name : List ℕ) (owner tag text disambiguator : Option (List ℕ)) (comma : Bool) (rest : List ℕ) : Type 0 where
  pub read : List Token
  pub front : Front name (begin_object ∷ read) rest
  pub last : ends_value (begin_object ∷ read) ≡ comma
  pub texts : (more : List Token) → Progress (read ++ more) owner tag text disambiguator more

pub begins : (name rest : List ℕ) → name ≡ 123 ∷ rest → Quick name None None None None false rest
begins name rest e = record { read = []; front = opened name rest e; last = refl; texts = λ more. begun more }

-- a comma, where a member stands in front
abbrev pub behind_comma : Bool → List ℕ → List ℕ
behind_comma comma rest = cond comma (44 ∷ []) [] ++ rest

before_key : (comma : Bool) (last : Bool) (k rest : List ℕ) → last ≡ comma → behind_comma comma rest ≡ separator last (key k) ++ rest
before_key true last k rest e = ap (λ (b : Bool). separator b (key k) ++ rest) (sym e)
before_key false last k rest e = ap (λ (b : Bool). separator b (key k) ++ rest) (sym e)

key_front : (k more : List ℕ) → quoted k ++ 58 ∷ more ≡ token_text (key k) ++ more
key_front k more = sym (append_assoc (quoted k) (58 ∷ []) more)

-- one member more
pub added : (name : List ℕ) (p t x d owner tag text disambiguator : Option (List ℕ)) (comma : Bool) (rest k v after : List ℕ) → Quick name p t x d comma (behind_comma comma rest)
    → rest ≡ quoted k ++ 58 ∷ (quoted v ++ after)
    → owner ≡ later (codes "package") k v p → tag ≡ later (codes "tag") k v t → text ≡ later (codes "data") k v x → disambiguator ≡ later (codes "disambiguator") k v d
    → Quick name owner tag text disambiguator true after
added name p t x d owner tag text disambiguator comma rest k v after q e ep et ex ed =
    let bs : List Token = begin_object ∷ q.read in
    let named : Front name (bs ++ key k ∷ []) (quoted v ++ after) =
    next_token name bs (key k) (behind_comma comma rest) (quoted v ++ after) q.front tt
    (before_key comma (ends_value bs) k rest q.last ∙ ap (λ (r : List ℕ). separator (ends_value bs) (key k) ++ r) (e ∙ key_front k (quoted v ++ after))) in
    let colon : ends_value (bs ++ key k ∷ []) ≡ false = ends_push false bs (key k) in
    let valued : Front name ((bs ++ key k ∷ []) ++ string v ∷ []) after =
    next_token name (bs ++ key k ∷ []) (string v) (quoted v ++ after) after named tt
    (ap (λ (b : Bool). separator b (string v) ++ (quoted v ++ after)) (sym colon)) in
    record {
      read = (q.read ++ key k ∷ []) ++ string v ∷ [];
      front = valued;
      last = ends_push false (bs ++ key k ∷ []) (string v);
      texts = λ more.
          let same : ((q.read ++ key k ∷ []) ++ string v ∷ []) ++ more ≡ q.read ++ key k ∷ string v ∷ more =
          append_assoc (q.read ++ key k ∷ []) (string v ∷ []) more ∙ append_assoc q.read (key k ∷ []) (string v ∷ more) in
          subst (λ (start : List Token). Progress start owner tag text disambiguator more) (sym same)
          (one_more (q.read ++ key k ∷ string v ∷ more) (key k ∷ string v ∷ more) (string v ∷ more) more k v p t x d owner tag text disambiguator (q.texts (key k ∷ string v ∷ more)) refl refl ep et ex ed);
    }

pub goes_on : (name : List ℕ) (owner tag text disambiguator : Option (List ℕ)) (after rest : List ℕ) → Quick name owner tag text disambiguator true after → after ≡ 44 ∷ rest → Quick name owner tag text disambiguator true (behind_comma true rest)
goes_on name owner tag text disambiguator after rest q e = subst (Quick name owner tag text disambiguator true) e q

-- the closing brace
pub ends : (name : List ℕ) (texts : Texts) (after : List ℕ) → Quick name (option_copied texts.«package») (option_copied texts.tag) (option_copied texts.text) (option_copied texts.disambiguator) true after
    → bytes_eq after (codes "}") ≡ true → IsObjectOf (tokens name) texts
ends name texts after q e =
    let bs : List Token = begin_object ∷ q.read in
    let brace : after ≡ 125 ∷ [] = (bytes_eq-Decides after (codes "}")).0 e in
    let whole : Front name (bs ++ end_object ∷ []) [] =
    next_token name bs end_object after [] q.front tt (brace ∙ ap (λ (b : Bool). separator b end_object ++ (token_text end_object ++ [])) (sym q.last)) in
    let all : tokens name ≡ begin_object ∷ (q.read ++ end_object ∷ []) =
    ap tokens (whole.whole ∙ append-nil (print (bs ++ end_object ∷ []))) ∙ tokens-print (bs ++ end_object ∷ []) whole.printable in
    is_object (tokens name) (q.read ++ end_object ∷ []) [] texts all refl
    (closed (q.read ++ end_object ∷ []) (end_object ∷ []) [] (option_copied texts.«package») (option_copied texts.tag) (option_copied texts.text) (option_copied texts.disambiguator) (q.texts (end_object ∷ [])) refl)

-- the entry of the texts, where they are those of the name
pub names_by_texts : (r : Result (Option Entry) Memory) (texts : Texts) (name : List ℕ) → IfOk r (λ o. IfSome o (λ entry. (n : List ℕ) → IsUtf8 n → IsObjectOf (tokens n) texts → Names n entry))
    → IsUtf8 name → IsObjectOf (tokens name) texts → IfOk r (λ o. IfSome o (Names name))
names_by_texts (Ok (Some entry)) texts name h utf8 object = h name utf8 object
names_by_texts (Ok None) texts name h utf8 object = tt
names_by_texts (Err fault) texts name h utf8 object = tt
