-- The reading of rules and their spelling say the same.
use Rattle.std.proofs.Common.{◌≡◌, ◌≢◌, ◌<◌, ◌++◌, ℕ, Bool, true, false, cond, eqb, ltb, ◌&&◌, not, List, [], ◌∷◌, length, map, Option, Some, None, option_map, option_and_then, refl, sym, ap, subst, ◌∙◌, arith, append_assoc, length-append, codes}
use Rattle.std.specs.List.{AllByRecursion, list_any, onto_first, join_with_byte}
use Rattle.std.specs.Str.{bytes_eq}
use Rattle.std.proofs.lemmas.Bool.{and_parts, lt-ltb, ltb-true, ne_eqb, or_parts}
use Rattle.std.proofs.lemmas.Bool.Decides.{nat_tests}
use Rattle.std.proofs.lemmas.List.{append-nil}
use Rattle.std.proofs.lemmas.List.Elements.{All-from_recursion}
use Rattle.std.proofs.lemmas.List.Splits.{slice_split_at, slice_split_none, join_with_byte-slice_split}
use Rattle.std.proofs.lemmas.Option.{same_Some}
use Rattle.std.proofs.lemmas.Slice.Eq.{bytes_eq-Decides}
use Rattle.defmt_grammar.specs.Cut.{cut, Lacks}
use Rattle.defmt_grammar.proofs.Cuts.{cut_found, cut_again, Lacks-append}
use Rattle.defmt_hooks.specs.Levels.{level_named}
use Rattle.defmt_hooks.specs.declared.level.Level.{Level}
use Rattle.defmt_hooks.specs.declared.level.Level.TheVariants.{Trace, Debug, Info, Warn, Error}
use Rattle.defmt_hooks.specs.declared.level.Floor.{Floor}
use Rattle.defmt_hooks.specs.declared.level.Floor.TheVariants.{At, Off}
use Rattle.defmt_hooks.specs.declared.rules.Rules.{Rules}
use Rattle.defmt_hooks.specs.Spelling.{word_of, IsName, pair_text, pairs_text, NoneTwice, AreListed, Spells}
use Rattle.defmt_hooks.specs.Reading.{floor_in, floor_or, pair_by, pair_in, behind, added, all_added, parts, rules_by, rules_of, rules_in}

abbrev Text : Type 0
Text = List ℕ

abbrev Pair : Type 0
Pair = List ℕ × Floor

-- ---- the word of a floor

pick : (b : Bool) (word : Text) (l m : Level) (o : Option Level) → (b ≡ true → word ≡ word_of (At l)) → (o ≡ Some m → word ≡ word_of (At m)) → cond b (Some l) o ≡ Some m → word ≡ word_of (At m)
pick true word l m o now later e = now refl ∙ ap (λ (n : Level). word_of (At n)) (same_Some l m e)
pick false word l m o now later e = later e

level_found : (word : Text) (l : Level) → level_named word ≡ Some l → word ≡ word_of (At l)
level_found word l =
    pick (bytes_eq word (codes "trace")) word Trace l _ ((bytes_eq-Decides word (codes "trace")).0)
    (pick (bytes_eq word (codes "debug")) word Debug l _ ((bytes_eq-Decides word (codes "debug")).0)
    (pick (bytes_eq word (codes "info")) word Info l _ ((bytes_eq-Decides word (codes "info")).0)
    (pick (bytes_eq word (codes "warn")) word Warn l _ ((bytes_eq-Decides word (codes "warn")).0)
    (pick (bytes_eq word (codes "error")) word Error l None ((bytes_eq-Decides word (codes "error")).0) (λ e. absurd cc)))))

off_found : (b : Bool) (word : Text) (f : Floor) → (b ≡ true → word ≡ word_of Off) → cond b (Some Off) None ≡ Some f → word ≡ word_of f
off_found true word f is e = is refl ∙ ap word_of (same_Some Off f e)
off_found false word f is e = absurd cc

floor_by : (word : Text) (o : Option Level) (f : Floor) → level_named word ≡ o → floor_or word o ≡ Some f → word ≡ word_of f
floor_by word (Some l) f is e = level_found word l is ∙ ap word_of (same_Some (At l) f e)
floor_by word None f is e = off_found (bytes_eq word (codes "off")) word f ((bytes_eq-Decides word (codes "off")).0) e

floor_found : (word : Text) (f : Floor) → floor_in word ≡ Some f → word ≡ word_of f
unfolding floor_in
floor_found word f e = floor_by word (level_named word) f refl e

floor_again : (f : Floor) → floor_in (word_of f) ≡ Some f
unfolding floor_in
floor_again (At Trace) = refl
floor_again (At Debug) = refl
floor_again (At Info) = refl
floor_again (At Warn) = refl
floor_again (At Error) = refl
floor_again Off = refl

word_lacks : (f : Floor) → Lacks 44 (word_of f)
word_lacks (At Trace) = (refl, (refl, (refl, (refl, (refl, tt)))))
word_lacks (At Debug) = (refl, (refl, (refl, (refl, (refl, tt)))))
word_lacks (At Info) = (refl, (refl, (refl, (refl, tt))))
word_lacks (At Warn) = (refl, (refl, (refl, (refl, tt))))
word_lacks (At Error) = (refl, (refl, (refl, (refl, (refl, tt)))))
word_lacks Off = (refl, (refl, (refl, tt)))

-- ---- bytes that are not there

apart : (c d : ℕ) → eqb c d ≡ false → c ≢ d
apart c d n = grind (arith, nat_tests)

Lacks-front : (c : ℕ) (xs ys : Text) → Lacks c (xs ++ ys) → Lacks c xs
Lacks-front c [] ys h = tt
Lacks-front c (x ∷ xs) ys h = (h.0, Lacks-front c xs ys h.1)

none_cut : (c x : ℕ) (xs : Text) (b : Bool) (o : Option (Text × Text)) → eqb x c ≡ b → (o ≡ None → Lacks c xs) → cond {A = Option (Text × Text)} b (Some ([], xs)) (option_map (λ p. (x ∷ p.0, p.1)) o) ≡ None → Lacks c (x ∷ xs)
none_cut c x xs true o is more e = absurd cc
none_cut c x xs false None is more e = (is, more refl)
none_cut c x xs false (Some p) is more e = absurd cc

cut_none : (c : ℕ) (xs : Text) → cut c xs ≡ None → Lacks c xs
unfolding cut
cut_none c [] e = tt
cut_none c (x ∷ xs) e = none_cut c x xs (eqb x c) (cut c xs) refl (cut_none c xs) e

as_all : (c : ℕ) (xs : Text) → Lacks c xs → AllByRecursion (λ x. eqb x c ≡ false) xs
as_all c [] h = tt
as_all c (x ∷ xs) h = (h.0, as_all c xs h.1)

plain_in : (name : Text) → Lacks 44 name → Lacks 61 name → AllByRecursion (λ c. (c ≢ 44) × (c ≢ 61)) name
plain_in [] h k = tt
plain_in (c ∷ cs) h k = ((apart c 44 h.0, apart c 61 k.0), plain_in cs h.1 k.1)

no_comma : (name : Text) → AllByRecursion (λ c. (c ≢ 44) × (c ≢ 61)) name → Lacks 44 name
no_comma [] h = tt
no_comma (c ∷ cs) h = (ne_eqb c 44 h.0.0, no_comma cs h.1)

no_equals : (name : Text) → AllByRecursion (λ c. (c ≢ 44) × (c ≢ 61)) name → Lacks 61 name
no_equals [] h = tt
no_equals (c ∷ cs) h = (ne_eqb c 61 h.0.1, no_equals cs h.1)

-- ---- the parts of a text

pub parts_one : (text : Text) → Lacks 44 text → parts text ≡ text ∷ []
parts_one text h = slice_split_none (λ c. eqb c 44) text (All-from_recursion _ text (as_all 44 text h))

parts_at : (front after : Text) → Lacks 44 front → parts (front ++ 44 ∷ after) ≡ front ∷ parts after
parts_at front after h = slice_split_at (λ c. eqb c 44) front 44 after (All-from_recursion _ front (as_all 44 front h)) refl

pub parts_none : (text : Text) → cut 44 text ≡ None → parts text ≡ text ∷ []
parts_none text e = parts_one text (cut_none 44 text e)

pub parts_some : (text : Text) (p : Text × Text) → cut 44 text ≡ Some p → parts text ≡ p.0 ∷ parts p.1
parts_some text p e = let f = cut_found 44 text p e in ap parts f.0 ∙ parts_at p.0 p.1 f.1

onto : (c : ℕ) (ps : List Text) → eqb c 44 ≡ false → AllByRecursion (Lacks 44) ps → AllByRecursion (Lacks 44) (onto_first c ps)
onto c [] e h = ((e, tt), tt)
onto c (p ∷ ps) e h = ((e, h.0), h.1)

next_lacks : (c : ℕ) (ps : List Text) (b : Bool) → eqb c 44 ≡ b → AllByRecursion (Lacks 44) ps → AllByRecursion (Lacks 44) (cond b ([] ∷ ps) (onto_first c ps))
next_lacks c ps true e h = (tt, h)
next_lacks c ps false e h = onto c ps e h

parts_lack : (text : Text) → AllByRecursion (Lacks 44) (parts text)
parts_lack [] = (tt, tt)
parts_lack (c ∷ cs) = next_lacks c (parts cs) (eqb c 44) refl (parts_lack cs)

-- ---- one pair

some_name : (name : Text) → eqb (length name) 0 ≡ false → name ≢ []
some_name name e h = absurd (subst (λ (n : Text). eqb (length n) 0 ≡ false → ⊥) (sym h) (λ k. cc) e)

name_tests : (name : Text) → name ≢ [] → eqb (length name) 0 ≡ false
name_tests [] n = absurd (n refl)
name_tests (c ∷ cs) n = grind (arith, nat_tests)

record IsSpelledPair (part : Text) (p : Pair) : Type 0 where
  whole : part ≡ pair_text p
  named : IsName p.0

pair_with : (part : Text) (q : Text × Text) (p : Pair) (b : Bool) (o : Option Floor) → part ≡ q.0 ++ 61 ∷ q.1 → Lacks 61 q.0 → Lacks 44 part → eqb (length q.0) 0 ≡ b → ((f : Floor) → o ≡ Some f → q.1 ≡ word_of f) → cond b None (option_map (λ f. (q.0, f)) o) ≡ Some p → IsSpelledPair part p
pair_with part q p true o is bare lacks some word e = absurd cc
pair_with part q p false None is bare lacks some word e = absurd cc
pair_with part q p false (Some f) is bare lacks some word e =
    let same : (q.0, f) ≡ p = same_Some _ _ e in
    subst (IsSpelledPair part) same (record {
      whole = is ∙ ap (λ (w : Text). q.0 ++ 61 ∷ w) (word f refl);
      named = record { some = some_name q.0 some; plain = plain_in q.0 (Lacks-front 44 q.0 (61 ∷ q.1) (subst (Lacks 44) is lacks)) bare };
    })

pair_cut : (part : Text) (o : Option (Text × Text)) (p : Pair) → cut 61 part ≡ o → Lacks 44 part → pair_by o ≡ Some p → IsSpelledPair part p
pair_cut part None p is lacks e = absurd cc
pair_cut part (Some q) p is lacks e =
    let f = cut_found 61 part q is in
    pair_with part q p (eqb (length q.0) 0) (floor_in q.1) f.0 f.1 lacks refl (floor_found q.1) e

pair_found : (part : Text) (p : Pair) → Lacks 44 part → pair_in part ≡ Some p → IsSpelledPair part p
pair_found part p lacks e = pair_cut part (cut 61 part) p refl lacks e

pair_again : (p : Pair) → IsName p.0 → pair_in (pair_text p) ≡ Some p
pair_again p h =
    let is : cut 61 (pair_text p) ≡ Some (p.0, word_of p.1) = cut_again 61 p.0 (word_of p.1) (no_equals p.0 h.plain) in
    let some : eqb (length p.0) 0 ≡ false = name_tests p.0 h.some in
    ap pair_by is ∙ rw (some, floor_again p.1) refl

pair_lacks : (p : Pair) → IsName p.0 → Lacks 44 (pair_text p)
pair_lacks p h = Lacks-append 44 p.0 (61 ∷ word_of p.1) (no_comma p.0 h.plain) (refl, word_lacks p.1)

-- ---- lists of pairs

rec_push : {X : Type 0} (P : X → Type 0) (xs : List X) (x : X) → AllByRecursion P xs → P x → AllByRecursion P (xs ++ x ∷ [])
rec_push P [] x h p = (p, tt)
rec_push P (y ∷ ys) x h p = (h.0, rec_push P ys x h.1 p)

rec_at : {X : Type 0} (P : X → Type 0) (xs : List X) (x : X) (ys : List X) → AllByRecursion P (xs ++ x ∷ ys) → P x
rec_at P [] x ys h = h.0
rec_at P (y ∷ xs) x ys h = rec_at P xs x ys h.1

not_true : (b : Bool) → not b ≡ true → b ≡ false
not_true true e = absurd cc
not_true false e = refl

differs : (xs ys : Text) → bytes_eq xs ys ≡ false → xs ≢ ys
differs xs ys e same = let t : bytes_eq xs ys ≡ true = (bytes_eq-Decides xs ys).1 same in absurd cc

decided : (b : Bool) (P : Type 0) → (b ≡ true → P) → (P → ⊥) → b ≡ false
decided true P h n = absurd (n (h refl))
decided false P h n = refl

none_has : (pairs : List Pair) (name : Text) → list_any (λ p. bytes_eq p.0 name) pairs ≡ false → AllByRecursion (λ q. q.0 ≢ name) pairs
none_has [] name e = tt
none_has (q ∷ qs) name e = let o = or_parts (bytes_eq q.0 name) (list_any (λ p. bytes_eq p.0 name) qs) e in (differs q.0 name o.0, none_has qs name o.1)

has_none : (pairs : List Pair) (name : Text) → AllByRecursion (λ q. q.0 ≢ name) pairs → list_any (λ p. bytes_eq p.0 name) pairs ≡ false
has_none [] name h = refl
has_none (q ∷ qs) name h =
    let no : bytes_eq q.0 name ≡ false = decided (bytes_eq q.0 name) (q.0 ≡ name) ((bytes_eq-Decides q.0 name).0) h.0 in
    rw no (has_none qs name h.1)

once_push : (pairs : List Pair) (p : Pair) → NoneTwice pairs → AllByRecursion (λ q. q.0 ≢ p.0) pairs → NoneTwice (pairs ++ p ∷ [])
once_push [] p h k = (tt, tt)
once_push (q ∷ qs) p h k = (rec_push (λ (r : Pair). q.0 ≢ r.0) qs p h.0 k.0, once_push qs p h.1 k.1)

once_before : (pairs : List Pair) (p : Pair) (ps : List Pair) → NoneTwice (pairs ++ p ∷ ps) → AllByRecursion (λ q. q.0 ≢ p.0) pairs
once_before [] p ps h = tt
once_before (q ∷ qs) p ps h = (rec_at (λ (r : Pair). q.0 ≢ r.0) qs p ps h.0, once_before qs p ps h.1)

-- ---- pairs behind others

record IsMore (pairs : List Pair) (part : Text) (more : List Pair) : Type 0 where
  pair : Pair
  behind : more ≡ pairs ++ pair ∷ []
  whole : part ≡ pair_text pair
  listed : AreListed more

behind_found : (pairs : List Pair) (part : Text) (p : Pair) (more : List Pair) (b : Bool) → AreListed pairs → IsSpelledPair part p → (ltb (length pairs) 32 && not (list_any (λ q. bytes_eq q.0 p.0) pairs)) ≡ b → cond b (Some (pairs ++ p ∷ [])) None ≡ Some more → IsMore pairs part more
behind_found pairs part p more false h s t e = absurd cc
behind_found pairs part p more true h s t e =
    let both = and_parts _ _ t in
    let few : length pairs < 32 = ltb-true (length pairs) 32 both.0 in
    let new : AllByRecursion (λ (q : Pair). q.0 ≢ p.0) pairs = none_has pairs p.0 (not_true _ both.1) in
    let same : pairs ++ p ∷ [] ≡ more = same_Some _ _ e in
    record {
      pair = p;
      behind = sym same;
      whole = s.whole;
      listed = subst AreListed same (record {
        few = omega (arith, few, length-append pairs (p ∷ []));
        named = rec_push (λ (q : Pair). IsName q.0) pairs p h.named s.named;
        once = once_push pairs p h.once new;
      });
    }

added_by : (pairs : List Pair) (part : Text) (more : List Pair) (o : Option Pair) → AreListed pairs → Lacks 44 part → pair_in part ≡ o → option_and_then (behind pairs) o ≡ Some more → IsMore pairs part more
added_by pairs part more None h lacks is e = absurd cc
added_by pairs part more (Some p) h lacks is e = behind_found pairs part p more _ h (pair_found part p lacks is) refl e

added_found : (pairs : List Pair) (part : Text) (more : List Pair) → AreListed pairs → Lacks 44 part → added pairs part ≡ Some more → IsMore pairs part more
unfolding added
added_found pairs part more h lacks e = added_by pairs part more (pair_in part) h lacks refl e

added_again : (pairs : List Pair) (p : Pair) (ps : List Pair) → AreListed (pairs ++ p ∷ ps) → added pairs (pair_text p) ≡ Some (pairs ++ p ∷ [])
unfolding added
added_again pairs p ps h =
    let room : ltb (length pairs) 32 ≡ true = lt-ltb (length pairs) 32 (omega (arith, h.few, length-append pairs (p ∷ ps))) in
    let new : list_any (λ q. bytes_eq q.0 p.0) pairs ≡ false = has_none pairs p.0 (once_before pairs p ps h.once) in
    ap (option_and_then (behind pairs)) (pair_again p (rec_at (λ (q : Pair). IsName q.0) pairs p ps h.named)) ∙ rw (room, new) refl

record AreMore (pairs : List Pair) (words : List Text) (all : List Pair) : Type 0 where
  more : List Pair
  behind : all ≡ pairs ++ more
  whole : words ≡ map pair_text more
  listed : AreListed all

further : (pairs : List Pair) (part : Text) (words : List Text) (next all : List Pair) → IsMore pairs part next → AreMore next words all → AreMore pairs (part ∷ words) all
further pairs part words next all f m = record {
  more = f.pair ∷ m.more;
  behind = m.behind ∙ ap (λ (front : List Pair). front ++ m.more) f.behind ∙ append_assoc pairs (f.pair ∷ []) m.more;
  whole = ap (λ (w : Text). w ∷ words) f.whole ∙ ap (λ (ws : List Text). pair_text f.pair ∷ ws) m.whole;
  listed = m.listed;
}

all_next : (part : Text) (words : List Text) (pairs all : List Pair) (o : Option (List Pair)) → AreListed pairs → AllByRecursion (Lacks 44) (part ∷ words) → added pairs part ≡ o → ((next : List Pair) → AreListed next → all_added next words ≡ Some all → AreMore next words all) → option_and_then (λ more. all_added more words) o ≡ Some all → AreMore pairs (part ∷ words) all
all_next part words pairs all None h lack is rest e = absurd cc
all_next part words pairs all (Some next) h lack is rest e =
    let f = added_found pairs part next h lack.0 is in
    further pairs part words next all f (rest next f.listed e)

all_found : (words : List Text) (pairs all : List Pair) → AreListed pairs → AllByRecursion (Lacks 44) words → all_added pairs words ≡ Some all → AreMore pairs words all
all_found [] pairs all h lack e = record { more = []; behind = sym (same_Some _ _ e) ∙ sym (append-nil pairs); whole = refl; listed = subst AreListed (same_Some _ _ e) h }
all_found (part ∷ words) pairs all h lack e = all_next part words pairs all (added pairs part) h lack refl (λ next k i. all_found words next all k lack.1 i) e

all_again : (ps pairs : List Pair) → AreListed (pairs ++ ps) → all_added pairs (map pair_text ps) ≡ Some (pairs ++ ps)
all_again [] pairs h = ap Some (sym (append-nil pairs))
all_again (p ∷ ps) pairs h =
    ap (option_and_then (λ (more : List Pair). all_added more (map pair_text ps))) (added_again pairs p ps h)
    ∙ all_again ps (pairs ++ p ∷ []) (subst AreListed (sym (append_assoc pairs (p ∷ []) ps)) h)
    ∙ ap Some (append_assoc pairs (p ∷ []) ps)

-- ---- whole texts

parts_again : (word : Text) (ps : List Pair) → Lacks 44 word → AllByRecursion (λ p. IsName p.0) ps → parts (word ++ pairs_text ps) ≡ word ∷ map pair_text ps
parts_again word [] lacks h = ap parts (append-nil word) ∙ parts_one word lacks
parts_again word (p ∷ ps) lacks h =
    parts_at word (pair_text p ++ pairs_text ps) lacks ∙ ap (λ (ws : List Text). word ∷ ws) (parts_again (pair_text p) ps (pair_lacks p h.0) h.1)

joined : (word : Text) (ps : List Pair) → join_with_byte 44 (word ∷ map pair_text ps) ≡ word ++ pairs_text ps
joined word [] = sym (append-nil word)
joined word (p ∷ ps) = ap (λ (rest : Text). word ++ 44 ∷ rest) (joined (pair_text p) ps)

nothing_listed : AreListed []
nothing_listed = record { few = omega arith; named = tt; once = tt }

whole_found : (text word : Text) (words : List Text) (f : Floor) (all : List Pair) → parts text ≡ word ∷ words → word ≡ word_of f → AreMore [] words all → Spells text (record { rest = f; packages = all })
whole_found text word words f all is w m =
    record {
      whole = sym (join_with_byte-slice_split 44 text) ∙ ap (join_with_byte 44) (is ∙ ap (λ (v : Text). v ∷ words) w ∙ ap (λ (ws : List Text). word_of f ∷ ws) (m.whole ∙ ap (map pair_text) (sym m.behind))) ∙ joined (word_of f) all;
      listed = m.listed;
    }

by_parts : (text word : Text) (words : List Text) (rules : Rules) (f : Option Floor) (o : Option (List Pair)) → parts text ≡ word ∷ words → floor_in word ≡ f → all_added [] words ≡ o → rules_by f o ≡ Some rules → Spells text rules
by_parts text word words rules None o is w m e = absurd cc
by_parts text word words rules (Some f) None is w m e = absurd cc
by_parts text word words rules (Some f) (Some all) is w m e =
    let lack : AllByRecursion (Lacks 44) (word ∷ words) = subst (AllByRecursion (Lacks 44)) is (parts_lack text) in
    subst (Spells text) (same_Some _ _ e) (whole_found text word words f all is (floor_found word f w) (all_found words [] all nothing_listed lack.1 m))

of_parts : (text : Text) (words : List Text) (rules : Rules) → parts text ≡ words → rules_of words ≡ Some rules → Spells text rules
of_parts text [] rules is e = absurd cc
of_parts text (word ∷ words) rules is e = by_parts text word words rules (floor_in word) (all_added [] words) is refl refl e

-- the reading and the spelling say the same
pub rules_found : (text : Text) (rules : Rules) → rules_in text ≡ Some rules → Spells text rules
unfolding rules_in
rules_found text rules e = of_parts text (parts text) rules refl e

pub rules_again : (text : Text) (rules : Rules) → Spells text rules → rules_in text ≡ Some rules
unfolding rules_in
rules_again text rules s =
    ap (λ (t : Text). rules_of (parts t)) s.whole
    ∙ ap rules_of (parts_again (word_of rules.rest) rules.packages (word_lacks rules.rest) s.listed.named)
    ∙ ap (λ (o : Option Floor). rules_by o (all_added [] (map pair_text rules.packages))) (floor_again rules.rest)
    ∙ ap (rules_by (Some rules.rest)) (all_again rules.packages [] s.listed)

pub one_spelling : (text : Text) (a b : Rules) → Spells text a → Spells text b → a ≡ b
one_spelling text a b s t = same_Some a b (sym (rules_again text a s) ∙ rules_again text b t)
