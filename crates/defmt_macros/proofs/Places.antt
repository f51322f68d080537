-- What holds of sites and of the places where lists of slots differ.
use Rattle.std.proofs.Common.{◌≡◌, ◌≤◌, ℕ, ◌+◌, length, arith, Bool, true, false, cond, List, [], ◌∷◌, Option, Some, None, refl, sym, ap, ◌∙◌, subst, inl, inr}
use Rattle.defmt_encode.specs.Carry.{slots_in, own_slots}
use Rattle.defmt_grammar.specs.declared.language.Language.{Language}
use Rattle.defmt_grammar.specs.declared.slot.Slot.{Slot}
use Rattle.defmt_intern.specs.Body.{body_of}
use Rattle.defmt_intern.specs.Table.{Map}
use Rattle.defmt_intern.specs.declared.entry.Entry.{Entry}
use Rattle.defmt_intern.specs.declared.entry.Tag.{Tag}
use Rattle.defmt_intern.specs.declared.parsed.Parsed.{Parsed}
use Rattle.defmt_intern.specs.declared.parsed.Parsed.TheVariants.{One, Unsupported, Raw, Variants}
use Rattle.defmt_values.specs.Entries.{look, is_logged}
use Rattle.defmt_values.specs.Scan.{own_form, own_in}
use Rattle.defmt_macros.specs.Sites.{Found, no_message, message, found_text, found_in, IsSite, DifferAt, Refuses}
use Rattle.defmt_macros.specs.declared.site.SiteFault.{SiteFault}
use Rattle.defmt_macros.specs.declared.site.SiteFault.TheVariants as faults

pub differ_once : (xs ys : List Slot) (p q : ℕ) → DifferAt xs ys p → DifferAt xs ys q → p ≡ q
differ_once [] [] p q d e = absurd d
differ_once [] (y ∷ ys) p q d e = d ∙ sym e
differ_once (x ∷ xs) [] p q d e = d ∙ sym e
differ_once (x ∷ xs) (y ∷ ys) p q (inl d) (inl e) = d.0 ∙ sym e.0
differ_once (x ∷ xs) (y ∷ ys) p q (inl d) (inr e) = absurd (d.1 e.2)
differ_once (x ∷ xs) (y ∷ ys) p q (inr d) (inl e) = absurd (e.1 d.2)
differ_once (x ∷ xs) (y ∷ ys) p q (inr d) (inr e) = d.1 ∙ ap (λ n. n + 1) (differ_once xs ys d.0 e.0 d.3 e.3) ∙ sym e.1

pub alike : (xs : List Slot) (p : ℕ) → DifferAt xs xs p → ⊥
alike [] p d = d
alike (x ∷ xs) p (inl d) = d.1 refl
alike (x ∷ xs) p (inr d) = alike xs d.0 d.3

-- ---- the first slots

-- where the first are alike, the lists are alike as those behind, and differ one place later
pub alike_more : (xs ys own given : List Slot) (x y : Slot) → xs ≡ x ∷ own → ys ≡ y ∷ given → x ≡ y → own ≡ given → xs ≡ ys
alike_more xs ys own given x y p q e same = cc

pub differ_more : (xs ys own given : List Slot) (x y : Slot) (n : ℕ) → xs ≡ x ∷ own → ys ≡ y ∷ given → x ≡ y → DifferAt own given n → n ≤ length own → DifferAt xs ys (n + 1) × (n + 1 ≤ length xs)
differ_more [] ys own given x y n p q e d le = absurd (cc)
differ_more (z ∷ xs) [] own given x y n p q e d le = absurd (cc)
differ_more (z ∷ xs) (w ∷ ys) own given x y n p q e d le =
    let behind : own ≡ xs = cc in
    let others : given ≡ ys = cc in
    let same : z ≡ w = cc in
    let later : DifferAt xs ys n = subst (λ (l : List Slot). DifferAt l ys n) behind (subst (λ (l : List Slot). DifferAt own l n) others d) in
    (inr (n, refl, same, later), omega (arith, ap length behind))

pub differ_first : (xs ys own given : List Slot) (x y : Slot) → xs ≡ x ∷ own → ys ≡ y ∷ given → (x ≡ y → ⊥) → DifferAt xs ys 0 × (0 ≤ length xs)
differ_first [] ys own given x y p q differ = absurd (cc)
differ_first (z ∷ xs) [] own given x y p q differ = absurd (cc)
differ_first (z ∷ xs) (w ∷ ys) own given x y p q differ = (inl (refl, λ e. differ (let same : x ≡ y = cc in same)), omega arith)

-- where one has ended and the other has not, they differ there
pub differ_ended : (xs ys given : List Slot) (y : Slot) → xs ≡ [] → ys ≡ y ∷ given → DifferAt xs ys 0 × (0 ≤ length xs)
differ_ended [] [] given y p q = absurd (cc)
differ_ended [] (w ∷ ys) given y p q = (refl, omega arith)
differ_ended (z ∷ xs) ys given y p q = absurd (cc)

pub differ_further : (xs ys own : List Slot) (x : Slot) → xs ≡ x ∷ own → ys ≡ [] → DifferAt xs ys 0 × (0 ≤ length xs)
differ_further [] ys own x p q = absurd (cc)
differ_further (z ∷ xs) [] own x p q = (refl, omega arith)
differ_further (z ∷ xs) (w ∷ ys) own x p q = absurd (cc)

-- ---- sites

abbrev Told : Bool → Tag → Parsed → Found
Told b tag body = cond b (found_text tag body) no_message

logged_by : (b : Bool) (own tag : Tag) (body : Parsed) (slots : List Slot) → is_logged own ≡ b → Told b own body ≡ message tag slots → is_logged tag ≡ true
logged_by false own tag body slots l p = absurd (cc)
logged_by true own tag (One ps) slots l p = cc
logged_by true own tag Unsupported slots l p = absurd (cc)
logged_by true own tag Raw slots l p = absurd (cc)
logged_by true own tag (Variants forms) slots l p = absurd (cc)

logged_in : (language : Language) (o : Option Entry) (tag : Tag) (slots : List Slot) → found_in language o ≡ message tag slots → is_logged tag ≡ true
logged_in language None tag slots p = absurd (cc)
logged_in language (Some e) tag slots p = logged_by (is_logged e.tag) e.tag tag (body_of language e) slots refl p

-- a site's tag is a message's
pub logged : (t : Map) (index : ℕ) (tag : Tag) (slots : List Slot) → IsSite t index tag slots → is_logged tag ≡ true
logged t index tag slots p = logged_in t.language (look t index) tag slots p

own_by : (b : Bool) (own tag : Tag) (body : Parsed) (slots : List Slot) → Told b own body ≡ message tag slots → slots_in (own_in body) ≡ slots
own_by false own tag body slots p = absurd (cc)
own_by true own tag (One ps) slots p = cc
own_by true own tag Unsupported slots p = absurd (cc)
own_by true own tag Raw slots p = absurd (cc)
own_by true own tag (Variants forms) slots p = absurd (cc)

own_at : (language : Language) (o : Option Entry) (tag : Tag) (slots : List Slot) → found_in language o ≡ message tag slots → slots_in (own_form language o) ≡ slots
own_at language None tag slots p = absurd (cc)
own_at language (Some e) tag slots p = own_by (is_logged e.tag) e.tag tag (body_of language e) slots p

-- a site's slots are those of its entry's text
pub own : (t : Map) (index : ℕ) (tag : Tag) (slots : List Slot) → IsSite t index tag slots → own_slots t index ≡ slots
own t index tag slots p = own_at t.language (look t index) tag slots p

-- ---- one answer

module _ (t : Map) (index : ℕ) (tag : Tag) (own : List Slot) (site : IsSite t index tag own) where
  -- where the slots differ there is no site with the given ones
  pub no_site : (slots : List Slot) (position : ℕ) (other : Tag) → DifferAt own slots position → IsSite t index other slots → ⊥
  no_site slots position other d p =
      let same : slots ≡ own = cc in
      let P : List Slot → Type 0 = λ ss. DifferAt own ss position in
      alike own position (subst P same d)

  -- a fault that stands is the one where the slots differ
  pub one_fault : (slots : List Slot) (position : ℕ) (fault : SiteFault) → DifferAt own slots position → Refuses t index slots fault → faults.Slots position ≡ fault
  one_fault slots position faults.NoEntry d p = absurd (cc)
  one_fault slots position faults.NotLog d p = absurd (cc)
  one_fault slots position faults.Unsupported d p = absurd (cc)
  one_fault slots position (faults.Slots q) d (other, theirs, there, e) =
      let same : theirs ≡ own = cc in
      let P : List Slot → Type 0 = λ ss. DifferAt ss slots q in
      ap (λ n. faults.Slots n) (differ_once own slots position q d (subst P same e))
  one_fault slots position faults.Memory d p = absurd p

  -- where the slots are the given ones, no fault stands
  pub no_fault : (slots : List Slot) (fault : SiteFault) → own ≡ slots → Refuses t index slots fault → ⊥
  no_fault slots faults.NoEntry e p = absurd (cc)
  no_fault slots faults.NotLog e p = absurd (cc)
  no_fault slots faults.Unsupported e p = absurd (cc)
  no_fault slots (faults.Slots q) e (other, theirs, there, d) =
      let same : theirs ≡ slots = cc in
      let P : List Slot → Type 0 = λ ss. DifferAt ss slots q in
      alike slots q (subst P same d)
  no_fault slots faults.Memory e p = p
