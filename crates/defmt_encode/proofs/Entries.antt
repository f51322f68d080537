-- Entries that a reader takes or refuses, and the slots of their arguments.
use Rattle.std.proofs.Common.{◌≡◌, inl, inr, ℕ, Bool, true, false, List, [], ◌∷◌, Option, Some, None, refl, sym, ap, subst, ◌∙◌, ◌+◌}
use Rattle.defmt_grammar.specs.Slots.{slots_of}
use Rattle.defmt_grammar.specs.declared.piece.Piece.{Piece}
use Rattle.defmt_grammar.specs.declared.language.Language.{Language}
use Rattle.defmt_grammar.specs.declared.slot.Slot.{Slot}
use Rattle.defmt_intern.specs.Body.{body_of}
use Rattle.defmt_intern.specs.Table.{Map}
use Rattle.defmt_intern.specs.declared.entry.Entry.{Entry}
use Rattle.defmt_intern.specs.declared.entry.Tag.{Tag}
use Rattle.defmt_intern.specs.declared.parsed.Parsed.{Parsed}
use Rattle.defmt_intern.specs.declared.parsed.Parsed.TheVariants.{Unsupported, Raw, One, Variants}
use Rattle.defmt_values.specs.Entries.{look, is_format, is_interned, is_logged, places_of, places_from}
use Rattle.defmt_values.specs.Fits.{IsForm, HasPieces, IsInterned}
use Rattle.defmt_values.proofs.Forms.{form_there, pieces_there}
use Rattle.defmt_encode.specs.Carry.{slots_at, node_slots, own_slots}
use Rattle.defmt_encode.specs.Fields.{IsOwn}
use Rattle.defmt_encode.specs.Met.{IsUnsuited, HasForm, HasNoForm, IsNotOne, MetForm, MetOwn}
use Rattle.defmt_encode.specs.Read.{tag_cause, suited, interned_of, form_in, form_of, one_in, logged_of, stamp_form}
use Rattle.defmt_encode.specs.declared.cause.Cause.{Cause}
use Rattle.defmt_encode.specs.declared.cause.Cause.TheVariants as causes
use Rattle.defmt_encode.proofs.Chains.{done, refused, same, same_cause, bound, broken}

-- ---- slots

pub slots_from : (ps : List Piece) (n : ℕ) (ss : List Slot) → slots_at (places_from ps n ss) ≡ ss
slots_from ps n [] = refl
slots_from ps n (s ∷ ss) = ap (λ xs. s ∷ xs) (slots_from ps (n + 1) ss)

pub slots_at_places : (ps : List Piece) → slots_at (places_of ps) ≡ slots_of ps
slots_at_places ps = slots_from ps 0 (slots_of ps)

-- the slots of a Format value's arguments are those of its places
pub node_slots_are : (t : Map) (index : ℕ) (form : Parsed) (variant : Option ℕ) (ps : List Piece) → IsForm t index form → HasPieces form variant ps → node_slots t index variant ≡ slots_at (places_of ps)
node_slots_are t index form variant ps f h = (rw (form_there t index form variant ps f h, pieces_there form variant ps h) refl) ∙ sym (slots_at_places ps)

pub own_slots_are : (t : Map) (index : ℕ) (e : Entry) (ps : List Piece) → look t index ≡ Some e → body_of t.language e ≡ One ps → own_slots t index ≡ slots_at (places_of ps)
own_slots_are t index e ps l b = (rw (l, b) refl) ∙ sym (slots_at_places ps)

-- ---- tags

suits : (b : Bool) (tag : Tag) → suited b tag ≡ done tt → b ≡ true
suits true tag h = refl
suits false tag h = absurd (cc)

unsuited : (b : Bool) (tag : Tag) (c : Cause) → suited b tag ≡ refused (Unit {0}) c → (b ≡ false) × (c ≡ tag_cause tag)
unsuited true tag c h = absurd (cc)
unsuited false tag c h = (refl, sym (same_cause {A = Unit {0}} (tag_cause tag) c h))

-- ---- interned strings

interned_by : (t : Map) (index : ℕ) (o : Option Entry) → look t index ≡ o → interned_of o ≡ done tt → IsInterned t index
interned_by t index None l h = absurd (cc)
interned_by t index (Some e) l h = record { entry = e; there = l; tag = suits (is_interned e.tag) e.tag h }

pub interned_found : (t : Map) (index : ℕ) → interned_of (look t index) ≡ done tt → IsInterned t index
interned_found t index h = interned_by t index (look t index) refl h

no_interned_by : (t : Map) (index : ℕ) (c : Cause) (o : Option Entry) → look t index ≡ o → interned_of o ≡ refused (Unit {0}) c → IsUnsuited t is_interned index c
no_interned_by t index c None l h = inl (l, sym (same_cause {A = Unit {0}} causes.NoEntry c h))
no_interned_by t index c (Some e) l h = let p = unsuited (is_interned e.tag) e.tag c h in inr (e, l, p.0, p.1)

pub interned_broken : (t : Map) (index : ℕ) (c : Cause) → interned_of (look t index) ≡ refused (Unit {0}) c → IsUnsuited t is_interned index c
interned_broken t index c h = no_interned_by t index c (look t index) refl h

pub interned_back : (t : Map) (index : ℕ) → IsInterned t index → interned_of (look t index) ≡ done tt
interned_back t index f = rw (f.there, f.tag) refl

-- what is unsuited is refused
pub interned_refused : (t : Map) (index : ℕ) (c : Cause) → IsUnsuited t is_interned index c → interned_of (look t index) ≡ refused (Unit {0}) c
interned_refused t index c (inl m) = rw (m.0, m.1) refl
interned_refused t index c (inr m) = rw (m.1, m.2, m.3) refl

-- ---- the forms of Format values

form_is : (body form : Parsed) → form_in body ≡ done form → HasForm body × (body ≡ form)
form_is Unsupported form h = absurd (cc)
form_is Raw form h = absurd (cc)
form_is (One ps) form h = (tt, same (One ps) form h)
form_is (Variants forms) form h = (tt, same (Variants forms) form h)

no_form : (body : Parsed) (c : Cause) → form_in body ≡ refused Parsed c → HasNoForm body × (c ≡ causes.Unsupported)
no_form Unsupported c h = (tt, sym (same_cause {A = Parsed} causes.Unsupported c h))
no_form Raw c h = (tt, sym (same_cause {A = Parsed} causes.Unsupported c h))
no_form (One ps) c h = absurd (cc)
no_form (Variants forms) c h = absurd (cc)

form_by : (t : Map) (index : ℕ) (form : Parsed) (o : Option Entry) → look t index ≡ o → form_of t.language o ≡ done form → IsForm t index form × HasForm form
form_by t index form None l h = absurd (cc)
form_by t index form (Some e) l h =
    let b = bound (suited (is_format e.tag) e.tag) (λ _. form_in (body_of t.language e)) form h in
    let i = form_is (body_of t.language e) form b.2 in
    (record { entry = e; there = l; tag = suits (is_format e.tag) e.tag b.1; body = i.1 }, subst (λ (f : Parsed). HasForm f) i.1 i.0)

pub form_found : (t : Map) (index : ℕ) (form : Parsed) → form_of t.language (look t index) ≡ done form → IsForm t index form × HasForm form
form_found t index form h = form_by t index form (look t index) refl h

no_form_by : (t : Map) (index : ℕ) (c : Cause) (o : Option Entry) → look t index ≡ o → form_of t.language o ≡ refused Parsed c → MetForm t index c
no_form_by t index c None l h = inl (inl (l, sym (same_cause {A = Parsed} causes.NoEntry c h)))
no_form_by t index c (Some e) l h = elim (broken (suited (is_format e.tag) e.tag) (λ _. form_in (body_of t.language e)) c h) [
  | inl k ↦ let p = unsuited (is_format e.tag) e.tag c k in inl (inr (e, l, p.0, p.1))
  | inr k ↦ let p = no_form (body_of t.language e) c k.2 in inr (e, l, suits (is_format e.tag) e.tag k.1, p.0, p.1)
]

pub form_broken : (t : Map) (index : ℕ) (c : Cause) → form_of t.language (look t index) ≡ refused Parsed c → MetForm t index c
form_broken t index c h = no_form_by t index c (look t index) refl h

pub form_back : (t : Map) (index : ℕ) (form : Parsed) (variant : Option ℕ) (ps : List Piece) → IsForm t index form → HasPieces form variant ps → form_of t.language (look t index) ≡ done form
form_back t index form None ps f h = rw (f.there, f.tag, f.body, h) refl
form_back t index form (Some v) ps f h = rw (f.there, f.tag, f.body, h.1) refl

pub form_back_of : (t : Map) (index : ℕ) (form : Parsed) → IsForm t index form → HasForm form → form_of t.language (look t index) ≡ done form
form_back_of t index (One ps) f h = rw (f.there, f.tag, f.body) refl
form_back_of t index (Variants forms) f h = rw (f.there, f.tag, f.body) refl
form_back_of t index Unsupported f h = absurd h
form_back_of t index Raw f h = absurd h

refused_form : (body : Parsed) → HasNoForm body → form_in body ≡ refused Parsed causes.Unsupported
refused_form Unsupported h = refl
refused_form Raw h = refl
refused_form (One ps) h = absurd h
refused_form (Variants forms) h = absurd h

pub form_refused : (t : Map) (index : ℕ) (c : Cause) → MetForm t index c → form_of t.language (look t index) ≡ refused Parsed c
form_refused t index c (inl (inl m)) = rw (m.0, m.1) refl
form_refused t index c (inl (inr m)) = rw (m.1, m.2, m.3) refl
form_refused t index c (inr m) = rw (m.1, m.2, refused_form (body_of t.language m.0) m.3, m.4) refl

-- ---- the own entries of frames, and of stamps

one_is : (body : Parsed) (ps : List Piece) → one_in body ≡ done ps → body ≡ One ps
one_is Unsupported ps h = absurd (cc)
one_is Raw ps h = absurd (cc)
one_is (One qs) ps h = ap (λ q. One q) (same qs ps h)
one_is (Variants forms) ps h = absurd (cc)

not_one : (body : Parsed) (c : Cause) → one_in body ≡ refused (List Piece) c → IsNotOne body × (c ≡ causes.Unsupported)
not_one Unsupported c h = (tt, sym (same_cause {A = List Piece} causes.Unsupported c h))
not_one Raw c h = (tt, sym (same_cause {A = List Piece} causes.Unsupported c h))
not_one (One ps) c h = absurd (cc)
not_one (Variants forms) c h = (tt, sym (same_cause {A = List Piece} causes.Unsupported c h))

refused_one : (body : Parsed) → IsNotOne body → one_in body ≡ refused (List Piece) causes.Unsupported
refused_one Unsupported h = refl
refused_one Raw h = refl
refused_one (One ps) h = absurd h
refused_one (Variants forms) h = refl

own_by : (t : Map) (index : ℕ) (ps : List Piece) (o : Option Entry) → look t index ≡ o → logged_of t.language o ≡ done ps → IsOwn t index ps
own_by t index ps None l h = absurd (cc)
own_by t index ps (Some e) l h =
    let b = bound (suited (is_logged e.tag) e.tag) (λ _. one_in (body_of t.language e)) ps h in
    record { entry = e; there = l; tag = suits (is_logged e.tag) e.tag b.1; body = one_is (body_of t.language e) ps b.2 }

pub own_found : (t : Map) (index : ℕ) (ps : List Piece) → logged_of t.language (look t index) ≡ done ps → IsOwn t index ps
own_found t index ps h = own_by t index ps (look t index) refl h

no_own_by : (t : Map) (index : ℕ) (c : Cause) (o : Option Entry) → look t index ≡ o → logged_of t.language o ≡ refused (List Piece) c → MetOwn t index c
no_own_by t index c None l h = inl (inl (l, sym (same_cause {A = List Piece} causes.NoEntry c h)))
no_own_by t index c (Some e) l h = elim (broken (suited (is_logged e.tag) e.tag) (λ _. one_in (body_of t.language e)) c h) [
  | inl k ↦ let p = unsuited (is_logged e.tag) e.tag c k in inl (inr (e, l, p.0, p.1))
  | inr k ↦ let p = not_one (body_of t.language e) c k.2 in inr (e, l, suits (is_logged e.tag) e.tag k.1, p.0, p.1)
]

pub own_broken : (t : Map) (index : ℕ) (c : Cause) → logged_of t.language (look t index) ≡ refused (List Piece) c → MetOwn t index c
own_broken t index c h = no_own_by t index c (look t index) refl h

pub own_back : (t : Map) (index : ℕ) (ps : List Piece) → IsOwn t index ps → logged_of t.language (look t index) ≡ done ps
own_back t index ps o = rw (o.there, o.tag, o.body) refl

pub own_refused : (t : Map) (index : ℕ) (c : Cause) → MetOwn t index c → logged_of t.language (look t index) ≡ refused (List Piece) c
own_refused t index c (inl (inl m)) = rw (m.0, m.1) refl
own_refused t index c (inl (inr m)) = rw (m.1, m.2, m.3) refl
own_refused t index c (inr m) = rw (m.1, m.2, refused_one (body_of t.language m.0) m.3, m.4) refl

pub stamp_found : (l : Language) (e : Entry) (ps : List Piece) → stamp_form l (Some e) ≡ done ps → body_of l e ≡ One ps
stamp_found l e ps h = one_is (body_of l e) ps h

pub stamp_broken : (l : Language) (e : Entry) (c : Cause) → stamp_form l (Some e) ≡ refused (List Piece) c → IsNotOne (body_of l e) × (c ≡ causes.Unsupported)
stamp_broken l e c h = not_one (body_of l e) c h

pub stamp_refused : (l : Language) (e : Entry) → IsNotOne (body_of l e) → stamp_form l (Some e) ≡ refused (List Piece) causes.Unsupported
stamp_refused l e h = refused_one (body_of l e) h
