-- What a spelled shape's text begins with, whatever follows.
use Rattle.std.proofs.Common.{◌≡◌, ℕ, List, [], ◌∷◌, ◌++◌, refl, sym, ap, subst, ◌∙◌, append_assoc}
use Rattle.defmt_grammar.specs.declared.language.Language.{Language}
use Rattle.defmt_grammar.specs.declared.language.Language.TheVariants.{Base, Full}
use Rattle.defmt_shapes.specs.Shape.{Shape, SpellsShape, flag_word}
use Rattle.defmt_shapes.specs.Shape as shapes
use Rattle.defmt_shapes.specs.Leads.{Lead, decimal, hexadecimal, negative, flag, character, quoted, interned, bytes, empty, float, call, sequence, nodes, IsLead, IsLeadIn, Leads}
use Rattle.defmt_shapes.proofs.FullLeads.{angle_in, float_in, lead_in, settled}
use Rattle.defmt_shapes.proofs.LeadAgain.{begins, decimal_leads, hexadecimal_leads, negative_leads, flag_leads, character_leads, quoted_leads, interned_leads, bytes_leads, empty_leads, call_leads, sequence_leads, stops_digits}
use Rattle.defmt_shapes.proofs.LeadForms.{StopsThere}

pub record Begins (lang : Language) (s : Shape) (text rest : List ℕ) : Type 0 where
  pub lead : Lead
  pub after : List ℕ
  pub is_lead : IsLeadIn lang text (begins lead after)
  pub leads : Leads lang lead after rest s

at_front : (lang : Language) (s : Shape) (text front whole rest : List ℕ) (lead : Lead) (after : List ℕ) → text ≡ front → front ++ rest ≡ whole → IsLead whole (begins lead after) → Leads lang lead after rest s → StopsThere rest → Begins lang s (text ++ rest) rest
at_front lang s text front whole rest lead after e f h k stops = record {
  lead = lead;
  after = after;
  is_lead = subst (λ (t : List ℕ). IsLeadIn lang t (begins lead after)) (sym (ap (λ (t : List ℕ). t ++ rest) e ∙ f)) (lead_in lang whole after lead h (settled lang lead after rest s k stops));
  leads = k;
}

closing : (inside rest : List ℕ) (c : ℕ) → (inside ++ c ∷ []) ++ rest ≡ inside ++ c ∷ rest
closing inside rest c = append_assoc inside (c ∷ []) rest

-- what a shape's text begins with
pub begins_with : (lang : Language) (s : Shape) (text rest : List ℕ) → SpellsShape lang text s → StopsThere rest → Begins lang s (text ++ rest) rest
begins_with lang (shapes.decimal n) text rest h stops = at_front lang (shapes.decimal n) text text (text ++ rest) rest (decimal text) rest refl refl (decimal_leads text rest n h (stops_digits rest stops)) (n, refl, h, refl) stops
begins_with lang (shapes.hexadecimal n) text rest (digits, h, e) stops = at_front lang (shapes.hexadecimal n) text (48 ∷ 120 ∷ digits) (48 ∷ 120 ∷ (digits ++ rest)) rest (hexadecimal digits) rest e refl (hexadecimal_leads digits rest n h stops) (n, refl, h, refl) stops
begins_with lang (shapes.negative n) text rest (digits, h, e) stops = at_front lang (shapes.negative n) text (45 ∷ digits) (45 ∷ (digits ++ rest)) rest (negative digits) rest e refl (negative_leads digits rest n h (stops_digits rest stops).fails) (n, refl, h, refl) stops
begins_with lang (shapes.flag b) text rest e stops = at_front lang (shapes.flag b) text (flag_word b) (flag_word b ++ rest) rest (flag b) rest e refl (flag_leads b rest stops) (refl, refl) stops
begins_with lang (shapes.character c) text rest (inside, h, e) stops = at_front lang (shapes.character c) text (39 ∷ (inside ++ 39 ∷ [])) (39 ∷ (inside ++ 39 ∷ rest)) rest (character c) rest e (ap (λ (t : List ℕ). 39 ∷ t) (closing inside rest 39)) (character_leads inside rest c h) (refl, refl) stops
begins_with lang (shapes.quoted s) text rest (inside, h, e) stops = at_front lang (shapes.quoted s) text (34 ∷ (inside ++ 34 ∷ [])) (34 ∷ (inside ++ 34 ∷ rest)) rest (quoted inside) rest e (ap (λ (t : List ℕ). 34 ∷ t) (closing inside rest 34)) (quoted_leads inside rest h.0 h.1) (s, refl, h, refl) stops
begins_with lang (shapes.interned name) text rest (h, e) stops = at_front lang (shapes.interned name) text (64 ∷ name) (64 ∷ (name ++ rest)) rest (interned name) rest e refl (interned_leads name rest h stops) (refl, refl) stops
begins_with lang (shapes.bytes bs) text rest (digits, h, e) stops = at_front lang (shapes.bytes bs) text (35 ∷ digits) (35 ∷ (digits ++ rest)) rest (bytes digits) rest e refl (bytes_leads digits rest bs h stops) (bs, refl, h, refl) stops
begins_with lang shapes.empty text rest e stops = at_front lang shapes.empty text (91 ∷ 93 ∷ []) (91 ∷ 93 ∷ rest) rest empty rest e refl (empty_leads rest) (refl, refl) stops
begins_with lang (shapes.call name variant ss) text rest (mark, inside, h, k, spelled, e) stops =
    let c = call_leads name mark (inside ++ 41 ∷ rest) variant h k in
    at_front lang (shapes.call name variant ss) text (name ++ (mark ++ 40 ∷ (inside ++ 41 ∷ []))) (name ++ (mark ++ 40 ∷ (inside ++ 41 ∷ rest))) rest (call name c.0) (inside ++ 41 ∷ rest) e
    (append_assoc name (mark ++ 40 ∷ (inside ++ 41 ∷ [])) rest
    ∙ ap (λ (t : List ℕ). name ++ t) (append_assoc mark (40 ∷ (inside ++ 41 ∷ [])) rest ∙ ap (λ (t : List ℕ). mark ++ 40 ∷ t) (closing inside rest 41)))
    c.2 (variant, ss, inside, refl, c.1, spelled, refl) stops
begins_with lang (shapes.sequence name items) text rest (inside, h, starts, spelled, e) stops =
    at_front lang (shapes.sequence name items) text (name ++ 91 ∷ (inside ++ 93 ∷ [])) (name ++ 91 ∷ (inside ++ 93 ∷ rest)) rest (sequence name) (inside ++ 93 ∷ rest) e
    (append_assoc name (91 ∷ (inside ++ 93 ∷ [])) rest ∙ ap (λ (t : List ℕ). name ++ 91 ∷ t) (closing inside rest 93))
    (sequence_leads name (inside ++ 93 ∷ rest) h) (items, inside, refl, starts, spelled, refl) stops
begins_with Base (shapes.float t) text rest h stops = absurd h.0
begins_with Full (shapes.float t) text rest (full, h, e) stops = record {
  lead = float t;
  after = rest;
  is_lead = subst (λ (x : List ℕ). IsLeadIn Full (x ++ rest) (begins (float t) rest)) (sym e) (float_in t rest h stops);
  leads = (refl, tt, h, refl);
}
begins_with Base (shapes.nodes ss) text rest (inside, full, calls, spelled, e) stops = absurd full
begins_with Full (shapes.nodes ss) text rest (inside, full, calls, spelled, e) stops = record {
  lead = nodes;
  after = inside ++ 62 ∷ rest;
  is_lead = subst (λ (x : List ℕ). IsLeadIn Full x (begins nodes (inside ++ 62 ∷ rest))) (sym (ap (λ (x : List ℕ). x ++ rest) e ∙ ap (λ (x : List ℕ). 60 ∷ x) (closing inside rest 62))) (angle_in (inside ++ 62 ∷ rest));
  leads = (ss, inside, refl, tt, calls, spelled, refl);
}
