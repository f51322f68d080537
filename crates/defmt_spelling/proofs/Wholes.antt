-- All arguments of a statement.
use Rattle.std.proofs.Common.{◌≡◌, inl, inr, ℕ, List, Result, Ok, Err, refl, sym, ap, subst, ◌∙◌, arith}
use Rattle.std.specs.Prelude.{IfOk}
use Rattle.defmt_grammar.specs.declared.piece.Piece.{Piece}
use Rattle.defmt_grammar.specs.declared.language.Language.{Language}
use Rattle.defmt_intern.specs.Table.{Map}
use Rattle.defmt_shapes.specs.Shape.{Shape, HeadShape}
use Rattle.defmt_spelling.proofs.Fronts.{first_found, first_scanned}
use Rattle.defmt_spelling.proofs.Loops.{one_shapes, fault_scan, one_fault}
use Rattle.defmt_spelling.specs.Meaning.{meant_vals}
use Rattle.defmt_spelling.specs.Names.{NameMap}
use Rattle.defmt_spelling.specs.Reading.{Means, ReadsValues, Reads, GivesOnly}
use Rattle.defmt_spelling.specs.Spelling.{Spelled, FirstFault, ArgumentFault, ReadsArguments}
use Rattle.defmt_spelling.specs.declared.fault.ArgFault.{ArgFault}
use Rattle.defmt_spelling.specs.declared.fault.ArgFault.TheVariants.{Refused, Memory}
use Rattle.defmt_values.proofs.Again.{fits_found, fits_again}
use Rattle.defmt_values.proofs.Found.{bound}
use Rattle.defmt_values.specs.Entries.{look, places_of}
use Rattle.defmt_values.specs.Fits.{Fits}
use Rattle.defmt_values.specs.Plain.{Vals}
use Rattle.defmt_values.specs.Scan.{scan_vals, scan_own, own_form, own_cause}

abbrev pieces_are : List Piece → Result (List Piece) ℕ
pieces_are ps = Ok ps

abbrev no_pieces : ℕ → Result (List Piece) ℕ
no_pieces c = Err c

same_pieces : (x : Result (List Piece) ℕ) (ps qs : List Piece) → x ≡ pieces_are ps → x ≡ pieces_are qs → ps ≡ qs
same_pieces x ps qs h k = cc

same_cause : (x : Result (List Piece) ℕ) (c d : ℕ) → x ≡ no_pieces c → x ≡ no_pieces d → c ≡ d
same_cause x c d h k = cc

never_both : (x : Result (List Piece) ℕ) (ps : List Piece) (c : ℕ) → x ≡ pieces_are ps → x ≡ no_pieces c → ⊥
never_both x ps c h k = cc

abbrev sum_is : ℕ → Result ℕ ℕ
sum_is n = Ok n

abbrev no_sum : ℕ → Result ℕ ℕ
no_sum c = Err c

never_sum : (x : Result ℕ ℕ) (n c : ℕ) → x ≡ sum_is n → x ≡ no_sum c → ⊥
never_sum x n c h k = cc

own_is : (t : Map) (index : ℕ) (vs : Vals) (f : Fits t index vs) → own_form t.language (look t index) ≡ Ok f.pieces
own_is t index vs f = rw (f.there, f.body) refl

pub spelled_of : (names : NameMap) (t : Map) (index : ℕ) (text : List ℕ) (ps : List Piece) (vs : Vals) (next : ℕ) → own_form t.language (look t index) ≡ Ok ps → Means names t 16 1 (places_of ps) 0 text vs next → Spelled names t index text vs
spelled_of names t index text ps vs next own m =
    let passed : own_cause t index vs ≡ Ok tt = rw (own, m.fits) refl in
    let fits : Fits t index vs = fits_found t index vs (Ok tt) (sym passed) tt refl in
    let same : fits.pieces ≡ ps = same_pieces (own_form t.language (look t index)) fits.pieces ps (own_is t index vs fits) own in
    record { fits = fits; shapes = m.shapes; spelled = m.spelled; meant = ap (λ (qs : List Piece). meant_vals names t (places_of qs) m.shapes) same ∙ m.meant }

-- why the arguments of a statement aren't read
pub whole_refused : (names : NameMap) (t : Map) (index : ℕ) (text : List ℕ) (ps : List Piece) (fault : ArgFault) → own_form t.language (look t index) ≡ Ok ps → ReadsValues names t 16 1 (places_of ps) 0 text (Err fault) → Reads names t index text (Err fault)
whole_refused names t index text ps (Refused c) own h = inr (ps, own, first_found names t 16 1 (places_of ps) 0 text c (omega arith) h)
whole_refused names t index text ps Memory own h = tt

-- the sum of the weights
record Summed (t : Map) (index : ℕ) (vs : Vals) (ps : List Piece) : Type 0 where
  sum : ℕ
  is : scan_vals t 16 (places_of ps) 1 0 vs ≡ Ok sum

summed : (t : Map) (index : ℕ) (vs : Vals) (f : Fits t index vs) → Summed t index vs f.pieces
summed t index vs f =
    let a = bound (scan_own t index vs) (λ sum. Ok tt) tt (fits_again t index vs f) in
    let b = bound (own_form t.language (look t index)) (λ ps. scan_vals t 16 (places_of ps) 1 0 vs) a.0 a.1 in
    let same : b.0 ≡ f.pieces = same_pieces (own_form t.language (look t index)) b.0 f.pieces b.1 (own_is t index vs f) in
    record { sum = a.0; is = ap (λ (ps : List Piece). scan_vals t 16 (places_of ps) 1 0 vs) (sym same) ∙ b.2 }

module _ (one : (lang : Language) (text : List ℕ) (s r : Shape) (rest after : List ℕ) → HeadShape lang text s rest → HeadShape lang text r after → (s ≡ r) × (rest ≡ after)) (names : NameMap) (t : Map) (index : ℕ) (text : List ℕ) where
  one_spelled : (vs ws : Vals) → Spelled names t index text vs → Spelled names t index text ws → vs ≡ ws
  one_spelled vs ws a b =
      let pieces : a.fits.pieces ≡ b.fits.pieces = same_pieces (own_form t.language (look t index)) a.fits.pieces b.fits.pieces (own_is t index vs a.fits) (own_is t index ws b.fits) in
      let shapes : a.shapes ≡ b.shapes = one_shapes names t 16 1 (one t.language) text a.shapes b.shapes a.spelled b.spelled in
      sym a.meant ∙ ap (λ (ps : List Piece). meant_vals names t (places_of ps) a.shapes) pieces ∙ ap (meant_vals names t (places_of b.fits.pieces)) shapes ∙ b.meant

  never_refused : (vs : Vals) (c : ℕ) → Spelled names t index text vs → ArgumentFault names t index text c → ⊥
  never_refused vs c a (inl own) = never_both (own_form t.language (look t index)) a.fits.pieces c (own_is t index vs a.fits) own
  never_refused vs c a (inr h) =
      let pieces : h.0 ≡ a.fits.pieces = same_pieces (own_form t.language (look t index)) h.0 a.fits.pieces h.1 (own_is t index vs a.fits) in
      let fault : FirstFault names t 16 1 (places_of a.fits.pieces) 0 text c = subst (λ (ps : List Piece). FirstFault names t 16 1 (places_of ps) 0 text c) pieces h.2 in
      let refused : scan_vals t 16 (places_of a.fits.pieces) 1 0 (meant_vals names t (places_of a.fits.pieces) a.shapes) ≡ Err c = fault_scan names t 16 1 (one t.language) (places_of a.fits.pieces) 0 text c a.shapes (first_scanned names t 16 1 (places_of a.fits.pieces) 0 text c fault) a.spelled in
      let s = summed t index vs a.fits in
      never_sum (scan_vals t 16 (places_of a.fits.pieces) 1 0 vs) s.sum c s.is (ap (scan_vals t 16 (places_of a.fits.pieces) 1 0) (sym a.meant) ∙ refused)

  one_cause : (c d : ℕ) → ArgumentFault names t index text c → ArgumentFault names t index text d → c ≡ d
  one_cause c d (inl a) (inl b) = same_cause (own_form t.language (look t index)) c d a b
  one_cause c d (inl a) (inr b) = absurd (never_both (own_form t.language (look t index)) b.0 c b.1 a)
  one_cause c d (inr a) (inl b) = absurd (never_both (own_form t.language (look t index)) a.0 d a.1 b)
  one_cause c d (inr a) (inr b) =
      let pieces : a.0 ≡ b.0 = same_pieces (own_form t.language (look t index)) a.0 b.0 a.1 b.1 in
      let first : FirstFault names t 16 1 (places_of b.0) 0 text c = subst (λ (ps : List Piece). FirstFault names t 16 1 (places_of ps) 0 text c) pieces a.2 in
      one_fault names t 16 1 (one t.language) (places_of b.0) 0 text c d (first_scanned names t 16 1 (places_of b.0) 0 text c first) (first_scanned names t 16 1 (places_of b.0) 0 text d b.2)

  pub one_reading : (a b : Result Vals ℕ) → ReadsArguments names t index text a → ReadsArguments names t index text b → a ≡ b
  one_reading (Ok vs) (Ok ws) a b = ap Ok (one_spelled vs ws a b)
  one_reading (Ok vs) (Err d) a b = absurd (never_refused vs d a b)
  one_reading (Err c) (Ok ws) a b = absurd (never_refused ws c b a)
  one_reading (Err c) (Err d) a b = ap Err (one_cause c d a b)

  pub gives_only : (result : Result Vals ArgFault) → Reads names t index text result → (read : Result Vals ℕ) → ReadsArguments names t index text read → GivesOnly result read
  gives_only (Ok vs) a read h = one_reading (Ok vs) read a h
  gives_only (Err (Refused c)) a read h = one_reading (Err c) read a h
  gives_only (Err Memory) a read h = tt

pub read_fits : (names : NameMap) (t : Map) (index : ℕ) (text : List ℕ) (result : Result Vals ArgFault) → Reads names t index text result → IfOk result (λ vs. Fits t index vs)
read_fits names t index text (Ok vs) a = a.fits
read_fits names t index text (Err fault) a = tt
