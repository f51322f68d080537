-- How the logic stores plain values: a number for each kind, and what the value holds.
use Rattle.std.proofs.Common.{◌≡◌, ◌≢◌, ℕ, refl, ap, arith}
use Rattle.std.specs.Coded.{Coded, coded_ℕ, coded_ℤ, coded_bool, coded_list, coded_option}
use base.Stored.{Gv, gnil, gnum, gcons}
use Rattle.defmt_values.specs.Plain.{Val, uint, int, flag, char, str, istr, bytes, bits, format, seq, float, sequence, Vals, no_vals, val, Elems, no_elems, elem, Nodes, no_nodes, node}

abbrev head : Gv → Gv
head gnil = gnil
head (gnum n) = gnil
head (gcons a b) = a

abbrev tail : Gv → Gv
tail gnil = gnil
tail (gnum n) = gnil
tail (gcons a b) = b

apart : (m n : ℕ) {a b : Gv} → gcons (gnum m) a ≡ gcons (gnum n) b → m ≢ n → ⊥
apart m n p other = other (cc)

abbrev mutual
  pub val_code : Val → Gv
  val_code (uint a0) = gcons (gnum 0) (coded_ℕ.code a0)
  val_code (int a0) = gcons (gnum 1) (coded_ℤ.code a0)
  val_code (flag a0) = gcons (gnum 2) (coded_bool.code a0)
  val_code (char a0) = gcons (gnum 3) (coded_ℕ.code a0)
  val_code (str a0) = gcons (gnum 4) ((coded_list coded_ℕ).code a0)
  val_code (istr a0) = gcons (gnum 5) (coded_ℕ.code a0)
  val_code (bytes a0) = gcons (gnum 6) ((coded_list coded_ℕ).code a0)
  val_code (bits a0) = gcons (gnum 7) (coded_ℕ.code a0)
  val_code (format a0 a1 a2) =
      gcons (gnum 8)
      (gcons (coded_ℕ.code a0) (gcons ((coded_option coded_ℕ).code a1) (vals_code a2)))
  val_code (seq a0 a1) = gcons (gnum 9) (gcons ((coded_option coded_ℕ).code a0) (elems_code a1))
  val_code (float a0) = gcons (gnum 10) (coded_ℕ.code a0)
  val_code (sequence a0) = gcons (gnum 11) (nodes_code a0)

  pub vals_code : Vals → Gv
  vals_code no_vals = gnil
  vals_code (val v vs) = gcons (val_code v) (vals_code vs)

  pub elems_code : Elems → Gv
  elems_code no_elems = gnil
  elems_code (elem o vs es) =
      gcons ((coded_option coded_ℕ).code o) (gcons (vals_code vs) (elems_code es))

  pub nodes_code : Nodes → Gv
  nodes_code no_nodes = gnil
  nodes_code (node i o vs ns) =
      gcons (coded_ℕ.code i)
      (gcons ((coded_option coded_ℕ).code o) (gcons (vals_code vs) (nodes_code ns)))

mutual
  pub val_inj : (x y : Val) → val_code x ≡ val_code y → x ≡ y
  val_inj (uint a0) (uint b0) p = λ i. uint (coded_ℕ.inj a0 b0 (ap (λ g. tail g) p) i)
  val_inj (uint a0) (int b0) p = absurd (apart 0 1 p (omega arith))
  val_inj (uint a0) (flag b0) p = absurd (apart 0 2 p (omega arith))
  val_inj (uint a0) (char b0) p = absurd (apart 0 3 p (omega arith))
  val_inj (uint a0) (str b0) p = absurd (apart 0 4 p (omega arith))
  val_inj (uint a0) (istr b0) p = absurd (apart 0 5 p (omega arith))
  val_inj (uint a0) (bytes b0) p = absurd (apart 0 6 p (omega arith))
  val_inj (uint a0) (bits b0) p = absurd (apart 0 7 p (omega arith))
  val_inj (uint a0) (format b0 b1 b2) p = absurd (apart 0 8 p (omega arith))
  val_inj (uint a0) (seq b0 b1) p = absurd (apart 0 9 p (omega arith))
  val_inj (uint a0) (float b0) p = absurd (apart 0 10 p (omega arith))
  val_inj (uint a0) (sequence b0) p = absurd (apart 0 11 p (omega arith))
  val_inj (int a0) (uint b0) p = absurd (apart 1 0 p (omega arith))
  val_inj (int a0) (int b0) p = λ i. int (coded_ℤ.inj a0 b0 (ap (λ g. tail g) p) i)
  val_inj (int a0) (flag b0) p = absurd (apart 1 2 p (omega arith))
  val_inj (int a0) (char b0) p = absurd (apart 1 3 p (omega arith))
  val_inj (int a0) (str b0) p = absurd (apart 1 4 p (omega arith))
  val_inj (int a0) (istr b0) p = absurd (apart 1 5 p (omega arith))
  val_inj (int a0) (bytes b0) p = absurd (apart 1 6 p (omega arith))
  val_inj (int a0) (bits b0) p = absurd (apart 1 7 p (omega arith))
  val_inj (int a0) (format b0 b1 b2) p = absurd (apart 1 8 p (omega arith))
  val_inj (int a0) (seq b0 b1) p = absurd (apart 1 9 p (omega arith))
  val_inj (int a0) (float b0) p = absurd (apart 1 10 p (omega arith))
  val_inj (int a0) (sequence b0) p = absurd (apart 1 11 p (omega arith))
  val_inj (flag a0) (uint b0) p = absurd (apart 2 0 p (omega arith))
  val_inj (flag a0) (int b0) p = absurd (apart 2 1 p (omega arith))
  val_inj (flag a0) (flag b0) p = λ i. flag (coded_bool.inj a0 b0 (ap (λ g. tail g) p) i)
  val_inj (flag a0) (char b0) p = absurd (apart 2 3 p (omega arith))
  val_inj (flag a0) (str b0) p = absurd (apart 2 4 p (omega arith))
  val_inj (flag a0) (istr b0) p = absurd (apart 2 5 p (omega arith))
  val_inj (flag a0) (bytes b0) p = absurd (apart 2 6 p (omega arith))
  val_inj (flag a0) (bits b0) p = absurd (apart 2 7 p (omega arith))
  val_inj (flag a0) (format b0 b1 b2) p = absurd (apart 2 8 p (omega arith))
  val_inj (flag a0) (seq b0 b1) p = absurd (apart 2 9 p (omega arith))
  val_inj (flag a0) (float b0) p = absurd (apart 2 10 p (omega arith))
  val_inj (flag a0) (sequence b0) p = absurd (apart 2 11 p (omega arith))
  val_inj (char a0) (uint b0) p = absurd (apart 3 0 p (omega arith))
  val_inj (char a0) (int b0) p = absurd (apart 3 1 p (omega arith))
  val_inj (char a0) (flag b0) p = absurd (apart 3 2 p (omega arith))
  val_inj (char a0) (char b0) p = λ i. char (coded_ℕ.inj a0 b0 (ap (λ g. tail g) p) i)
  val_inj (char a0) (str b0) p = absurd (apart 3 4 p (omega arith))
  val_inj (char a0) (istr b0) p = absurd (apart 3 5 p (omega arith))
  val_inj (char a0) (bytes b0) p = absurd (apart 3 6 p (omega arith))
  val_inj (char a0) (bits b0) p = absurd (apart 3 7 p (omega arith))
  val_inj (char a0) (format b0 b1 b2) p = absurd (apart 3 8 p (omega arith))
  val_inj (char a0) (seq b0 b1) p = absurd (apart 3 9 p (omega arith))
  val_inj (char a0) (float b0) p = absurd (apart 3 10 p (omega arith))
  val_inj (char a0) (sequence b0) p = absurd (apart 3 11 p (omega arith))
  val_inj (str a0) (uint b0) p = absurd (apart 4 0 p (omega arith))
  val_inj (str a0) (int b0) p = absurd (apart 4 1 p (omega arith))
  val_inj (str a0) (flag b0) p = absurd (apart 4 2 p (omega arith))
  val_inj (str a0) (char b0) p = absurd (apart 4 3 p (omega arith))
  val_inj (str a0) (str b0) p = λ i. str ((coded_list coded_ℕ).inj a0 b0 (ap (λ g. tail g) p) i)
  val_inj (str a0) (istr b0) p = absurd (apart 4 5 p (omega arith))
  val_inj (str a0) (bytes b0) p = absurd (apart 4 6 p (omega arith))
  val_inj (str a0) (bits b0) p = absurd (apart 4 7 p (omega arith))
  val_inj (str a0) (format b0 b1 b2) p = absurd (apart 4 8 p (omega arith))
  val_inj (str a0) (seq b0 b1) p = absurd (apart 4 9 p (omega arith))
  val_inj (str a0) (float b0) p = absurd (apart 4 10 p (omega arith))
  val_inj (str a0) (sequence b0) p = absurd (apart 4 11 p (omega arith))
  val_inj (istr a0) (uint b0) p = absurd (apart 5 0 p (omega arith))
  val_inj (istr a0) (int b0) p = absurd (apart 5 1 p (omega arith))
  val_inj (istr a0) (flag b0) p = absurd (apart 5 2 p (omega arith))
  val_inj (istr a0) (char b0) p = absurd (apart 5 3 p (omega arith))
  val_inj (istr a0) (str b0) p = absurd (apart 5 4 p (omega arith))
  val_inj (istr a0) (istr b0) p = λ i. istr (coded_ℕ.inj a0 b0 (ap (λ g. tail g) p) i)
  val_inj (istr a0) (bytes b0) p = absurd (apart 5 6 p (omega arith))
  val_inj (istr a0) (bits b0) p = absurd (apart 5 7 p (omega arith))
  val_inj (istr a0) (format b0 b1 b2) p = absurd (apart 5 8 p (omega arith))
  val_inj (istr a0) (seq b0 b1) p = absurd (apart 5 9 p (omega arith))
  val_inj (istr a0) (float b0) p = absurd (apart 5 10 p (omega arith))
  val_inj (istr a0) (sequence b0) p = absurd (apart 5 11 p (omega arith))
  val_inj (bytes a0) (uint b0) p = absurd (apart 6 0 p (omega arith))
  val_inj (bytes a0) (int b0) p = absurd (apart 6 1 p (omega arith))
  val_inj (bytes a0) (flag b0) p = absurd (apart 6 2 p (omega arith))
  val_inj (bytes a0) (char b0) p = absurd (apart 6 3 p (omega arith))
  val_inj (bytes a0) (str b0) p = absurd (apart 6 4 p (omega arith))
  val_inj (bytes a0) (istr b0) p = absurd (apart 6 5 p (omega arith))
  val_inj (bytes a0) (bytes b0) p =
      λ i. bytes ((coded_list coded_ℕ).inj a0 b0 (ap (λ g. tail g) p) i)
  val_inj (bytes a0) (bits b0) p = absurd (apart 6 7 p (omega arith))
  val_inj (bytes a0) (format b0 b1 b2) p = absurd (apart 6 8 p (omega arith))
  val_inj (bytes a0) (seq b0 b1) p = absurd (apart 6 9 p (omega arith))
  val_inj (bytes a0) (float b0) p = absurd (apart 6 10 p (omega arith))
  val_inj (bytes a0) (sequence b0) p = absurd (apart 6 11 p (omega arith))
  val_inj (bits a0) (uint b0) p = absurd (apart 7 0 p (omega arith))
  val_inj (bits a0) (int b0) p = absurd (apart 7 1 p (omega arith))
  val_inj (bits a0) (flag b0) p = absurd (apart 7 2 p (omega arith))
  val_inj (bits a0) (char b0) p = absurd (apart 7 3 p (omega arith))
  val_inj (bits a0) (str b0) p = absurd (apart 7 4 p (omega arith))
  val_inj (bits a0) (istr b0) p = absurd (apart 7 5 p (omega arith))
  val_inj (bits a0) (bytes b0) p = absurd (apart 7 6 p (omega arith))
  val_inj (bits a0) (bits b0) p = λ i. bits (coded_ℕ.inj a0 b0 (ap (λ g. tail g) p) i)
  val_inj (bits a0) (format b0 b1 b2) p = absurd (apart 7 8 p (omega arith))
  val_inj (bits a0) (seq b0 b1) p = absurd (apart 7 9 p (omega arith))
  val_inj (bits a0) (float b0) p = absurd (apart 7 10 p (omega arith))
  val_inj (bits a0) (sequence b0) p = absurd (apart 7 11 p (omega arith))
  val_inj (format a0 a1 a2) (uint b0) p = absurd (apart 8 0 p (omega arith))
  val_inj (format a0 a1 a2) (int b0) p = absurd (apart 8 1 p (omega arith))
  val_inj (format a0 a1 a2) (flag b0) p = absurd (apart 8 2 p (omega arith))
  val_inj (format a0 a1 a2) (char b0) p = absurd (apart 8 3 p (omega arith))
  val_inj (format a0 a1 a2) (str b0) p = absurd (apart 8 4 p (omega arith))
  val_inj (format a0 a1 a2) (istr b0) p = absurd (apart 8 5 p (omega arith))
  val_inj (format a0 a1 a2) (bytes b0) p = absurd (apart 8 6 p (omega arith))
  val_inj (format a0 a1 a2) (bits b0) p = absurd (apart 8 7 p (omega arith))
  val_inj (format a0 a1 a2) (format b0 b1 b2) p =
      λ i. format (coded_ℕ.inj a0 b0 (ap (λ g. head (tail g)) p) i)
      ((coded_option coded_ℕ).inj a1 b1 (ap (λ g. head (tail (tail g))) p) i)
      (vals_inj a2 b2 (ap (λ g. tail (tail (tail g))) p) i)
  val_inj (format a0 a1 a2) (seq b0 b1) p = absurd (apart 8 9 p (omega arith))
  val_inj (format a0 a1 a2) (float b0) p = absurd (apart 8 10 p (omega arith))
  val_inj (format a0 a1 a2) (sequence b0) p = absurd (apart 8 11 p (omega arith))
  val_inj (seq a0 a1) (uint b0) p = absurd (apart 9 0 p (omega arith))
  val_inj (seq a0 a1) (int b0) p = absurd (apart 9 1 p (omega arith))
  val_inj (seq a0 a1) (flag b0) p = absurd (apart 9 2 p (omega arith))
  val_inj (seq a0 a1) (char b0) p = absurd (apart 9 3 p (omega arith))
  val_inj (seq a0 a1) (str b0) p = absurd (apart 9 4 p (omega arith))
  val_inj (seq a0 a1) (istr b0) p = absurd (apart 9 5 p (omega arith))
  val_inj (seq a0 a1) (bytes b0) p = absurd (apart 9 6 p (omega arith))
  val_inj (seq a0 a1) (bits b0) p = absurd (apart 9 7 p (omega arith))
  val_inj (seq a0 a1) (format b0 b1 b2) p = absurd (apart 9 8 p (omega arith))
  val_inj (seq a0 a1) (seq b0 b1) p =
      λ i. seq ((coded_option coded_ℕ).inj a0 b0 (ap (λ g. head (tail g)) p) i)
      (elems_inj a1 b1 (ap (λ g. tail (tail g)) p) i)
  val_inj (seq a0 a1) (float b0) p = absurd (apart 9 10 p (omega arith))
  val_inj (seq a0 a1) (sequence b0) p = absurd (apart 9 11 p (omega arith))
  val_inj (float a0) (uint b0) p = absurd (apart 10 0 p (omega arith))
  val_inj (float a0) (int b0) p = absurd (apart 10 1 p (omega arith))
  val_inj (float a0) (flag b0) p = absurd (apart 10 2 p (omega arith))
  val_inj (float a0) (char b0) p = absurd (apart 10 3 p (omega arith))
  val_inj (float a0) (str b0) p = absurd (apart 10 4 p (omega arith))
  val_inj (float a0) (istr b0) p = absurd (apart 10 5 p (omega arith))
  val_inj (float a0) (bytes b0) p = absurd (apart 10 6 p (omega arith))
  val_inj (float a0) (bits b0) p = absurd (apart 10 7 p (omega arith))
  val_inj (float a0) (format b0 b1 b2) p = absurd (apart 10 8 p (omega arith))
  val_inj (float a0) (seq b0 b1) p = absurd (apart 10 9 p (omega arith))
  val_inj (float a0) (float b0) p = λ i. float (coded_ℕ.inj a0 b0 (ap (λ g. tail g) p) i)
  val_inj (float a0) (sequence b0) p = absurd (apart 10 11 p (omega arith))
  val_inj (sequence a0) (uint b0) p = absurd (apart 11 0 p (omega arith))
  val_inj (sequence a0) (int b0) p = absurd (apart 11 1 p (omega arith))
  val_inj (sequence a0) (flag b0) p = absurd (apart 11 2 p (omega arith))
  val_inj (sequence a0) (char b0) p = absurd (apart 11 3 p (omega arith))
  val_inj (sequence a0) (str b0) p = absurd (apart 11 4 p (omega arith))
  val_inj (sequence a0) (istr b0) p = absurd (apart 11 5 p (omega arith))
  val_inj (sequence a0) (bytes b0) p = absurd (apart 11 6 p (omega arith))
  val_inj (sequence a0) (bits b0) p = absurd (apart 11 7 p (omega arith))
  val_inj (sequence a0) (format b0 b1 b2) p = absurd (apart 11 8 p (omega arith))
  val_inj (sequence a0) (seq b0 b1) p = absurd (apart 11 9 p (omega arith))
  val_inj (sequence a0) (float b0) p = absurd (apart 11 10 p (omega arith))
  val_inj (sequence a0) (sequence b0) p = λ i. sequence (nodes_inj a0 b0 (ap (λ g. tail g) p) i)

  pub vals_inj : (x y : Vals) → vals_code x ≡ vals_code y → x ≡ y
  vals_inj no_vals no_vals p = refl
  vals_inj no_vals (val w ws) p = absurd (cc)
  vals_inj (val v vs) no_vals p = absurd (cc)
  vals_inj (val v vs) (val w ws) p =
      λ i. val (val_inj v w (ap (λ g. head g) p) i) (vals_inj vs ws (ap (λ g. tail g) p) i)

  pub elems_inj : (x y : Elems) → elems_code x ≡ elems_code y → x ≡ y
  elems_inj no_elems no_elems p = refl
  elems_inj no_elems (elem o ws es) p = absurd (cc)
  elems_inj (elem o vs es) no_elems p = absurd (cc)
  elems_inj (elem o vs es) (elem q ws fs) p =
      λ i. elem ((coded_option coded_ℕ).inj o q (ap (λ g. head g) p) i)
      (vals_inj vs ws (ap (λ g. head (tail g)) p) i)
      (elems_inj es fs (ap (λ g. tail (tail g)) p) i)

  pub nodes_inj : (x y : Nodes) → nodes_code x ≡ nodes_code y → x ≡ y
  nodes_inj no_nodes no_nodes p = refl
  nodes_inj no_nodes (node j q ws ms) p = absurd (cc)
  nodes_inj (node i o vs ns) no_nodes p = absurd (cc)
  nodes_inj (node i o vs ns) (node j q ws ms) p =
      λ k. node (coded_ℕ.inj i j (ap (λ g. head g) p) k)
      ((coded_option coded_ℕ).inj o q (ap (λ g. head (tail g)) p) k)
      (vals_inj vs ws (ap (λ g. head (tail (tail g))) p) k)
      (nodes_inj ns ms (ap (λ g. tail (tail (tail g))) p) k)

abbrev pub coded_vals : Coded Vals
coded_vals = record { code = vals_code; inj = vals_inj }

abbrev pub coded_elems : Coded Elems
coded_elems = record { code = elems_code; inj = elems_inj }

abbrev pub coded_nodes : Coded Nodes
coded_nodes = record { code = nodes_code; inj = nodes_inj }
