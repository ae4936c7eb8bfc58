-- The definitions go along with a map that keeps the operations; so do the equations of a table.
use Rattle.std.proofs.Common.{◌≡◌, ℕ, zero, suc, pred, ◌+◌, List, [], ◌∷◌, length, map, refl, sym, ap, ◌∙◌, ap₂}
use mathlib.Core.Path.{fun_ext}
use Rattle.p3_theory.specs.Rings.Multiples.{of_nat, two}
use Rattle.p3_theory.specs.Rings.Ring.{Ops, Hom, Invertible}
use Rattle.p3_theory.specs.Polynomials.Polynomial.{tabulate, at, convolve, convolution, remainder, quotient_ops, quotient_add, quotient_mul, embed, monomial}
use Rattle.p3_theory.specs.Rings.Powers.{sum_of, power}
use Rattle.p3_theory.specs.FrobeniusMaps.Frobenius.{iterate}
use Rattle.p3_theory.specs.FrobeniusMaps.FrobeniusTable.{row_sum, TableProof, orbit_list, value_at, dot, row, unknown}

-- the identity keeps the operations, and so do two such maps one after the other
pub identity : {A : Type 0} (O : Ops A) → Hom O O (λ x. x)
identity O = record { zero = refl; one = refl; add = λ x y. refl; neg = λ x. refl; mul = λ x y. refl }

pub compose : {A B C : Type 0} {O : Ops A} {P : Ops B} {Q : Ops C} {g : A → B} {h : B → C} → Hom O P g → Hom P Q h → Hom O Q (λ x. h (g x))
compose {g = g} {h = h} p q = record {
  zero = ap h p.zero ∙ q.zero;
  one = ap h p.one ∙ q.one;
  add = λ x y. ap h (p.add x y) ∙ q.add (g x) (g y);
  neg = λ x. ap h (p.neg x) ∙ q.neg (g x);
  mul = λ x y. ap h (p.mul x y) ∙ q.mul (g x) (g y);
}

-- powers and multiples go along with the operations
pub map-power : {A B : Type 0} {O : Ops A} {P : Ops B} {h : A → B} → Hom O P h → (x : A) (n : ℕ) → h (power O x n) ≡ power P (h x) n
map-power k x zero = k.one
map-power {O = O} {P = P} {h = h} k x (suc n) = k.mul x (power O x n) ∙ ap (P.mul (h x)) (map-power k x n)

pub map-of_nat : {A B : Type 0} {O : Ops A} {P : Ops B} {h : A → B} → Hom O P h → (n : ℕ) → h (of_nat O n) ≡ of_nat P n
map-of_nat k zero = k.zero
map-of_nat {O = O} {P = P} {h = h} k (suc n) = k.add O.one (of_nat O n) ∙ ap₂ P.add k.one (map-of_nat k n)

-- where two is a unit, it is one in the other ring too
pub unit-two : {A B : Type 0} {O : Ops A} {P : Ops B} {h : A → B} → Hom O P h → (t : A) → t ≡ two O → Invertible O t → Invertible P (two P)
unit-two {O = O} {P = P} {h = h} k t is i =
    (h i.0, ap (λ u. P.mul u (h i.0)) (sym (ap h is ∙ k.add O.one O.one ∙ ap₂ P.add k.one k.one)) ∙ sym (k.mul t i.0) ∙ ap h i.1 ∙ k.one)

pub map-tabulate : {A B : Type 0} (h : A → B) (n : ℕ) (s : ℕ → A) → map h (tabulate n s) ≡ tabulate n (λ k. h (s k))
map-tabulate h zero s = refl
map-tabulate h (suc n) s = ap (λ l. h (s zero) ∷ l) (map-tabulate h n (λ k. s (suc k)))

pub length-map : {A B : Type 0} (h : A → B) (a : List A) → length (map h a) ≡ length a
length-map h [] = refl
length-map h (x ∷ a) = ap suc (length-map h a)

module _ {A B : Type 0} (O : Ops A) (P : Ops B) (h : A → B) (H : Hom O P h) where
  pub at-map : (a : List A) → at P (map h a) ≡ (λ k. h (at O a k))
  at-map a = fun_ext (go a)
    where
      go : (a : List A) (k : ℕ) → at P (map h a) k ≡ h (at O a k)
      go [] k = sym H.zero
      go (x ∷ a) zero = refl
      go (x ∷ a) (suc k) = go a k

  pub convolve-map : (s t : ℕ → A) (k : ℕ) → h (convolve O s t k) ≡ convolve P (λ i. h (s i)) (λ i. h (t i)) k
  convolve-map s t zero = H.mul (s zero) (t zero)
  convolve-map s t (suc k) = H.add _ _ ∙ ap₂ P.add (H.mul _ _) (convolve-map (λ i. s (suc i)) t k)

  pub convolution-map : (a b : List A) → map h (convolution O a b) ≡ convolution P (map h a) (map h b)
  convolution-map a b = map-tabulate h (length a + length b) _
      ∙ ap₂ tabulate (ap₂ (λ m n. m + n) (sym (length-map h a)) (sym (length-map h b)))
      (fun_ext (convolve-map (at O a) (at O b)) ∙ ap₂ (convolve P) (sym (at-map a)) (sym (at-map b)))

  pub remainder-map : (D : ℕ) (f c : List A) → map h (remainder O D f c) ≡ remainder P D (map h f) (map h c)
  remainder-map D f [] = map-tabulate h D (at O []) ∙ ap (tabulate D) (sym (at-map []))
  remainder-map D f (x ∷ c) = map-tabulate h D _ ∙ ap (tabulate D) (fun_ext (λ k. H.add _ _ ∙ ap (P.add _) (H.neg _ ∙ ap P.neg (H.mul _ _)))
      ∙ ap₂ (λ u v k. P.add (u k) (P.neg (P.mul (v (pred D)) (h (at O f k))))) (sym (at-map (x ∷ remainder O D f c))) (sym (at-map (remainder O D f c)))
      ∙ ap (λ w k. P.add (at P (map h (x ∷ remainder O D f c)) k) (P.neg (P.mul (at P (map h (remainder O D f c)) (pred D)) (w k)))) (sym (at-map f)))
      ∙ ap (λ r. tabulate D (λ k. P.add (at P (h x ∷ r) k) (P.neg (P.mul (at P r (pred D)) (at P (map h f) k))))) (remainder-map D f c)

  pub quotient-map : (D : ℕ) (f : List A) → Hom (quotient_ops O D f) (quotient_ops P D (map h f)) (map h)
  quotient-map D f = record {
    zero = map-tabulate h D _ ∙ ap (tabulate D) (sym (at-map (O.zero ∷ [])) ∙ ap (λ z. at P (z ∷ [])) H.zero);
    one = map-tabulate h D _ ∙ ap (tabulate D) (sym (at-map (O.one ∷ [])) ∙ ap (λ z. at P (z ∷ [])) H.one);
    add = λ a b. map-tabulate h D _ ∙ ap (tabulate D) (fun_ext (λ k. H.add _ _) ∙ ap₂ (λ u v k. P.add (u k) (v k)) (sym (at-map a)) (sym (at-map b)));
    neg = λ a. map-tabulate h D _ ∙ ap (tabulate D) (fun_ext (λ k. H.neg _) ∙ ap (λ u k. P.neg (u k)) (sym (at-map a)));
    mul = λ a b. remainder-map D f (convolution O a b) ∙ ap (remainder P D (map h f)) (convolution-map a b);
  }

  pub sum-map : (n : ℕ) (s : ℕ → A) → h (sum_of O n s) ≡ sum_of P n (λ i. h (s i))
  sum-map zero s = H.zero
  sum-map (suc n) s = H.add (s zero) _ ∙ ap (P.add (h (s zero))) (sum-map n (λ i. s (suc i)))

  row-map : (t : List (List A)) (i : ℕ) → map h (row t i) ≡ row (map (map h) t) i
  row-map [] i = refl
  row-map (x ∷ t) zero = refl
  row-map (x ∷ t) (suc i) = row-map t i

  coefficient-map : (l : List A) (k : ℕ) → h (at O l k) ≡ at P (map h l) k
  coefficient-map l k = ap (λ s. s k) (sym (at-map l))

  row-coefficient : (t : List (List A)) (i k : ℕ) → h (at O (row t i) k) ≡ at P (row (map (map h) t) i) k
  row-coefficient t i k = coefficient-map (row t i) k ∙ ap (λ l. at P l k) (row-map t i)

  rows-map : (D : ℕ) (t : List (List A)) (a : List A) → map h (row_sum O D (row t) a) ≡ row_sum P D (row (map (map h) t)) (map h a)
  rows-map D t a = map-tabulate h D _
      ∙ ap (tabulate D) (fun_ext (λ k. sum-map D _ ∙ ap (sum_of P D) (fun_ext (λ i. H.mul _ _ ∙ ap₂ P.mul (coefficient-map a i) (row-coefficient t i k)))))

  iterate-rows : (D : ℕ) (t : List (List A)) (n : ℕ) (a : List A)
      → map h (iterate (row_sum O D (row t)) n a) ≡ iterate (row_sum P D (row (map (map h) t))) n (map h a)
  iterate-rows D t zero a = refl
  iterate-rows D t (suc n) a = iterate-rows D t n (row_sum O D (row t) a) ∙ ap (iterate (row_sum P D (row (map (map h) t))) n) (rows-map D t a)

  unknown-map : (D : ℕ) (f : List A) → map h (unknown O D f) ≡ unknown P D (map h f)
  unknown-map D f = remainder-map D f (O.zero ∷ O.one ∷ []) ∙ ap₂ (λ x y. remainder P D (map h f) (x ∷ y ∷ [])) H.zero H.one

  orbit-map : (D : ℕ) (f phi : List A) (n : ℕ) (v : List A)
      → map (map h) (orbit_list (quotient_mul O D f phi) n v) ≡ orbit_list (quotient_mul P D (map h f) (map h phi)) n (map h v)
  orbit-map D f phi zero v = refl
  orbit-map D f phi (suc n) v = ap (λ l. map h v ∷ l) (orbit-map D f phi n (quotient_mul O D f phi v)
      ∙ ap (orbit_list (quotient_mul P D (map h f) (map h phi)) n) ((quotient-map D f).mul phi v))

  embed-map : (D : ℕ) (x : A) → map h (embed O D x) ≡ embed P D (h x)
  embed-map D x = map-tabulate h D _ ∙ ap (tabulate D) (sym (at-map (x ∷ [])))

  value-map : (D : ℕ) (f phi c : List A) → map h (value_at O D f phi c) ≡ value_at P D (map h f) (map h phi) (map h c)
  value-map D f phi [] = (quotient-map D f).zero
  value-map D f phi (x ∷ c) = (quotient-map D f).add _ _
      ∙ ap₂ (quotient_add P D) (embed-map D x) ((quotient-map D f).mul phi _ ∙ ap (quotient_mul P D (map h f) (map h phi)) (value-map D f phi c))

  pub monomial-map : (k : ℕ) → map h (monomial O k) ≡ monomial P k
  monomial-map zero = ap (λ x. x ∷ []) H.one
  monomial-map (suc k) = ap₂ (λ x l. x ∷ l) H.zero (monomial-map k)

  grid-map : (n m : ℕ) (s : ℕ → ℕ → A) → map (map h) (tabulate n (λ k. tabulate m (s k))) ≡ tabulate n (λ k. tabulate m (λ i. h (s k i)))
  grid-map n m s = map-tabulate (map h) n _ ∙ ap (tabulate n) (fun_ext (λ k. map-tabulate h m (s k)))

  dot-map : (D : ℕ) (t u : List (List A)) (k i : ℕ) → h (dot O D (row t k) (row u i)) ≡ dot P D (row (map (map h) t) k) (row (map (map h) u) i)
  dot-map D t u k i = sum-map D _ ∙ ap (sum_of P D) (fun_ext (λ j. H.mul _ _ ∙ ap₂ P.mul (row-coefficient u i j) (row-coefficient t k j)))

  -- a table proved on residues is proved of every ring that they map to
  pub table-map : (D : ℕ) (f phi : List A) (table dual : List (List A)) → TableProof O D f phi table dual
      → TableProof P D (map h f) (map h phi) (map (map h) table) (map (map h) dual)
  table-map D f phi table dual T = record {
    width = length-map h phi ∙ T.width;
    rows = ap (orbit_list (quotient_mul P D (map h f) (map h phi)) D) (sym (quotient-map D f).one) ∙ sym (orbit-map D f phi D (embed O D O.one)) ∙ ap (map (map h)) T.rows;
    root = sym (value-map D f phi f) ∙ ap (map h) T.root ∙ (quotient-map D f).zero;
    order = ap (iterate (row_sum P D (row (map (map h) table))) D) (sym (unknown-map D f)) ∙ sym (iterate-rows D table D (unknown O D f))
        ∙ ap (map h) T.order ∙ unknown-map D f;
    apart = ap (tabulate (pred D)) (fun_ext (λ k. ap (tabulate D) (fun_ext (λ i. sym (dot-map D dual table k i)))))
        ∙ sym (grid-map (pred D) D _) ∙ ap (map (map h)) T.apart ∙ grid-map (pred D) D _
        ∙ ap (tabulate (pred D)) (fun_ext (λ k. ap (tabulate D) (fun_ext (λ i. H.add _ _
        ∙ ap₂ P.add (row-coefficient dual k i) (coefficient-map (monomial O (suc k)) i ∙ ap (λ l. at P l i) (monomial-map (suc k)))))));
  }
