-- The product of the conjugates of a value, built by taking the map of a product at each step.
use Rattle.std.specs.Prelude.{◌≡◌, ◌≤◌, ◌-◌, ◌+◌, ℕ, List}
use Rattle.std.proofs.Common.{ap, arith, ◌∙◌, sym}
use Rattle.p3_theory.specs.Rings.Ring.{Ops, Ring, RingLaws}
use Rattle.p3_theory.specs.Polynomials.Polynomial.{IsMonic, quotient_mul}
use Rattle.p3_theory.specs.FrobeniusMaps.Frobenius.{iterate, IsFrobenius}
use Rattle.p3_theory.specs.FrobeniusMaps.FrobeniusTable.{frobenius_list, IsFrobeniusTable}
use Rattle.p3_theory.specs.FrobeniusMaps.Iteration.{orbit}
use Rattle.p3_theory.specs.FrobeniusMaps.OrbitProducts.{orbit-one, orbit-grows, orbit-four}
use Rattle.p3_extension.specs.Values.{constant, ext_ops, ext_laws, same_value}
use Rattle.p3_extension.specs.Conjugates.{frobenius_map, conjugate_product}
use Rattle.p3_extension.specs.FrobeniusLaws.{map_is_frobenius}
use Rattle.p3_extension.specs.declared.extension.ext_field.ExtField.{ExtField}

module _ (F S : Type 0) {A : Type 0} (R : Ring A) (D : ℕ) (h : 2 ≤ D) (f : List A) (m : IsMonic R.ops D f) (phi : List A) (L : IsFrobeniusTable R.ops D f phi)
    (x : ExtField F D S A) where
  abbrev B : Type 0
  B = ExtField F D S A

  abbrev E : Ops B
  E = ext_ops R.ops f

  abbrev s : B → B
  s = frobenius_map R.ops f phi

  laws : RingLaws E
  laws = ext_laws R D h f m

  map : IsFrobenius R.ops E (constant R.ops) D s
  map = map_is_frobenius R.ops f phi L

  -- the first image
  pub chain_first : (p : B) → p ≡ s x → p ≡ orbit E s (2 - 1) (s x)
  chain_first p e = e ∙ sym (orbit-one laws s (map.embedded R.one) map.mul (s x))

  -- one image more
  pub chain_step : (i : ℕ) → 2 ≤ i → (p q r : B) → p ≡ orbit E s (i - 1) (s x) → q.value ≡ quotient_mul R.ops D f p.value x.value → r ≡ s q
      → r ≡ orbit E s (i + 1 - 1) (s x)
  chain_step i two p q r ep eq er =
      orbit-grows laws s (map.embedded R.one) map.mul i (omega arith) x p q r ep (same_value q (E.mul p x) eq) er

  -- all of them
  pub chain_last : (i : ℕ) → i ≡ D → (p : B) → p ≡ orbit E s (i - 1) (s x) → p ≡ conjugate_product R.ops f phi x
  chain_last i all p e = e ∙ ap (λ n. orbit E s (n - 1) (s x)) all

  -- the four at degree five, by two products
  pub chain_of_four : D ≡ 5 → (p q r t v : B) → p ≡ s x → q.value ≡ quotient_mul R.ops D f x.value p.value → r ≡ s q
      → t.value ≡ iterate (frobenius_list R.ops D f phi) 2 r.value → v.value ≡ quotient_mul R.ops D f r.value t.value → v ≡ conjugate_product R.ops f phi x
  chain_of_four five p q r t v ep eq er et ev =
      let four : 4 ≡ D - 1 = omega arith in
      orbit-four laws s (map.embedded R.one) map.mul x p q r t v ep (same_value q (E.mul x p) eq) er
      (same_value t (s (s r)) et) (same_value v (E.mul r t) ev)
      ∙ ap (λ n. orbit E s n (s x)) four
