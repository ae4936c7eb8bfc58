-- What is written index by index.
use Rattle.std.specs.Prelude.{◌≡◌, ◌<◌, ◌≤◌, ℕ, List, get_or, replicate}
use Rattle.std.proofs.Common.{ap, ap₂, ◌∙◌, sym, arith}
use Rattle.p3_theory.specs.Rings.Ring.{Ops}
use Rattle.p3_theory.specs.Rings.Powers.{power}
use Rattle.p3_theory.specs.Rings.Multiples.{two}
use Rattle.p3_theory.specs.Rings.Homomorphism.{map-power}
use Rattle.p3_theory.specs.Lanes.Rows.{Rows}
use Rattle.p3_theory.specs.Lanes.RowRing.{row_ops, item, item_keeps, is_row, written_product, constant, filled}

module _ {V A : Type 0} {n : ℕ} (R : Rows V A n) (O : Ops A) where
  -- the product of two rows, from a list that is written up to i
  pub written_products : (x y r : V) (xs ys v : List A) (i : ℕ) → n ≤ i → R.items r ≡ v → xs ≡ R.items x → ys ≡ R.items y
      → ((d : A) (k : ℕ) → k < i → get_or v k d ≡ O.mul (get_or xs k d) (get_or ys k d)) → r ≡ (row_ops R O).mul x y
  written_products x y r xs ys v i h er ex ey w =
      written_product R O x y r (λ d k b. ap (λ l. get_or l k d) er ∙ w d k (omega (arith, h, b)) ∙ ap₂ (λ l m. O.mul (get_or l k d) (get_or m k d)) ex ey)

  pub written_square : (x r : V) (xs v : List A) (i : ℕ) → n ≤ i → R.items r ≡ v → xs ≡ R.items x
      → ((d : A) (k : ℕ) → k < i → get_or v k d ≡ O.mul (get_or xs k d) (get_or xs k d)) → r ≡ (row_ops R O).mul x x
  written_square x r xs v i h er ex w = written_products x x r xs xs v i h er ex ex w

  -- the power e of two, at an index
  pub item-shift : (e k : ℕ) → k < n → item R O k (power (row_ops R O) (two (row_ops R O)) e) ≡ power O (two O) e
  item-shift e k h =
      let H = item_keeps R O k h in
      map-power H (two (row_ops R O)) e ∙ ap (λ z. power O z e) (H.add (row_ops R O).one (row_ops R O).one ∙ ap₂ O.add H.one H.one)

  -- the product with the power e of two, index by index
  pub written_shift : (x r : V) (e : ℕ) (xs v : List A) (i : ℕ) → n ≤ i → R.items r ≡ v → xs ≡ R.items x
      → ((d : A) (k : ℕ) → k < i → get_or v k d ≡ O.mul (get_or xs k d) (power O (two O) e)) → r ≡ (row_ops R O).mul x (power (row_ops R O) (two (row_ops R O)) e)
  written_shift x r e xs v i h er ex w =
      is_row R O r _ (λ k b.
      ap (λ l. get_or l k O.zero) er ∙ w O.zero k (omega (arith, h, b)) ∙ ap (λ l. O.mul (get_or l k O.zero) (power O (two O) e)) ex
      ∙ ap (O.mul (item R O k x)) (sym (item-shift e k b)))

  -- one value at every index, from a list of it
  pub written_embedding : (x : V) (v w : A) → R.items x ≡ replicate n v → v ≡ w → x ≡ constant R O w
  written_embedding x v w e h = filled R O x v w e h
