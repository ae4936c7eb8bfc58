-- Dot products of packings, by the sums of the products of their words at each lane.
use Rattle.std.specs.Prelude.{◌≡◌, ◌<◌, ◌≤◌, ◌*◌, ◌%◌, ◌^◌, ℕ, List, get_or, map}
use Rattle.std.proofs.Common.{ap, arith, ◌∙◌}
use Rattle.p3_theory.specs.Lanes.RowRing.{item, row_ops}
use Rattle.p3_theory.specs.ResidueRings.SumsOfProducts.{sum_of_products, products-along}
use Rattle.p3_theory.specs.Rings.DotProduct.{dot}
use Rattle.p3_prime_fields.specs.Elements.{of, ops}
use Rattle.p3_prime_fields.specs.declared.fp.Fp.{Fp}
use Rattle.p3_prime_fields.specs.declared.form.Form as forms
use Rattle.p3_prime_fields.specs.declared.form.Word as words
use Rattle.p3_prime_fields.proofs.LaneValues.{number, value_of_products}
use Rattle.p3_packed_prime_fields.specs.Values.{packed_rows}
use Rattle.p3_packed_prime_fields.specs.declared.packed.Packed.{Packed}
use Rattle.p3_packed_prime_fields.proofs.LaneDotProducts.{dot_by_items}

module _ {W T : Type 0} (form : forms.Ghosts W T) {bounds : words.Ghosts T} {N : ℕ} where
  -- the low 32 bits of the word at a lane
  abbrev pub word : ℕ → Packed (Fp W T form bounds) N → ℕ
  word k x = form.number (get_or x.value k (of form 0)).word % 2 ^ 32

  pub word_below : (k : ℕ) (x : Packed (Fp W T form bounds) N) → word k x < form.ORDER
  word_below k x = let below = (get_or x.value k (of form {bounds = bounds} 0)).below in omega (arith, below)

  -- a row of values whose words are, lane by lane, the sums of the products of the words, times what undoes the scale
  pub dot_of_sums : form.ORDER ≤ 2 ^ 32 → (s : ℕ) → (s * form.scale) % form.ORDER ≡ 1 → (us vs : List (Packed (Fp W T form bounds) N)) (x : Packed (Fp W T form bounds) N)
      (xs : List (Fp W T form bounds)) → x.value ≡ xs
      → ((k : ℕ) → k < N → (number form (get_or xs k (of form 0)) * s) % form.ORDER ≡ sum_of_products (word k) us vs % form.ORDER)
      → x ≡ dot (row_ops packed_rows (ops form)) us vs
  dot_of_sums short s undone us vs x xs e h =
      let rows = packed_rows {F = Fp W T form bounds} {N = N} in
      let whole : (k : ℕ) (y : Packed (Fp W T form bounds) N) → word k y ≡ number form (item rows (ops form) k y) =
      λ k y. let below = (get_or y.value k (of form {bounds = bounds} 0)).below in omega (arith, below, short) in
      dot_by_items rows (ops form) us vs x xs e
      (λ k l. value_of_products form s undone (map (item rows (ops form) k) us) (map (item rows (ops form) k) vs) (get_or xs k (of form 0))
      (h k l ∙ ap (λ m. m % form.ORDER) (products-along (word k) (number form) (item rows (ops form) k) (whole k) us vs)))
