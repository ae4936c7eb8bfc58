-- Packings of residues: what is told lane by lane, in canonical values, as operations on packings.
use Rattle.std.specs.Prelude.{◌≡◌, ◌<◌, ◌+◌, ◌-◌, ◌*◌, ◌%◌, ℕ, get_or}
use Rattle.p3_theory.specs.Rings.Ring.{Ops, subtract}
use Rattle.p3_theory.specs.ResidueRings.Residues.{is_of, is_difference}
use Rattle.p3_theory.specs.Lanes.RowRing.{row_ops, constant, written_sum, written_difference, written_negation, written_product, written_mixed_sum, written_mixed_difference, written_mixed_product}
use Rattle.p3_prime_fields.specs.declared.fp.Fp.{Fp}
use Rattle.p3_prime_fields.specs.declared.form.Form as forms
use Rattle.p3_prime_fields.specs.declared.form.Word as words
use Rattle.p3_prime_fields.specs.Elements.{canon, ops, is}
use Rattle.p3_packed_prime_fields.specs.declared.packed.Packed.{Packed}
use Rattle.p3_packed_prime_fields.specs.Values.{packed_rows}

module _ {W T : Type 0} (form : forms.Ghosts W T) {bounds : words.Ghosts T} {N : ℕ} where
  -- the operations of residues, lane by lane
  abbrev pub packed_ops : Ops (Packed (Fp W T form bounds) N)
  packed_ops = row_ops packed_rows (ops form)

  -- the packing with one residue in all lanes
  abbrev pub in_all_lanes : Fp W T form bounds → Packed (Fp W T form bounds) N
  in_all_lanes = constant packed_rows (ops form)

  pub sum_of_lanes : (x y r : Packed (Fp W T form bounds) N)
      → ((d : Fp W T form bounds) (k : ℕ) → k < N → canon form (get_or r.value k d) ≡ (canon form (get_or x.value k d) + canon form (get_or y.value k d)) % form.ORDER)
      → r ≡ packed_ops.add x y
  sum_of_lanes x y r h = written_sum packed_rows (ops form) x y r (λ d k w. is_of (is form) (get_or r.value k d) _ (h d k w))

  pub difference_of_lanes : (x y r : Packed (Fp W T form bounds) N)
      → ((d : Fp W T form bounds) (k : ℕ) → k < N
      → canon form (get_or r.value k d) ≡ (canon form (get_or x.value k d) + (form.ORDER - canon form (get_or y.value k d))) % form.ORDER)
      → r ≡ subtract packed_ops x y
  difference_of_lanes x y r h = written_difference packed_rows (ops form) x y r (λ d k w. is_difference (is form) (get_or x.value k d) (get_or y.value k d) (get_or r.value k d) (h d k w))

  pub negation_of_lanes : (x r : Packed (Fp W T form bounds) N)
      → ((d : Fp W T form bounds) (k : ℕ) → k < N → canon form (get_or r.value k d) ≡ (form.ORDER - canon form (get_or x.value k d)) % form.ORDER)
      → r ≡ packed_ops.neg x
  negation_of_lanes x r h = written_negation packed_rows (ops form) x r (λ d k w. is_of (is form) (get_or r.value k d) _ (h d k w))

  pub product_of_lanes : (x y r : Packed (Fp W T form bounds) N)
      → ((d : Fp W T form bounds) (k : ℕ) → k < N → canon form (get_or r.value k d) ≡ (canon form (get_or x.value k d) * canon form (get_or y.value k d)) % form.ORDER)
      → r ≡ packed_ops.mul x y
  product_of_lanes x y r h = written_product packed_rows (ops form) x y r (λ d k w. is_of (is form) (get_or r.value k d) _ (h d k w))

  -- with one residue in all lanes on the right
  pub mixed_sum_of_lanes : (x : Packed (Fp W T form bounds) N) (f : Fp W T form bounds) (r : Packed (Fp W T form bounds) N)
      → ((d : Fp W T form bounds) (k : ℕ) → k < N → canon form (get_or r.value k d) ≡ (canon form (get_or x.value k d) + canon form f) % form.ORDER)
      → r ≡ packed_ops.add x (in_all_lanes f)
  mixed_sum_of_lanes x f r h = written_mixed_sum packed_rows (ops form) x f r (λ d k w. is_of (is form) (get_or r.value k d) _ (h d k w))

  pub mixed_difference_of_lanes : (x : Packed (Fp W T form bounds) N) (f : Fp W T form bounds) (r : Packed (Fp W T form bounds) N)
      → ((d : Fp W T form bounds) (k : ℕ) → k < N → canon form (get_or r.value k d) ≡ (canon form (get_or x.value k d) + (form.ORDER - canon form f)) % form.ORDER)
      → r ≡ subtract packed_ops x (in_all_lanes f)
  mixed_difference_of_lanes x f r h = written_mixed_difference packed_rows (ops form) x f r (λ d k w. is_difference (is form) (get_or x.value k d) f (get_or r.value k d) (h d k w))

  pub mixed_product_of_lanes : (x : Packed (Fp W T form bounds) N) (f : Fp W T form bounds) (r : Packed (Fp W T form bounds) N)
      → ((d : Fp W T form bounds) (k : ℕ) → k < N → canon form (get_or r.value k d) ≡ (canon form (get_or x.value k d) * canon form f) % form.ORDER)
      → r ≡ packed_ops.mul x (in_all_lanes f)
  mixed_product_of_lanes x f r h = written_mixed_product packed_rows (ops form) x f r (λ d k w. is_of (is form) (get_or r.value k d) _ (h d k w))
