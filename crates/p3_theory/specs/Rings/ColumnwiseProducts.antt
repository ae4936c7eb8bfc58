-- Products of scaled rows, added up in groups of accumulators.
use Rattle.std.specs.Prelude.{◌≡◌, ◌<◌, ◌≤◌, ◌+◌, ◌*◌, ◌/◌, ◌%◌, ℕ, min, nat_lt, if◌then◌else◌, List, [], ◌∷◌, ◌++◌, length, get_or, map, refl}
use Rattle.std.proofs.Common.{arith, sym, ap, ap₂, ◌∙◌}
use Rattle.std.proofs.Math.ListN.{set, get_or-map}
use Rattle.std.proofs.Math.Nat.{mul-le-mul_right, div-mul-le_self, add-mul, le_refl}
use Rattle.std.proofs.lemmas.Nat.{div-mul-add, mod-mul-add, le-div}
use Rattle.std.proofs.lemmas.Bool.Decides.{nat_tests}
use Rattle.std.proofs.lemmas.List.{map-append}
use Rattle.p3_theory.specs.Rings.Ring.{Ops, RingLaws}
use Rattle.p3_theory.specs.Rings.Operators.{sum_list}
use Rattle.p3_theory.specs.Polynomials.Polynomial.{tabulate, at}
use Rattle.p3_theory.specs.Polynomials.Coefficients.{length-tabulate}
use Rattle.p3_theory.specs.Lists.ByIndex.{to-tabulate, get-tabulate, read_at}
use Rattle.p3_theory.specs.Rings.Homomorphism.{length-map}
use Rattle.p3_theory.specs.Lists.TabulatedEntries.{UpdatedBelow, updated-more, updated-all}
use Rattle.p3_theory.specs.Rings.DotProduct.{sum_list-append}

module _ {A F : Type 0} (O : Ops A) (e : F → A) (N : ℕ) where
  -- what a row adds to index p of whole groups of N: scale p % N times the row's index p / N, where there are such a group and such an index
  abbrev pub column_product : ℕ → List F → List A → ℕ → A
  column_product groups row scales p =
      (if nat_lt (p / N) (min groups (length row)) then O.mul (get_or scales (p % N) O.zero) (get_or (map e row) (p / N) O.zero) else O.zero)

  -- accumulator p after one row with its scales
  abbrev pub entry_after_row : List A → List F → List A → ℕ → A
  entry_after_row acc row scales p = O.add (at O acc p) (column_product (length acc / N) row scales p)

  -- all accumulators after it
  abbrev pub add_scaled_row : List A → List F → List A → List A
  add_scaled_row acc row scales = tabulate (length acc) (entry_after_row acc row scales)

  -- the accumulators after all rows, each with its scales
  abbrev pub add_scaled_rows : List A → List (List F × List A) → List A
  add_scaled_rows acc items =
      tabulate (length acc) (λ p. O.add (at O acc p) (sum_list O (map (λ item. column_product (length acc / N) item.0 item.1 p) items)))

  pub column-inside : (groups : ℕ) (row : List F) (scales : List A) (c j : ℕ) → c < min groups (length row) → j < N
      → column_product groups row scales (c * N + j) ≡ O.mul (get_or scales j O.zero) (get_or (map e row) c O.zero)
  column-inside groups row scales c j h k =
      let row_entry : (c * N + j) / N ≡ c = div-mul-add c N j k in
      let scale_entry : (c * N + j) % N ≡ j = mod-mul-add c N j k in
      ap₂ (λ q r. if nat_lt q (min groups (length row)) then O.mul (get_or scales r O.zero) (get_or (map e row) q O.zero) else O.zero) row_entry scale_entry
      ∙ inside c h
    where
      inside : (c : ℕ) → c < min groups (length row)
          → (if nat_lt c (min groups (length row)) then O.mul (get_or scales j O.zero) (get_or (map e row) c O.zero) else O.zero)
          ≡ O.mul (get_or scales j O.zero) (get_or (map e row) c O.zero)
      inside c h = grind (arith, nat_tests)

  pub column-outside : (groups : ℕ) (row : List F) (scales : List A) (p : ℕ) → 0 < N → min groups (length row) * N ≤ p → column_product groups row scales p ≡ O.zero
  column-outside groups row scales p h k =
      let past : min groups (length row) ≤ p / N = le-div (min groups (length row)) p N h k in
      outside (p / N) past
    where
      outside : (c : ℕ) → min groups (length row) ≤ c
          → (if nat_lt c (min groups (length row)) then O.mul (get_or scales (p % N) O.zero) (get_or (map e row) c O.zero) else O.zero) ≡ O.zero
      outside c h = grind (arith, nat_tests)

-- a whole group lies inside
pub group-inside : (n N c : ℕ) → c < n / N → c * N + N ≤ n
group-inside n N c h =
    let next : (c + 1) * N ≤ n / N * N = mul-le-mul_right N (omega arith) in
    let whole : n / N * N ≤ n = div-mul-le_self n N in
    let more : (c + 1) * N ≡ c * N + N = add-mul c 1 N ∙ ap (λ x. c * N + x) (omega arith) in
    omega (arith, next, whole, more)

module _ {A F : Type 0} {O : Ops A} (l : RingLaws O) (e : F → A) (N : ℕ) where
  -- a loop that adds the products index by index, from the first on, adds the row
  pub column-update : (acc now scales : List A) (row : List F) (c j place : ℕ) (x : A) (y : F) (old product new : A) → place ≡ c * N + j
      → c < min (length acc / N) (length row) → j < N → length scales ≡ N → place < length now
      → UpdatedBelow (entry_after_row O e N acc row scales) O.zero acc now place
      → x ≡ get_or scales j x → y ≡ get_or row c y → old ≡ get_or now place old → product ≡ O.mul x (e y) → new ≡ O.add old product
      → UpdatedBelow (entry_after_row O e N acc row scales) O.zero acc (set now place new) (place + 1)
  column-update acc now scales row c j place x y old product new at_index in_row in_group all inside updated is_scale is_entry is_old is_product is_new =
      updated-more (entry_after_row O e N acc row scales) O.zero acc now place new inside updated
      (is_new ∙ ap₂ O.add (sym (read_at now place old O.zero inside is_old) ∙ updated.1 place (le_refl place))
      (is_product ∙ ap₂ O.mul (sym scale) (sym entry)
      ∙ sym (ap (column_product O e N (length acc / N) row scales) at_index ∙ column-inside O e N (length acc / N) row scales c j in_row in_group)))
    where
      scale : get_or scales j O.zero ≡ x
      scale = read_at scales j x O.zero (omega (arith, all)) is_scale

      entry : get_or (map e row) c O.zero ≡ e y
      entry = read_at (map e row) c (e y) O.zero (omega (arith, length-map e row)) (ap e is_entry ∙ sym (get_or-map e row c y))

  pub column-end : (acc now scales : List A) (row : List F) (place : ℕ) → 0 < N → place ≡ min (length acc / N) (length row) * N → length now ≡ length acc
      → UpdatedBelow (entry_after_row O e N acc row scales) O.zero acc now place → now ≡ add_scaled_row O e N acc row scales
  column-end acc now scales row place h at_index same updated =
      updated-all (entry_after_row O e N acc row scales) O.zero acc now (length acc) place same updated
      (λ k w. sym (ap (O.add (at O acc k)) (column-outside O e N (length acc / N) row scales k h (omega arith)) ∙ l.add_zero _))

  -- no rows
  pub add_scaled_rows-none : (acc : List A) → acc ≡ add_scaled_rows O e N acc []
  add_scaled_rows-none acc = to-tabulate O.zero (length acc) _ acc refl (λ k h. sym (l.add_zero (at O acc k)))

  -- one row more
  pub add_scaled_rows-more : (acc before after : List A) (items : List (List F × List A)) (row : List F) (scales : List A) → before ≡ add_scaled_rows O e N acc items
      → after ≡ add_scaled_row O e N before row scales → after ≡ add_scaled_rows O e N acc (items ++ ((row, scales) ∷ []))
  add_scaled_rows-more acc before after items row scales h k =
      let same : length before ≡ length acc = ap length h ∙ length-tabulate (length acc) _ in
      let long : length after ≡ length acc = ap length k ∙ length-tabulate (length before) _ ∙ same in
      to-tabulate O.zero (length acc) _ after long (place same)
    where
      gain : ℕ → (List F × List A) → A
      gain p item = column_product O e N (length acc / N) item.0 item.1 p

      one : (p : ℕ) → p < length acc → at O before p ≡ O.add (at O acc p) (sum_list O (map (gain p) items))
      one p w = ap (λ xs. at O xs p) h ∙ get-tabulate (length acc) _ p O.zero w

      place : length before ≡ length acc → (p : ℕ) → p < length acc
          → at O after p ≡ O.add (at O acc p) (sum_list O (map (gain p) (items ++ ((row, scales) ∷ []))))
      place same p w =
          let inside : p < length before = omega (arith, same) in
          ap (λ xs. at O xs p) k ∙ get-tabulate (length before) _ p O.zero inside
          ∙ ap₂ O.add (one p w) (ap (λ n. column_product O e N (n / N) row scales p) same)
          ∙ l.add_assoc _ _ _
          ∙ ap (O.add (at O acc p)) (sym (ap (sum_list O) (map-append (gain p) items ((row, scales) ∷ [])) ∙ sum_list-append l (map (gain p) items) _
          ∙ ap (O.add (sum_list O (map (gain p) items))) (l.add_zero (gain p (row, scales)))))
