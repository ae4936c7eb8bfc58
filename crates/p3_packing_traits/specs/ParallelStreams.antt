-- Streams side by side: the rows that a call makes are the streams of the columns.
use Rattle.std.specs.Prelude.{slice_get, slice_index, slice_index_or}
use Rattle.std.specs.List.{flat_map, cons_option}
use Rattle.std.proofs.Common.{◌≡◌, ◌<◌, ◌≤◌, ◌+◌, ◌-◌, ◌*◌, ℕ, zero, suc, List, [], ◌∷◌, ◌++◌, length, take, drop, map, replicate, Option, Some, None, refl, ap, ap₂, sym, subst, ◌∙◌, arith, length-append}
use Rattle.std.proofs.lemmas.List.{length-map}
use Rattle.std.proofs.lemmas.List.Elements.{All-append}
use Rattle.p3_theory.specs.Polynomials.Polynomial.{tabulate}
use Rattle.p3_theory.specs.Polynomials.Coefficients.{length-tabulate}
use Rattle.p3_theory.specs.Lists.ByIndex.{to-tabulate}
use Rattle.p3_theory.specs.Rings.Homomorphism.{map-tabulate}
use Rattle.p3_extension_traits.specs.Streams.{column, AllOfLength, AreParallel, row_bytes, row_words, byte_stream, word_stream, little_endian, groups, group, group_count}
use Rattle.std.proofs.lemmas.List.{drop_all, length-replicate}
use Rattle.std.proofs.lemmas.Option.{get_or_from_slice_get}
use mathlib.Core.Path.{fun_ext}

module _ {A : Type 0} where
  first_width : (n : ℕ) (row : List A) (rows : List (List A)) → AllOfLength n (row ∷ rows) → length row ≡ n
  first_width n row rows w = w 0 row (omega arith)

  other_widths : (n : ℕ) (row : List A) (rows : List (List A)) → AllOfLength n (row ∷ rows) → AllOfLength n rows
  other_widths n row rows w = λ k d h. w (suc k) d (omega arith)

  no_widths : (n : ℕ) → AllOfLength {A = A} n []
  no_widths n = λ k d h. absurd (omega arith)

  widths-cons : (n : ℕ) (row : List A) (rows : List (List A)) → length row ≡ n → AllOfLength n rows → AllOfLength n (row ∷ rows)
  widths-cons n row rows e w = λ k d h. at k d h
    where
      at : (k : ℕ) (d : List A) → k < suc (length rows) → length (slice_index_or (row ∷ rows) k d) ≡ n
      at zero d h = e
      at (suc k) d h = w k d (omega arith)

  widths-append : (n : ℕ) (rows others : List (List A)) → AllOfLength n rows → AllOfLength n others → AllOfLength n (rows ++ others)
  widths-append n rows others w v = All-append (λ row. length row ≡ n) rows others w v

  widths-tabulate : (n m : ℕ) (s : ℕ → List A) → ((i : ℕ) → length (s i) ≡ n) → AllOfLength n (tabulate m s)
  widths-tabulate n zero s e = no_widths n
  widths-tabulate n (suc m) s e = widths-cons n (s 0) (tabulate m (λ i. s (suc i))) (e 0) (widths-tabulate n m (λ i. s (suc i)) (λ i. e (suc i)))

  -- an entry below the length is there
  entry : (row : List A) (n j : ℕ) → length row ≡ n → j < n → (x : A) × (slice_get row j ≡ Some x)
  entry [] n j l h = absurd (omega (arith, l))
  entry (x ∷ row) n zero l h = (x, refl)
  entry (x ∷ row) zero (suc j) l h = absurd (omega arith)
  entry (x ∷ row) (suc n) (suc j) l h = entry row n j (omega (arith, l)) (omega arith)

  cons_option-append : (o : Option A) (xs ys : List A) → cons_option o (xs ++ ys) ≡ cons_option o xs ++ ys
  cons_option-append None xs ys = refl
  cons_option-append (Some x) xs ys = refl

  column-append : (j : ℕ) (rows others : List (List A)) → column j (rows ++ others) ≡ column j rows ++ column j others
  column-append j [] others = refl
  column-append j (row ∷ rows) others = ap (cons_option (slice_get row j)) (column-append j rows others) ∙ cons_option-append (slice_get row j) (column j rows) (column j others)

  column-cons : (j : ℕ) (row : List A) (rows : List (List A)) (x : A) → slice_get row j ≡ Some x → column j (row ∷ rows) ≡ x ∷ column j rows
  column-cons j row rows x e = ap (λ o. cons_option o (column j rows)) e

  column-tabulate : (j n : ℕ) (s : ℕ → List A) (v : ℕ → A) → ((i : ℕ) → slice_get (s i) j ≡ Some (v i)) → column j (tabulate n s) ≡ tabulate n v
  column-tabulate j zero s v e = refl
  column-tabulate j (suc n) s v e =
      column-cons j (s 0) (tabulate n (λ i. s (suc i))) (v 0) (e 0) ∙ ap (λ l. v 0 ∷ l) (column-tabulate j n (λ i. s (suc i)) (λ i. v (suc i)) (λ i. e (suc i)))

slice_get-map : {A B : Type 0} (f : A → B) (row : List A) (j : ℕ) (x : A) → slice_get row j ≡ Some x → slice_get (map f row) j ≡ Some (f x)
slice_get-map f [] j x e = absurd (cc e)
slice_get-map f (y ∷ row) zero x e = ap (λ z. Some (f z)) (cc e)
slice_get-map f (y ∷ row) (suc j) x e = slice_get-map f row j x e

-- ---- rows of bytes

module _ {A : Type 0} (bytes : A → List ℕ) (m : ℕ) (lengths : (x : A) → length (bytes x) ≡ m) where
  column-row_bytes : (n j : ℕ) (row : List A) (x : A) → slice_get row j ≡ Some x → column j (row_bytes bytes m row) ≡ bytes x
  column-row_bytes n j row x e =
      column-tabulate j m (λ i. map (λ y. slice_index (bytes y) i) row) (slice_index (bytes x)) (λ i. slice_get-map (λ y. slice_index (bytes y) i) row j x e)
      ∙ sym (to-tabulate 0 m (slice_index (bytes x)) (bytes x) (lengths x) (λ k h. refl))

  columns-bytes : (n j : ℕ) → j < n → (rows : List (List A)) → AllOfLength n rows → column j (flat_map (row_bytes bytes m) rows) ≡ byte_stream bytes (column j rows)
  columns-bytes n j h [] w = refl
  columns-bytes n j h (row ∷ rows) w =
      let x = entry row n j (first_width n row rows w) h in
      column-append j (row_bytes bytes m row) (flat_map (row_bytes bytes m) rows)
      ∙ ap₂ (λ y ys. y ++ ys) (column-row_bytes n j row x.0 x.1) (columns-bytes n j h rows (other_widths n row rows w))
      ∙ sym (ap (byte_stream bytes) (column-cons j row rows x.0 x.1))

  widths-bytes : (n : ℕ) (rows : List (List A)) → AllOfLength n rows → AllOfLength n (flat_map (row_bytes bytes m) rows)
  widths-bytes n [] w = no_widths n
  widths-bytes n (row ∷ rows) w =
      widths-append n (row_bytes bytes m row) (flat_map (row_bytes bytes m) rows)
      (widths-tabulate n m (λ i. map (λ y. slice_index (bytes y) i) row) (λ i. length-map row (λ y. slice_index (bytes y) i) ∙ first_width n row rows w))
      (widths-bytes n rows (other_widths n row rows w))

  counted-bytes : (rows : List (List A)) → length (flat_map (row_bytes bytes m) rows) ≡ m * length rows
  counted-bytes [] = let e : 0 ≡ m * 0 = omega arith in e
  counted-bytes (row ∷ rows) =
      let more : m * suc (length rows) ≡ m + m * length rows = omega arith in
      length-append (row_bytes bytes m row) (flat_map (row_bytes bytes m) rows) ∙ ap₂ (λ a b. a + b) (length-tabulate m _) (counted-bytes rows) ∙ sym more

  -- the bytes of rows of n values, byte by byte of a row, are the streams of the columns
  pub parallel_bytes : (n : ℕ) (rows : List (List A)) → AllOfLength n rows
      → AreParallel n (m * length rows) (λ j. byte_stream bytes (column j rows)) (flat_map (row_bytes bytes m) rows)
  parallel_bytes n rows w = record { counted = counted-bytes rows; widths = widths-bytes n rows w; columns = λ j h. columns-bytes n j h rows w }

-- ---- rows of words

module _ {A : Type 0} where
  column-take : (n j m : ℕ) → j < n → (rows : List (List A)) → AllOfLength n rows → column j (take m rows) ≡ take m (column j rows)
  column-take n j zero h rows w = refl
  column-take n j (suc m) h [] w = refl
  column-take n j (suc m) h (row ∷ rows) w =
      let x = entry row n j (first_width n row rows w) h in
      column-cons j row (take m rows) x.0 x.1 ∙ ap (λ l. x.0 ∷ l) (column-take n j m h rows (other_widths n row rows w)) ∙ sym (ap (take (suc m)) (column-cons j row rows x.0 x.1))

  column-drop : (n j m : ℕ) → j < n → (rows : List (List A)) → AllOfLength n rows → column j (drop m rows) ≡ drop m (column j rows)
  column-drop n j zero h rows w = refl
  column-drop n j (suc m) h [] w = refl
  column-drop n j (suc m) h (row ∷ rows) w =
      let x = entry row n j (first_width n row rows w) h in
      column-drop n j m h rows (other_widths n row rows w) ∙ sym (ap (drop (suc m)) (column-cons j row rows x.0 x.1))

  widths-drop : (n m : ℕ) (rows : List (List A)) → AllOfLength n rows → AllOfLength n (drop m rows)
  widths-drop n zero rows w = w
  widths-drop n (suc m) [] w = no_widths n
  widths-drop n (suc m) (row ∷ rows) w = widths-drop n m rows (other_widths n row rows w)

  widths-take : (n m : ℕ) (rows : List (List A)) → AllOfLength n rows → AllOfLength n (take m rows)
  widths-take n zero rows w = no_widths n
  widths-take n (suc m) [] w = no_widths n
  widths-take n (suc m) (row ∷ rows) w = widths-cons n row (take m rows) (first_width n row rows w) (widths-take n m rows (other_widths n row rows w))

  length-column : (n j : ℕ) → j < n → (rows : List (List A)) → AllOfLength n rows → length (column j rows) ≡ length rows
  length-column n j h [] w = refl
  length-column n j h (row ∷ rows) w =
      let x = entry row n j (first_width n row rows w) h in
      ap length (column-cons j row rows x.0 x.1) ∙ ap suc (length-column n j h rows (other_widths n row rows w))

  slice_get-replicate : (n j : ℕ) (p : A) → j < n → slice_get (replicate n p) j ≡ Some p
  slice_get-replicate zero j p h = absurd (omega arith)
  slice_get-replicate (suc n) zero p h = refl
  slice_get-replicate (suc n) (suc j) p h = slice_get-replicate n j p (omega arith)

  column-padding : (n j m : ℕ) (p : A) → j < n → column j (replicate m (replicate n p)) ≡ replicate m p
  column-padding n j zero p h = refl
  column-padding n j (suc m) p h =
      column-cons j (replicate n p) (replicate m (replicate n p)) p (slice_get-replicate n j p h) ∙ ap (λ l. p ∷ l) (column-padding n j m p h)

  -- a group of rows has the groups of the columns
  column-group : (n j m i : ℕ) (p : A) → j < n → (rows : List (List A)) → AllOfLength n rows → column j (group m (replicate n p) rows i) ≡ group m p (column j rows) i
  column-group n j m i p h rows w =
      let some = take m (drop (m * i) rows) in
      let all = widths-drop n (m * i) rows w in
      let cut : column j some ≡ take m (drop (m * i) (column j rows)) = column-take n j m h (drop (m * i) rows) all ∙ ap (take m) (column-drop n j (m * i) h rows w) in
      let long : length some ≡ length (take m (drop (m * i) (column j rows))) = sym (length-column n j h some (widths-take n m (drop (m * i) rows) all)) ∙ ap length cut in
      column-append j some (replicate (m - length some) (replicate n p))
      ∙ ap₂ (λ x y. x ++ y) cut (column-padding n j (m - length some) p h ∙ ap (λ k. replicate (m - k) p) long)

  widths-group : (n m i : ℕ) (p : A) (rows : List (List A)) → AllOfLength n rows → AllOfLength n (group m (replicate n p) rows i)
  widths-group n m i p rows w =
      widths-append n (take m (drop (m * i) rows)) _ (widths-take n m (drop (m * i) rows) (widths-drop n (m * i) rows w)) (widths-replicate n (m - length (take m (drop (m * i) rows))))
    where
      widths-replicate : (n k : ℕ) → AllOfLength n (replicate k (replicate n p))
      widths-replicate n zero = no_widths n
      widths-replicate n (suc k) = widths-cons n (replicate n p) (replicate k (replicate n p)) (length-replicate n p) (widths-replicate n k)

-- the bytes at an index that each row has
entries-column : (n j : ℕ) → j < n → (rows : List (List ℕ)) → AllOfLength n rows → map (λ row. slice_index row j) rows ≡ column j rows
entries-column n j h [] w = refl
entries-column n j h (row ∷ rows) w =
    let x = entry row n j (first_width n row rows w) h in
    ap₂ (λ y ys. y ∷ ys) (get_or_from_slice_get row j x.0 0 x.1) (entries-column n j h rows (other_widths n row rows w)) ∙ sym (column-cons j row rows x.0 x.1)

slice_get-tabulate : {A : Type 0} (n : ℕ) (s : ℕ → A) (j : ℕ) → j < n → slice_get (tabulate n s) j ≡ Some (s j)
slice_get-tabulate zero s j h = absurd (omega arith)
slice_get-tabulate (suc n) s zero h = refl
slice_get-tabulate (suc n) s (suc j) h = slice_get-tabulate n (λ i. s (suc i)) j (omega arith)

-- the words that groups of m rows of bytes make are the words of the columns
pub parallel_words : (n m count : ℕ) (stream : ℕ → List ℕ) (rows : List (List ℕ)) → AreParallel n count stream rows
    → AreParallel n (group_count m count) (λ j. word_stream m (stream j)) (map (row_words n) (groups m (replicate n 0) rows))
parallel_words n m count stream rows p =
    let whole : map (row_words n) (groups m (replicate n 0) rows) ≡ tabulate (group_count m (length rows)) (λ i. row_words n (group m (replicate n 0) rows i)) =
    map-tabulate (row_words n) (group_count m (length rows)) (group m (replicate n 0) rows) in
    let words = λ (i : ℕ). row_words n (group m (replicate n 0) rows i) in
    record {
      counted = ap length whole ∙ length-tabulate (group_count m (length rows)) words ∙ ap (group_count m) p.counted;
      widths = let P : List (List ℕ) → Type 0 = AllOfLength n in subst P (sym whole) (widths-tabulate n (group_count m (length rows)) words (λ i. length-tabulate n _));
      columns = λ j h.
          ap (column j) whole
          ∙ column-tabulate j (group_count m (length rows)) words (λ i. little_endian (map (λ row. slice_index row j) (group m (replicate n 0) rows i))) (λ i. slice_get-tabulate n _ j h)
          ∙ ap (tabulate (group_count m (length rows))) (fun_ext (λ i. ap little_endian
          (entries-column n j h (group m (replicate n 0) rows i) (widths-group n m i 0 rows p.widths) ∙ column-group n j m i 0 h rows p.widths)))
          ∙ sym (map-tabulate little_endian (group_count m (length rows)) (group m 0 (column j rows)))
          ∙ ap (λ k. map little_endian (tabulate (group_count m k) (group m 0 (column j rows)))) (sym (length-column n j h rows p.widths))
          ∙ ap (word_stream m) (p.columns j h);
    }

-- what is left from index i on of a list of s 0 to s (n - 1)
pub left_at : {B : Type 0} (n : ℕ) (s : ℕ → B) (i : ℕ) → i < n → drop i (tabulate n s) ≡ s i ∷ drop (i + 1) (tabulate n s)
left_at zero s i h = absurd (omega arith)
left_at (suc n) s zero h = refl
left_at (suc n) s (suc i) h =
    let e : suc (i + 1) ≡ suc i + 1 = omega arith in
    left_at n (λ k. s (suc k)) i (omega arith) ∙ ap (λ k. s (suc i) ∷ drop k (tabulate (suc n) s)) e

pub left_past : {B : Type 0} (n : ℕ) (s : ℕ → B) (i : ℕ) → n ≤ i → drop i (tabulate n s) ≡ []
left_past n s i h = drop_all i (tabulate n s) (omega (arith, length-tabulate n s))

-- a list whose entries are f of another's
pub map-by_indices : {A : Type 0} (f : A → ℕ) (xs : List A) (ys : List ℕ) → length ys ≡ length xs
    → ((k : ℕ) (d : A) → k < length xs → slice_index ys k ≡ f (slice_index_or xs k d)) → ys ≡ map f xs
map-by_indices f [] [] l h = refl
map-by_indices f [] (y ∷ ys) l h = absurd (omega (arith, l))
map-by_indices f (x ∷ xs) [] l h = absurd (omega (arith, l))
map-by_indices f (x ∷ xs) (y ∷ ys) l h = ap₂ (λ z zs. z ∷ zs) (h 0 x (omega arith)) (map-by_indices f xs ys (omega (arith, l)) (λ k d b. h (suc k) d (omega arith)))
