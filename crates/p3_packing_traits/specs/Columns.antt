-- Columns of rows.
use Rattle.std.specs.Prelude.{◌≡◌, ◌≢◌, ◌<◌, ◌+◌, ℕ, List, [], get_or, map, length, refl, slice_get, slice_set, Some}
use Rattle.std.proofs.Common.{ap, ap₂, sym, subst, arith, ◌∙◌}
use Rattle.std.proofs.Math.ListN.{get_or-map}
use Rattle.std.proofs.lemmas.List.{get_or-set_same, get_or-set_other}
use borrow.Author.Count.{below_more}
use Rattle.std.specs.Array.{IsFromFnResult}
use Rattle.std.specs.Fn.{Called}
use Rattle.p3_theory.specs.Lists.IndexCalls.{answers-tabulate}
use Rattle.p3_theory.specs.Lists.ByIndex.{to-tabulate}
use Rattle.p3_theory.specs.Rings.Homomorphism.{length-map}
use denote.Param.Members.{Mut}

-- entry c of each row, from the first row on; d past a row's end
abbrev pub column : {A : Type 0} → A → ℕ → List (List A) → List A
column d c rows = map (λ row. get_or row c d) rows

-- what calls at the indices of the rows answered is a column, where each answers its entry
pub column_of_answers : {F A : Type 0} (g : Mut F (ℕ × Unit {0}) A) (f : F) (ys : List A) (d : A) (c : ℕ) (rows : List (List A)) (n : ℕ) → length rows ≡ n
    → IsFromFnResult g f ys n → (I : F → Type 0) → I f
    → ((p : F) (k : ℕ) (y : A) (q : F) → I p → Called g p (k, tt) y q → (y ≡ get_or (column d c rows) k d) × I q) → ys ≡ column d c rows
column_of_answers g f ys d c rows n long h I kept step =
    let xs = column d c rows in
    answers-tabulate g I (λ k. get_or xs k d) step d f ys n kept h
    ∙ sym (to-tabulate d n (λ k. get_or xs k d) xs (length-map (λ row. get_or row c d) rows ∙ long) (λ k b. refl))

-- an answer told of equal rows and an equal index
pub entry_answer : {A : Type 0} (d : A) (xs ys : List (List A)) (i j k : ℕ) (y : A) → xs ≡ ys → i ≡ j
    → ((d e : A) → y ≡ get_or (column d i xs) k e) → y ≡ get_or (column d j ys) k d
entry_answer d xs ys i j k y rows_are index_is known =
    known d d ∙ ap (λ l. get_or (column d i l) k d) rows_are ∙ ap (λ m. get_or (column d m ys) k d) index_is

-- a column told of equal rows
pub column_answer : {A : Type 0} (d : A) (xs ys : List (List A)) (i : ℕ) (column_read : List A) → xs ≡ ys → column_read ≡ column d i xs → column_read ≡ column d i ys
column_answer d xs ys i read rows_are known = known ∙ ap (column d i) rows_are

-- what holds of a lane of packings, for equal packings and an equal lane
pub lane_by_equal : {P A : Type 0} (lanes : P → List A) (xs ys : List P) (i l m : ℕ) (y : A) → xs ≡ ys → l ≡ m
    → ((p : P) → slice_get (lanes (get_or xs i p)) l ≡ Some y) → (p : P) → slice_get (lanes (get_or ys i p)) m ≡ Some y
lane_by_equal lanes xs ys i l m y packings_are lane_is known p = sym (ap₂ (λ zs k. slice_get (lanes (get_or zs i p)) k) packings_are lane_is) ∙ known p

entry_of_row : {A : Type 0} (d : A) (c : ℕ) (rows : List (List A)) (k : ℕ) → get_or (column d c rows) k d ≡ get_or (get_or rows k []) c d
entry_of_row d c rows k = get_or-map (λ row. get_or row c d) rows k []

-- what holds of the entries above index l, and of entry c of the row that is written there
pub written_below : {A : Type 0} (Holds : ℕ → A → Type 0) (d : A) (c l : ℕ) (rows : List (List A)) (row : List A) → l < length rows → Holds l (get_or row c d)
    → ((k : ℕ) → k < l → Holds k (get_or (column d c rows) k d)) → (k : ℕ) → k < l + 1 → Holds k (get_or (column d c (slice_set rows l row)) k d)
written_below {A} Holds d c l rows row inside written above =
    below_more (λ k. Holds k (get_or (column d c (slice_set rows l row)) k d)) l
    (λ k h. let P : A → Type 0 = Holds k in
    let other : k ≢ l = λ e. omega (arith, h, e) in
    subst P (sym (entry_of_row d c (slice_set rows l row) k ∙ ap (λ r. get_or r c d) (get_or-set_other rows l k row [] other) ∙ sym (entry_of_row d c rows k))) (above k h))
    (let P : A → Type 0 = Holds l in
    subst P (sym (entry_of_row d c (slice_set rows l row) l ∙ ap (λ r. get_or r c d) (get_or-set_same rows l row [] inside))) written)
