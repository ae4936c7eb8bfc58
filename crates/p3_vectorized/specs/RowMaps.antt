-- Rows mapped item by item.
use Rattle.std.specs.Prelude.{◌≡◌, ◌<◌, ℕ, List, get_or, length, map, refl}
use Rattle.std.proofs.Common.{ap, ap₂, ◌∙◌, sym}
use Rattle.p3_theory.specs.Rings.Ring.{Ops, Hom, subtract}
use Rattle.p3_theory.specs.Polynomials.Polynomial.{tabulate}
use Rattle.p3_theory.specs.Lists.ByIndex.{to-tabulate}
use Rattle.p3_theory.specs.Lists.IndexCalls.{answers-tabulate}
use Rattle.std.specs.Array.{IsFromFnResult}
use Rattle.std.specs.Fn.{Called}
use denote.Param.Members.{Mut}
use Rattle.p3_theory.specs.Lanes.Rows.{Row, Rows}
use Rattle.p3_theory.specs.Lanes.RowRing.{row, row_ops, item, item-row, is_row}

module _ {U V A B : Type 0} {n : ℕ} (Q : Rows U A n) (R : Rows V B n) (O : Ops A) (P : Ops B) (h : A → B) where
  -- the row whose item k is that of item k
  abbrev pub mapped : U → V
  mapped x = row R P (λ k. h (item Q O k x))

  pub item-mapped : (x : U) (k : ℕ) → k < n → item R P k (mapped x) ≡ h (item Q O k x)
  item-mapped x k b = item-row R P (λ k. h (item Q O k x)) k b

  -- a map that keeps the operations does so item by item
  pub maps_keep : Hom O P h → Hom (row_ops Q O) (row_ops R P) mapped
  maps_keep H = record {
    zero = is_row R P (mapped (row_ops Q O).zero) _ (λ k b. item-mapped (row_ops Q O).zero k b ∙ ap h (item-row Q O (λ _. O.zero) k b) ∙ H.zero);
    one = is_row R P (mapped (row_ops Q O).one) _ (λ k b. item-mapped (row_ops Q O).one k b ∙ ap h (item-row Q O (λ _. O.one) k b) ∙ H.one);
    add = λ x y. is_row R P (mapped ((row_ops Q O).add x y)) _ (λ k b.
        item-mapped ((row_ops Q O).add x y) k b ∙ ap h (item-row Q O (λ k. O.add (item Q O k x) (item Q O k y)) k b) ∙ H.add (item Q O k x) (item Q O k y)
        ∙ ap₂ P.add (sym (item-mapped x k b)) (sym (item-mapped y k b)));
    neg = λ x. is_row R P (mapped ((row_ops Q O).neg x)) _ (λ k b.
        item-mapped ((row_ops Q O).neg x) k b ∙ ap h (item-row Q O (λ k. O.neg (item Q O k x)) k b) ∙ H.neg (item Q O k x) ∙ ap P.neg (sym (item-mapped x k b)));
    mul = λ x y. is_row R P (mapped ((row_ops Q O).mul x y)) _ (λ k b.
        item-mapped ((row_ops Q O).mul x y) k b ∙ ap h (item-row Q O (λ k. O.mul (item Q O k x) (item Q O k y)) k b) ∙ H.mul (item Q O k x) (item Q O k y)
        ∙ ap₂ P.mul (sym (item-mapped x k b)) (sym (item-mapped y k b)));
  }

  -- what is written index by index of a row and a row that is mapped
  pub written_map : (x : U) (r : V) → ((d : A) (e : B) (k : ℕ) → k < n → get_or (R.items r) k e ≡ h (get_or (Q.items x) k d)) → r ≡ mapped x
  written_map x r w = is_row R P r _ (λ k b. w O.zero P.zero k b)

  module _ (gives : B → A → B → Type 0) where
    pub written_row_sum : ((a : B) (f : A) (c : B) → gives a f c → c ≡ P.add a (h f)) → (x : V) (y : U) (r : V)
        → ((d : B) (e : A) (k : ℕ) → k < n → gives (get_or (R.items x) k d) (get_or (Q.items y) k e) (get_or (R.items r) k d)) → r ≡ (row_ops R P).add x (mapped y)
    written_row_sum is x y r w = is_row R P r _ (λ k b. is _ _ _ (w P.zero O.zero k b) ∙ ap (P.add (item R P k x)) (sym (item-mapped y k b)))

    pub written_row_difference : ((a : B) (f : A) (c : B) → gives a f c → c ≡ subtract P a (h f)) → (x : V) (y : U) (r : V)
        → ((d : B) (e : A) (k : ℕ) → k < n → gives (get_or (R.items x) k d) (get_or (Q.items y) k e) (get_or (R.items r) k d)) → r ≡ subtract (row_ops R P) x (mapped y)
    written_row_difference is x y r w =
        is_row R P r (λ k. P.add (item R P k x) (item R P k ((row_ops R P).neg (mapped y))))
        (λ k b.
        is _ _ _ (w P.zero O.zero k b)
        ∙ ap (λ z. P.add (item R P k x) (P.neg z)) (sym (item-mapped y k b))
        ∙ ap (P.add (item R P k x)) (sym (item-row R P (λ k. P.neg (item R P k (mapped y))) k b)))

    pub written_row_product : ((a : B) (f : A) (c : B) → gives a f c → c ≡ P.mul a (h f)) → (x : V) (y : U) (r : V)
        → ((d : B) (e : A) (k : ℕ) → k < n → gives (get_or (R.items x) k d) (get_or (Q.items y) k e) (get_or (R.items r) k d)) → r ≡ (row_ops R P).mul x (mapped y)
    written_row_product is x y r w = is_row R P r _ (λ k b. is _ _ _ (w P.zero O.zero k b) ∙ ap (P.mul (item R P k x)) (sym (item-mapped y k b)))

-- a list is the table of its items
pub by_items : {A : Type 0} (z : A) (xs : List A) (m : ℕ) (ys : List A) → length xs ≡ m → ys ≡ tabulate m (λ k. get_or xs k z) → ys ≡ xs
by_items z xs m ys h e = e ∙ sym (to-tabulate z m (λ k. get_or xs k z) xs h (λ k b. refl))

-- what calls at the indices below m answered is the table of s
pub called_tabulate : {F B : Type 0} (g : Mut F (ℕ × Unit {0}) B) (f : F) (ys : List B) (m : ℕ) → IsFromFnResult g f ys m → (I : F → Type 0) (s : ℕ → B) → I f
    → ((p : F) (i : ℕ) (y : B) (q : F) → I p → Called g p (i, tt) y q → (y ≡ s i) × I q) → B → ys ≡ tabulate m s
called_tabulate g f ys m h I s kept step d = answers-tabulate g I s step d f ys m kept h

-- an answer told of equal rows and an equal index
pub column_answer : {A : Type 0} {n : ℕ} (z : A) (xs ys : List (Row A n)) (i j k : ℕ) (y : A) → xs ≡ ys → i ≡ j
    → ((e : A) → y ≡ get_or (map (λ v. get_or v.items i z) xs) k e) → y ≡ get_or (map (λ v. get_or v.items j z) ys) k z
column_answer z xs ys i j k y rows_are index_is known =
    known z ∙ ap (λ l. get_or (map (λ v. get_or v.items i z) l) k z) rows_are ∙ ap (λ m. get_or (map (λ v. get_or v.items m z) ys) k z) index_is
