-- Two lists of words, combined index by index.
use Rattle.std.proofs.Common.{◌≡◌, ◌<◌, ◌+◌, ◌++◌, ℕ, zero, suc, List, [], ◌∷◌, All, length, take, drop, get_or, arith, ap, ap₂, subst, refl, sym, ◌∙◌}
use Rattle.std.proofs.Math.ListN.{set}
use Rattle.std.proofs.lemmas.List.Elements.{All-same, All-drop}
use Rattle.std.proofs.lemmas.List.{drop-drop}
use Rattle.p3_theory.specs.Lists.PairedLists.{zip_with}

-- what is behind an index that is written
rest-same : {A : Type 0} (xs : List A) (i : ℕ) (v : A) → drop (suc i) (set xs i v) ≡ drop (suc i) xs
rest-same [] i v = refl
rest-same (x ∷ xs) zero v = refl
rest-same (x ∷ xs) (suc i) v = rest-same xs i v

pub rest-holds : {A : Type 0} (P : A → Type 0) (xs : List A) (i : ℕ) (v : A) → All P (drop i xs) → All P (drop (i + 1) (set xs i v))
rest-holds P xs i v h =
    let next : suc i ≡ i + 1 = omega arith in
    subst (λ n. All P (drop n (set xs i v))) next
    (All-same P _ _ (rest-same xs i v ∙ ap (λ n. drop n xs) next ∙ sym (drop-drop 1 i xs)) (All-drop P 1 (drop i xs) h))

-- one index more is written
written-one : {A B : Type 0} (f : A → B → A) (xs : List A) (ys : List B) (i : ℕ) (x : A) (y : B) (v : A) → i < length xs → i < length ys
    → x ≡ get_or xs i x → y ≡ get_or ys i y → v ≡ f x y
    → take (suc i) (set xs i v) ++ zip_with f (drop (suc i) (set xs i v)) (drop (suc i) ys) ≡ take i xs ++ zip_with f (drop i xs) (drop i ys)
written-one f [] ys i x y v h k p q e = absurd (omega (arith, h))
written-one f (a ∷ xs) [] i x y v h k p q e = absurd (omega (arith, k))
written-one f (a ∷ xs) (b ∷ ys) zero x y v h k p q e = ap (λ z. z ∷ zip_with f xs ys) (e ∙ ap₂ f p q)
written-one f (a ∷ xs) (b ∷ ys) (suc i) x y v h k p q e = ap (λ l. a ∷ l) (written-one f xs ys i x y v (omega (arith, h)) (omega (arith, k)) p q e)

pub paired-more : {A B : Type 0} (f : A → B → A) (xs : List A) (ys : List B) (i : ℕ) (x : A) (y : B) (v : A) → i < length xs → i < length ys
    → x ≡ get_or xs i x → y ≡ get_or ys i y → v ≡ f x y
    → take (i + 1) (set xs i v) ++ zip_with f (drop (i + 1) (set xs i v)) (drop (i + 1) ys) ≡ take i xs ++ zip_with f (drop i xs) (drop i ys)
paired-more f xs ys i x y v h k p q e =
    subst (λ n. take n (set xs i v) ++ zip_with f (drop n (set xs i v)) (drop n ys) ≡ take i xs ++ zip_with f (drop i xs) (drop i ys)) (let next : suc i ≡ i + 1 = omega arith in next)
    (written-one f xs ys i x y v h k p q e)
